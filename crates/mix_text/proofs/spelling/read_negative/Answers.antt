use Rattle.std.proofs.Common.{◌≡◌, ◌≢◌, ◌∙◌, ap, arith, sym, neg_ℤ, pos, Some, true, min}
use Rattle.std.proofs.lemmas.Int.{ints}
use Rattle.mix_text.specs.Spelling.{value_after, between, is_plain}
use Rattle.mix_text.proofs.Digits.{capped_negative}
use Rattle.mix_text.proofs.Spellings.{negative_some, between_same}
use Rattle.mix_text.proofs.spelling.read_negative.Goals as goal

pub returns : goal.returns
returns c =
    let digits = c.args.digits.now in
    let plain : is_plain digits ≡ true = sym c.is_plain_number.ensures ∙ c.if-not-is_plain_number.false in
    let some : value_after 0 digits ≢ 0 = omega arith in
    let same : c.in_range.result ≡ between c.args.low c.args.high (Some (neg_ℤ (pos (min (value_after 0 digits) 100000000000000)))) =
    c.in_range.ensures ∙ between_same _ _ _ _ _ _ (omega (arith, ints)) (omega (arith, ints)) (omega (arith, ints)) in
    same ∙ capped_negative c.args.low c.args.high (value_after 0 digits) c.requires ∙ ap (between c.args.low c.args.high) (sym (negative_some digits plain some))
