use Rattle.std.proofs.Common.{◌≡◌, ◌<◌, List, All, length, map, get_or, ℤ, pos, sym, ap, ◌∙◌, subst, arith}
use Rattle.std.proofs.lemmas.Int.{ints}
use Rattle.std.proofs.lemmas.List.{length-map}
use Rattle.std.proofs.Math.ListN.{get_or-map}
use Rattle.mix_num.specs.Sellers.{IsAmount}
use Rattle.mix_answer.specs.declared.share.Share.{Share}
use Rattle.mix_check.proofs.TableSums.{sum_at-more}
use Rattle.mix_check.proofs.amounts.given.Goals as goal

pub loop-k-preserved : goal.loop-k-preserved
loop-k-preserved c =
    let share : Share = c.get.result.now in
    let bundle : Share → List ℤ = λ s. s.bundle.items in
    let lt : c.loop-k.k < length c.args.shares.now = omega arith in
    let P : Share → Type 0 = λ s. (c.args.good < length s.bundle.items) × All IsAmount s.bundle.items in
    let is : P share = subst P (sym c.get.ensures) (c.requires.amounts c.loop-k.k share lt) in
    let amount : IsAmount (get_or share.bundle.items c.args.good (pos 0)) = is.1 c.args.good (pos 0) is.0 in
    let read = ap (λ (y : List ℤ). get_or y c.args.good (pos 0)) c.deref.ensures.0 in
    let size = length-map c.args.shares.now bundle in
    let here : share.bundle.items ≡ get_or (map bundle c.args.shares.now) c.loop-k.k share.bundle.items = ap bundle c.get.ensures ∙ sym (get_or-map bundle c.args.shares.now c.loop-k.k share) in
    let more = sum_at-more (map bundle c.args.shares.now) c.loop-k.k share.bundle.items c.args.good (omega (arith, lt, size)) here in
    let few = c.requires.few in
    let v = c.loop-k.invariant.value in
    let r = c.loop-k.invariant.range in
    record {
      value = omega (arith, ints, v, r, read, amount, more, lt, few);
      range = (omega (arith, ints, r, read, amount, lt, few), omega (arith, ints, r, read, amount, lt, few));
    }
