use Rattle.std.proofs.Common.{◌≡◌, ◌∙◌, ◌<◌, get_or, length, map, pos, ◌≤ℤ◌, ap, arith, sym, subst}
use Rattle.std.proofs.lemmas.Int.{ints}
use Rattle.std.proofs.lemmas.List.{get_or-map, length-map}
use Rattle.mix_num.proofs.Additions.{total_of_first, total_of_first-none, total_of_first-more, total_of_first-all}
use Rattle.mix_answer.specs.declared.share.Share.{Share}
use Rattle.mix_run.proofs.command.trial.revenue_of.Goals as goal

pub loop-place-init : goal.loop-place-init
loop-place-init c = record {
  sum = sym (total_of_first-none (map (λ share. share.payment) c.args.shares.now));
  low = omega (arith, ints);
  high = omega (arith, ints);
}

pub loop-place-preserved : goal.loop-place-preserved
loop-place-preserved c =
    let k = c.loop-place.place in
    let lt : k < length c.args.shares.now = omega arith in
    let here = subst (λ (share : Share). (pos 0 ≤ℤ share.payment) × (share.payment ≤ℤ pos 10000000000000)) (sym c.get.ensures) (c.requires.shares k c.get.result.now lt) in
    let own : get_or (map (λ (share : Share). share.payment) c.args.shares.now) k (pos 0) ≡ c.get.result.now.payment = get_or-map (λ (share : Share). share.payment) c.args.shares.now k c.get.result.now (pos 0) lt ∙ ap (λ (share : Share). share.payment) (sym c.get.ensures) in
    let more = total_of_first-more k (map (λ (share : Share). share.payment) c.args.shares.now) in
    let so_far = c.loop-place.invariant in
    record {
      sum = omega (arith, ints, here.0, here.1, own, more, so_far.sum, so_far.low, so_far.high);
      low = omega (arith, ints, here.0, here.1, so_far.low, so_far.high);
      high = omega (arith, ints, here.0, here.1, so_far.low, so_far.high);
    }

pub returns : goal.returns
returns c =
    let all = total_of_first-all (length c.args.shares.now) (map (λ (share : Share). share.payment) c.args.shares.now) (sym (length-map c.args.shares.now (λ (share : Share). share.payment))) in
    c.loop-place.invariant.sum ∙ (let e : c.loop-place.place ≡ length c.args.shares.now = omega arith in ap (λ n. total_of_first n (map (λ (share : Share). share.payment) c.args.shares.now)) e) ∙ all
