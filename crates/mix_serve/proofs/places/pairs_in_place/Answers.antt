use Rattle.std.proofs.Common.{◌∙◌, ℕ, length, set, ap, arith}
use Rattle.std.proofs.Math.ListN.{length-set}
use Rattle.mix_num.specs.declared.pair.Tight.{Tight}
use Rattle.mix_serve.proofs.PutBack.{one_more_entry}
use Rattle.std.proofs.lemmas.List.{get_or_default}
use Rattle.mix_serve.proofs.places.pairs_in_place.Goals as goal

pub loop-place-preserved : goal.loop-place-preserved
loop-place-preserved c =
    let order = c.args.order.now in
    let n = c.args.goods in
    let p = c.loop-place.place in
    let pair = c.index-shared-place.result in
    let old = c.loop-place.pairs.items in
    let invariant = c.loop-place.invariant in
    let none : Tight = record { upper = 0; lower = 0 } in
    let written = ap (λ (i : ℕ). set old i pair) c.place_of.ensures.value in
    record {
      count = length-set old c.place_of.result pair ∙ invariant.count;
      placed = one_more_entry (length order) n order c.args.shared.now old (set old c.place_of.result pair) none pair p c.requires.order (omega arith)
          (invariant.count ∙ c.requires.count) (c.index-shared-place.is ∙ get_or_default c.args.shared.now p pair none (omega arith)) written invariant.placed;
    }
