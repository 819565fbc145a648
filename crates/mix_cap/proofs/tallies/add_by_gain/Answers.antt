use Rattle.std.proofs.Common.{◌≡◌, ◌∙◌, ◌&&◌, ℕ, ℤ, List, pos, cond, eqb, int_lt, ap, ap₂, arith, refl, subst, replicate, to_z, of_z, w64}
use Rattle.std.proofs.lemmas.Int.{ints}
use Rattle.std.specs.Ordering.{int_eq}
use Rattle.mix_num.specs.Vectors.{members, with_null}
use Rattle.mix_num.specs.Tables.{number_of}
use Rattle.mix_bids.specs.Bids.{AreBids, weight_where}
use Rattle.mix_bids.specs.Offers.{best, gain, same_set}
use Rattle.mix_bids.specs.declared.bid.Bid.{Bid}
use Rattle.mix_bids.proofs.Comparisons.{same_number}
use Rattle.mix_bids.proofs.Lengths.{over_of}
use Rattle.mix_bids.proofs.Loops.{bid_at, weight_end}
use Rattle.mix_bids.proofs.Tallies.{few_sets, number_small, sizes_more, sizes_none, zeros}
use Rattle.mix_cap.proofs.Chosen.{chosen_within, one_turn}
use Rattle.mix_cap.proofs.tallies.add_by_gain.Goals as goal

none : (table : List ℤ) → table ≡ replicate 512 (pos 0) → (k : ℕ) → number_of table k ≡ pos 0
none table e k = ap (λ (z : List ℤ). number_of z k) e ∙ zeros 512 k

pub loop-bid-init : goal.loop-bid-init
loop-bid-init c = record {
  above = λ set l. let z = none c.args.above.now c.requires.none.0 set in omega (arith, ints, z);
  level = λ set l. let z = none c.args.level.now c.requires.none.1 set in omega (arith, ints, z);
  small_above = let z = sizes_none c.args.above.now (none c.args.above.now c.requires.none.0) in omega (arith, ints, z);
  small_level = let z = sizes_none c.args.level.now (none c.args.level.now c.requires.none.1) in omega (arith, ints, z);
}

pub add-requires : goal.add-requires
add-requires c =
    let own = c.best_choices-best.result.set in
    let few = c.bids-bid-items.ensures.few in
    let below = few_sets _ own (omega (arith, c.requires.prices.0, c.bids-bid-items.ensures.goods)) c.best_choices-best.ensures.within in
    let s = number_small c.loop-bid.above own 4000000 below (omega (arith, ints, c.loop-bid.invariant.small_above, few, c.loop-bid-test.true)) in
    let r = c.weight_where.ensures.range in
    (omega (arith, ints, s.0, s.1, r.0, r.1), omega (arith, ints, s.0, s.1, r.0, r.1))

pub add-requires-in-loop-bid : goal.add-requires-in-loop-bid
add-requires-in-loop-bid c =
    let own = c.best_choices-best.result.set in
    let few = c.bids-bid-items.ensures.few in
    let below = few_sets _ own (omega (arith, c.requires.prices.0, c.bids-bid-items.ensures.goods)) c.best_choices-best.ensures.within in
    let s = number_small c.loop-bid.level own 4000000 below (omega (arith, ints, c.loop-bid.invariant.small_level, few, c.loop-bid-test.true)) in
    let r = c.weight_where-in-loop-bid.ensures.range in
    (omega (arith, ints, s.0, s.1, r.0, r.1), omega (arith, ints, s.0, s.1, r.0, r.1))

pub loop-bid-preserved : goal.loop-bid-preserved
loop-bid-preserved c =
    let x = with_null c.args.prices.now.items in
    let bs = c.bids-bid-items.result.now in
    let b = c.bid-item.result in
    let is = bid_at c.args.list.now.goods bs bs c.loop-bid.bid-index b refl c.loop-bid-test.true c.bid-item.is c.bids-bid-items.ensures.proper in
    let best = c.best_choices-best.ensures in
    let own = c.best_choices-best.result.set in
    let below = few_sets _ own (omega (arith, c.requires.prices.0, c.bids-bid-items.ensures.goods)) best.within in
    let l = is.weight in
    let weight : to_z w64 (of_z w64 b.weight) ≡ b.weight = omega (arith, ints, l) in
    let g : to_z w64 (of_z w64 c.best_choices-best.result.gain) ≡ c.best_choices-best.result.gain = omega (arith, ints, best.range.0, best.range.1) in
    let z : to_z w64 (of_z w64 c.from.result) ≡ c.from.result = omega (arith, ints) in
    let y : to_z w64 (of_z w64 c.from-in-loop-bid.result) ≡ c.from-in-loop-bid.result = omega (arith, ints) in
    let over = int_lt (to_z w64 (of_z w64 c.from.result)) (to_z w64 (of_z w64 c.best_choices-best.result.gain)) in
    let even = eqb (of_z w64 c.best_choices-best.result.gain) (of_z w64 c.from-in-loop-bid.result) in
    let r = c.weight_where.ensures.range in
    let s = c.weight_where-in-loop-bid.ensures.range in
    let u : to_z w64 (of_z w64 c.weight_where.result) ≡ c.weight_where.result = omega (arith, ints, r.0, r.1) in
    let v : to_z w64 (of_z w64 c.weight_where-in-loop-bid.result) ≡ c.weight_where-in-loop-bid.result = omega (arith, ints, s.0, s.1) in
    let by_over = u ∙ c.weight_where.ensures.value ∙ ap (λ (a : ℤ). cond over a (pos 0)) weight in
    let by_even = v ∙ c.weight_where-in-loop-bid.ensures.value ∙ ap (λ (a : ℤ). cond even a (pos 0)) weight in
    let tells_over = ap₂ int_lt (z ∙ c.from.ensures) (g ∙ best.gain) in
    let tells_even = same_number c.best_choices-best.result.gain c.from-in-loop-bid.result g y ∙ ap₂ int_eq (g ∙ best.gain) c.from-in-loop-bid.ensures in
    record {
      above = λ set h. one_turn (λ (b : Bid). int_lt (pos c.args.threshold) (gain b.values.items x)) x bs c.loop-bid.bid-index b over _ c.loop-bid.above c.add.new.self own set c.loop-bid-test.true c.bid-item.is below h best.best
          tells_over by_over c.add.ensures.sum c.add.ensures.others (c.loop-bid.invariant.above set h);
      level = λ set h. one_turn (λ (b : Bid). int_eq (gain b.values.items x) (pos c.args.threshold)) x bs c.loop-bid.bid-index b even _ c.loop-bid.level c.add-in-loop-bid.new.self own set c.loop-bid-test.true c.bid-item.is below h best.best
          tells_even by_even c.add-in-loop-bid.ensures.sum c.add-in-loop-bid.ensures.others (c.loop-bid.invariant.level set h);
      small_above = let more = sizes_more c.loop-bid.above c.add.new.self own (to_z w64 (of_z w64 c.weight_where.result)) 10000 (omega (arith, ints, r.0), omega (arith, ints, r.1)) c.add.ensures.sum c.add.ensures.others in omega (arith, ints, more, c.loop-bid.invariant.small_above);
      small_level = let more = sizes_more c.loop-bid.level c.add-in-loop-bid.new.self own (to_z w64 (of_z w64 c.weight_where-in-loop-bid.result)) 10000 (omega (arith, ints, s.0), omega (arith, ints, s.1)) c.add-in-loop-bid.ensures.sum c.add-in-loop-bid.ensures.others in omega (arith, ints, more, c.loop-bid.invariant.small_level);
    }

pub returns-clause-above : goal.returns-clause-above
returns-clause-above c = λ set h.
    let n = c.args.list.now.goods in
    let bs = c.args.list.now.bids in
    let items = c.bids-bid-items.result.now in
    let x = with_null c.args.prices.now.items in
    let over = over_of n bs (subst (AreBids n) c.bids-bid-items.ensures.value c.bids-bid-items.ensures.proper) in
    chosen_within n set (λ (b : Bid). int_lt (pos c.args.threshold) (gain b.values.items x)) bs x c.loop-bid.above (c.bids-bid-items.ensures.goods.1) over (λ t l.
    weight_end (λ (b : Bid). int_lt (pos c.args.threshold) (gain b.values.items x) && same_set 9 (best b.values.items x) (members t)) items c.loop-bid.bid-index _ _ (omega arith) (c.loop-bid.invariant.above t l)
    ∙ ap (weight_where (λ (b : Bid). int_lt (pos c.args.threshold) (gain b.values.items x) && same_set 9 (best b.values.items x) (members t))) c.bids-bid-items.ensures.value)

pub returns-clause-level : goal.returns-clause-level
returns-clause-level c = λ set h.
    let n = c.args.list.now.goods in
    let bs = c.args.list.now.bids in
    let items = c.bids-bid-items.result.now in
    let x = with_null c.args.prices.now.items in
    let over = over_of n bs (subst (AreBids n) c.bids-bid-items.ensures.value c.bids-bid-items.ensures.proper) in
    chosen_within n set (λ (b : Bid). int_eq (gain b.values.items x) (pos c.args.threshold)) bs x c.loop-bid.level (c.bids-bid-items.ensures.goods.1) over (λ t l.
    weight_end (λ (b : Bid). int_eq (gain b.values.items x) (pos c.args.threshold) && same_set 9 (best b.values.items x) (members t)) items c.loop-bid.bid-index _ _ (omega arith) (c.loop-bid.invariant.level t l)
    ∙ ap (weight_where (λ (b : Bid). int_eq (gain b.values.items x) (pos c.args.threshold) && same_set 9 (best b.values.items x) (members t))) c.bids-bid-items.ensures.value)
