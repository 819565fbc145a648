use Rattle.std.proofs.Common.{subst, ◌≡◌, ◌∙◌, ℤ, eqb, arith, ap, ◌+ℤ◌, refl, to_z, of_z, w64, List}
use Rattle.std.proofs.lemmas.Int.{ints}
use Rattle.mix_num.specs.Vectors.{members, with_null}
use Rattle.mix_num.specs.Tables.{number_of}
use Rattle.mix_num.proofs.Masks.{members_above}
use Rattle.mix_bids.specs.Bids.{best_weight}
use Rattle.mix_bids.specs.Offers.{best, same_set}
use Rattle.mix_bids.specs.declared.bid.Bid.{Bid}
use Rattle.mix_bids.proofs.Comparisons.{same_is}
use Rattle.mix_bids.proofs.Loops.{bid_at, weight_end, weight_step}
use Rattle.mix_bids.specs.Bids.{AreBids}
use Rattle.mix_bids.proofs.Lengths.{over_of}
use Rattle.mix_bids.proofs.Weights.{utility_falls}
use Rattle.mix_bids.proofs.Tallies.{subset_more, added, few_sets, number_small, sizes_more}
use Rattle.mix_bids.proofs.list.BidList.add_best_weights.Goals as goal

pub add-requires : goal.add-requires
add-requires c =
    let b = bid_at _ _ _ _ _ refl c.loop-bid-test.true c.bid-item.is c.bids-bid-items.ensures.proper in
    let l = b.weight in
    let w : to_z w64 (of_z w64 c.bid-item.result.weight) ≡ c.bid-item.result.weight = omega (arith, ints) in
    let few = c.bids-bid-items.ensures.few in
    let sum = c.loop-bid.invariant.small in
    let before = c.requires.small in
    let s = number_small c.loop-bid.out c.best_set.result 3999990000 (few_sets _ c.best_set.result (omega (arith, c.requires.prices.0, c.bids-bid-items.ensures.goods)) c.best_set.ensures.within) (omega (arith, ints, sum, before, few, c.loop-bid-test.true)) in
    (omega (arith, ints, s.0, s.1, l.0, l.1), omega (arith, ints, s.0, s.1, l.0, l.1))

pub loop-bid-preserved : goal.loop-bid-preserved
loop-bid-preserved c =
    let x = with_null c.args.prices.now.items in
    let b = bid_at _ _ _ _ _ refl c.loop-bid-test.true c.bid-item.is c.bids-bid-items.ensures.proper in
    let l = b.weight in
    let own = c.best_set.result in
    let below = few_sets _ own (omega (arith, c.requires.prices.0, c.bids-bid-items.ensures.goods)) c.best_set.ensures.within in
    let w : to_z w64 (of_z w64 c.bid-item.result.weight) ≡ c.bid-item.result.weight = omega (arith, ints) in
    let sum : number_of c.add.new.self own ≡ number_of c.loop-bid.out own +ℤ c.bid-item.result.weight = c.add.ensures.sum ∙ ap (λ (z : ℤ). number_of c.loop-bid.out own +ℤ z) w in
    record {
      so_far = λ set small. weight_step (λ (b : Bid). same_set 9 (best b.values.items x) (members set)) _ _ _ (eqb own set) _ _ _ c.loop-bid-test.true c.bid-item.is
          (same_is 9 own set (best c.bid-item.result.values.items x) (members set) below c.best_set.ensures.best (λ k. refl) (λ k h. members_above set 9 k small h))
          (added c.loop-bid.out c.add.new.self own set c.bid-item.result.weight sum c.add.ensures.others) (c.loop-bid.invariant.so_far set small);
      small = let more = sizes_more c.loop-bid.out c.add.new.self own c.bid-item.result.weight 10000 l sum c.add.ensures.others in let before = c.loop-bid.invariant.small in omega (arith, ints);
    }

pub returns-clause-weights : goal.returns-clause-weights
returns-clause-weights c = λ set h.
    let x = with_null c.args.prices.now.items in
    weight_end (λ (b : Bid). same_set 9 (best b.values.items x) (members set)) _ c.loop-bid.bid-index _ _ (omega arith) (c.loop-bid.invariant.so_far set h)
    ∙ ap (λ (z : List Bid). number_of c.args.out.now set +ℤ best_weight z x set) c.bids-bid-items.ensures.value

pub returns-clause-falls : goal.returns-clause-falls
returns-clause-falls c = λ set h.
    let n = c.args.self.now.goods in
    let bs = c.args.self.now.bids in
    let x = with_null c.args.prices.now.items in
    let few = c.bids-bid-items.ensures.goods in
    let over = over_of n bs (subst (AreBids n) c.bids-bid-items.ensures.value c.bids-bid-items.ensures.proper) in
    let more = subset_more n set bs x c.args.out.now c.loop-bid.out few.1 over (returns-clause-weights c) in
    let falls = utility_falls n bs x (members set) over in
    omega (arith, ints, more, falls)

pub returns-clause-small : goal.returns-clause-small
returns-clause-small c = let few = c.bids-bid-items.ensures.few in let all = c.loop-bid.invariant.small in omega (arith, ints)
