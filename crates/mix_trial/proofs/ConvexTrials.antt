-- The lists of a trial auction are convex.
use Rattle.std.proofs.Common.{◌≡◌, ◌≢◌, ◌<◌, ◌+◌, ◌%◌, Bool, ℕ, pos, ◌≤ℤ◌, ◌+ℤ◌, List, [], ◌∷◌, ◌++◌, arith, All}
use Rattle.std.proofs.lemmas.Int.{ints}
use Rattle.std.proofs.lemmas.List.Elements.{All-append, All-cons, All-nil}
use Rattle.mix_num.specs.Vectors.{Vector, with_null}
use Rattle.mix_bids.specs.Bids.{Book, facet_weight, weight_where}
use Rattle.mix_bids.specs.Convexity.{IsConvexList}
use Rattle.mix_bids.specs.Offers.{best, pair, same_set}
use Rattle.mix_bids.specs.declared.bid.Bid.{Bid}
use Rattle.mix_bids.proofs.Lengths.{over_of}
use Rattle.mix_validity.proofs.ConvexLists.{convex_list}
use Rattle.mix_trial.specs.Draws.{alone, for_each}
use Rattle.mix_trial.specs.Trials.{bidder, bidder_name, bids, block, single}
use Rattle.mix_trial.specs.Words.{Words}
use Rattle.mix_trial.proofs.ConvexBlocks.{block_facet, least}
use Rattle.mix_trial.proofs.DrawnTurns.{for_each_keeps}
use Rattle.mix_trial.proofs.TrialBids.{bids_are}

weight_where-append : (p : Bid → Bool) (a b : List Bid) → weight_where p (a ++ b) ≡ weight_where p a +ℤ weight_where p b
weight_where-append p [] b = omega (arith, ints)
weight_where-append p (x ∷ a) b = let h = weight_where-append p a b in omega (arith, ints)

-- no facet weight of these bids over five goods is negative
abbrev IsClear : List Bid → Type 0
IsClear bs = (c d : ℕ) (x : Vector) → pos 0 ≤ℤ facet_weight 5 c d bs x

clear_none : IsClear []
clear_none c d x = omega (arith, ints)

clear_both : (a b : List Bid) → IsClear a → IsClear b → IsClear (a ++ b)
clear_both a b p q c d x =
    let e = weight_where-append (λ (z : Bid). same_set 6 (best z.values.items x) (pair c d)) a b in
    let m = p c d x in
    let n = q c d x in
    omega (arith, ints)

clear_block : (words : Words) → IsClear (block words).0
unfolding block
clear_block words c d x =
    block_facet (words 0 % 5) ((words 0 % 5 + (1 + words 1 % 4)) % 5) (1 + words 2 % 9) (words 3 % 800) (words 4 % 800) (words 5 % 200) c d x
    (below (words 0) 5 (omega arith)) (below (words 0 % 5 + (1 + words 1 % 4)) 5 (omega arith)) (apart (words 0) (words 1))
  where
    below : (y m : ℕ) → 0 < m → y % m < m
    below y m h = omega arith

    apart : (y z : ℕ) → y % 5 ≢ (y % 5 + (1 + z % 4)) % 5
    apart y z e = absurd (omega arith)

clear_single : (words : Words) → IsClear ((single words).0 ∷ [])
unfolding single
clear_single words c d x = let h = least (same_set 6 (best (single words).0.values.items x) (pair c d)) (1 + words 0 % 9) in omega (arith, ints)

clear_bids : (words : Words) → IsClear (bids words).0
clear_bids words =
    let after = (for_each 4 1 (λ _. block) words).1 in
    clear_both (for_each 4 1 (λ _. block) words).0 (for_each 16 1 (λ _. alone single) after).0
    (for_each_keeps IsClear (λ _. block) clear_none clear_both (λ k w. clear_block w) 4 1 words)
    (for_each_keeps IsClear (λ _. alone single) clear_none clear_both (λ k w. clear_single w) 16 1 after)

pub bids_convex : (words : Words) → IsConvexList (bids words).0
bids_convex words = convex_list 5 (bids words).0 (over_of 5 (bids words).0 (bids_are words)) (λ c d p q prices size. clear_bids words c d (with_null prices))

-- each bidder's list is convex
pub bidders_convex : (words : Words) → All (λ (b : List ℕ × Book). IsConvexList b.1.bids) (for_each 40 1 bidder words).0
bidders_convex words =
    let C : List ℕ × Book → Type 0 = λ b. IsConvexList b.1.bids in
    for_each_keeps (All C) bidder (All-nil C) (All-append C) (λ k w. All-cons C (bidder_name k, record { goods = 5; bids = (bids w).0 }) [] (bids_convex w) (All-nil C)) 40 1 words
