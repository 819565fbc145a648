-- A bid of negative weight more of a bidder who is there: no more is wanted.
use Rattle.std.proofs.Common.{◌≡◌, ◌≢◌, ℕ, ◌<◌, ◌⊎◌, inl, inr, ℤ, pos, ◌+ℤ◌, ◌-ℤ◌, ◌*ℤ◌, ◌≤ℤ◌, List, length, refl, sym, ap, subst, arith, Option, Some, None}
use Rattle.std.proofs.lemmas.Int.{ints}
use Rattle.std.proofs.Math.IntN.{zero-*ℤ}
use Rattle.mix_num.specs.Vectors.{Vector}
use Rattle.mix_num.proofs.Products.{difference-*ℤ, product_grows}
use Rattle.mix_bids.specs.Bids.{IsBid}
use Rattle.mix_bids.specs.Offers.{gain}
use Rattle.mix_bids.specs.declared.bid.Bid.{Bid}
use Rattle.mix_market.specs.Lyapunov.{IsBelow, sum_of}
use Rattle.mix_text.specs.Auctions.{AuctionText, IsAuction}
use Rattle.mix_text.specs.Bidders.{place_of}
use Rattle.mix_text.specs.Caps.{cap_at}
use Rattle.mix_text.specs.Changes.{cap_of_name, cap_under, with_added, with_bid_under}
use Rattle.mix_text.proofs.ChangedAuctions.{found_below}
use Rattle.mix_answer.specs.Utilities.{entrant_at, entrant_utility, utilities_of}
use Rattle.mix_answer.proofs.Entrants.{length-utilities, utility-there}
use Rattle.mix_law.specs.Clearings.{bidder_utility}
use Rattle.mix_clearing.specs.Scarcity.{WantsNoLess}
use Rattle.mix_scarcity.specs.Changes.{IsScarcerAuction}
use Rattle.mix_scarcity.proofs.AddedBids.{gain-falls, other_utility, own_utility, same_or_other, same_wants, size}
use Rattle.mix_scarcity.proofs.EachWants.{all_want}

bid-rises : (n : ℕ) (bid : Bid) → IsBid n bid → bid.weight ≤ℤ pos 0 → (x y : Vector) → IsBelow n x y → (bid.weight *ℤ gain bid.values.items x) ≤ℤ (bid.weight *ℤ gain bid.values.items y)
bid-rises n bid is few x y h =
    let long = is.offers.size in
    let g = product_grows (pos 0 -ℤ bid.weight) (gain bid.values.items y) (gain bid.values.items x) (omega (arith, ints)) (gain-falls n bid.values.items x y (omega arith) h) in
    let p = difference-*ℤ (pos 0) bid.weight (gain bid.values.items x) in
    let q = difference-*ℤ (pos 0) bid.weight (gain bid.values.items y) in
    let r = zero-*ℤ (gain bid.values.items x) in
    let s = zero-*ℤ (gain bid.values.items y) in
    omega (arith, ints)

module _ (a : AuctionText) (sound : IsAuction a) (bid : Bid) (is : IsBid (length a.goods) bid) (few : bid.weight ≤ℤ pos 0) (name : List ℕ) (k : ℕ) (below : k < length a.bidders) (open_ended : cap_at a.caps k ≡ None) where
  abbrev n : ℕ
  n = length a.goods

  abbrev b : AuctionText
  b = with_bid_under a name bid (Some k)

  same : length b.bidders ≡ length a.bidders
  same = size a sound bid is name k below open_ended

  wanted : (j : ℕ) → j < length a.bidders → (j ≡ k) ⊎ (j ≢ k) → WantsNoLess n (bidder_utility (utilities_of b) j) (bidder_utility (utilities_of a) j)
  wanted j l (inr other) x y h = same_wants n (bidder_utility (utilities_of b) j) (bidder_utility (utilities_of a) j) (sym (other_utility a sound bid is name k below open_ended j l other)) x y h
  wanted j l (inl e) x y h =
      let P : ℕ → Vector → Type 0 = λ i z. entrant_utility (entrant_at b i) z ≡ entrant_utility (entrant_at a i) z +ℤ (bid.weight *ℤ gain bid.values.items z) in
      let p = subst (λ (i : ℕ). P i x) (sym e) (own_utility a sound bid is name k below open_ended x) in
      let q = subst (λ (i : ℕ). P i y) (sym e) (own_utility a sound bid is name k below open_ended y) in
      let r = bid-rises n bid is few x y h in
      let f = utility-there a j l in
      let g = utility-there b j (omega (arith, l, same)) in
      let fx = ap (λ (u : Vector → ℤ). u x) f in
      let fy = ap (λ (u : Vector → ℤ). u y) f in
      let gx = ap (λ (u : Vector → ℤ). u x) g in
      let gy = ap (λ (u : Vector → ℤ). u y) g in
      omega (arith, ints)

  all_wanted : WantsNoLess (length a.supply) (sum_of (utilities_of b)) (sum_of (utilities_of a))
  all_wanted =
      let m = length-utilities a in
      let l = length-utilities b in
      subst (λ (i : ℕ). WantsNoLess i (sum_of (utilities_of b)) (sum_of (utilities_of a))) (sym sound.supply.0)
      (all_want n (utilities_of b) (utilities_of a) (omega (arith, m, l, same))
      (λ j h. wanted j (omega (arith, h, l, same)) (same_or_other a sound bid is name k below open_ended j)) (λ j h i. absurd (omega (arith, h, i, m, l, same))))

  there_scarcer : IsScarcerAuction b a
  there_scarcer = record { goods = refl; wanted = all_wanted; less = λ i h. omega (arith, ints); higher = λ i h. omega (arith, ints) }

-- so an auction is scarcer than with a bid of negative weight more
pub negative_scarcer : (a : AuctionText) (name : List ℕ) (bid : Bid) (k : ℕ) → IsAuction a → IsBid (length a.goods) bid → bid.weight ≤ℤ pos 0 → place_of name a.bidders ≡ Some k → cap_of_name a name ≡ None → IsScarcerAuction (with_added a name bid) a
negative_scarcer a name bid k sound is few there open_ended =
    let o = subst (λ (place : Option ℕ). cap_under a place ≡ None) there open_ended in
    subst (λ (place : Option ℕ). IsScarcerAuction (with_bid_under a name bid place) a) (sym there) (there_scarcer a sound bid is few name k (found_below name a.bidders k there) o)
