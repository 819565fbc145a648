-- What the bidders own together, and what it makes of the supply.
use Rattle.std.proofs.Common.{◌≡◌, ◌∙◌, ℕ, zero, suc, ◌+◌, ◌<◌, ℤ, pos, ◌+ℤ◌, ◌≤ℤ◌, List, [], ◌∷◌, ◌++◌, length, get_or, map, drop, All, ap, refl, arith}
use Rattle.std.proofs.lemmas.Int.{ints}
use Rattle.std.proofs.lemmas.List.{at_drop_more}
use Rattle.std.proofs.lemmas.List.Elements.{All-from_get_or, All-head, All-tail}
use Rattle.std.proofs.lemmas.List.FromFn.{get_or-map-range_with_len, length-map-range_with_len, map-range_with_len_more}
use Rattle.mix_num.specs.Orders.{places}
use Rattle.mix_num.specs.Sellers.{AreAmounts, IsAmount}
use Rattle.mix_num.specs.Shares.{sum_at}
use Rattle.mix_text.specs.Auctions.{AuctionText, IsAuction}
use Rattle.mix_own.specs.Owned.{AreOwned, gross_supply, owned_of_good}

-- an amount of the good at a place, among others
abbrev pub HasAmount : ℕ → List ℤ → Type 0
HasAmount i bundle = (i < length bundle) × All IsAmount bundle

sum_next : (owned : List (List ℤ)) (k i : ℕ) → k < length owned → sum_at (drop k owned) i ≡ get_or (get_or owned k []) i (pos 0) +ℤ sum_at (drop (k + 1) owned) i
sum_next owned k i l = at_drop_more (λ rest. sum_at rest i) owned k [] l

sum_least : (owned : List (List ℤ)) (i : ℕ) → All (HasAmount i) owned → pos 0 ≤ℤ sum_at owned i
sum_least [] i h = omega (arith, ints)
sum_least (bundle ∷ owned) i h =
    let here = All-head (HasAmount i) bundle owned h in
    let first = here.1 i (pos 0) here.0 in
    let rest = sum_least owned i (All-tail (HasAmount i) bundle owned h) in
    omega (arith, ints, first.0, rest)

-- what is left of the sum isn't negative
sum_left : (owned : List (List ℤ)) (k i : ℕ) → All (HasAmount i) owned → pos 0 ≤ℤ sum_at (drop k owned) i
sum_left owned zero i h = sum_least owned i h
sum_left [] (suc k) i h = omega (arith, ints)
sum_left (bundle ∷ owned) (suc k) i h = sum_left owned k i (All-tail (HasAmount i) bundle owned h)

-- the sum so far, and what the next bidder owns
pub sum_step : (owned : List (List ℤ)) (k i : ℕ) (sum : ℤ) → All (HasAmount i) owned → owned_of_good owned i ≤ℤ pos 1000000 → k < length owned
    → sum +ℤ sum_at (drop k owned) i ≡ sum_at owned i → pos 0 ≤ℤ sum
    → let amount = get_or (get_or owned k []) i (pos 0) in
    IsAmount amount × IsAmount (sum +ℤ amount) × ((sum +ℤ amount) +ℤ sum_at (drop (k + 1) owned) i ≡ sum_at owned i)
sum_step owned k i sum h most l value least =
    let here = h k [] l in
    let amount = here.1 i (pos 0) here.0 in
    let next = sum_next owned k i l in
    let left = sum_left owned (k + 1) i h in
    (amount, (omega (arith, ints, amount, least), omega (arith, ints, next, left, value, most)), omega (arith, ints, next, value))

have_amounts : (n i : ℕ) (owned : List (List ℤ)) → i < n → All (AreAmounts n) owned → All (HasAmount i) owned
have_amounts n i owned l h k d inside = let at = h k d inside in (omega (arith, at.0, l), at.1)

-- the first goods of the gross supply
unfoldable pub gross_first : ℕ → List ℤ → List (List ℤ) → List ℤ
gross_first m supply owned = map (λ i. get_or supply i (pos 0) +ℤ owned_of_good owned i) (places m)

pub gross_none : (supply : List ℤ) (owned : List (List ℤ)) → gross_first 0 supply owned ≡ []
unfolding gross_first
gross_none supply owned = refl

pub gross_more : (m : ℕ) (supply : List ℤ) (owned : List (List ℤ)) → gross_first (m + 1) supply owned ≡ gross_first m supply owned ++ (get_or supply m (pos 0) +ℤ owned_of_good owned m) ∷ []
unfolding gross_first
gross_more m supply owned = map-range_with_len_more (λ i. get_or supply i (pos 0) +ℤ owned_of_good owned i) 0 m m (omega arith)

pub gross_all : (m : ℕ) (supply : List ℤ) (owned : List (List ℤ)) → m ≡ length supply → gross_first m supply owned ≡ gross_supply supply owned
unfolding gross_first gross_supply
gross_all m supply owned e = ap (λ (n : ℕ). map (λ i. get_or supply i (pos 0) +ℤ owned_of_good owned i) (places n)) e

pub length-gross : (supply : List ℤ) (owned : List (List ℤ)) → length (gross_supply supply owned) ≡ length supply
unfolding gross_supply
length-gross supply owned = length-map-range_with_len (λ i. get_or supply i (pos 0) +ℤ owned_of_good owned i) 0 (length supply)

pub gross_at : (supply : List ℤ) (owned : List (List ℤ)) (i : ℕ) → i < length supply → get_or (gross_supply supply owned) i (pos 0) ≡ get_or supply i (pos 0) +ℤ owned_of_good owned i
unfolding gross_supply
gross_at supply owned i l = get_or-map-range_with_len (λ j. get_or supply j (pos 0) +ℤ owned_of_good owned j) 0 (length supply) i i (pos 0) l (omega arith)

-- of one good
pub good_gross : (a : AuctionText) (owned : List (List ℤ)) (i : ℕ) → IsAuction a → AreOwned a owned → i < length a.goods
    → IsAmount (get_or a.supply i (pos 0)) × IsAmount (owned_of_good owned i) × IsAmount (get_or a.supply i (pos 0) +ℤ owned_of_good owned i)
good_gross a owned i s o l =
    let own = sum_least owned i (have_amounts (length a.goods) i owned l o.each) in
    let long = s.supply.0 in
    let supply = s.supply.1 i (pos 0) (omega (arith, long, l)) in
    let most = o.most i l in
    (supply, (own, omega (arith, ints, supply.0, most)), (omega (arith, ints, supply.0, own), most))

pub gross_amounts : (a : AuctionText) (owned : List (List ℤ)) → IsAuction a → AreOwned a owned → AreAmounts (length a.goods) (gross_supply a.supply owned)
gross_amounts a owned s o =
    let long = length-gross a.supply owned ∙ s.supply.0 in (
      long,
      All-from_get_or IsAmount (gross_supply a.supply owned) (pos 0) (λ i l.
          let e = gross_at a.supply owned i (omega (arith, l, long, s.supply.0)) in
          let here = good_gross a owned i s o (omega (arith, l, long)) in
          rw e here.2),
    )
