-- The order that undoes an order: from the bidders in an order back to them as they stand.
use Rattle.std.proofs.Common.{◌≡◌, ℕ, zero, suc, ◌+◌, ◌<◌, ℤ, pos, List, [], ◌∷◌, length, get_or, map, refl, sym, ap, ap₂, ◌∙◌, subst, arith}
use Rattle.std.proofs.lemmas.List.{ext_get_or, get_or-map, length-map}
use Rattle.std.proofs.lemmas.List.Edits.{swap_is}
use Rattle.std.proofs.lemmas.List.FromFn.{get_or-range_with_len, length-range_with_len}
use Rattle.std.proofs.lemmas.List.Sorted.{IsPermutation-sym, length_permutation}
use Rattle.std.proofs.Math.ListN.{set, get_or-map as get_mapped}
use Rattle.std.specs.List.{swap}
use Rattle.std.specs.List.Sorted.{IsPermutation, SwapsInRange, apply_swaps}
use Rattle.mix_num.specs.Vectors.{Vector}
use Rattle.mix_num.specs.Orders.{IsOrder, place_at, places}
use Rattle.mix_num.proofs.Orders.{in-places, length-order, place_below}
use Rattle.mix_law.specs.Clearings.{AreLeastClearing, bidder_utility}
use Rattle.mix_laws.specs.Orders.{utilities_in}
use Rattle.mix_laws.proofs.OtherOrders.{least-in_order}
use Rattle.mix_laws.proofs.UtilityOrders.{utility-in_order}

map-set : (f : ℕ → ℕ) (xs : List ℕ) (i v : ℕ) → map f (set xs i v) ≡ set (map f xs) i (f v)
map-set f [] i v = refl
map-set f (x ∷ xs) zero v = refl
map-set f (x ∷ xs) (suc i) v = ap (λ (ys : List ℕ). f x ∷ ys) (map-set f xs i v)

map-swap : (f : ℕ → ℕ) (xs : List ℕ) (i j : ℕ) → i < length xs → j < length xs → map f (swap xs i j) ≡ swap (map f xs) i j
map-swap f xs i j h l =
    let e = length-map xs f in
    ap (map f) (sym (swap_is xs i j 0 h l))
    ∙ map-set f (set xs i (get_or xs j 0)) j (get_or xs i 0)
    ∙ ap (λ (ys : List ℕ). set ys j (f (get_or xs i 0))) (map-set f xs i (get_or xs j 0))
    ∙ ap₂ (λ (a b : ℕ). set (set (map f xs) i a) j b) (sym (get_mapped f xs j 0)) (sym (get_mapped f xs i 0))
    ∙ swap_is (map f xs) i j (f 0) (omega (arith, h, e)) (omega (arith, l, e))

map-moved : (f : ℕ → ℕ) (xs : List ℕ) (moves : List (ℕ × ℕ)) → SwapsInRange (length xs) moves → map f (apply_swaps xs moves) ≡ apply_swaps (map f xs) moves
map-moved f xs [] below = refl
map-moved f xs (move ∷ moves) below =
    let long : length (apply_swaps xs moves) ≡ length xs = length_permutation xs (apply_swaps xs moves) (record { moves = moves; below = below.2; is = refl }) in
    let h = below.0 in
    let l = below.1 in
    map-swap f (apply_swaps xs moves) move.0 move.1 (omega (arith, h, long)) (omega (arith, l, long))
    ∙ ap (λ (ys : List ℕ). swap ys move.0 move.1) (map-moved f xs moves below.2)

module _ (m : ℕ) (order : List ℕ) (ordered : IsOrder m order) where
  home : IsPermutation order (places m)
  home = IsPermutation-sym (places m) order ordered

  abbrev back : List ℕ
  back = apply_swaps (places m) home.moves

  back-moves : SwapsInRange (length (places m)) home.moves
  back-moves = subst (λ (n : ℕ). SwapsInRange n home.moves) (length-order m order ordered ∙ sym (length-range_with_len 0 m)) home.below

  back-ordered : IsOrder m back
  back-ordered = record { moves = home.moves; below = back-moves; is = refl }

  places-back : map (place_at order) back ≡ places m
  places-back =
      map-moved (place_at order) (places m) home.moves back-moves
      ∙ ap (λ (ys : List ℕ). apply_swaps ys home.moves) (sym (in-places order 0 m (length-order m order ordered)))
      ∙ sym home.is

  place-back : (j : ℕ) → j < m → place_at order (place_at back j) ≡ j
  place-back j h =
      let e = length-order m back back-ordered in
      let at : get_or (places m) j 0 ≡ 0 + j = get_or-range_with_len 0 m j 0 h in
      sym (get_or-map (place_at order) back j 0 0 (omega (arith, h, e)))
      ∙ ap (λ (ys : List ℕ). get_or ys j 0) places-back
      ∙ at ∙ (let z : 0 + j ≡ j = omega arith in z)

module _ (utilities : List (Vector → ℤ)) (order : List ℕ) (ordered : IsOrder (length utilities) order) where
  abbrev turned : List (Vector → ℤ)
  turned = utilities_in order utilities

  count : length turned ≡ length utilities
  count = length-map order (λ k. bidder_utility utilities k) ∙ length-order (length utilities) order ordered

  abbrev undo : List ℕ
  undo = back (length utilities) order ordered

  undo-ordered : IsOrder (length turned) undo
  undo-ordered = subst (λ (m : ℕ). IsOrder m undo) (sym count) (back-ordered (length utilities) order ordered)

  turned-back : utilities_in undo turned ≡ utilities
  turned-back =
      let n = length-order (length turned) undo undo-ordered in
      let o = length-order (length utilities) order ordered in
      let l = length-map undo (λ k. bidder_utility turned k) in
      ext_get_or (λ x. pos 0) (utilities_in undo turned) utilities (l ∙ n ∙ count)
      (λ j h.
      let there : j < length undo = omega (arith, h, l) in
      let below : place_at undo j < length order = let p = place_below (length turned) undo j undo-ordered there in omega (arith, p, count, o) in
      let own : j < length utilities = omega (arith, there, n, count) in
      utility-in_order turned undo undo-ordered j there
      ∙ utility-in_order utilities order ordered (place_at undo j) below
      ∙ ap (bidder_utility utilities) (place-back (length utilities) order ordered j own))

  pub least-where_in_order : (supply reserve prices : List ℤ) → AreLeastClearing turned supply reserve prices → AreLeastClearing utilities supply reserve prices
  least-where_in_order supply reserve prices are =
      subst (λ (us : List (Vector → ℤ)). AreLeastClearing us supply reserve prices) turned-back (least-in_order turned undo undo-ordered supply reserve prices are)
