-- A tie order of which one bidder is taken out is a tie order of the others.
use Rattle.std.proofs.Common.{◌≡◌, ◌≢◌, ◌<◌, ◌≤◌, ◌-◌, ◌==◌, ℕ, zero, suc, List, [], ◌∷◌, ◌++◌, length, map, filter, get_or, sym, ◌∙◌, ap, ap₂, arith, refl, inl, inr, Bool, true, false, not, nat_lt, cond, append-nil, add-one, true≢false, All}
use Rattle.std.specs.List.{AllPairs}
use Rattle.std.proofs.lemmas.Bool.{cases_Bool}
use Rattle.std.proofs.lemmas.Bool.Decides.{nat_tests}
use Rattle.std.proofs.lemmas.Grind.{get_or_default_zero}
use Rattle.std.proofs.lemmas.List.{get_or-map, length-map, map-append}
use Rattle.std.proofs.lemmas.List.Elements.{All-filter, All-map, filter-append, filter_passes}
use Rattle.std.proofs.lemmas.List.Kept.{AllPairs-filter}
use Rattle.std.proofs.lemmas.List.FromFn.{length-range_with_len}
use Rattle.std.proofs.lemmas.List.Sorted.{sum_by-IsPermutation}
use Rattle.std.proofs.lemmas.List.Sums.{length-filter}
use Rattle.mix_num.specs.Orders.{places}
use Rattle.mix_text.specs.Changes.{order_without, place_without}
use Rattle.mix_text.specs.Orders.{IsTieOrder}
use Rattle.mix_text.proofs.TieOrders.{AreServed, all_served, is_order, places_more}

-- whether a place is another than k
abbrev other : ℕ → ℕ → Bool
other k j = not (j == k)

-- ---- the order of first appearance

step : (k m : ℕ) → order_without k (places (suc m)) ≡ order_without k (places m) ++ order_without k (m ∷ [])
step k m =
    ap (λ (z : ℕ). order_without k (places z)) (sym (add-one m)) ∙ ap (order_without k) (places_more m) ∙ ap (map (place_without k)) (filter-append (other k) (places m) (m ∷ []))
    ∙ map-append (place_without k) (filter (other k) (places m)) (filter (other k) (m ∷ []))

more : (m : ℕ) → places m ++ m ∷ [] ≡ places (suc m)
more m = sym (places_more m) ∙ ap places (add-one m)

last_kept : (k m : ℕ) → m < k → order_without k (m ∷ []) ≡ m ∷ []
last_kept k m h = let f : (m == k) ≡ false = grind (arith, nat_tests) in let g : nat_lt k m ≡ false = grind (arith, nat_tests) in rw (f, g) refl

last_lowered : (k m : ℕ) → k ≤ m → order_without k (suc m ∷ []) ≡ m ∷ []
last_lowered k m h = let f : (suc m == k) ≡ false = grind (arith, nat_tests) in let g : nat_lt k (suc m) ≡ true = grind (arith, nat_tests) in let e : suc m - 1 ≡ m = omega arith in rw (f, g, e) refl

last_left : (k m : ℕ) → k ≡ m → order_without k (m ∷ []) ≡ []
last_left k m h = let t : (m == k) ≡ true = grind (arith, nat_tests) in rw t refl

kept : (k m : ℕ) → m ≤ k → order_without k (places m) ≡ places m
kept k zero h = refl
kept k (suc m) h = step k m ∙ ap₂ (λ (xs ys : List ℕ). xs ++ ys) (kept k m (omega arith)) (last_kept k m (omega arith)) ∙ more m

at_end : (k m : ℕ) → k ≡ m → order_without k (places (suc m)) ≡ places m
at_end k m e = step k m ∙ ap₂ (λ (xs ys : List ℕ). xs ++ ys) (kept k m (omega (arith, e))) (last_left k m e) ∙ append-nil (places m)

-- the order of first appearance without one is that of the others
pub places_without : (k m : ℕ) → k ≤ m → order_without k (places (suc m)) ≡ places m
places_without k zero h = at_end k zero (omega arith)
places_without k (suc m) h = elim (cases_Bool (nat_lt k (suc m))) [
  | inl t ↦ (let l : k ≤ m = grind (arith, nat_tests) in step k (suc m) ∙ ap₂ (λ (xs ys : List ℕ). xs ++ ys) (places_without k m l) (last_lowered k m l) ∙ more m)
  | inr f ↦ at_end k (suc m) (grind (arith, nat_tests))
]

-- ---- any order

same_count : (k m : ℕ) (order : List ℕ) → IsTieOrder m order → length (order_without k order) ≡ length (order_without k (places m))
same_count k m order t =
    length-map (filter (other k) order) (place_without k) ∙ length-filter (other k) order ∙ sum_by-IsPermutation (λ j. cond (other k j) 1 0) (places m) order (is_order m order t)
    ∙ sym (length-filter (other k) (places m)) ∙ sym (length-map (filter (other k) (places m)) (place_without k))

is_other : (k j : ℕ) → other k j ≡ true → j ≢ k
is_other k j h e = let t : (j == k) ≡ true = grind (arith, nat_tests) in true≢false (let q = rw t at h in sym q)

lower_below : (k m j : ℕ) → k ≤ m → j < suc m → j ≢ k → place_without k j < m
lower_below k m j h l n = elim (cases_Bool (nat_lt k j)) [
  | inl t ↦ (let b : k < j = grind (arith, nat_tests) in rw t (omega (arith, b, l)))
  | inr f ↦ rw f (grind (arith, nat_tests))
]

lower_apart : (k i j : ℕ) → i ≢ k → j ≢ k → i ≢ j → place_without k i ≢ place_without k j
lower_apart k i j n o d e = elim (cases_Bool (nat_lt k i)) [
  | inl t ↦ elim (cases_Bool (nat_lt k j)) [
    | inl u ↦ (let q : i - 1 ≡ j - 1 = rw (t, u) at e in grind (arith, nat_tests))
    | inr g ↦ (let q : i - 1 ≡ j = rw (t, g) at e in grind (arith, nat_tests))
  ]
  | inr f ↦ elim (cases_Bool (nat_lt k j)) [
    | inl u ↦ (let q : i ≡ j - 1 = rw (f, u) at e in grind (arith, nat_tests))
    | inr g ↦ (let q : i ≡ j = rw (f, g) at e in d q)
  ]
]

-- the places of an order are apart
apart : (m : ℕ) (order : List ℕ) → IsTieOrder m order → AllPairs (λ i j. i ≢ j) order
apart m order t i j d h l e =
    let size = t.size in
    let q = sym (get_or_default_zero order i d (omega (arith, h, l))) ∙ e ∙ get_or_default_zero order j d l in
    let same = t.once i j (omega (arith, h, l, size)) (omega (arith, l, size)) q in
    omega (arith, same, h)

all_below : (m : ℕ) (order : List ℕ) → IsTieOrder m order → All (λ j. j < m) order
all_below m order t i d l = let size = t.size in let w = t.within i (omega (arith, l, size)) in let e = get_or_default_zero order i d l in omega (arith, w, e)

served : (k m : ℕ) (order : List ℕ) → k ≤ m → IsTieOrder (suc m) order → AreServed m (order_without k order)
served k m order h t =
    let left = filter (other k) order in
    let passes = filter_passes (other k) order in
    let below = All-filter (other k) (λ j. j < suc m) order (all_below (suc m) order t) in
    let pairs = AllPairs-filter (λ i j. i ≢ j) (other k) order (apart (suc m) order t) in
    let count = length-map left (place_without k) in
    record {
      below = λ i l. let lower = All-map (λ j. j < m) (place_without k) left (λ a d b. lower_below k m (get_or left a d) h (below a d b) (is_other k (get_or left a d) (passes a d b))) in lower i 0 l;
      apart = λ i j a l e. (
          let b : j < length left = omega (arith, l, count) in
          let c : i < length left = omega (arith, a, b) in
          lower_apart k (get_or left i 0) (get_or left j 0) (is_other k (get_or left i 0) (passes i 0 c)) (is_other k (get_or left j 0) (passes j 0 b)) (pairs i j 0 a b)
          (sym (get_or-map (place_without k) left i 0 0 c) ∙ e ∙ get_or-map (place_without k) left j 0 0 b));
    }

pub order_left : (k m : ℕ) (order : List ℕ) → k ≤ m → IsTieOrder (suc m) order → IsTieOrder m (order_without k order)
order_left k m order h t =
    all_served m (order_without k order) (served k m order h t) (same_count k (suc m) order t ∙ ap length (places_without k m h) ∙ length-range_with_len 0 m)
