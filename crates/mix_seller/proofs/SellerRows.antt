-- At prices at or above the reserves, returns fit the seller's row exactly where they are lawful.
use Rattle.std.proofs.Common.{◌≡◌, ◌≢◌, ℕ, suc, ◌+◌, ◌-◌, ◌^◌, ◌<◌, ◌⊎◌, inl, inr, Bool, true, false, not, cond, eqb, List, ℤ, pos, ◌+ℤ◌, ◌-ℤ◌, ◌*ℤ◌, ◌≤ℤ◌, ◌<ℤ◌, length, get_or, refl, sym, ap, ap₂, ◌∙◌, arith}
use Rattle.std.proofs.lemmas.Int.{ints, clamps}
use Rattle.std.proofs.lemmas.Bool.Decides.{nat_tests}
use Rattle.std.proofs.lemmas.Nat.{pow_pos}
use Rattle.std.specs.Int.{int_max}
use Rattle.mix_num.specs.Vectors.{bit, minus, only, outside, sum_to, members, with_null}
use Rattle.mix_num.specs.Sums.{entries, total}
use Rattle.mix_num.specs.Tables.{Fits, number_of, null_share, share_in, whole}
use Rattle.mix_num.specs.Sellers.{unit_gain, seller_gain}
use Rattle.mix_num.proofs.Masks.{mask_of, mask_below, mask_members, whole_members}
use Rattle.mix_num.proofs.Additions.{sum_to-same, sum_to-zero, sum_to-grows, sum_to-difference, sum_to-one, sum_in-front, total-is}
use Rattle.mix_law.specs.Demands.{IsTableOf}
use Rattle.mix_num.specs.Returns.{AreLawfulReturns}

-- ---- one good at a price at or above its reserve: what a unit leaves once the null choice or the good is lowered
flat_at : (r p : ℤ) → r ≤ℤ p → int_max (pos 0 -ℤ pos 0) (r -ℤ p) ≡ pos 0
flat_at r p h = omega (arith, ints, clamps)

null_at : (r p : ℤ) (b : Bool) → r ≤ℤ p → int_max (pos 0 -ℤ (pos 0 -ℤ pos 1)) (r -ℤ (p -ℤ bit b)) ≡ pos 1
null_at r p true h = omega (arith, ints, clamps)
null_at r p false h = omega (arith, ints, clamps)

split : (r p : ℤ) → r ≤ℤ p → (p ≡ r) ⊎ (r <ℤ p)
split r p h = grind (arith, ints)

reserve_at : (r p t y : ℤ) (b : Bool) → r ≤ℤ p → pos 0 ≤ℤ t → y ≤ℤ t → (pos 0 <ℤ y → p ≡ r) → cond b y (pos 0) ≤ℤ (t *ℤ int_max (pos 0 -ℤ (pos 0 -ℤ pos 0)) (r -ℤ (p -ℤ bit b)))
reserve_at r p t y false h n m e =
    let z : int_max (pos 0 -ℤ (pos 0 -ℤ pos 0)) (r -ℤ (p -ℤ pos 0)) ≡ pos 0 = omega (arith, ints, clamps) in
    let q = ap (λ (a : ℤ). t *ℤ a) z in
    omega (arith, ints)
reserve_at r p t y true h n m e = elim (split r p h) [
  | inl q ↦
      let z : int_max (pos 0 -ℤ (pos 0 -ℤ pos 0)) (r -ℤ (p -ℤ pos 1)) ≡ pos 1 = omega (arith, ints, clamps) in
      let k = ap (λ (a : ℤ). t *ℤ a) z in
      omega (arith, ints)
  | inr q ↦
      let z : int_max (pos 0 -ℤ (pos 0 -ℤ pos 0)) (r -ℤ (p -ℤ pos 1)) ≡ pos 0 = omega (arith, ints, clamps) in
      let k = ap (λ (a : ℤ). t *ℤ a) z in
      let none : y ≤ℤ pos 0 = nothing y (λ u. let d = e u in omega (arith, ints)) in
      omega (arith, ints)
]
  where
    nothing : (y : ℤ) → (pos 0 <ℤ y → ⊥) → y ≤ℤ pos 0
    nothing y f = grind (arith, ints)

-- what one good alone gives bounds its returns
one_at : (r p t y : ℤ) → r ≤ℤ p → pos 0 ≤ℤ t → y ≤ℤ (t *ℤ int_max (pos 0 -ℤ (pos 0 -ℤ pos 0)) (r -ℤ (p -ℤ pos 1))) → (y ≤ℤ t) × (pos 0 <ℤ y → p ≡ r)
one_at r p t y h n m = elim (split r p h) [
  | inl q ↦
      let z : int_max (pos 0 -ℤ (pos 0 -ℤ pos 0)) (r -ℤ (p -ℤ pos 1)) ≡ pos 1 = omega (arith, ints, clamps) in
      let k = ap (λ (a : ℤ). t *ℤ a) z in
      (omega (arith, ints), λ u. q)
  | inr q ↦
      let z : int_max (pos 0 -ℤ (pos 0 -ℤ pos 0)) (r -ℤ (p -ℤ pos 1)) ≡ pos 0 = omega (arith, ints, clamps) in
      let k = ap (λ (a : ℤ). t *ℤ a) z in
      (omega (arith, ints), λ u. absurd (omega (arith, ints)))
]

none_at : (r p : ℤ) → r ≤ℤ p → int_max (pos 0 -ℤ (pos 0 -ℤ pos 0)) (r -ℤ (p -ℤ pos 0)) ≡ pos 0
none_at r p h = omega (arith, ints, clamps)

times_zero : (t a : ℤ) → a ≡ pos 0 → t *ℤ a ≡ pos 0
times_zero t a e = ap (λ (b : ℤ). t *ℤ b) e ∙ (let q : t *ℤ pos 0 ≡ pos 0 = omega (arith, ints) in q)

times_one : (t a : ℤ) → a ≡ pos 1 → t *ℤ a ≡ t
times_one t a e = ap (λ (b : ℤ). t *ℤ b) e ∙ (let q : t *ℤ pos 1 ≡ t = omega (arith, ints) in q)

other_good : (k i : ℕ) → k ≢ i → eqb (suc k) (suc i) ≡ false
other_good k i h = grind (arith, nat_tests)

this_good : (i : ℕ) → eqb (suc i) (suc i) ≡ true
this_good i = grind (arith, nat_tests)

no_null : (i : ℕ) → eqb 0 (suc i) ≡ false
no_null i = grind (arith, nat_tests)

counted_none : (b : Bool) (a : ℤ) → b ≡ false → cond b a (pos 0) ≡ pos 0
counted_none b a e = ap (λ (c : Bool). cond c a (pos 0)) e

counted_more : (b : Bool) (a : ℤ) → pos 0 ≤ℤ a → cond b a (pos 0) ≤ℤ a
counted_more true a h = omega (arith, ints)
counted_more false a h = h

left_out : (b : Bool) (a : ℤ) → b ≡ true → a -ℤ cond b a (pos 0) ≡ pos 0
left_out b a e = ap (λ (c : Bool). a -ℤ cond c a (pos 0)) e ∙ (let q : a -ℤ a ≡ pos 0 = omega (arith, ints) in q)

module _ (supply reserve p table y : List ℤ) (long : length y ≡ length supply)
    (floor : (i : ℕ) → i < length supply → get_or reserve i (pos 0) ≤ℤ get_or p i (pos 0))
    (stock : (i : ℕ) → i < length supply → pos 0 ≤ℤ get_or supply i (pos 0))
    (t : IsTableOf (length supply) (seller_gain supply reserve) p table) where
  abbrev n : ℕ
  n = length supply

  -- the row's number of a set: of each good the supply times what a unit leaves there
  row-number : (set : ℕ) → set < 2 ^ suc n → number_of table set ≡ sum_to n (λ k. get_or supply k (pos 0) *ℤ unit_gain reserve (minus (with_null p) (members set)) (suc k))
  row-number set h =
      let e = t.numbers set h in
      let z = sum_to-zero n (λ k. get_or supply k (pos 0) *ℤ unit_gain reserve (with_null p) (suc k)) (λ k l. times_zero _ _ (flat_at _ _ (floor k l))) in
      omega (arith, ints)

  -- with the null choice it is the whole supply
  row-null : (set : ℕ) → set < 2 ^ suc n → members set 0 ≡ true → number_of table set ≡ total supply
  row-null set h e =
      row-number set h
      ∙ sum_to-same n _ (entries supply) (λ k l. times_one _ _
      (ap (λ (b : Bool). int_max (pos 0 -ℤ (pos 0 -ℤ bit b)) (get_or reserve k (pos 0) -ℤ (get_or p k (pos 0) -ℤ bit (members set (suc k))))) e
      ∙ null_at _ _ (members set (suc k)) (floor k l)))
      ∙ sym (total-is supply)

  whole-null : members (whole n) 0 ≡ true
  whole-null = ap (λ (m : ℕ). members m 0) (let g : suc n ≡ n + 1 = omega arith in ap (λ (k : ℕ). 2 ^ k - 1) g) ∙ whole_members n 0 (omega arith)

  null-is : null_share n table y ≡ total supply -ℤ total y
  null-is = let some : 0 < 2 ^ suc n = pow_pos (suc n) in ap (λ (a : ℤ). a -ℤ total y) (row-null (whole n) (omega arith) whole-null)

  -- what a set has of the returns
  share-is : (set : ℕ) → share_in n table y set ≡ cond (members set 0) (total supply -ℤ total y) (pos 0) +ℤ sum_to n (λ k. cond (members set (suc k)) (get_or y k (pos 0)) (pos 0))
  share-is set =
      sum_in-front (null_share n table y) y set
      ∙ ap₂ (λ (a : ℤ) (m : ℕ). cond (members set 0) a (pos 0) +ℤ sum_to m (λ k. cond (members set (suc k)) (get_or y k (pos 0)) (pos 0))) null-is long

  total-y : total y ≡ sum_to n (entries y)
  total-y = total-is y ∙ ap (λ (m : ℕ). sum_to m (entries y)) long

  within-where_lawful : AreLawfulReturns supply reserve p y → (b : Bool) (set : ℕ) → set < 2 ^ suc n → members set 0 ≡ b → share_in n table y set ≤ℤ number_of table set
  within-where_lawful law true set h e =
      let share = share-is set in
      let null = ap (λ (b : Bool). cond b (total supply -ℤ total y) (pos 0)) e in
      let number = row-null set h e in
      let some = sum_to-grows n (λ k. cond (members set (suc k)) (get_or y k (pos 0)) (pos 0)) (entries y) (λ k l. counted_more (members set (suc k)) (get_or y k (pos 0)) (law.some k l)) in
      let all = total-y in
      omega (arith, ints)
  within-where_lawful law false set h e =
      let share = share-is set in
      let null = ap (λ (b : Bool). cond b (total supply -ℤ total y) (pos 0)) e in
      let number = row-number set h in
      let some = sum_to-grows n (λ k. cond (members set (suc k)) (get_or y k (pos 0)) (pos 0)) (λ k. get_or supply k (pos 0) *ℤ unit_gain reserve (minus (with_null p) (members set)) (suc k))
      (λ k l.
      let q = reserve_at (get_or reserve k (pos 0)) (get_or p k (pos 0)) (get_or supply k (pos 0)) (get_or y k (pos 0)) (members set (suc k)) (floor k l) (stock k l) (law.most k l) (law.at_reserve k l) in
      let g = ap (λ (b : Bool). get_or supply k (pos 0) *ℤ int_max (pos 0 -ℤ (pos 0 -ℤ bit b)) (get_or reserve k (pos 0) -ℤ (get_or p k (pos 0) -ℤ bit (members set (suc k))))) e in
      omega (arith, ints)) in
      omega (arith, ints)

  -- lawful returns fit
  pub fits-where_lawful : AreLawfulReturns supply reserve p y → Fits n table y
  fits-where_lawful law = record { size = long; within = λ set h. within-where_lawful law (members set 0) set h refl }

  module _ (f : Fits n table y) (i : ℕ) (l : i < length supply) where
    -- the good alone
    alone : ℕ
    alone = mask_of (suc n) (only (suc i))

    alone-is : (k : ℕ) → k < suc n → members alone k ≡ eqb k (suc i)
    unfolding alone
    alone-is k h = mask_members (suc n) (only (suc i)) k h

    alone-below : alone < 2 ^ suc n
    unfolding alone
    alone-below = mask_below (suc n) (only (suc i))

    alone-share : share_in n table y alone ≡ get_or y i (pos 0)
    alone-share =
        let share = share-is alone in
        let null = counted_none (members alone 0) (total supply -ℤ total y) (alone-is 0 (omega arith) ∙ no_null i) in
        let one = sum_to-one n i (λ k. cond (members alone (suc k)) (get_or y k (pos 0)) (pos 0)) l (λ k q ne. counted_none _ _ (alone-is (suc k) (omega arith) ∙ other_good k i ne)) in
        let here = ap (λ (b : Bool). cond b (get_or y i (pos 0)) (pos 0)) (alone-is (suc i) (omega arith) ∙ this_good i) in
        omega (arith, ints)

    gain-is : (k : ℕ) (b : Bool) → members alone (suc k) ≡ b
        → unit_gain reserve (minus (with_null p) (members alone)) (suc k) ≡ int_max (pos 0 -ℤ (pos 0 -ℤ pos 0)) (get_or reserve k (pos 0) -ℤ (get_or p k (pos 0) -ℤ bit b))
    gain-is k b e = ap₂ (λ (a d : Bool). int_max (pos 0 -ℤ (pos 0 -ℤ bit a)) (get_or reserve k (pos 0) -ℤ (get_or p k (pos 0) -ℤ bit d))) (alone-is 0 (omega arith) ∙ no_null i) e

    alone-number : number_of table alone ≡ get_or supply i (pos 0) *ℤ int_max (pos 0 -ℤ (pos 0 -ℤ pos 0)) (get_or reserve i (pos 0) -ℤ (get_or p i (pos 0) -ℤ pos 1))
    alone-number =
        row-number alone alone-below
        ∙ sum_to-one n i _ l (λ k q ne. times_zero _ _ (gain-is k false (alone-is (suc k) (omega arith) ∙ other_good k i ne) ∙ none_at _ _ (floor k q)))
        ∙ ap (λ (a : ℤ). get_or supply i (pos 0) *ℤ a) (gain-is i true (alone-is (suc i) (omega arith) ∙ this_good i))

    alone-bound : (get_or y i (pos 0) ≤ℤ get_or supply i (pos 0)) × (pos 0 <ℤ get_or y i (pos 0) → get_or p i (pos 0) ≡ get_or reserve i (pos 0))
    alone-bound = one_at (get_or reserve i (pos 0)) (get_or p i (pos 0)) (get_or supply i (pos 0)) (get_or y i (pos 0)) (floor i l) (stock i l)
        (let h = f.within alone alone-below in let a = alone-share in let b = alone-number in omega (arith, ints))

    -- every choice but the good
    others : ℕ
    others = mask_of (suc n) (outside (only (suc i)))

    others-is : (k : ℕ) → k < suc n → members others k ≡ not (eqb k (suc i))
    unfolding others
    others-is k h = mask_members (suc n) (outside (only (suc i))) k h

    others-below : others < 2 ^ suc n
    unfolding others
    others-below = mask_below (suc n) (outside (only (suc i)))

    others-null : members others 0 ≡ true
    others-null = others-is 0 (omega arith) ∙ ap not (no_null i)

    others-bound : pos 0 ≤ℤ get_or y i (pos 0)
    others-bound =
        let h = f.within others others-below in
        let share = share-is others in
        let null = ap (λ (b : Bool). cond b (total supply -ℤ total y) (pos 0)) others-null in
        let number = row-null others others-below others-null in
        let rest = sum_to-difference n (entries y) (λ k. cond (members others (suc k)) (get_or y k (pos 0)) (pos 0)) in
        let one = sum_to-one n i (λ k. entries y k -ℤ cond (members others (suc k)) (get_or y k (pos 0)) (pos 0)) l
        (λ k q ne. left_out (members others (suc k)) (get_or y k (pos 0)) (others-is (suc k) (omega arith) ∙ ap not (other_good k i ne))) in
        let here = counted_none (members others (suc i)) (get_or y i (pos 0)) (others-is (suc i) (omega arith) ∙ ap not (this_good i)) in
        let all = total-y in
        omega (arith, ints)

  -- returns that fit are lawful
  pub lawful-where_fits : Fits n table y → AreLawfulReturns supply reserve p y
  lawful-where_fits f = record { size = long; some = λ i l. others-bound f i l; most = λ i l. (alone-bound f i l).0; at_reserve = λ i l. (alone-bound f i l).1 }
