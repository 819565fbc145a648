-- Why a bidder with a cap keeps the laws of a member. For proofs; no public clause rests on it.
use Rattle.std.specs.Prelude.{◌≡◌, ◌≢◌, ℕ, zero, suc, ◌≤◌, false, List, [], ◌∷◌, ℤ, pos, ◌+ℤ◌, ◌-ℤ◌, ◌*ℤ◌, ◌≤ℤ◌, Option, Some, None, length, min}
use Rattle.std.specs.Int.{int_max}
use Rattle.std.specs.Int.RustNames.{unsigned_abs}
use Rattle.std.proofs.Common.{eqb, refl, arith, ap, ap₂, subst, ◌∙◌, sym}
use Rattle.std.proofs.lemmas.Int.{ints, clamps}
use Rattle.std.proofs.lemmas.Bool.Decides.{nat_tests}
use Rattle.std.proofs.lemmas.List.Elements.{All-head, All-tail}
use Rattle.std.proofs.Math.IntN.{zero-*ℤ}
use Rattle.mix_num.specs.Vectors.{Vector, bit, only, plus}
use Rattle.mix_num.proofs.Products.{*ℤ-sum, *ℤ-difference}
use Rattle.mix_bids.specs.Offers.{Offers, better, gain, gain_from, later, offer}
use Rattle.mix_bids.specs.Bids.{AreBids, top_value, total_weight, utility}
use Rattle.mix_bids.specs.Caps.{ArePositive, IsPositive, capped_total, capped_utility, left_over, sum_of_first, units}
use Rattle.mix_bids.specs.declared.bid.Bid.{Bid}
use Rattle.mix_bids.proofs.Far.{utility_far}
use Rattle.mix_bids.proofs.Gains.{gain_is, offered_within}
use Rattle.mix_bids.proofs.Lengths.{AreOver, first_over, over_of, rest_over}
use Rattle.mix_bids.proofs.PositiveBids.{count_is, gain_of, none_negative_of_positive, rest-units, units_least, weight_is}
use Rattle.mix_bids.proofs.Units.{AreAtLeast, AreAtMost, at_most_times, first_at_most, length-units, lifted-units, lifted_sum, one_more, threshold, units_fall}
use Rattle.mix_law.specs.Members.{IsLNatural, KeepsLocal, excess}
use Rattle.mix_law.proofs.LeastNulls.{IsLeastBelow, at_null, least_far, least_keeps}
use Rattle.mix_law.proofs.Ranges.{excess_covers, excess_nonnegative}
use Rattle.mix_validity.specs.Laws.{list_keeps}

-- ---- the null choice at a lower price
gain_from-max : (vs : Offers) (x : Vector) (g h : ℤ) → gain_from vs x (int_max g h) ≡ int_max (gain_from vs x g) h
gain_from-max [] x g h = refl
gain_from-max (None ∷ vs) x g h = gain_from-max vs (later x) g h
gain_from-max (Some v ∷ vs) x g h = let e = gain_from-max vs (later x) g h in omega (arith, ints, clamps)

gain-null : (vs : Offers) (y : ℤ) (x : Vector) → y ≤ℤ x 0 → gain vs (at_null y x) ≡ int_max (gain vs x) (pos 0 -ℤ y)
gain-null vs y x h =
    let e : pos 0 -ℤ y ≡ int_max (pos 0 -ℤ x 0) (pos 0 -ℤ y) = omega (arith, ints, clamps) in
    ap (gain_from vs (later x)) e ∙ gain_from-max vs (later x) (pos 0 -ℤ x 0) (pos 0 -ℤ y)

-- there the indirect utility has each gain raised to what the null choice leaves
utility-null : (bs : List Bid) (y : ℤ) (x : Vector) → ArePositive bs → y ≤ℤ x 0 → utility bs (at_null y x) ≡ lifted_sum (pos 0 -ℤ y) (gain_of x) bs
utility-null [] y x p h = refl
utility-null (b ∷ bs) y x p h =
    let w = weight_is b.weight (All-head IsPositive b bs p) in
    let g = gain-null b.values.items y x h in
    ap₂ (λ (u v : ℤ). u +ℤ v) (ap₂ (λ (u v : ℤ). u *ℤ v) (sym w) g) (utility-null bs y x (All-tail IsPositive b bs p) h)

-- ---- the least over the null choice's price
-- the indirect utility, with the price of the null choice for each unit that is left over
abbrev pub with_left_over : ℕ → List Bid → Vector → ℤ
with_left_over c bs z = utility bs z +ℤ (pos (left_over c bs) *ℤ z 0)

opposite : (m : ℕ) (y : ℤ) → pos m *ℤ (pos 0 -ℤ y) ≡ pos 0 -ℤ (pos m *ℤ y)
opposite m y = let e = *ℤ-difference (pos m) (pos 0) y in omega (arith, ints)

-- the capped utility is the least of it over the prices of the null choice at or below its own
pub capped_least : (c : ℕ) (bs : List Bid) → ArePositive bs → (x : Vector) → IsLeastBelow (capped_utility c bs) (with_left_over c bs) x
capped_least c bs p x =
    let us = units (gain_of x) bs in
    let r = rest-units c bs x in
    let t = threshold (pos 0 -ℤ x 0) c us (units_least bs x) (units_fall (gain_of x) bs) in
    let z = t.0 in
    let i = t.1 in
    let a = i.above in
    let low : (pos 0 -ℤ z) ≤ℤ x 0 = omega (arith, ints) in
    record {
      least = λ y h.
          let f = first_at_most (pos 0 -ℤ y) c us in
          let u = utility-null bs y x p h in
          let l = lifted-units (pos 0 -ℤ y) (gain_of x) bs in
          let e = ap (λ (k : ℕ). pos k *ℤ (pos 0 -ℤ y)) r in
          let o = opposite (left_over c bs) y in
          omega (arith, ints);
      null = pos 0 -ℤ z;
      below = low;
      attained =
          let f = i.attained in
          let u = utility-null bs (pos 0 -ℤ z) x p low in
          let back : pos 0 -ℤ (pos 0 -ℤ z) ≡ z = omega (arith, ints) in
          let b = ap (λ (k : ℤ). lifted_sum k (gain_of x) bs) back in
          let l = lifted-units z (gain_of x) bs in
          let e = ap (λ (k : ℕ). pos k *ℤ z) r in
          let o = opposite (left_over c bs) z in
          omega (arith, ints);
    }

-- ---- the laws
left_over_keeps : (n c : ℕ) (bs : List Bid) → AreOver n bs → ArePositive bs → KeepsLocal n (with_left_over c bs) (total_weight bs -ℤ pos (left_over c bs))
left_over_keeps n c bs o p =
    let keeps = list_keeps n bs o (none_negative_of_positive n bs p) in
    let m = pos (left_over c bs) in
    record {
      reads = λ x y a. let r = keeps.reads x y a in let e = ap (λ (z : ℤ). m *ℤ z) (a 0 (omega arith)) in omega (arith, ints);
      shift = λ x k.
          let s = keeps.shift x k in
          let e = *ℤ-sum m (x 0) k in
          let d = *ℤ-difference k (total_weight bs) m in
          let q = swap m k in
          omega (arith, ints);
      local = λ x i j a b d.
          let l = keeps.local x i j a b d in
          let s = bit (only i 0) in
          let t = bit (only j 0) in
          let e = *ℤ-sum m (x 0) s in
          let f = *ℤ-sum m (x 0) t in
          let g = *ℤ-sum m (x 0 +ℤ s) t in
          omega (arith, ints);
    }
  where
    swap : (a b : ℤ) → a *ℤ b ≡ b *ℤ a
    swap a b = omega (arith, ints)

total_left : (c : ℕ) (bs : List Bid) → ArePositive bs → total_weight bs -ℤ pos (left_over c bs) ≡ capped_total c bs
total_left c bs p = let e = count_is bs p in omega (arith, ints, clamps)

-- what most facts rest on, whatever the values
pub capped_keeps : (n c : ℕ) (bs : List Bid) → AreOver n bs → ArePositive bs → KeepsLocal n (capped_utility c bs) (capped_total c bs)
capped_keeps n c bs o p = subst (KeepsLocal n (capped_utility c bs)) (total_left c bs p) (least_keeps (left_over_keeps n c bs o p) (capped_least c bs p))

capped_far : (n c : ℕ) (bs : List Bid) → AreOver n bs → ArePositive bs → (x : Vector) (i : ℕ) → 1 ≤ i → top_value bs i ≤ℤ (x i -ℤ x 0) → capped_utility c bs (plus x (only i)) ≡ capped_utility c bs x
capped_far n c bs o p x zero l h = absurd (omega arith)
capped_far n c bs o p x (suc i) l h = least_far (left_over_keeps n c bs o p) (capped_least c bs p) x (suc i) l (λ y b.
    let some : suc i ≢ 0 = λ e. absurd (omega arith) in
    let f = utility_far n bs (at_null y x) (suc i) o some (omega (arith, ints)) in
    let e = ap (λ (z : ℤ). pos (left_over c bs) *ℤ z) (same y) in
    omega (arith, ints))
  where
    same : (y : ℤ) → y +ℤ bit (eqb 0 (suc i)) ≡ y
    same y = let e : eqb 0 (suc i) ≡ false = grind (arith, nat_tests) in let f = ap bit e in omega (arith, ints)

-- ---- the size
first_top : (o : Option ℤ) (g m : ℤ) → better o (pos 0) g ≤ℤ m → (v : ℤ) → o ≡ Some v → v ≤ℤ m
first_top None g m h v e = absurd (cc)
first_top (Some u) g m h v e = let q : u ≡ v = cc in omega (arith, ints, clamps)

rest_top : (o : Option ℤ) (g m : ℤ) → better o (pos 0) g ≤ℤ m → g ≤ℤ m
rest_top None g m h = h
rest_top (Some u) g m h = omega (arith, ints, clamps)

-- a gain is at most the excess of the tops
pub gain_at_most : (n : ℕ) (vs : Offers) (x : Vector) (m : ℤ) → length vs ≤ n → x 0 ≡ pos 0 → pos 0 ≤ℤ m → ((i : ℕ) (v : ℤ) → 1 ≤ i → i ≤ n → offer vs i ≡ Some v → (v -ℤ x i) ≤ℤ m) → gain vs x ≤ℤ m
gain_at_most n vs x m l null low h = let r = gain_is vs x in at r.place r.value r.offered r.reached
  where
    at : (k : ℕ) (v : ℤ) → offer vs k ≡ Some v → v -ℤ x k ≡ gain vs x → gain vs x ≤ℤ m
    at zero v o e = let q : pos 0 ≡ v = cc in omega (arith, ints)
    at (suc k) v o e = let q = h (suc k) v (omega arith) (omega (arith, offered_within vs (suc k) v o)) o in omega (arith, ints)

units_at_most : (n : ℕ) (bs : List Bid) (x : Vector) (top : ℕ → ℤ) → AreOver n bs → x 0 ≡ pos 0 → ((i : ℕ) → 1 ≤ i → top_value bs i ≤ℤ top i) → AreAtMost (excess n top x) (units (gain_of x) bs)
units_at_most n [] x top o null h = tt
units_at_most n (b ∷ bs) x top o null h =
    let l : length b.values.items ≤ n = omega (arith, first_over n b bs o) in
    at_most_times (excess n top x) (unsigned_abs b.weight) (gain b.values.items x) (units (gain_of x) bs)
    (gain_at_most n b.values.items x (excess n top x) l null (excess_nonnegative n top x) (λ i v f m e.
    let c = excess_covers n top x i f m in
    let t = first_top (offer b.values.items i) (top_value bs i) (top i) (h i f) v e in
    omega (arith, ints)))
    (units_at_most n bs x top (rest_over n b bs o) null (λ i f. rest_top (offer b.values.items i) (top_value bs i) (top i) (h i f)))

-- the first c numbers, none of them negative nor above m
first_range : (c : ℕ) (us : List ℤ) (m : ℤ) → pos 0 ≤ℤ m → AreAtLeast (pos 0) us → AreAtMost m us → (pos 0 ≤ℤ sum_of_first c us) × (sum_of_first c us ≤ℤ (pos (min c (length us)) *ℤ m))
first_range zero us m low a b = let e : min 0 (length us) ≡ 0 = omega arith in let f = ap (λ (k : ℕ). pos k *ℤ m) e in let z = zero-*ℤ m in (omega (arith, ints), omega (arith, ints))
first_range (suc c) [] m low a b = let e : min (suc c) (length {A = ℤ} []) ≡ 0 = omega arith in let f = ap (λ (k : ℕ). pos k *ℤ m) e in let z = zero-*ℤ m in (omega (arith, ints), omega (arith, ints))
first_range (suc c) (u ∷ us) m low a b =
    let r = first_range c us m low a.1 b.1 in
    let e : min (suc c) (length (u ∷ us)) ≡ suc (min c (length us)) = omega arith in
    let f = ap (λ (k : ℕ). pos k *ℤ m) e in
    let o = one_more (min c (length us)) m in
    let p = a.0 in
    let q = b.0 in
    (omega (arith, ints, r.0), omega (arith, ints, r.1))

least_same : (m : ℤ) (us : List ℤ) (k : ℤ) → k ≡ m → AreAtLeast k us → AreAtLeast m us
least_same m us k e a = subst (λ (z : ℤ). AreAtLeast z us) e a

capped_size : (n c : ℕ) (bs : List Bid) → AreOver n bs → ArePositive bs → (x : Vector) → x 0 ≡ pos 0 → (pos 0 ≤ℤ capped_utility c bs x) × (capped_utility c bs x ≤ℤ (capped_total c bs *ℤ excess n (top_value bs) x))
capped_size n c bs o p x null =
    let us = units (gain_of x) bs in
    let e = excess n (top_value bs) x in
    let none : pos 0 -ℤ x 0 ≡ pos 0 = omega (arith, ints) in
    let r = first_range c us e (excess_nonnegative n (top_value bs) x) (least_same (pos 0) us (pos 0 -ℤ x 0) none (units_least bs x)) (units_at_most n bs x (top_value bs) o null (λ i f. omega (arith, ints))) in
    let l = length-units (gain_of x) bs in
    let w = count_is bs p in
    let m : pos (min c (length us)) ≡ capped_total c bs = omega (arith, ints, clamps) in
    let q = ap (λ (k : ℤ). k *ℤ e) m in
    (r.0, omega (arith, ints, r.1))

-- a capped bidder is a member: its total is the capped total, and its tops are the greatest values offered
pub capped_l_natural : (n c : ℕ) (bs : List Bid) → AreBids n bs → ArePositive bs → IsLNatural n (capped_utility c bs) (capped_total c bs) (top_value bs)
capped_l_natural n c bs are p =
    let o = over_of n bs are in
    let keeps = capped_keeps n c bs o p in
    record {
      reads = keeps.reads;
      shift = keeps.shift;
      local = keeps.local;
      far = λ x i l m h. capped_far n c bs o p x i l h;
      size = capped_size n c bs o p;
    }
