-- Which thresholds tell the sum of the first: one that at most c numbers pass, and that is reached by c numbers, or by all where there are no more.
use Rattle.std.proofs.Common.{◌≡◌, ℕ, zero, suc, ◌+◌, ◌≤◌, Bool, true, false, cond, List, [], ◌∷◌, ℤ, pos, negsuc, ◌+ℤ◌, ◌-ℤ◌, ◌*ℤ◌, ◌≤ℤ◌, ◌<ℤ◌, refl, arith, ap, subst, length, min, int_lt}
use Rattle.std.proofs.lemmas.Int.{ints, clamps, by_lt_z}
use Rattle.std.proofs.lemmas.List.Elements.{All-head, All-tail}
use Rattle.std.proofs.Math.IntN.{zero-*ℤ}
use Rattle.std.specs.Int.{int_max, int_min}
use Rattle.std.specs.Int.RustNames.{unsigned_abs}
use Rattle.mix_bids.specs.Bids.{weight_where}
use Rattle.mix_bids.specs.declared.bid.Bid.{Bid}
use Rattle.mix_num.specs.Vectors.{Vector}
use Rattle.mix_bids.specs.Caps.{ArePositive, IsPositive, capped_utility, left_over, placed, placed_times, sum_of_first, units}
use Rattle.mix_bids.proofs.Units.{AreAtLeast, AreAtMost, IsFalling, lifted, lifted-units, lifted_sum, none_lifted, rest, rest-all, rest-more, rest-none, units_fall}
use Rattle.mix_bids.proofs.PositiveBids.{gain_of, rest-units, units_least, weight_is}

-- 1 where a number passes the threshold
abbrev pub passes : ℤ → ℤ → ℕ
passes z u = cond (int_lt z u) 1 0

passes_above : (z u : ℤ) → z <ℤ u → passes z u ≡ 1
passes_above z u h = grind (arith, ints)

passes_not : (z u : ℤ) → u ≤ℤ z → passes z u ≡ 0
passes_not z u h = grind (arith, ints)

-- how many numbers pass the threshold
abbrev pub count_above : ℤ → List ℤ → ℕ
count_above z [] = 0
count_above z (u ∷ us) = passes z u + count_above z us

passes_both : (z g h : ℤ) → passes z (int_max g h) + passes z (int_min g h) ≡ passes z g + passes z h
passes_both z g h = by_lt_z g h
    (λ l. let p : int_max g h ≡ h = omega (arith, ints, clamps) in let q : int_min g h ≡ g = omega (arith, ints, clamps) in let a = ap (passes z) p in let b = ap (passes z) q in omega arith)
    (λ l. let p : int_max g h ≡ g = omega (arith, ints, clamps) in let q : int_min g h ≡ h = omega (arith, ints, clamps) in let a = ap (passes z) p in let b = ap (passes z) q in omega arith)

above-placed : (z g : ℤ) (us : List ℤ) → count_above z (placed g us) ≡ passes z g + count_above z us
above-placed z g [] = refl
above-placed z g (u ∷ us) = let h = above-placed z (int_min g u) us in let p = passes_both z g u in omega arith

above-times : (z : ℤ) (m : ℕ) (g : ℤ) (us : List ℤ) → pos (count_above z (placed_times m g us)) ≡ cond (int_lt z g) (pos m) (pos 0) +ℤ pos (count_above z us)
above-times z zero g us = at (int_lt z g)
  where
    at : (b : Bool) → pos (count_above z us) ≡ cond b (pos 0) (pos 0) +ℤ pos (count_above z us)
    at true = omega (arith, ints)
    at false = omega (arith, ints)
above-times z (suc m) g us = at (int_lt z g) (above-placed z g (placed_times m g us)) (above-times z m g us)
  where
    at : (b : Bool) → count_above z (placed g (placed_times m g us)) ≡ cond b 1 0 + count_above z (placed_times m g us) → pos (count_above z (placed_times m g us)) ≡ cond b (pos m) (pos 0) +ℤ pos (count_above z us)
        → pos (count_above z (placed g (placed_times m g us))) ≡ cond b (pos (suc m)) (pos 0) +ℤ pos (count_above z us)
    at true p q = omega (arith, ints)
    at false p q = omega (arith, ints)

-- the units that pass are those of the bids whose measure does
pub above-units : (z : ℤ) (key : Bid → ℤ) (bs : List Bid) → ArePositive bs → pos (count_above z (units key bs)) ≡ weight_where (λ b. int_lt z (key b)) bs
above-units z key [] p = refl
above-units z key (b ∷ bs) p =
    let w = weight_is b.weight (All-head IsPositive b bs p) in
    let h = above-units z key bs (All-tail IsPositive b bs p) in
    let t = above-times z (unsigned_abs b.weight) (key b) (units key bs) in
    let e = ap (λ (a : ℤ). cond (int_lt z (key b)) a (pos 0)) w in
    omega (arith, ints)

none_pass : (z m : ℤ) (us : List ℤ) → m ≤ℤ z → AreAtMost m us → count_above z us ≡ 0
none_pass z m [] h a = refl
none_pass z m (u ∷ us) h a = let l = a.0 in let p = passes_not z u (omega (arith, ints)) in let r = none_pass z m us h a.1 in omega arith

all_pass : (z : ℤ) (us : List ℤ) → AreAtLeast (z +ℤ pos 1) us → count_above z us ≡ length us
all_pass z [] a = refl
all_pass z (u ∷ us) a = let l = a.0 in let p = passes_above z u (omega (arith, ints)) in let r = all_pass z us a.1 in omega arith

none_above : (z : ℤ) (us : List ℤ) → count_above z us ≡ 0 → AreAtMost z us
none_above z [] h = tt
none_above z (u ∷ us) h = (by_lt_z z u (λ l. let p = passes_above z u l in absurd (omega arith)) (λ l. l), none_above z us (omega arith))

-- the threshold is reached by c numbers or all, and passed by c at most
pub told_by : (z : ℤ) (c : ℕ) (us : List ℤ) → IsFalling us → count_above z us ≤ c → min c (length us) ≤ count_above (z -ℤ pos 1) us → sum_of_first c us ≡ lifted z us -ℤ (pos (rest c us) *ℤ z)
told_by z zero us f low high =
    let n = none_lifted z us (none_above z us (omega arith)) in
    let e = ap (λ (k : ℕ). pos k *ℤ z) (rest-all us) in
    omega (arith, ints)
told_by z (suc c) [] f low high = let e = ap (λ (k : ℕ). pos k *ℤ z) (rest-none (suc c)) in let o = zero-*ℤ z in omega (arith, ints)
told_by z (suc c) (u ∷ us) f low high =
    by_lt_z z u
    (λ l.
    let p = passes_above z u l in
    let q = passes_above (z -ℤ pos 1) u (omega (arith, ints)) in
    let h = told_by z c us f.1 (omega arith) (omega arith) in
    let e = ap (λ (k : ℕ). pos k *ℤ z) (rest-more c u us) in
    omega (arith, ints, clamps))
    (λ l. by_lt_z u z
    (λ m. let n = none_pass (z -ℤ pos 1) u (u ∷ us) (omega (arith, ints)) (omega (arith, ints), f.0) in absurd (omega arith))
    (λ m.
    let q = passes_above (z -ℤ pos 1) u (omega (arith, ints)) in
    let n = none_pass z u us l f.0 in
    let h = told_by z c us f.1 (omega arith) (omega arith) in
    let e = ap (λ (k : ℕ). pos k *ℤ z) (rest-more c u us) in
    omega (arith, ints, clamps)))

-- the least threshold that at most c units pass is reached by c units, or by all
pub reached : (c z : ℕ) (bs : List Bid) (x : Vector) → ArePositive bs → x 0 ≡ pos 0 → ((k : ℕ) → z ≡ suc k → pos c <ℤ weight_where (λ b. int_lt (pos k) (gain_of x b)) bs)
    → min c (length (units (gain_of x) bs)) ≤ count_above (pos z -ℤ pos 1) (units (gain_of x) bs)
reached c zero bs x p null h = let a = all_pass (negsuc 0) (units (gain_of x) bs) least in omega arith
  where
    least : AreAtLeast (negsuc 0 +ℤ pos 1) (units (gain_of x) bs)
    least = let e : pos 0 -ℤ x 0 ≡ negsuc 0 +ℤ pos 1 = omega (arith, ints) in subst (λ (m : ℤ). AreAtLeast m (units (gain_of x) bs)) e (units_least bs x)
reached c (suc k) bs x p null h =
    let a = above-units (pos k) (gain_of x) bs p in
    let l = h k refl in
    let e : pos (suc k) -ℤ pos 1 ≡ pos k = omega (arith, ints) in
    let f = ap (λ (m : ℤ). count_above m (units (gain_of x) bs)) e in
    omega (arith, ints)

-- so it tells the capped utility where the null choice's price is 0
pub capped_by : (c z : ℕ) (bs : List Bid) (x : Vector) → ArePositive bs → x 0 ≡ pos 0 → weight_where (λ b. int_lt (pos z) (gain_of x b)) bs ≤ℤ pos c
    → ((k : ℕ) → z ≡ suc k → pos c <ℤ weight_where (λ b. int_lt (pos k) (gain_of x b)) bs)
    → capped_utility c bs x ≡ lifted_sum (pos z) (gain_of x) bs -ℤ (pos (left_over c bs) *ℤ pos z)
capped_by c z bs x p null low high =
    let us = units (gain_of x) bs in
    let a = above-units (pos z) (gain_of x) bs p in
    let t = told_by (pos z) c us (units_fall (gain_of x) bs) (omega (arith, ints)) (reached c z bs x p null high) in
    let l = lifted-units (pos z) (gain_of x) bs in
    let e = ap (λ (k : ℕ). pos k *ℤ pos z) (rest-units c bs x) in
    omega (arith, ints)
