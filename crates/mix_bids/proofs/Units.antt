-- Numbers in falling order: what the first of them add up to is the least, over thresholds, of what all add up to where each is raised
-- to the threshold, less the threshold for each that isn't among the first.
use Rattle.std.proofs.Common.{◌≡◌, ℕ, zero, suc, ◌+◌, ◌-◌, List, [], ◌∷◌, ℤ, pos, ◌+ℤ◌, ◌-ℤ◌, ◌*ℤ◌, ◌≤ℤ◌, refl, arith, ap, ◌∙◌, length}
use Rattle.std.proofs.lemmas.Int.{ints, clamps}
use Rattle.std.proofs.Math.IntN.{zero-*ℤ}
use Rattle.std.specs.Int.{int_min, int_max}
use Rattle.std.specs.Int.RustNames.{unsigned_abs}
use Rattle.mix_num.proofs.Products.{sum-*ℤ}
use Rattle.mix_bids.specs.declared.bid.Bid.{Bid}
use Rattle.mix_bids.specs.Caps.{count, placed, placed_times, sum_of_first, units}

-- none of the numbers is above m
abbrev pub AreAtMost : ℤ → List ℤ → Type 0
AreAtMost m [] = Unit {0}
AreAtMost m (u ∷ us) = (u ≤ℤ m) × AreAtMost m us

-- none is below m
abbrev pub AreAtLeast : ℤ → List ℤ → Type 0
AreAtLeast m [] = Unit {0}
AreAtLeast m (u ∷ us) = (m ≤ℤ u) × AreAtLeast m us

-- no number is above one before it
abbrev pub IsFalling : List ℤ → Type 0
IsFalling [] = Unit {0}
IsFalling (u ∷ us) = AreAtMost u us × IsFalling us

-- what the numbers add up to where each is raised to z at least
abbrev pub lifted : ℤ → List ℤ → ℤ
lifted z [] = pos 0
lifted z (u ∷ us) = int_max u z +ℤ lifted z us

-- one number more
at_most_placed : (m g : ℤ) (us : List ℤ) → g ≤ℤ m → AreAtMost m us → AreAtMost m (placed g us)
at_most_placed m g [] h a = (h, tt)
at_most_placed m g (u ∷ us) h a = let l = a.0 in (omega (arith, ints, clamps), at_most_placed m (int_min g u) us (omega (arith, ints, clamps)) a.1)

at_least_placed : (m g : ℤ) (us : List ℤ) → m ≤ℤ g → AreAtLeast m us → AreAtLeast m (placed g us)
at_least_placed m g [] h a = (h, tt)
at_least_placed m g (u ∷ us) h a = let l = a.0 in (omega (arith, ints, clamps), at_least_placed m (int_min g u) us (omega (arith, ints, clamps)) a.1)

at_most_weaker : (m k : ℤ) (us : List ℤ) → m ≤ℤ k → AreAtMost m us → AreAtMost k us
at_most_weaker m k [] h a = tt
at_most_weaker m k (u ∷ us) h a = let l = a.0 in (omega (arith, ints), at_most_weaker m k us h a.1)

falling_placed : (g : ℤ) (us : List ℤ) → IsFalling us → IsFalling (placed g us)
falling_placed g [] f = (tt, tt)
falling_placed g (u ∷ us) f = (
  at_most_placed (int_max g u) (int_min g u) us (omega (arith, ints, clamps)) (at_most_weaker u (int_max g u) us (omega (arith, ints, clamps)) f.0),
  falling_placed (int_min g u) us f.1,
)

length-placed : (g : ℤ) (us : List ℤ) → length (placed g us) ≡ suc (length us)
length-placed g [] = refl
length-placed g (u ∷ us) = let h = length-placed (int_min g u) us in omega arith

lifted-placed : (z g : ℤ) (us : List ℤ) → lifted z (placed g us) ≡ int_max g z +ℤ lifted z us
lifted-placed z g [] = refl
lifted-placed z g (u ∷ us) = let h = lifted-placed z (int_min g u) us in omega (arith, ints, clamps)

-- one number m times more
falling_times : (m : ℕ) (g : ℤ) (us : List ℤ) → IsFalling us → IsFalling (placed_times m g us)
falling_times zero g us f = f
falling_times (suc m) g us f = falling_placed g (placed_times m g us) (falling_times m g us f)

pub at_most_times : (k : ℤ) (m : ℕ) (g : ℤ) (us : List ℤ) → g ≤ℤ k → AreAtMost k us → AreAtMost k (placed_times m g us)
at_most_times k zero g us h a = a
at_most_times k (suc m) g us h a = at_most_placed k g (placed_times m g us) h (at_most_times k m g us h a)

pub at_least_times : (k : ℤ) (m : ℕ) (g : ℤ) (us : List ℤ) → k ≤ℤ g → AreAtLeast k us → AreAtLeast k (placed_times m g us)
at_least_times k zero g us h a = a
at_least_times k (suc m) g us h a = at_least_placed k g (placed_times m g us) h (at_least_times k m g us h a)

length-times : (m : ℕ) (g : ℤ) (us : List ℤ) → length (placed_times m g us) ≡ m + length us
length-times zero g us = omega arith
length-times (suc m) g us = let h = length-times m g us in let p = length-placed g (placed_times m g us) in omega arith

pub one_more : (m : ℕ) (a : ℤ) → pos (suc m) *ℤ a ≡ a +ℤ (pos m *ℤ a)
one_more m a =
    let i : pos (suc m) ≡ pos 1 +ℤ pos m = omega (arith, ints) in
    let e = ap (λ (z : ℤ). z *ℤ a) i ∙ sum-*ℤ (pos 1) (pos m) a in
    omega (arith, ints)

lifted-times : (z : ℤ) (m : ℕ) (g : ℤ) (us : List ℤ) → lifted z (placed_times m g us) ≡ (pos m *ℤ int_max g z) +ℤ lifted z us
lifted-times z zero g us = let e = zero-*ℤ (int_max g z) in omega (arith, ints)
lifted-times z (suc m) g us =
    let h = lifted-times z m g us in
    let p = lifted-placed z g (placed_times m g us) in
    let o = one_more m (int_max g z) in
    omega (arith, ints)

-- ---- the units of bids
pub units_fall : (key : Bid → ℤ) (bs : List Bid) → IsFalling (units key bs)
units_fall key [] = tt
units_fall key (b ∷ bs) = falling_times (unsigned_abs b.weight) (key b) (units key bs) (units_fall key bs)

pub length-units : (key : Bid → ℤ) (bs : List Bid) → length (units key bs) ≡ count bs
length-units key [] = refl
length-units key (b ∷ bs) = let h = length-units key bs in let t = length-times (unsigned_abs b.weight) (key b) (units key bs) in omega arith

-- the sum over the bids of the weight times the measure, raised to z at least
abbrev pub lifted_sum : ℤ → (Bid → ℤ) → List Bid → ℤ
lifted_sum z key [] = pos 0
lifted_sum z key (b ∷ bs) = (pos (unsigned_abs b.weight) *ℤ int_max (key b) z) +ℤ lifted_sum z key bs

pub lifted-units : (z : ℤ) (key : Bid → ℤ) (bs : List Bid) → lifted z (units key bs) ≡ lifted_sum z key bs
lifted-units z key [] = refl
lifted-units z key (b ∷ bs) = let h = lifted-units z key bs in let t = lifted-times z (unsigned_abs b.weight) (key b) (units key bs) in omega (arith, ints)

-- ---- the sum of the first, by a threshold
all_lifted : (z : ℤ) (us : List ℤ) → (pos (length us) *ℤ z) ≤ℤ lifted z us
all_lifted z [] = let e = zero-*ℤ z in omega (arith, ints)
all_lifted z (u ∷ us) = let h = all_lifted z us in let o = one_more (length us) z in omega (arith, ints, clamps)

-- the numbers that aren't among the first c, counted
abbrev pub rest : ℕ → List ℤ → ℕ
rest c us = length us - c

pub rest-more : (c : ℕ) (u : ℤ) (us : List ℤ) → rest (suc c) (u ∷ us) ≡ rest c us
rest-more c u us = omega arith

pub rest-none : (c : ℕ) → rest c [] ≡ 0
rest-none c = omega arith

pub rest-all : (us : List ℤ) → rest 0 us ≡ length us
rest-all us = omega arith

-- no threshold gives less
pub first_at_most : (z : ℤ) (c : ℕ) (us : List ℤ) → sum_of_first c us ≤ℤ (lifted z us -ℤ (pos (rest c us) *ℤ z))
first_at_most z zero us = let h = all_lifted z us in let e = ap (λ (k : ℕ). pos k *ℤ z) (rest-all us) in omega (arith, ints)
first_at_most z (suc c) [] = let e = ap (λ (k : ℕ). pos k *ℤ z) (rest-none (suc c)) in let o = zero-*ℤ z in omega (arith, ints)
first_at_most z (suc c) (u ∷ us) =
    let h = first_at_most z c us in
    let e = ap (λ (k : ℕ). pos k *ℤ z) (rest-more c u us) in
    omega (arith, ints, clamps)

-- a threshold from low on that gives no more
pub record IsThreshold (low : ℤ) (c : ℕ) (us : List ℤ) (z : ℤ) : Type 0 where
  pub above : low ≤ℤ z
  pub within : (m : ℤ) → low ≤ℤ m → AreAtMost m us → z ≤ℤ m
  pub attained : sum_of_first c us ≡ lifted z us -ℤ (pos (rest c us) *ℤ z)

pub none_lifted : (z : ℤ) (us : List ℤ) → AreAtMost z us → lifted z us ≡ pos (length us) *ℤ z
none_lifted z [] a = let e = zero-*ℤ z in omega (arith, ints)
none_lifted z (u ∷ us) a = let h = none_lifted z us a.1 in let o = one_more (length us) z in let l = a.0 in omega (arith, ints, clamps)

pub threshold : (low : ℤ) (c : ℕ) (us : List ℤ) → AreAtLeast low us → IsFalling us → (z : ℤ) × IsThreshold low c us z
threshold low zero [] a f = (low, record { above = omega (arith, ints); within = λ m h l. h; attained = let e = ap (λ (k : ℕ). pos k *ℤ low) (rest-none 0) in let o = zero-*ℤ low in omega (arith, ints) })
threshold low zero (u ∷ us) a f = (
  u,
  record {
    above = a.0;
    within = λ m h l. l.0;
    attained =
        let n = none_lifted u us f.0 in
        let o = one_more (length us) u in
        let e = ap (λ (k : ℕ). pos k *ℤ u) (rest-all (u ∷ us)) in
        omega (arith, ints, clamps);
  },
)
threshold low (suc c) [] a f = (low, record { above = omega (arith, ints); within = λ m h l. h; attained = let e = ap (λ (k : ℕ). pos k *ℤ low) (rest-none (suc c)) in let o = zero-*ℤ low in omega (arith, ints) })
threshold low (suc c) (u ∷ us) a f =
    let r = threshold low c us a.1 f.1 in
    let i = r.1 in
    let t = i.attained in
    let w = i.within u a.0 f.0 in
    let e = ap (λ (k : ℕ). pos k *ℤ r.0) (rest-more c u us) in (
      r.0,
      record {
        above = i.above;
        within = λ m h l. i.within m h l.1;
        attained = omega (arith, ints, clamps);
      },
    )
