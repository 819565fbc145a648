-- By how much a capped utility falls where the prices of a set rise by one: what gains more than the threshold falls whole, and of what gains just the
-- threshold that much as the rest of it doesn't make up for.
use Rattle.std.proofs.Common.{◌≡◌, ℕ, suc, ◌≤◌, Bool, true, false, cond, ◌&&◌, List, [], ◌∷◌, ℤ, pos, ◌+ℤ◌, ◌-ℤ◌, ◌*ℤ◌, ◌≤ℤ◌, ◌<ℤ◌, refl, arith, sym, ap, subst, length, int_lt}
use Rattle.std.proofs.lemmas.Int.{ints, clamps, by_lt_z}
use Rattle.std.proofs.lemmas.List.Elements.{All-head, All-tail}
use Rattle.std.specs.Int.{int_max}
use Rattle.std.specs.Int.RustNames.{unsigned_abs}
use Rattle.std.specs.Ordering.{int_eq}
use Rattle.mix_num.specs.Vectors.{Vector, Choices, bit, plus}
use Rattle.mix_num.proofs.Products.{*ℤ-difference}
use Rattle.mix_bids.specs.Bids.{total_weight, weight_where}
use Rattle.mix_bids.specs.Caps.{ArePositive, IsPositive, capped_total, capped_utility, left_over, units}
use Rattle.mix_bids.specs.Offers.{best, within}
use Rattle.mix_bids.specs.declared.bid.Bid.{Bid}
use Rattle.mix_bids.proofs.Falls.{gain_falls}
use Rattle.mix_bids.proofs.Lengths.{AreOver, first_over, rest_over}
use Rattle.mix_bids.proofs.PositiveBids.{count_is, gain_of, rest-units, weight_is}
use Rattle.mix_bids.proofs.Thresholds.{above-units, capped_by, reached, told_by}
use Rattle.mix_bids.proofs.Units.{length-units, lifted-units, lifted_sum, units_fall}

-- ---- a gain beside a threshold
passes : (z g : ℤ) → z <ℤ g → int_lt z g ≡ true
passes z g h = grind (arith, ints)

passes_not : (z g : ℤ) → g ≤ℤ z → int_lt z g ≡ false
passes_not z g h = grind (arith, ints)

level : (z g : ℤ) → g ≡ z → int_eq g z ≡ true
level z g h = grind (arith, ints)

level_not : (z g : ℤ) → (g ≡ z → ⊥) → int_eq g z ≡ false
level_not z g h = grind (arith, ints)

-- the gain passes the threshold, or is level with it, or stays below it
by_place : (P : Bool → Bool → Type 0) (z g : ℤ) → (z <ℤ g → P true false) → (g ≡ z → P false true) → (g <ℤ z → P false false) → P (int_lt z g) (int_eq g z)
by_place P z g above at below = by_lt_z z g
    (λ h. told true false (passes z g h) (level_not z g (λ e. absurd (omega (arith, ints)))) (above h))
    (λ l. by_lt_z g z
    (λ h. told false false (passes_not z g l) (level_not z g (λ e. absurd (omega (arith, ints)))) (below h))
    (λ h. let e : g ≡ z = omega (arith, ints) in told false true (passes_not z g l) (level z g e) (at e)))
  where
    told : (a l : Bool) → int_lt z g ≡ a → int_eq g z ≡ l → P a l → P (int_lt z g) (int_eq g z)
    told a l p q h = subst (λ (b : Bool). P b (int_eq g z)) (sym p) (subst (P a) (sym q) h)

-- a gain that falls by one or not, raised to the threshold
raised_falls : (z g : ℤ) (t : Bool) → int_max (g -ℤ bit t) z ≡ int_max g z -ℤ bit (int_lt z g && t)
raised_falls z g t = by_place (λ a l. int_max (g -ℤ bit t) z ≡ int_max g z -ℤ bit (a && t)) z g (λ h. above t h) (λ e. at t e) (λ h. below t h)
  where
    above : (t : Bool) → z <ℤ g → int_max (g -ℤ bit t) z ≡ int_max g z -ℤ bit t
    above true h = omega (arith, ints, clamps)
    above false h = omega (arith, ints, clamps)

    at : (t : Bool) → g ≡ z → int_max (g -ℤ bit t) z ≡ int_max g z -ℤ pos 0
    at true h = omega (arith, ints, clamps)
    at false h = omega (arith, ints, clamps)

    below : (t : Bool) → g <ℤ z → int_max (g -ℤ bit t) z ≡ int_max g z -ℤ pos 0
    below true h = omega (arith, ints, clamps)
    below false h = omega (arith, ints, clamps)

-- and to the threshold less one
raised_less : (z g : ℤ) (t : Bool) → int_max (g -ℤ bit t) (z -ℤ pos 1) ≡ (int_max g z -ℤ bit (int_lt z g && t)) -ℤ ((bit (int_eq g z && t) +ℤ pos 1) -ℤ (bit (int_lt z g) +ℤ bit (int_eq g z)))
raised_less z g t = by_place (λ a l. int_max (g -ℤ bit t) (z -ℤ pos 1) ≡ (int_max g z -ℤ bit (a && t)) -ℤ ((bit (l && t) +ℤ pos 1) -ℤ (bit a +ℤ bit l))) z g (λ h. above t h) (λ e. at t e) (λ h. below t h)
  where
    above : (t : Bool) → z <ℤ g → int_max (g -ℤ bit t) (z -ℤ pos 1) ≡ (int_max g z -ℤ bit t) -ℤ ((pos 0 +ℤ pos 1) -ℤ (pos 1 +ℤ pos 0))
    above true h = omega (arith, ints, clamps)
    above false h = omega (arith, ints, clamps)

    at : (t : Bool) → g ≡ z → int_max (g -ℤ bit t) (z -ℤ pos 1) ≡ (int_max g z -ℤ pos 0) -ℤ ((bit t +ℤ pos 1) -ℤ (pos 0 +ℤ pos 1))
    at true h = omega (arith, ints, clamps)
    at false h = omega (arith, ints, clamps)

    below : (t : Bool) → g <ℤ z → int_max (g -ℤ bit t) (z -ℤ pos 1) ≡ (int_max g z -ℤ pos 0) -ℤ ((pos 0 +ℤ pos 1) -ℤ (pos 0 +ℤ pos 0))
    below true h = omega (arith, ints, clamps)
    below false h = omega (arith, ints, clamps)

some_weight : (b : Bool) (w : ℤ) → pos 0 ≤ℤ w → (pos 0 ≤ℤ cond b w (pos 0)) × (cond b w (pos 0) ≤ℤ w)
some_weight true w h = (h, omega (arith, ints))
some_weight false w h = (omega (arith, ints), h)

falls_some : (g : ℤ) (t : Bool) → ((g -ℤ bit t) ≤ℤ g) × ((g -ℤ pos 1) ≤ℤ (g -ℤ bit t))
falls_some g true = (omega (arith, ints), omega (arith, ints))
falls_some g false = (omega (arith, ints), omega (arith, ints))

-- what passes the threshold afterwards passed it before
passes_fewer : (z g w : ℤ) (t : Bool) → pos 0 ≤ℤ w → cond (int_lt z (g -ℤ bit t)) w (pos 0) ≤ℤ cond (int_lt z g) w (pos 0)
passes_fewer z g w t p = by_lt_z z g
    (λ h. let e = ap (λ (b : Bool). cond b w (pos 0)) (passes z g h) in let s = (some_weight (int_lt z (g -ℤ bit t)) w p).1 in omega (arith, ints))
    (λ h.
    let f = (falls_some g t).0 in
    let e = ap (λ (b : Bool). cond b w (pos 0)) (passes_not z (g -ℤ bit t) (omega (arith, ints))) in
    let s = (some_weight (int_lt z g) w p).0 in
    omega (arith, ints))

-- what is at the threshold or above it afterwards
stays_level : (z g w : ℤ) (t : Bool) → cond (int_lt (z -ℤ pos 1) (g -ℤ bit t)) w (pos 0) ≡ (cond (int_lt z g) w (pos 0) +ℤ cond (int_eq g z) w (pos 0)) -ℤ cond (int_eq g z && t) w (pos 0)
stays_level z g w t = by_place (λ a l. cond (int_lt (z -ℤ pos 1) (g -ℤ bit t)) w (pos 0) ≡ (cond a w (pos 0) +ℤ cond l w (pos 0)) -ℤ cond (l && t) w (pos 0)) z g (λ h. above h) (λ e. at t e) (λ h. below h)
  where
    above : z <ℤ g → cond (int_lt (z -ℤ pos 1) (g -ℤ bit t)) w (pos 0) ≡ (w +ℤ pos 0) -ℤ pos 0
    above h = let f = (falls_some g t).1 in let e = ap (λ (b : Bool). cond b w (pos 0)) (passes (z -ℤ pos 1) (g -ℤ bit t) (omega (arith, ints))) in omega (arith, ints)

    at : (t : Bool) → g ≡ z → cond (int_lt (z -ℤ pos 1) (g -ℤ bit t)) w (pos 0) ≡ (pos 0 +ℤ w) -ℤ cond t w (pos 0)
    at true h = let e = ap (λ (b : Bool). cond b w (pos 0)) (passes_not (z -ℤ pos 1) (g -ℤ pos 1) (omega (arith, ints))) in omega (arith, ints)
    at false h = let e = ap (λ (b : Bool). cond b w (pos 0)) (passes (z -ℤ pos 1) (g -ℤ pos 0) (omega (arith, ints))) in omega (arith, ints)

    below : g <ℤ z → cond (int_lt (z -ℤ pos 1) (g -ℤ bit t)) w (pos 0) ≡ (pos 0 +ℤ pos 0) -ℤ pos 0
    below h = let f = (falls_some g t).0 in let e = ap (λ (b : Bool). cond b w (pos 0)) (passes_not (z -ℤ pos 1) (g -ℤ bit t) (omega (arith, ints))) in omega (arith, ints)

-- what was at the threshold or above it is at most one below it afterwards
stays_near : (z g w : ℤ) (t : Bool) → pos 0 ≤ℤ w → (cond (int_lt z g) w (pos 0) +ℤ cond (int_eq g z) w (pos 0)) ≤ℤ cond (int_lt ((z -ℤ pos 1) -ℤ pos 1) (g -ℤ bit t)) w (pos 0)
stays_near z g w t p =
    let f = (falls_some g t).1 in
    let s = (some_weight (int_lt ((z -ℤ pos 1) -ℤ pos 1) (g -ℤ bit t)) w p).0 in
    by_place (λ a l. (cond a w (pos 0) +ℤ cond l w (pos 0)) ≤ℤ cond (int_lt ((z -ℤ pos 1) -ℤ pos 1) (g -ℤ bit t)) w (pos 0)) z g
    (λ h. let e = ap (λ (b : Bool). cond b w (pos 0)) (passes ((z -ℤ pos 1) -ℤ pos 1) (g -ℤ bit t) (omega (arith, ints))) in omega (arith, ints))
    (λ h. let e = ap (λ (b : Bool). cond b w (pos 0)) (passes ((z -ℤ pos 1) -ℤ pos 1) (g -ℤ bit t) (omega (arith, ints))) in omega (arith, ints))
    (λ h. omega (arith, ints))

-- ---- all bids together
times_bit : (w m : ℤ) (t : Bool) → w *ℤ (m -ℤ bit t) ≡ (w *ℤ m) -ℤ cond t w (pos 0)
times_bit w m true = let e = *ℤ-difference w m (pos 1) in omega (arith, ints)
times_bit w m false = let e = *ℤ-difference w m (pos 0) in omega (arith, ints)

times_less : (w m : ℤ) (t a l s : Bool) → w *ℤ ((m -ℤ bit t) -ℤ ((bit s +ℤ pos 1) -ℤ (bit a +ℤ bit l)))
    ≡ ((w *ℤ m) -ℤ cond t w (pos 0)) -ℤ ((cond s w (pos 0) +ℤ w) -ℤ (cond a w (pos 0) +ℤ cond l w (pos 0)))
times_less w m t a l s =
    let e = *ℤ-difference w (m -ℤ bit t) ((bit s +ℤ pos 1) -ℤ (bit a +ℤ bit l)) in
    let f = times_bit w m t in
    let g = rest s a l in
    omega (arith, ints)
  where
    rest : (s a l : Bool) → w *ℤ ((bit s +ℤ pos 1) -ℤ (bit a +ℤ bit l)) ≡ (cond s w (pos 0) +ℤ w) -ℤ (cond a w (pos 0) +ℤ cond l w (pos 0))
    rest true true true = omega (arith, ints)
    rest true true false = omega (arith, ints)
    rest true false true = omega (arith, ints)
    rest true false false = omega (arith, ints)
    rest false true true = omega (arith, ints)
    rest false true false = omega (arith, ints)
    rest false false true = omega (arith, ints)
    rest false false false = omega (arith, ints)

module _ (n : ℕ) (x : Vector) (s : Choices) (z : ℤ) where
  -- the best set of a bid lies in the set
  abbrev inside : Bid → Bool
  inside b = within (suc n) (best b.values.items x) s

  -- its gain passes the threshold, or is level with it
  abbrev over : Bid → Bool
  over b = int_lt z (gain_of x b)

  abbrev even : Bid → Bool
  even b = int_eq (gain_of x b) z

  abbrev over_inside : Bid → Bool
  over_inside b = over b && inside b

  abbrev even_inside : Bid → Bool
  even_inside b = even b && inside b

  after : (b : Bid) → length b.values.items ≤ n → gain_of (plus x s) b ≡ gain_of x b -ℤ bit (inside b)
  after b l = let f = gain_falls n b.values.items x s l in omega (arith, ints)

  fits : (b : Bid) (bs : List Bid) → AreOver n (b ∷ bs) → length b.values.items ≤ n
  fits b bs o = omega (arith, first_over n b bs o)

  -- at the threshold
  lifted_at : (bs : List Bid) → AreOver n bs → ArePositive bs → lifted_sum z (gain_of (plus x s)) bs ≡ lifted_sum z (gain_of x) bs -ℤ weight_where over_inside bs
  lifted_at [] o p = refl
  lifted_at (b ∷ bs) o p =
      let w = weight_is b.weight (All-head IsPositive b bs p) in
      let h = lifted_at bs (rest_over n b bs o) (All-tail IsPositive b bs p) in
      let e = ap (λ (k : ℤ). pos (unsigned_abs b.weight) *ℤ int_max k z) (after b (fits b bs o)) in
      let f = ap (λ (k : ℤ). pos (unsigned_abs b.weight) *ℤ k) (raised_falls z (gain_of x b) (inside b)) in
      let t = times_bit (pos (unsigned_abs b.weight)) (int_max (gain_of x b) z) (over_inside b) in
      let c = ap (λ (k : ℤ). cond (over_inside b) k (pos 0)) w in
      omega (arith, ints)

  -- at the threshold less one
  lifted_less : (bs : List Bid) → AreOver n bs → ArePositive bs → lifted_sum (z -ℤ pos 1) (gain_of (plus x s)) bs
      ≡ (lifted_sum z (gain_of x) bs -ℤ weight_where over_inside bs) -ℤ ((weight_where even_inside bs +ℤ total_weight bs) -ℤ (weight_where over bs +ℤ weight_where even bs))
  lifted_less [] o p = refl
  lifted_less (b ∷ bs) o p =
      let w = weight_is b.weight (All-head IsPositive b bs p) in
      let h = lifted_less bs (rest_over n b bs o) (All-tail IsPositive b bs p) in
      let e = ap (λ (k : ℤ). pos (unsigned_abs b.weight) *ℤ int_max k (z -ℤ pos 1)) (after b (fits b bs o)) in
      let f = ap (λ (k : ℤ). pos (unsigned_abs b.weight) *ℤ k) (raised_less z (gain_of x b) (inside b)) in
      let t = times_less (pos (unsigned_abs b.weight)) (int_max (gain_of x b) z) (over_inside b) (over b) (even b) (even_inside b) in
      let c = ap (λ (k : ℤ). ((cond (over_inside b) k (pos 0) +ℤ cond (even_inside b) k (pos 0)) +ℤ k) -ℤ (cond (over b) k (pos 0) +ℤ cond (even b) k (pos 0))) w in
      omega (arith, ints)

  fewer_pass : (bs : List Bid) → AreOver n bs → ArePositive bs → weight_where (λ b. int_lt z (gain_of (plus x s) b)) bs ≤ℤ weight_where over bs
  fewer_pass [] o p = omega (arith, ints)
  fewer_pass (b ∷ bs) o p =
      let w = All-head IsPositive b bs p in
      let h = fewer_pass bs (rest_over n b bs o) (All-tail IsPositive b bs p) in
      let e = ap (λ (k : ℤ). cond (int_lt z k) b.weight (pos 0)) (after b (fits b bs o)) in
      let f = passes_fewer z (gain_of x b) b.weight (inside b) (omega (arith, ints)) in
      omega (arith, ints)

  level_stay : (bs : List Bid) → AreOver n bs → weight_where (λ b. int_lt (z -ℤ pos 1) (gain_of (plus x s) b)) bs ≡ (weight_where over bs +ℤ weight_where even bs) -ℤ weight_where even_inside bs
  level_stay [] o = refl
  level_stay (b ∷ bs) o =
      let h = level_stay bs (rest_over n b bs o) in
      let e = ap (λ (k : ℤ). cond (int_lt (z -ℤ pos 1) k) b.weight (pos 0)) (after b (fits b bs o)) in
      let f = stays_level z (gain_of x b) b.weight (inside b) in
      omega (arith, ints)

  level_now : (bs : List Bid) → weight_where (λ b. int_lt (z -ℤ pos 1) (gain_of x b)) bs ≡ weight_where over bs +ℤ weight_where even bs
  level_now [] = refl
  level_now (b ∷ bs) =
      let h = level_now bs in
      let same : gain_of x b ≡ gain_of x b -ℤ pos 0 = omega (arith, ints) in
      let e = ap (λ (k : ℤ). cond (int_lt (z -ℤ pos 1) k) b.weight (pos 0)) same in
      let f = stays_level z (gain_of x b) b.weight false in
      let g = none (even b) in
      omega (arith, ints)
    where
      none : (l : Bool) → cond (l && false) b.weight (pos 0) ≡ pos 0
      none true = refl
      none false = refl

  near_stay : (bs : List Bid) → AreOver n bs → ArePositive bs → (weight_where over bs +ℤ weight_where even bs) ≤ℤ weight_where (λ b. int_lt ((z -ℤ pos 1) -ℤ pos 1) (gain_of (plus x s) b)) bs
  near_stay [] o p = omega (arith, ints)
  near_stay (b ∷ bs) o p =
      let w = All-head IsPositive b bs p in
      let h = near_stay bs (rest_over n b bs o) (All-tail IsPositive b bs p) in
      let e = ap (λ (k : ℤ). cond (int_lt ((z -ℤ pos 1) -ℤ pos 1) k) b.weight (pos 0)) (after b (fits b bs o)) in
      let f = stays_near z (gain_of x b) b.weight (inside b) (omega (arith, ints)) in
      omega (arith, ints)

-- ---- by how much the capped utility falls
-- by a threshold y that tells it
told : (c : ℕ) (bs : List Bid) (x : Vector) (y : ℤ) → ArePositive bs → weight_where (λ b. int_lt y (gain_of x b)) bs ≤ℤ pos c
    → capped_total c bs ≤ℤ weight_where (λ b. int_lt (y -ℤ pos 1) (gain_of x b)) bs
    → capped_utility c bs x ≡ lifted_sum y (gain_of x) bs -ℤ (pos (left_over c bs) *ℤ y)
told c bs x y p low high =
    let us = units (gain_of x) bs in
    let a = above-units y (gain_of x) bs p in
    let b = above-units (y -ℤ pos 1) (gain_of x) bs p in
    let w = count_is bs p in
    let m = length-units (gain_of x) bs in
    let t = told_by y c us (units_fall (gain_of x) bs) (omega (arith, ints)) (omega (arith, ints, clamps)) in
    let l = lifted-units y (gain_of x) bs in
    let e = ap (λ (k : ℕ). pos k *ℤ y) (rest-units c bs x) in
    omega (arith, ints)

-- the threshold that tells it where the null choice's price is 0: at most c units pass it, and more pass each lower one
pub capped_falls : (n c z : ℕ) (bs : List Bid) (x : Vector) (s : Choices) → AreOver n bs → ArePositive bs → x 0 ≡ pos 0
    → weight_where (λ b. int_lt (pos z) (gain_of x b)) bs ≤ℤ pos c
    → ((k : ℕ) → z ≡ suc k → pos c <ℤ weight_where (λ b. int_lt (pos k) (gain_of x b)) bs)
    → capped_utility c bs x -ℤ capped_utility c bs (plus x s)
    ≡ weight_where (λ b. int_lt (pos z) (gain_of x b) && within (suc n) (best b.values.items x) s) bs
    +ℤ int_max (pos 0) (weight_where (λ b. int_eq (gain_of x b) (pos z) && within (suc n) (best b.values.items x) s) bs
    -ℤ ((weight_where (λ b. int_lt (pos z) (gain_of x b)) bs +ℤ weight_where (λ b. int_eq (gain_of x b) (pos z)) bs) -ℤ capped_total c bs))
capped_falls n c z bs x s o p null low high =
    let before = capped_by c z bs x p null low high in
    let fewer = fewer_pass n x s (pos z) bs o p in
    let stay = level_stay n x s (pos z) bs o in
    let near = near_stay n x s (pos z) bs o p in
    let at = lifted_at n x s (pos z) bs o p in
    let less = lifted_less n x s (pos z) bs o p in
    let w = count_is bs p in
    let now = level_now n x s (pos z) bs in
    let units_now = above-units (pos z -ℤ pos 1) (gain_of x) bs p in
    let reach = reached c z bs x p null high in
    let size = length-units (gain_of x) bs in
    let some : capped_total c bs ≤ℤ (weight_where (over n x s (pos z)) bs +ℤ weight_where (even n x s (pos z)) bs) = omega (arith, ints, clamps) in
    let slack = (weight_where (over n x s (pos z)) bs +ℤ weight_where (even n x s (pos z)) bs) -ℤ capped_total c bs in
    by_lt_z slack (weight_where (even_inside n x s (pos z)) bs)
    (λ h.
    let t = told c bs (plus x s) (pos z -ℤ pos 1) p (omega (arith, ints, clamps)) (omega (arith, ints)) in
    let d = *ℤ-difference (pos (left_over c bs)) (pos z) (pos 1) in
    omega (arith, ints, clamps))
    (λ h. let t = told c bs (plus x s) (pos z) p (omega (arith, ints)) (omega (arith, ints)) in omega (arith, ints, clamps))
