-- The tables that the code keeps are those of the peeled choices, and how large their numbers grow.
use Rattle.std.proofs.Common.{◌≡◌, ℕ, suc, ◌+◌, ◌-◌, ◌*◌, ◌%◌, ◌^◌, ◌<◌, ◌≤◌, true, false, ℤ, ◌-ℤ◌, ◌≤ℤ◌, List, [], ◌∷◌, ◌++◌, append_assoc, refl, sym, ap, ap₂, ◌∙◌, arith}
use Rattle.std.proofs.lemmas.Int.{ints, clamps}
use Rattle.std.proofs.lemmas.Nat.{pow-add}
use Rattle.std.proofs.Math.Nat.{pow-le-pow_right}
use Rattle.mix_num.specs.Ranges.{Lies}
use Rattle.mix_ties.proofs.Sandwiches.{least-at, least-below}
use Rattle.mix_ties.proofs.SetNumbers.{number-lt, number-subset}
use Rattle.mix_ties.specs.Numbered.{IsCut, IsGiven, IsLift, LieWithin, first_gap, goods_part, number, room, subset, table_over, with_first}
use Rattle.mix_ties.specs.Peeled.{Subset, cut, greedy, least, lift, most}

pub cut-is : (k : ℕ) (old new : List ℤ) (v : ℤ) → IsCut (2 ^ (suc k)) old new v → table_over k new ≡ cut (suc k) (table_over (suc k) old) v
cut-is k old new v h = λ i. λ s. h (number k s) (number-lt k s) i

pub lift-is : (k : ℕ) (old new : List ℤ) (v : ℤ) → IsLift (2 ^ (suc k)) old new v → table_over k new ≡ lift (suc k) (table_over (suc k) old) v
lift-is k old new v h = λ i. λ s. h (number k s) (number-lt k s) i

-- a lower bound of a table that is reached is its least number
pub least-is : (k : ℕ) (f : Subset k → ℤ) (v : ℤ) (at : Subset k) → ((s : Subset k) → v ≤ℤ f s) → v ≡ f at → v ≡ least k f
least-is k f v at below e =
    let a = least-at k f in
    omega (arith, ints, a.1, below a.0, e, least-below k f at)

pub most-is : (k : ℕ) (upper lower : List ℤ) (v : ℤ) (m : ℕ) → ((m : ℕ) → m < 2 ^ (suc k) → v ≤ℤ first_gap upper lower m) → m < 2 ^ (suc k) → v ≡ first_gap upper lower m
    → v ≡ most (suc k) (table_over (suc k) upper) (table_over (suc k) lower)
most-is k upper lower v m below h e =
    least-is (suc k) (λ s. table_over (suc k) upper (true, s) -ℤ table_over (suc k) lower (false, s)) v (subset k m) (λ s. below (number k s) (number-lt k s)) (e ∙ ap (first_gap upper lower) (sym (number-subset k m h)))

pub greedy-list : (k : ℕ) (r g : Subset (suc (suc k)) → ℤ)
    → goods_part (suc k) (greedy (suc (suc k)) r g) ≡ most (suc k) r g ∷ goods_part k (greedy (suc k) (cut (suc k) r (most (suc k) r g)) (lift (suc k) g (most (suc k) r g)))
unfolding greedy
greedy-list k r g = refl

pub greedy-step : (k : ℕ) (upper lower upper' lower' : List ℤ) (v : ℤ) → v ≡ most (suc k) (table_over (suc k) upper) (table_over (suc k) lower)
    → IsCut (2 ^ (suc k)) upper upper' v → IsLift (2 ^ (suc k)) lower lower' v
    → IsGiven k upper lower v upper' lower'
unfolding IsGiven
greedy-step k upper lower upper' lower' v e p q =
    greedy-list k (table_over (suc k) upper) (table_over (suc k) lower)
    ∙ ap (λ (w : ℤ). w ∷ goods_part k (greedy (suc k) (cut (suc k) (table_over (suc k) upper) w) (lift (suc k) (table_over (suc k) lower) w))) (sym e)
    ∙ ap₂ (λ (r g : Subset (suc k) → ℤ). v ∷ goods_part k (greedy (suc k) r g)) (sym (cut-is k upper upper' v p)) (sym (lift-is k lower lower' v q))

pub room-step : (k : ℕ) → k < 8 → room k ≡ 4 * room (suc k)
unfolding room
room-step k h = ap (λ e. 2 ^ e) (let e : 44 + 2 * (8 - k) ≡ 2 + (44 + 2 * (8 - suc k)) = omega arith in e) ∙ pow-add 2 2 (44 + 2 * (8 - suc k))

pub cut-room : (k half : ℕ) (old new : List ℤ) (v : ℤ) → k < 8 → LieWithin (2 * half) (room (suc k)) old → Lies (2 * room (suc k)) v → half % 2 ≡ 0 → IsCut half old new v → LieWithin half (room k) new
cut-room k half old new v h p q e c m lt =
    let a = p (with_first false m) (omega arith) in
    let b = p (with_first true m) (omega arith) in
    let r = room-step k h in
    (omega (arith, ints, clamps, c m lt), omega (arith, ints, clamps, c m lt))

pub lift-room : (k half : ℕ) (old new : List ℤ) (v : ℤ) → k < 8 → LieWithin (2 * half) (room (suc k)) old → Lies (2 * room (suc k)) v → half % 2 ≡ 0 → IsLift half old new v → LieWithin half (room k) new
lift-room k half old new v h p q e c m lt =
    let a = p (with_first false m) (omega arith) in
    let b = p (with_first true m) (omega arith) in
    let r = room-step k h in
    (omega (arith, ints, clamps, c m lt), omega (arith, ints, clamps, c m lt))

pub room-below : (k : ℕ) → 2 * room (suc k) ≤ 2 ^ 60
unfolding room
room-below k = omega (arith, pow-le-pow_right {n = 2} (omega arith) {i = 44 + 2 * (8 - suc k)} {j = 58} (omega arith))

pub LieWithin-mono : (size size' b b' : ℕ) (xs : List ℤ) → size' ≤ size → b ≤ b' → LieWithin size b xs → LieWithin size' b' xs
LieWithin-mono size size' b b' xs p q h k lt = let a = h k (omega arith) in (omega (arith, ints), omega (arith, ints))

pub gap-room : (k size : ℕ) (upper lower : List ℤ) (v : ℤ) (m b : ℕ) → LieWithin size b upper → LieWithin size b lower → with_first true m < size → v ≡ first_gap upper lower m → Lies (2 * b) v
gap-room k size upper lower v m b p q lt e =
    let x = p (with_first true m) lt in
    let y = q (with_first false m) (omega arith) in
    (omega (arith, ints), omega (arith, ints))

-- one good more has its amount
pub loop-step : (n k left : ℕ) (upper0 lower0 upper lower upper' lower' : List ℤ) (v : ℤ) (done : List ℤ) → left ≡ suc k
    → goods_part n (greedy (suc n) (table_over n upper0) (table_over n lower0)) ≡ done ++ goods_part left (greedy (suc left) (table_over left upper) (table_over left lower))
    → IsGiven k upper lower v upper' lower'
    → goods_part n (greedy (suc n) (table_over n upper0) (table_over n lower0)) ≡ (done ++ v ∷ []) ++ goods_part k (greedy (suc k) (table_over k upper') (table_over k lower'))
unfolding IsGiven
loop-step n k left upper0 lower0 upper lower upper' lower' v done e p q =
    p ∙ ap (λ (j : ℕ). done ++ goods_part j (greedy (suc j) (table_over j upper) (table_over j lower))) e ∙ ap (λ (y : List ℤ). done ++ y) q ∙ sym (append_assoc done (v ∷ []) _)

pub room-large : (k : ℕ) → 2 ^ 44 ≤ room k
unfolding room
room-large k = pow-le-pow_right {n = 2} (omega arith) {i = 44} {j = 44 + 2 * (8 - k)} (omega arith)
