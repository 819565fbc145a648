-- Bounds on what is shared.
use Rattle.std.proofs.Common.{◌≡◌, ℕ, zero, suc, ◌*◌, ◌^◌, ◌<◌, true, false, ℤ, pos, ◌+ℤ◌, ◌≤ℤ◌, List, [], ◌∷◌, length, get_or, refl, ap, arith}
use Rattle.std.proofs.lemmas.Int.{ints}
use Rattle.mix_ties.proofs.PeeledRows.{AreProperPeeled, FitsPeeled, IsProperPeeled, rows_at}
use Rattle.mix_ties.proofs.SetNumbers.{number-subset}
use Rattle.mix_ties.proofs.TieRules.{proper-peeled}
use Rattle.mix_ties.specs.Numbered.{amounts_of, subset, table_over}
use Rattle.mix_ties.specs.Peeled.{Amounts, Subset, amount_in, entry, every, none, union}
use Rattle.mix_num.specs.Shares.{sum_at}
use Rattle.mix_ties.specs.Turns.{ProperInTurn}

-- every choice but the one at j
but : (k j : ℕ) → Subset k
but zero j = tt
but (suc k) zero = (false, every k)
but (suc k) (suc j) = (true, but k j)

sum-but : (k j : ℕ) (x : Amounts k) → amount_in k x (every k) ≡ entry k j x +ℤ amount_in k x (but k j)
unfolding but
sum-but zero j x = refl
sum-but (suc k) zero x = omega (arith, ints)
sum-but (suc k) (suc j) x = omega (arith, ints, sum-but k j x.1)

union-whole : (k : ℕ) (s : Subset k) → union k s (every k) ≡ every k
union-whole zero s = refl
union-whole (suc k) (false, s) = ap (λ (w : Subset k). (true, w)) (union-whole k s)
union-whole (suc k) (true, s) = ap (λ (w : Subset k). (true, w)) (union-whole k s)

union-none : (k : ℕ) (s : Subset k) → union k (none k) s ≡ s
union-none zero s = refl
union-none (suc k) s = ap (λ (w : Subset k). (s.0, w)) (union-none k s.1)

pub below-whole : (k : ℕ) (r : Subset k → ℤ) → IsProperPeeled k r → (s : Subset k) → r s ≤ℤ r (every k)
below-whole k r p s = rw (union-whole k s) at (p.grows s (every k))

above-none : (k : ℕ) (r : Subset k → ℤ) → IsProperPeeled k r → (s : Subset k) → pos 0 ≤ℤ r s
above-none k r p s = let h = rw (union-none k s) at (p.grows (none k) s) in omega (arith, ints, h, p.at_none)

-- amounts that fit a growing table are not negative
pub entry-least : (k j : ℕ) (r : Subset k → ℤ) (x : Amounts k) → ((s : Subset k) → r s ≤ℤ r (every k)) → FitsPeeled k r x → pos 0 ≤ℤ entry k j x
entry-least k j r x h f = omega (arith, ints, f.exact, f.within (but k j), h (but k j), sum-but k j x)

-- the entry of a good
pub entry-is : (n j : ℕ) (a : ℤ) (xs : List ℤ) → length xs ≡ n → j < n → entry (suc n) j (amounts_of n a xs) ≡ get_or xs j (pos 0)
entry-is zero j a xs e h = absurd (omega arith)
entry-is (suc n) j a [] e h = absurd (omega arith)
entry-is (suc n) zero a (x ∷ xs) e h = refl
entry-is (suc n) (suc j) a (x ∷ xs) e h = entry-is n j a xs (omega arith) (omega arith)

pub sum-below : (k : ℕ) (rs : List (Subset k → ℤ)) → AreProperPeeled k rs → (s : Subset k) → rows_at k rs s ≤ℤ rows_at k rs (every k)
sum-below k [] p s = omega (arith, ints)
sum-below k (r ∷ rs) p s = omega (arith, ints, below-whole k r p.0 s, sum-below k rs p.1 s)

-- the numbers of a row and of a sum of rows
pub row-range : (n : ℕ) (r : List ℤ) (rs : List (List ℤ)) → ProperInTurn n (r ∷ rs) → (m : ℕ) → m < 2 ^ suc n → (pos 0 ≤ℤ get_or r m (pos 0)) × (get_or r m (pos 0) ≤ℤ pos 8000000)
row-range n r rs p m h =
    let q = (proper-peeled n (r ∷ rs) p).0 in
    let e : table_over n r (subset n m) ≡ get_or r m (pos 0) = ap (λ (i : ℕ). get_or r i (pos 0)) (number-subset n m h) in
    let a = above-none (suc n) (table_over n r) q (subset n m) in
    (omega (arith, ints, e, a), p.0.bound m h)

pub sum-range : (n : ℕ) (rs : List (List ℤ)) → ProperInTurn n rs → (m : ℕ) → m < 2 ^ suc n → (pos 0 ≤ℤ sum_at rs m) × (sum_at rs m ≤ℤ pos (8000000 * length rs))
sum-range n [] p m h = (omega (arith, ints), omega (arith, ints))
sum-range n (r ∷ rs) p m h =
    let a = row-range n r rs p m h in
    let b = sum-range n rs p.1 m h in
    (omega (arith, ints, a, b), omega (arith, ints, a, b))
