-- One row's bundle, from the tables that the code filled.
use Rattle.std.proofs.Common.{◌≡◌, ℕ, suc, ◌^◌, ℤ, List, sym, ap, ap₂, ◌∙◌, subst, arith}
use Rattle.std.proofs.lemmas.Int.{ints}
use Rattle.mix_ties.proofs.SetNumbers.{number-lt}
use Rattle.mix_ties.specs.Numbered.{IsCopy, IsFloor, LieWithin, floor_over, goods_part, number, table_over}
use Rattle.mix_ties.specs.Peeled.{Subset, greedy}

give-same : (n : ℕ) (row upper lower left later xs : List ℤ) (a b : ℤ) → IsCopy (2 ^ suc n) row upper → IsFloor (2 ^ suc n) a left later lower → a ≡ b
    → xs ≡ goods_part n (greedy (suc n) (table_over n upper) (table_over n lower)) → xs ≡ goods_part n (greedy (suc n) (table_over n row) (floor_over n b left later))
give-same n row upper lower left later xs a b copy gap e h =
    let p : table_over n upper ≡ table_over n row = λ i. λ s. copy (number n s) (number-lt n s) i in
    let q : table_over n lower ≡ floor_over n a left later = λ i. λ s. gap (number n s) (number-lt n s) i in
    h ∙ ap₂ (λ (r g : Subset (suc n) → ℤ). goods_part n (greedy (suc n) r g)) p (q ∙ ap (λ (k : ℤ). floor_over n k left later) e)

pub give-is : (g n size : ℕ) (row upper lower left later xs : List ℤ) (a b : ℤ) → g ≡ n → size ≡ 2 ^ suc g → IsCopy size row upper → IsFloor size a left later lower → a ≡ b
    → xs ≡ goods_part g (greedy (suc g) (table_over g upper) (table_over g lower)) → xs ≡ goods_part n (greedy (suc n) (table_over n row) (floor_over n b left later))
give-is g n size row upper lower left later xs a b e f copy gap same h =
    subst (λ (k : ℕ). xs ≡ goods_part k (greedy (suc k) (table_over k row) (floor_over k b left later))) e
    (give-same g row upper lower left later xs a b (subst (λ (k : ℕ). IsCopy k row upper) f copy) (subst (λ (k : ℕ). IsFloor k a left later lower) f gap) same h)

pub copy-room : (size b : ℕ) (row upper : List ℤ) → IsCopy size row upper → LieWithin size b row → LieWithin size b upper
copy-room size b row upper c h k lt = let e = c k lt in let f = h k lt in (omega (arith, ints), omega (arith, ints))

-- a copy of a floor is a floor
pub copy-floor : (size : ℕ) (null : ℤ) (left later floor copy : List ℤ) → IsCopy size floor copy → IsFloor size null left later floor → IsFloor size null left later copy
copy-floor size null left later floor copy c f k lt = c k lt ∙ f k lt

-- a floor over all sets, where the null share is written in another way
pub floor-is : (n size : ℕ) (a b : ℤ) (left later floor : List ℤ) → size ≡ 2 ^ suc n → a ≡ b → IsFloor size a left later floor → IsFloor (2 ^ suc n) b left later floor
floor-is n size a b left later floor e f is = subst (λ (k : ℕ). IsFloor k b left later floor) e (subst (λ (z : ℤ). IsFloor size z left later floor) f is)

-- the greatest bundle over a floor that was filled
pub greatest-of_floor : (n m : ℕ) (row floor left later xs : List ℤ) (null : ℤ) → n ≡ m → IsFloor (2 ^ suc n) null left later floor
    → xs ≡ goods_part n (greedy (suc n) (table_over n row) (floor_over n null left later)) → xs ≡ goods_part m (greedy (suc m) (table_over m row) (table_over m floor))
greatest-of_floor n m row floor left later xs null e f is =
    subst (λ (k : ℕ). xs ≡ goods_part k (greedy (suc k) (table_over k row) (table_over k floor))) e
    (is ∙ ap (λ (g : Subset (suc n) → ℤ). goods_part n (greedy (suc n) (table_over n row) g)) (λ i. λ s. sym (f (number n s) (number-lt n s)) i))
