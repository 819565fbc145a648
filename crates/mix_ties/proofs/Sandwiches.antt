-- A vector between a submodular and a supermodular table.
use Rattle.std.proofs.Common.{◌≡◌, ℕ, zero, suc, true, false, ℤ, ◌-ℤ◌, ◌≤ℤ◌, refl, ◌∙◌, arith, ◌⊎◌, inl, inr}
use Rattle.std.specs.Int.{int_min}
use Rattle.std.proofs.lemmas.Int.{ints, clamps}
use Rattle.mix_ties.proofs.Steps.{below_step, max_step, min_step}
use Rattle.mix_ties.specs.Peeled.{Amounts, IsSandwich, IsSubmodular, IsSupermodular, LiesBetween, Subset, amount_in, cut, greedy, least, lift, meet, most, none, union}

pub cut-submodular : (k : ℕ) (r : Subset (suc k) → ℤ) (v : ℤ) → IsSubmodular (suc k) r → IsSubmodular k (cut k r v)
cut-submodular k r v submodular s t = min_step v _ _ _ _ _ _ _ _ (submodular (false, s) (false, t)) (submodular (true, s) (true, t)) (submodular (true, s) (false, t)) (submodular (false, s) (true, t))

pub lift-supermodular : (k : ℕ) (g : Subset (suc k) → ℤ) (v : ℤ) → IsSupermodular (suc k) g → IsSupermodular k (lift k g v)
lift-supermodular k g v sup s t = max_step v _ _ _ _ _ _ _ _ (sup (false, s) (false, t)) (sup (true, s) (true, t)) (sup (true, s) (false, t)) (sup (false, s) (true, t))

pub least-below : (k : ℕ) (f : Subset k → ℤ) (s : Subset k) → least k f ≤ℤ f s
least-below zero f s = omega (arith, ints)
least-below (suc k) f (false, s) = let h : least k (λ s. f (false, s)) ≤ℤ f (false, s) = least-below k (λ s. f (false, s)) s in omega (arith, ints, clamps)
least-below (suc k) f (true, s) = let h : least k (λ s. f (true, s)) ≤ℤ f (true, s) = least-below k (λ s. f (true, s)) s in omega (arith, ints, clamps)

pub int_min_one : (a b : ℤ) → (int_min a b ≡ a) ⊎ (int_min a b ≡ b)
int_min_one a b = grind (arith, ints, clamps)

pub least-at : (k : ℕ) (f : Subset k → ℤ) → (s : Subset k) × (least k f ≡ f s)
least-at zero f = (tt, refl)
least-at (suc k) f =
    let a = least-at k (λ s. f (false, s)) in
    let b = least-at k (λ s. f (true, s)) in
    elim (int_min_one (least k (λ s. f (false, s))) (least k (λ s. f (true, s)))) [ inl p ↦ ((false, a.0), p ∙ a.1) | inr p ↦ ((true, b.0), p ∙ b.1) ]

-- an amount at least the lower bound and at most the upper bound leaves a sandwich
pub left_over : (k : ℕ) (r g : Subset (suc k) → ℤ) (v : ℤ) → IsSandwich (suc k) r g
    → ((s : Subset k) → (g (true, s) -ℤ r (false, s)) ≤ℤ v) → ((s : Subset k) → v ≤ℤ (r (true, s) -ℤ g (false, s)))
    → IsSandwich k (cut k r v) (lift k g v)
left_over k r g v w low high = record {
  upper_submodular = cut-submodular k r v w.upper_submodular;
  lower_supermodular = lift-supermodular k g v w.lower_supermodular;
  in_order = λ s. below_step v _ _ _ _ (w.in_order (false, s)) (w.in_order (true, s)) (low s) (high s);
  upper_none = let a = w.upper_none in let b = w.lower_none in let h = high (none k) in omega (arith, ints, clamps);
  lower_none = let a = w.upper_none in let b = w.lower_none in let h = low (none k) in omega (arith, ints, clamps);
}

pub bounds : (k : ℕ) (r g : Subset (suc k) → ℤ) → IsSandwich (suc k) r g → (s t : Subset k)
    → (g (true, t) -ℤ r (false, t)) ≤ℤ (r (true, s) -ℤ g (false, s))
bounds k r g w s t = omega (arith, ints, w.upper_submodular (true, s) (false, t), w.lower_supermodular (false, s) (true, t), w.in_order (true, union k s t), w.in_order (false, meet k s t))

pub most_leaves : (k : ℕ) (r g : Subset (suc k) → ℤ) → IsSandwich (suc k) r g → IsSandwich k (cut k r (most k r g)) (lift k g (most k r g))
most_leaves k r g w = left_over k r g (most k r g) w
    (λ t. let a = least-at k (λ s. r (true, s) -ℤ g (false, s)) in let b = bounds k r g w a.0 t in omega (arith, ints, a.1, b))
    (λ s. least-below k (λ s. r (true, s) -ℤ g (false, s)) s)

pub between_cons : (k : ℕ) (r g : Subset (suc k) → ℤ) (v : ℤ) (x : Amounts k) → LiesBetween k (cut k r v) (lift k g v) x → LiesBetween (suc k) r g (v, x)
between_cons k r g v x b = record { over = over; under = under } where
  over : (s : Subset (suc k)) → g s ≤ℤ amount_in (suc k) (v, x) s
  over (false, s) = let h = b.over s in omega (arith, ints, clamps)
  over (true, s) = let h = b.over s in omega (arith, ints, clamps)

  under : (s : Subset (suc k)) → amount_in (suc k) (v, x) s ≤ℤ r s
  under (false, s) = let h = b.under s in omega (arith, ints, clamps)
  under (true, s) = let h = b.under s in omega (arith, ints, clamps)

pub between_tail : (k : ℕ) (r g : Subset (suc k) → ℤ) (v : ℤ) (x : Amounts k) → LiesBetween (suc k) r g (v, x) → LiesBetween k (cut k r v) (lift k g v) x
between_tail k r g v x b = record {
  over = λ s. let p = b.over (false, s) in let q = b.over (true, s) in omega (arith, ints, clamps);
  under = λ s. let p = b.under (false, s) in let q = b.under (true, s) in omega (arith, ints, clamps);
}

pub between_greedy : (k : ℕ) (r g : Subset k → ℤ) → IsSandwich k r g → LiesBetween k r g (greedy k r g)
unfolding greedy
between_greedy zero r g w = record { over = λ s. let h = w.lower_none in omega (arith, ints); under = λ s. let h = w.upper_none in omega (arith, ints) }
between_greedy (suc k) r g w = between_cons k r g (most k r g) _ (between_greedy k _ _ (most_leaves k r g w))
