use Rattle.std.proofs.Common.{◌≡◌, ℕ, zero, suc, ◌≤◌, List, [], ◌∷◌, ℤ, pos, ◌≤ℤ◌, to_z, of_z, w64, arith, ap}
use Rattle.std.proofs.lemmas.Int.{ints}
use Rattle.mix_num.specs.Vectors.{with_null}
use Rattle.mix_fall.proofs.tests.end_of.Goals as goal

above_nothing : (a b : ℤ) → pos 0 ≤ℤ a → pos 0 ≤ℤ b → (k : ℕ) → k ≤ 2 → with_null (pos 0 ∷ (pos 0 ∷ [])) k ≤ℤ with_null (a ∷ (b ∷ [])) k
above_nothing a b h i zero l = omega (arith, ints)
above_nothing a b h i (suc zero) l = h
above_nothing a b h i (suc (suc zero)) l = i
above_nothing a b h i (suc (suc (suc k))) l = absurd (omega arith)

pub settle-requires-clause-above : goal.settle-requires-clause-above
settle-requires-clause-above g c = λ k h.
    let low = ap (λ (z : List ℤ). with_null z k) c.pair.ensures.values in
    let high = ap (λ (z : List ℤ). with_null z k) c.pair-2.ensures.values in
    let first : to_z w64 (of_z w64 c.args.first) ≡ c.args.first = omega (arith, ints) in
    let second : to_z w64 (of_z w64 c.args.second) ≡ c.args.second = omega (arith, ints) in
    let base = above_nothing (to_z w64 (of_z w64 c.args.first)) (to_z w64 (of_z w64 c.args.second)) (omega (arith, ints)) (omega (arith, ints)) k (omega arith) in
    omega (arith, ints)
