-- A table of zeros has room for what a member's function falls by, and for what it gains, at each set.
use Rattle.std.proofs.Common.{◌≡◌, ◌∙◌, ℕ, ◌≤◌, Bool, true, false, ltb, List, replicate, ℤ, pos, ◌+ℤ◌, ◌≤ℤ◌, refl, arith, ap}
use Rattle.std.proofs.lemmas.Int.{ints}
use Rattle.std.proofs.lemmas.Bool.{ltb-true, ltb-false}
use Rattle.std.proofs.lemmas.List.{get_or-replicate, get_or_past, length-replicate}
use Rattle.mix_num.specs.Vectors.{Vector, members}
use Rattle.mix_num.specs.Ranges.{Lies}
use Rattle.mix_num.specs.Tables.{number_of}
use Rattle.mix_law.specs.Members.{IsLNatural, fall_of, rho}
use Rattle.mix_law.proofs.Ranges.{fall_range, rho_range}

pub zero_number : (table : List ℤ) (set : ℕ) → table ≡ replicate 512 (pos 0) → number_of table set ≡ pos 0
zero_number table set e = ap (λ (z : List ℤ). number_of z set) e ∙ at (ltb set 512) refl
  where
    at : (b : Bool) → ltb set 512 ≡ b → number_of (replicate 512 (pos 0)) set ≡ pos 0
    at true h = get_or-replicate 512 set (pos 0) (pos 0) (ltb-true set 512 h)
    at false h = get_or_past (replicate 512 (pos 0)) set (pos 0) (omega (arith, length-replicate 512 (pos 0), ltb-false set 512 h))

module _ {n : ℕ} {f : Vector → ℤ} {w : ℤ} {top : ℕ → ℤ} (some : 1 ≤ n) (c : IsLNatural n f w top) (small : w ≤ℤ pos 8000000) (table : List ℤ) (zeros : table ≡ replicate 512 (pos 0)) (x : Vector) (set : ℕ) where
  pub falls_fit : Lies 4000000000 (number_of table set +ℤ fall_of f x (members set))
  falls_fit =
      let r = fall_range some c x (members set) in
      let z = zero_number table set zeros in
      (omega (arith, ints, r.0, r.1), omega (arith, ints, r.0, r.1))

  pub gains_fit : Lies 4000000000 (number_of table set +ℤ rho f x (members set))
  gains_fit =
      let r = rho_range some c x (members set) in
      let z = zero_number table set zeros in
      (omega (arith, ints, r.0, r.1), omega (arith, ints, r.0, r.1))
