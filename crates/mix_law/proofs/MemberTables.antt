-- The table of a member is proper, and its number of the whole set is the member's total.
use Rattle.std.proofs.Common.{◌≡◌, ℕ, suc, ◌+◌, ◌-◌, ◌^◌, ◌≤◌, ◌<◌, Bool, true, false, cond, ℤ, pos, negsuc, neg_ℤ, ◌+ℤ◌, ◌-ℤ◌, ◌*ℤ◌, ◌≤ℤ◌, List, All, length, get_or, set, bit_and, bit_or, arith, sym, ap, ◌∙◌, ◌≢◌, ⊎_elim, eq-or-lt_of_le, get_or-set_same, get_or-set_other, length-set}
use Rattle.std.proofs.lemmas.Int.{ints, clamps}
use Rattle.std.proofs.lemmas.Bool.{false≢true}
use Rattle.std.proofs.lemmas.List.{get_or_default}
use Rattle.std.proofs.lemmas.Nat.{or_lt, pow_pos}
use Rattle.std.specs.Int.Bits.{and_lt}
use Rattle.std.specs.Int.{int_min, int_max}
use Rattle.mix_num.specs.Vectors.{Vector, Choices, bit, both, either, minus, shifted, members, with_null}
use Rattle.mix_num.specs.Ranges.{Lies}
use Rattle.mix_num.specs.Tables.{IsProper, number_of, whole}
use Rattle.mix_num.proofs.Masks.{members_above, whole_members, and_members, or_members}
use Rattle.mix_law.specs.Members.{IsLNatural, keeps_local, rho}
use Rattle.mix_law.specs.Demands.{IsTableOf}
use Rattle.mix_law.proofs.Lattice.{lattice, lesser, greater}
use Rattle.mix_law.proofs.Ranges.{rho_range, rho_grows}

lesser_at : (a : ℤ) (s t : Bool) → int_min (a -ℤ bit s) (a -ℤ bit t) ≡ a -ℤ bit (cond s true t)
lesser_at a true true = omega (arith, ints, clamps)
lesser_at a true false = omega (arith, ints, clamps)
lesser_at a false true = omega (arith, ints, clamps)
lesser_at a false false = omega (arith, ints, clamps)

greater_at : (a : ℤ) (s t : Bool) → int_max (a -ℤ bit s) (a -ℤ bit t) ≡ a -ℤ bit (cond s t false)
greater_at a true true = omega (arith, ints, clamps)
greater_at a true false = omega (arith, ints, clamps)
greater_at a false true = omega (arith, ints, clamps)
greater_at a false false = omega (arith, ints, clamps)

either_of : (s t r : Bool) → r ≡ cond s true t → s ≡ true → r ≡ true
either_of true t r e h = e
either_of false t r e h = absurd (false≢true h)

module _ {n : ℕ} {f : Vector → ℤ} {w : ℤ} {top : ℕ → ℤ} (c : IsLNatural n f w top) where
  -- what both sets give and what either gives are together no more than the two
  pub rho_submodular : (x : Vector) (s t : Choices) → (rho f x (both s t) +ℤ rho f x (either s t)) ≤ℤ (rho f x s +ℤ rho f x t)
  rho_submodular x s t =
      let h = lattice (keeps_local c) (minus x s) (minus x t) in
      let a = c.reads (lesser (minus x s) (minus x t)) (minus x (either s t)) (λ k _. lesser_at (x k) (s k) (t k)) in
      let b = c.reads (greater (minus x s) (minus x t)) (minus x (both s t)) (λ k _. greater_at (x k) (s k) (t k)) in
      omega (arith, ints)

  pub rho-same : (x : Vector) (s t : Choices) → ((k : ℕ) → k ≤ n → s k ≡ t k) → rho f x s ≡ rho f x t
  rho-same x s t h = ap (λ (a : ℤ). a -ℤ f x) (c.reads (minus x s) (minus x t) (λ k l. ap (λ (b : Bool). x k -ℤ bit b) (h k l)))

  rho-none : (x : Vector) (s : Choices) → ((k : ℕ) → k ≤ n → s k ≡ false) → rho f x s ≡ pos 0
  rho-none x s h =
      let e = c.reads (minus x s) x (λ k l. ap (λ (b : Bool). x k -ℤ bit b) (h k l) ∙ nothing (x k)) in
      omega (arith, ints)
    where
      nothing : (a : ℤ) → a -ℤ pos 0 ≡ a
      nothing a = omega (arith, ints)

  pub rho-every : (x : Vector) (s : Choices) → ((k : ℕ) → k ≤ n → s k ≡ true) → rho f x s ≡ w
  rho-every x s h =
      let e = c.reads (minus x s) (shifted x (negsuc 0)) (λ k l. ap (λ (b : Bool). x k -ℤ bit b) (h k l) ∙ one (x k)) in
      let r = c.shift x (negsuc 0) in
      let m : negsuc 0 *ℤ w ≡ neg_ℤ w = omega (arith, ints) in
      omega (arith, ints)
    where
      one : (a : ℤ) → a -ℤ pos 1 ≡ a +ℤ negsuc 0
      one a = omega (arith, ints)

  -- the whole set's number is the total
  pub number-whole : (p table : List ℤ) → IsTableOf n f p table → number_of table (whole n) ≡ w
  number-whole p table t =
      let some : 0 < 2 ^ suc n = pow_pos (suc n) in
      let e : whole n ≡ 2 ^ (n + 1) - 1 = let g : suc n ≡ n + 1 = omega arith in ap (λ (k : ℕ). 2 ^ k - 1) g in
      t.numbers (whole n) (omega arith) ∙ rho-every (with_null p) (members (whole n)) (λ k l. ap (λ (m : ℕ). members m k) e ∙ whole_members n k l)

  pub table-proper : 1 ≤ n → (p table : List ℤ) → w ≤ℤ pos 8000000 → IsTableOf n f p table → IsProper n table
  table-proper some p table small t = record {
    size = t.size;
    empty = t.numbers 0 (pow_pos (suc n)) ∙ rho-none (with_null p) (members 0) (λ k _. members_above 0 0 k (omega arith) (omega arith));
    submodular = λ a b h k.
        let law = rho_submodular (with_null p) (members a) (members b) in
        let i = t.numbers a h in
        let j = t.numbers b k in
        let u = t.numbers (bit_and a b) (and_lt (suc n) a b h k) ∙ rho-same (with_null p) (members (bit_and a b)) (both (members a) (members b)) (λ q _. and_members a b q) in
        let v = t.numbers (bit_or a b) (or_lt (suc n) a b h k) ∙ rho-same (with_null p) (members (bit_or a b)) (either (members a) (members b)) (λ q _. or_members a b q) in
        omega (arith, ints);
    grows = λ a b h k.
        let i = t.numbers a h in
        let v = t.numbers (bit_or a b) (or_lt (suc n) a b h k) in
        let g = rho_grows some c (with_null p) (members a) (members (bit_or a b)) (λ q _ e. either_of (members a q) (members b q) (members (bit_or a b) q) (or_members a b q) e) in
        omega (arith, ints);
    bound = λ a h. let i = t.numbers a h in let r = rho_range some c (with_null p) (members a) in omega (arith, ints);
  }

  -- the numbers that were written are the table, with the total for the whole set
  pub table-written : (p written : List ℤ) (last : ℕ) (sum : ℤ) → length written ≡ 2 ^ suc n → last ≡ whole n
      → ((a : ℕ) → a < last → get_or written a (pos 0) ≡ rho f (with_null p) (members a)) → sum ≡ w → IsTableOf n f p (set written last sum)
  table-written p written last sum size e h s =
      let some : 0 < 2 ^ suc n = pow_pos (suc n) in
      record {
        size = length-set written last sum ∙ size;
        numbers = λ a l. ⊎_elim
            (λ (q : a ≡ last).
            let lt : last < length written = omega arith in
            let every : rho f (with_null p) (members a) ≡ w = rho-every (with_null p) (members a) (λ k g. ap (λ (m : ℕ). members m k) (q ∙ e ∙ whole-again) ∙ whole_members n k g) in
            ap (λ (k : ℕ). get_or (set written last sum) k (pos 0)) q ∙ get_or-set_same written last sum (pos 0) lt ∙ s ∙ sym every)
            (λ (q : a < last). let ne : a ≢ last = omega arith in get_or-set_other written last a sum (pos 0) ne ∙ h a q)
            (eq-or-lt_of_le (let le : a ≤ last = omega arith in le));
      }
    where
      whole-again : whole n ≡ 2 ^ (n + 1) - 1
      whole-again = let g : suc n ≡ n + 1 = omega arith in ap (λ (k : ℕ). 2 ^ k - 1) g

  pub table-lies : (p table : List ℤ) → w ≤ℤ pos 8000000 → 1 ≤ n → IsTableOf n f p table → All (Lies 8000000) table
  table-lies p table small some t k d l =
      let h : k < 2 ^ suc n = let s = t.size in omega arith in
      let i = t.numbers k h in
      let r = rho_range some c (with_null p) (members k) in
      let e = get_or_default table k d (pos 0) l in
      (omega (arith, ints), omega (arith, ints))
