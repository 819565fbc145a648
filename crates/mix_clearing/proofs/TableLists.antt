-- The table of a function at prices is one list.
use Rattle.std.proofs.Common.{◌≡◌, ℕ, suc, ◌^◌, ◌<◌, List, ℤ, pos, sym, subst, ◌∙◌, arith}
use Rattle.std.proofs.lemmas.List.{ext_get_or}
use Rattle.std.proofs.lemmas.List.FromFn.{get_or-map-range_with_len, length-map-range_with_len}
use Rattle.mix_num.specs.Vectors.{Vector, members, with_null}
use Rattle.mix_law.specs.Members.{rho}
use Rattle.mix_law.specs.Demands.{IsTableOf, table_of}

pub table_of-is : (n : ℕ) (f : Vector → ℤ) (prices : List ℤ) → IsTableOf n f prices (table_of n f prices)
table_of-is n f prices = record {
  size = length-map-range_with_len (λ set. rho f (with_null prices) (members set)) 0 (2 ^ suc n);
  numbers = λ set l. get_or-map-range_with_len (λ set. rho f (with_null prices) (members set)) 0 (2 ^ suc n) set set (pos 0) l (omega arith);
}

-- whatever is the table is this list
pub is-table_of : (n : ℕ) (f : Vector → ℤ) (prices table : List ℤ) → IsTableOf n f prices table → table ≡ table_of n f prices
is-table_of n f prices table t =
    ext_get_or (pos 0) table (table_of n f prices) (t.size ∙ sym (table_of-is n f prices).size)
    (λ i l. let h : i < 2 ^ suc n = subst (λ (m : ℕ). i < m) t.size l in t.numbers i h ∙ sym ((table_of-is n f prices).numbers i h))
