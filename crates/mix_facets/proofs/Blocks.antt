-- Cells in blocks, one for each cell of the later coordinates: a block holds the places of one coordinate, with a stride of cells at each.
use Rattle.std.proofs.Common.{◌≡◌, ℕ, zero, suc, ◌+◌, ◌-◌, ◌*◌, ◌/◌, ◌%◌, ◌≤◌, ◌<◌, ⊎_elim, List, ℤ, pos, ◌+ℤ◌, arith, sym, ap, ◌∙◌, length, get_or}
use Rattle.std.proofs.lemmas.Bool.{cases_lt}
use Rattle.std.proofs.lemmas.Nat.{div-add-mod', div_below, mod_below, le-div, mul-le, div-mul-add, mod-mul-add}
use Rattle.std.proofs.Math.Nat.{add-mul, mul_assoc, mul_comm}
use Rattle.mix_num.specs.Vectors.{Vector}
use Rattle.mix_facets.specs.Cells.{AreSums, AreBlockSums}

-- the place of the cell e of the block j
place_in : (s m j e : ℕ) → 0 < s → e < m * s → (j * (s * m) + e) / s % m ≡ e / s
place_in s m j e p h =
    let l = mod_below e s p in
    let w = div-add-mod' e s in
    let a : j * (s * m) ≡ j * m * s = ap (λ z. j * z) (mul_comm s m) ∙ sym (mul_assoc j m s) in
    let b = add-mul (j * m) (e / s) s in
    let f : j * (s * m) + e ≡ (j * m + e / s) * s + e % s = omega arith in
    ap (λ z. z / s % m) f ∙ ap (λ z. z % m) (div-mul-add (j * m + e / s) s (e % s) l) ∙ mod-mul-add j m (e / s) (div_below e s m p h)

-- where a block has a cell, it has all of the first place
pub first_fits : (s m : ℕ) → 0 < s * m → s ≤ s * m
first_fits s zero h = absurd (omega arith)
first_fits s (suc m) h = omega arith

-- a block that begins before the end of the cells ends there at the latest
pub record IsBlock (start b size : ℕ) : Type 0 where
  pub some : 0 < b
  pub fits : start + b ≤ size

pub block_fits : (n j start b size : ℕ) → size ≡ n * b → start ≡ j * b → start < size → IsBlock start b size
block_fits n j start zero size e f h = absurd (omega arith)
block_fits n j start (suc b) size e f h = record {
  some = omega arith;
  fits = ⊎_elim
      (λ l. let q = mul-le (suc j) (suc b) n (suc b) l (omega arith) in omega arith)
      (λ l. let q = mul-le n (suc b) j (suc b) l (omega arith) in absurd (omega arith))
      (cases_lt j n);
}

-- the sums along the coordinate are those within each block
pub sums_in_block : (s m j start : ℕ) (cells now : List ℤ) (sums : Vector) → 0 < s → start ≡ j * (s * m) → start + s * m ≤ length cells → 0 < s * m → ((k : ℕ) → start ≤ k → get_or now k (pos 0) ≡ get_or cells k (pos 0)) → AreSums s m cells sums → AreBlockSums s start (start + s * m) now sums
sums_in_block s m j start cells now sums p is fits some same are = record {
  first = λ k l h.
      let e = k - start in
      let q = at k l (omega (arith, least)) in
      are.first k (omega (arith, least)) (q ∙ none e (omega arith)) ∙ sym (same k l);
  later = λ k l h.
      let e = k - start in
      let q = at k (omega arith) (omega arith) in
      let d = le-div 1 e s p (omega arith) in
      are.later k (omega arith) (λ z. omega arith) ∙ ap (λ w. w +ℤ sums (k - s)) (sym (same k (omega arith)));
}
  where
    comm : s * m ≡ m * s
    comm = mul_comm s m

    least : s ≤ s * m
    least = first_fits s m some

    none : (e : ℕ) → e < s → e / s ≡ 0
    none e l = let q = div_below e s 1 p (omega arith) in omega arith

    at : (k : ℕ) → start ≤ k → k < start + s * m → k / s % m ≡ (k - start) / s
    at k l h =
        let f : k ≡ j * (s * m) + (k - start) = omega arith in
        ap (λ z. z / s % m) f ∙ place_in s m j (k - start) p (omega (arith, comm))
