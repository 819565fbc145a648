-- Prices that are read are prices with room for a step.
use Rattle.std.proofs.Common.{◌≡◌, ℕ, ℤ, pos, neg_ℤ, List, [], ◌∷◌, ap, arith, subst, Ok, Err, Result}
use Rattle.std.specs.Prelude.{codes}
use Rattle.std.proofs.lemmas.Int.{ints}
use Rattle.std.proofs.lemmas.List.Elements.{All-weaker}
use Rattle.mix_num.specs.Ranges.{HaveRoom, Lies}
use Rattle.mix_text.specs.Rows.{RestText, RowText}
use Rattle.mix_text.specs.Reading.{◌>>=◌, nothing_after, numbered_as, price_in, prices_after, prices_of}
use Rattle.mix_text.specs.declared.faults.Code.{Code}
use Rattle.mix_text.proofs.Sound.{numbers_ok, then_ok}

numbered_ok : {X : Type 0} (number : ℕ) (r : Result X Code) (x : X) → numbered_as number r ≡ Ok x → r ≡ Ok x
numbered_ok number (Ok y) x e = let same : y ≡ x = cc e in ap (λ z. Ok z) same
numbered_ok number (Err c) x e = cc e

row_ok : (n : ℕ) (fields : List (List ℕ)) (xs : List ℤ) → prices_of n fields ≡ Ok xs → HaveRoom n xs
row_ok n fields xs e =
    let read = numbers_ok (neg_ℤ (pos 2000000)) (pos 2000000) (codes "price") n fields xs e in
    (read.0, All-weaker (Lies 2000000) (Lies 3999999) (λ x lies. (omega (arith, ints, lies.0), omega (arith, ints, lies.1))) xs read.1)

-- the prices of the one row after an auction are prices of its goods, with room for a step
pub prices_ok : (n : ℕ) (rest : RestText) (xs : List ℤ) → prices_after n rest ≡ Ok xs → HaveRoom n xs
prices_ok n rest xs e = go rest.rows e
  where
    go : (rows : List RowText) → price_in n rest.next rows ≡ Ok xs → HaveRoom n xs
    go [] h = cc h
    go (row ∷ more) h =
        let a = then_ok (numbered_as row.number (prices_of n row.fields)) (λ prices. nothing_after more >>= λ _. Ok prices) xs h in
        let b = then_ok (nothing_after more) (λ _. Ok a.0) xs a.2 in
        let same : a.0 ≡ xs = let q = b.2 in cc q in
        subst (HaveRoom n) same (row_ok n row.fields a.0 (numbered_ok row.number (prices_of n row.fields) a.0 a.1))
