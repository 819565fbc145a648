-- Where each good of a bundle has a tight pair, the bundle is lexicographically the greatest that extends.
use Rattle.std.proofs.Common.{◌≡◌, ◌≢◌, ℕ, zero, suc, ◌<◌, ◌≤◌, ◌⊎◌, inl, inr, ℤ, pos, ◌≤ℤ◌, ◌<ℤ◌, List, [], ◌∷◌, length, get_or, sym, subst, arith, ◌∙◌}
use Rattle.std.proofs.lemmas.Int.{ints}
use Rattle.std.specs.declared.cmp.Ordering.{Ordering}
use Rattle.std.specs.declared.cmp.Ordering.TheVariants.{Less, Equal, Greater}
use Rattle.std.specs.Ordering.{int_cmp, ordering_then}
use Rattle.std.specs.Cmp.{int_cmp_is}
use Rattle.std.specs.Cmp.Lexicographic.{slice_cmp}
use Rattle.mix_num.specs.Tables.{IsLexAtMost}
use Rattle.mix_num.specs.Shares.{AreShares}
use Rattle.mix_num.specs.Pairs.{HasTight, IsTightOf}
use Rattle.mix_num.proofs.PairSums.{pair_bounds}

lex-below : (x y : ℤ) (xs ys : List ℤ) → x <ℤ y → IsLexAtMost (x ∷ xs) (y ∷ ys)
lex-below x y xs ys h =
    let e : int_cmp x y ≡ Less = sym (int_cmp_is x y Less h) in
    subst (λ (o : Ordering). ordering_then o (slice_cmp int_cmp xs ys) ≢ Greater) (sym e) (λ q. cc)

lex-level : (x y : ℤ) (xs ys : List ℤ) → x ≡ y → IsLexAtMost xs ys → IsLexAtMost (x ∷ xs) (y ∷ ys)
lex-level x y xs ys h rest =
    let e : int_cmp x y ≡ Equal = sym (int_cmp_is x y Equal h) in
    subst (λ (o : Ordering). ordering_then o (slice_cmp int_cmp xs ys) ≢ Greater) (sym e) rest

split : (a b : ℤ) → a ≤ℤ b → (a <ℤ b) ⊎ (a ≡ b)
split a b h = grind (arith, ints)

-- at the first good in which two bundles differ, the second has more
pub lex-from : (z x : List ℤ) → length z ≡ length x
    → ((j : ℕ) → j < length z → ((i : ℕ) → i < j → get_or z i (pos 0) ≡ get_or x i (pos 0)) → get_or z j (pos 0) ≤ℤ get_or x j (pos 0)) → IsLexAtMost z x
lex-from [] [] e h = λ q. cc
lex-from [] (y ∷ x) e h = absurd (omega arith)
lex-from (y ∷ z) [] e h = absurd (omega arith)
lex-from (y ∷ z) (w ∷ x) e h = elim (split y w (h zero (omega arith) (λ i l. absurd (omega arith)))) [
  | inl lt ↦ lex-below y w z x lt
  | inr same ↦ lex-level y w z x same (lex-from z x (omega arith) (λ j l before. h (suc j) (omega arith) (shift same j before)))
]
  where
    shift : y ≡ w → (j : ℕ) → ((i : ℕ) → i < j → get_or z i (pos 0) ≡ get_or x i (pos 0)) → (i : ℕ) → i < suc j → get_or (y ∷ z) i (pos 0) ≡ get_or (w ∷ x) i (pos 0)
    shift same j before zero l = same
    shift same j before (suc i) l = before i (omega arith)

-- the tie rule by pairs: whatever else shares the supply, and gives the members before the k-th the same, gives the k-th at most its bundle
pub greatest_with_pairs : (n : ℕ) (rs bundles others : List (List ℤ)) (supply : List ℤ) (k : ℕ)
    → length supply ≡ n → k < length bundles → k < length rs → length (get_or bundles k []) ≡ n
    → ((j : ℕ) → j < n → HasTight n rs supply bundles k j)
    → AreShares n rs others supply → ((i : ℕ) → i < k → get_or others i [] ≡ get_or bundles i [])
    → IsLexAtMost (get_or others k []) (get_or bundles k [])
greatest_with_pairs n rs bundles others supply k e c h size tight s before =
    let f = s.fit k h in
    lex-from (get_or others k []) (get_or bundles k []) (f.size ∙ sym size)
    (λ j l same.
    let t = tight j (omega (arith, f.size)) in
    let p : IsTightOf n rs supply bundles k j t.0 t.1 = t.2 in
    let b = pair_bounds n rs bundles others supply k j t.0 t.1 e c h (omega (arith, f.size)) s before same p.pair in
    let m = p.number in
    omega (arith, ints))
