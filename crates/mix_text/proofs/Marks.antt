-- A text without byte order marks at its head.
use Rattle.std.proofs.Common.{◌≡◌, ◌==◌, ◌&&◌, Bool, true, false, ℕ, List, [], ◌∷◌, refl, inl, inr, take, drop, nat_eq}
use Rattle.std.proofs.lemmas.Bool.{cases_Bool}
use Rattle.std.specs.Cmp.Lexicographic.{pointwise}
use Rattle.csv.specs.Reading.{strip_bom}
use Rattle.mix_text.specs.Rows.{is_mark, unmarked}

-- the bytes of a mark
abbrev pub mark : List ℕ
mark = 0xEF ∷ 0xBB ∷ 0xBF ∷ []

three : (a b c : Bool) → (a && (b && (c && true))) ≡ ((a && b) && c)
three true true true = refl
three true true false = refl
three true false c = refl
three false b c = refl

begins-is_mark : (a b c : ℕ) (rest : List ℕ) → pointwise nat_eq (take 3 (a ∷ b ∷ c ∷ rest)) mark ≡ is_mark a b c
begins-is_mark a b c rest = three (a == 0xEF) (b == 0xBB) (c == 0xBF)

too-short : (a b : Bool) → (a && (b && false)) ≡ true → ⊥
too-short true true h = cc h
too-short true false h = cc h
too-short false b h = cc h

-- a mark at the head goes
pub unmarked_after : (text : List ℕ) → pointwise nat_eq (take 3 text) mark ≡ true → unmarked (drop 3 text) ≡ unmarked text
unfolding unmarked
unmarked_after [] h = refl
unmarked_after (a ∷ []) h = absurd (too-short true (a == 0xEF) h)
unmarked_after (a ∷ b ∷ []) h = absurd (too-short (a == 0xEF) (b == 0xBB) h)
unmarked_after (a ∷ b ∷ c ∷ rest) h = let marked = rw begins-is_mark at h in rw marked refl

-- another text stays
pub unmarked_same : (text : List ℕ) → pointwise nat_eq (take 3 text) mark ≡ false → unmarked text ≡ text
unfolding unmarked
unmarked_same [] h = refl
unmarked_same (a ∷ []) h = refl
unmarked_same (a ∷ b ∷ []) h = refl
unmarked_same (a ∷ b ∷ c ∷ rest) h = let plain = rw begins-is_mark at h in rw plain refl

-- no mark is left
pub strip_bom-unmarked : (text : List ℕ) → strip_bom (unmarked text) ≡ unmarked text
unfolding strip_bom unmarked
strip_bom-unmarked [] = refl
strip_bom-unmarked (a ∷ []) = refl
strip_bom-unmarked (a ∷ b ∷ []) = refl
strip_bom-unmarked (a ∷ b ∷ c ∷ rest) = elim (cases_Bool (is_mark a b c)) [
  | inl marked ↦ rw marked (strip_bom-unmarked rest)
  | inr plain ↦ rw (plain, plain) refl
]
