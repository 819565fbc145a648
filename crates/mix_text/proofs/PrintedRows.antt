-- What csv writes of fields that may be printed: the fields themselves, without quotes.
use Rattle.std.proofs.Common.{◌≡◌, ◌<◌, ◌==◌, Bool, true, false, ℕ, List, [], ◌∷◌, length, arith, refl}
use Rattle.std.specs.List.{list_all, list_any}
use Rattle.std.proofs.lemmas.Bool.Decides.{nat_tests}
use Rattle.csv.specs.Writing.{default_writer, with_flexible, needs_byte, field_text, fields_text, row_body, row_text, is_blank}
use Rattle.csv.specs.declared.writer.WriterBuilder.{WriterBuilder}
use Rattle.mix_text.specs.Spelling.{is_name_byte}
use Rattle.mix_text.specs.Pages.{PageText, is_printable, joined, after_commas, line_of}

-- whether the writer takes rows of different lengths makes no difference
module _ (flexible : Bool) where
  abbrev writer : WriterBuilder
  writer = with_flexible default_writer flexible

  -- a byte of a printed field calls for no quotes
  plain-byte : (b : ℕ) → is_name_byte b ≡ true → needs_byte writer b ≡ false
  plain-byte b h = grind (arith, nat_tests)

  needs-none : (f : List ℕ) → list_all is_name_byte f ≡ true → list_any (needs_byte writer) f ≡ false
  needs-none [] h = refl
  needs-none (c ∷ cs) h =
      let here = plain-byte c (grind (arith, nat_tests)) in
      let rest = needs-none cs (grind (arith, nat_tests)) in
      rw (here, rest) refl

  field-plain : (f : List ℕ) → is_printable f ≡ true → field_text writer f ≡ f
  field-plain f h = let e = needs-none f (grind (arith, nat_tests)) in rw e refl

  fields-plain : (fs : List (List ℕ)) → list_all is_printable fs ≡ true → fields_text writer fs ≡ after_commas fs
  unfolding fields_text
  fields-plain [] h = refl
  fields-plain (f ∷ fs) h =
      let here = field-plain f (grind (arith, nat_tests)) in
      let rest = fields-plain fs (grind (arith, nat_tests)) in
      rw (here, rest) refl

  some-byte : (f : List ℕ) → is_printable f ≡ true → (length f == 0) ≡ false
  some-byte f h = grind (arith, nat_tests)

  not-blank : (fs : List (List ℕ)) → 0 < length fs → list_all is_printable fs ≡ true → is_blank writer fs ≡ false
  unfolding is_blank
  not-blank [] some h = absurd (omega arith)
  not-blank (f ∷ []) some h = let p : is_printable f ≡ true = grind (arith, nat_tests) in rw (field-plain f p) (some-byte f p)
  not-blank (f ∷ g ∷ fs) some h = refl

  body-plain : (fs : List (List ℕ)) → list_all is_printable fs ≡ true → row_body writer fs ≡ joined fs
  body-plain [] h = refl
  body-plain (f ∷ fs) h =
      let here = field-plain f (grind (arith, nat_tests)) in
      let rest = fields-plain fs (grind (arith, nat_tests)) in
      rw (here, rest) refl

  -- csv writes the fields joined by commas, with a line feed
  pub row_text-plain : (fs : List (List ℕ)) → 0 < length fs → list_all is_printable fs ≡ true → row_text writer fs ≡ line_of fs
  row_text-plain fs some h = rw (body-plain fs h, not-blank fs some h) refl

pub page-same : (a b : List ℕ) (x y : List (List ℕ)) → a ≡ b → x ≡ y → ◌≡◌ {A = PageText} (record { ended = a; fields = x }) (record { ended = b; fields = y })
page-same a b x y p q = rw (p, q) refl
