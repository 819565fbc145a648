-- What is read keeps to its ranges: numbers, names, bids.
use Rattle.std.proofs.Common.{◌≡◌, ◌≢◌, ◌≤ℤ◌, ◌+◌, ◌==◌, ℕ, suc, ℤ, pos, neg_ℤ, List, [], ◌∷◌, length, drop, ◌∙◌, ap, arith, refl, subst, Option, Some, None, Ok, Err, Result, Bool, true, false, not, inl, inr, int_eq, All}
use Rattle.std.specs.Prelude.{codes}
use Rattle.std.specs.Str.{bytes_eq}
use Rattle.std.proofs.lemmas.Bool.{cases_Bool}
use Rattle.std.proofs.lemmas.Bool.Decides.{nat_tests}
use Rattle.std.proofs.lemmas.Int.{ints}
use Rattle.std.proofs.lemmas.List.{length-drop}
use Rattle.std.proofs.lemmas.List.Elements.{All-cons}
use Rattle.mix_num.specs.Ranges.{Lies}
use Rattle.mix_bids.specs.Bids.{IsBid}
use Rattle.mix_bids.specs.Offers.{IsOffer, offers_some}
use Rattle.mix_text.specs.Spelling.{is_name, spelled_name, spelled_number}
use Rattle.mix_text.specs.Reading.{◌>>=◌, NamedBid, begins, bid_of, bid_row_of, each_of, field_at, holds, number_in, numbers_of, value_of, weight_of}
use Rattle.mix_text.specs.declared.faults.Code.{Code}
use Rattle.mix_text.specs.declared.faults.Code.TheVariants as code
use Rattle.mix_text.proofs.Spellings.{name_read, between_range}

-- ---- steps of a reading that went well

pub then_ok : {A B E : Type 0} (r : Result A E) (f : A → Result B E) (y : B) → (r >>= f) ≡ Ok y → (x : A) × (r ≡ Ok x) × (f x ≡ Ok y)
then_ok (Ok x) f y e = (x, refl, e)
then_ok (Err c) f y e = cc e

pub holds_ok : (t : Bool) (c : Code) (u : Unit {0}) → holds t c ≡ Ok u → t ≡ true
holds_ok true c u e = refl
holds_ok false c u e = cc e

pub number_ok : (low high : ℤ) (field : List ℕ) (w : ℤ) → number_in low high field ≡ Ok w → (low ≤ℤ w) × (w ≤ℤ high)
number_ok low high field w e = between_range low high (spelled_number field) w e

weight_ok : (field : List ℕ) (w : ℤ) → weight_of field ≡ Ok w → Lies 10000 w × (w ≢ pos 0)
unfolding weight_of
weight_ok field w e =
    let a = then_ok (number_in (neg_ℤ (pos 10000)) (pos 10000) field) _ w e in
    let b = then_ok (holds (not (int_eq a.0 (pos 0))) code.Weight) _ w a.2 in
    let same : a.0 ≡ w = let q = b.2 in cc q in
    let t = holds_ok (not (int_eq a.0 (pos 0))) code.Weight b.0 b.1 in
    (subst (λ (z : ℤ). Lies 10000 z) same (number_ok (neg_ℤ (pos 10000)) (pos 10000) field a.0 a.1), λ z. (let zero : a.0 ≡ pos 0 = same ∙ z in grind (arith, ints)))

value_ok : (field : List ℕ) (o : Option ℤ) → value_of field ≡ Ok o → IsOffer o
unfolding value_of
value_ok field o e = elim (cases_Bool (bytes_eq field (codes "-"))) [
  | inl t ↦ (let q = rw t at e in let none : None ≡ o = cc q in λ v s. absurd (let z = none ∙ s in cc z))
  | inr f ↦ (
      let q = rw f at e in
      let a = then_ok (number_in (pos 0) (pos 1000000) field) _ o q in
      let some : Some a.0 ≡ o = let z = a.2 in cc z in
      λ v s. (let same : a.0 ≡ v = let z = some ∙ s in cc z in let r = number_ok (pos 0) (pos 1000000) field a.0 a.1 in rw (← same) r))
]

-- fields read in turn: as many as there were, each as its reading says
pub each_ok : {X : Type 0} (read : List ℕ → Result X Code) (P : X → Type 0) → ((field : List ℕ) (x : X) → read field ≡ Ok x → P x) → (fields : List (List ℕ)) (xs : List X) → each_of read fields ≡ Ok xs
    → (length xs ≡ length fields) × All P xs
each_ok {X = X} read P ok [] xs e = let same : [] ≡ xs = cc e in subst (λ (z : List X). (length z ≡ 0) × All P z) same (refl, λ k d l. absurd (omega arith))
each_ok {X = X} read P ok (field ∷ rest) xs e =
    let a = then_ok (read field) (λ x. each_of read rest >>= λ ys. Ok (x ∷ ys)) xs e in
    let b = then_ok (each_of read rest) (λ ys. Ok (a.0 ∷ ys)) xs a.2 in
    let same : (a.0 ∷ b.0) ≡ xs = let q = b.2 in cc q in
    let h = each_ok read P ok rest b.0 b.1 in
    subst (λ (z : List X). (length z ≡ suc (length rest)) × All P z) same (ap suc h.0, All-cons P a.0 b.0 (ok field a.0 a.1) h.1)

pub equal_numbers : (a b : ℕ) → (a == b) ≡ true → a ≡ b
equal_numbers a b h = grind (arith, nat_tests)

-- the numbers of a row, one for each good
pub numbers_ok : (low high : ℤ) (word : List ℕ) (n : ℕ) (fields : List (List ℕ)) (xs : List ℤ) → numbers_of word n low high fields ≡ Ok xs → (length xs ≡ n) × All (λ x. (low ≤ℤ x) × (x ≤ℤ high)) xs
unfolding numbers_of
numbers_ok low high word n fields xs e =
    let a = then_ok (holds (begins fields word) code.Place) _ xs e in
    let b = then_ok (holds (length fields == n + 1) code.Fields) _ xs a.2 in
    let size = equal_numbers (length fields) (n + 1) (holds_ok (length fields == n + 1) code.Fields b.0 b.1) in
    let r = each_ok (number_in low high) (λ x. (low ≤ℤ x) × (x ≤ℤ high)) (λ field x. number_ok low high field x) (drop 1 fields) xs b.2 in
    (omega (arith, r.0, size, length-drop 1 fields), r.1)

-- a named bid over n goods
pub record IsNamedBid (n : ℕ) (b : NamedBid) : Type 0 where
  pub name : is_name b.name ≡ true
  pub bid : IsBid n b.bid

pub bid_ok : (n : ℕ) (fields : List (List ℕ)) (b : NamedBid) → bid_of n fields ≡ Ok b → IsNamedBid n b
unfolding bid_of
bid_ok n fields b e =
    let count = then_ok (holds (length fields == n + 3) code.Fields) _ b e in
    let name = then_ok (spelled_name (field_at fields 1)) _ b count.2 in
    let weight = then_ok (weight_of (field_at fields 2)) _ b name.2 in
    let values = then_ok (each_of value_of (drop 3 fields)) _ b weight.2 in
    let some = then_ok (holds (offers_some values.0) code.Nothing) _ b values.2 in
    let same : record { name = name.0; bid = record { weight = weight.0; values = record { items = values.0 } } } ≡ b = let q = some.2 in cc q in
    let size = equal_numbers (length fields) (n + 3) (holds_ok (length fields == n + 3) code.Fields count.0 count.1) in
    let each = each_ok value_of IsOffer value_ok (drop 3 fields) values.0 values.1 in
    let w = weight_ok (field_at fields 2) weight.0 weight.1 in
    let left = length-drop 3 fields in
    subst (λ (z : NamedBid). IsNamedBid n z) same (record {
      name = (name_read (field_at fields 1) name.0 name.1).1;
      bid = record {
        offers = record { size = omega (arith, size, each.0, left); each = each.1; some = holds_ok (offers_some values.0) code.Nothing some.0 some.1 };
        weight = w.0;
        some = w.1;
      };
    })

pub bid_row_ok : (n : ℕ) (fields : List (List ℕ)) (b : NamedBid) → bid_row_of n fields ≡ Ok b → IsNamedBid n b
unfolding bid_row_of
bid_row_ok n fields b e = let a = then_ok (holds (begins fields (codes "bid")) code.Place) _ b e in bid_ok n fields b a.2
