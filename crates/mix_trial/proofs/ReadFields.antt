-- Fields and rows as they are printed are read as what was printed.
use Rattle.std.proofs.Common.{◌≡◌, ◌∙◌, sym, ap, refl, ◌+◌, ◌==◌, true, false, ℕ, zero, suc, ℤ, pos, neg_ℤ, ◌≤ℤ◌, List, [], ◌∷◌, ◌++◌, map, length, append_assoc, append-nil, ◌≤◌, arith, All, Option, Some, None, Result, Ok, int_eq}
use Rattle.std.specs.Prelude.{codes, nat_le}
use Rattle.std.specs.Fmt.{decimal, signed_decimal}
use Rattle.std.specs.Int.RustNames.{FitsSigned}
use mir.Syntax.{w64}
use Rattle.std.specs.List.{AllPass}
use Rattle.std.specs.Str.{bytes_eq}
use Rattle.std.proofs.lemmas.Bool.{false_from_ne_true}
use Rattle.std.proofs.lemmas.Bool.Decides.{nat_tests}
use Rattle.std.proofs.lemmas.Fmt.{decimal_digit}
use Rattle.std.proofs.lemmas.Int.{ints}
use Rattle.std.proofs.lemmas.List.{length-map}
use Rattle.std.proofs.lemmas.List.Elements.{All-head, All-tail, All-weaker}
use Rattle.mix_num.specs.Sellers.{AreAmounts, IsAmount}
use Rattle.mix_bids.specs.Bids.{IsBid}
use Rattle.mix_bids.specs.Offers.{IsOffer}
use Rattle.mix_bids.specs.declared.bid.Bid.{Bid}
use Rattle.mix_text.specs.Formats.{IsFormat}
use Rattle.mix_text.specs.Names.{is_among}
use Rattle.mix_text.specs.SharedRows.{amounts_row}
use Rattle.mix_text.specs.Spelling.{between, is_name, negative_of, spelled_number}
use Rattle.mix_text.specs.Reading.{◌>>=◌, bid_of, bid_row_of, each_of, goods_row_of, header_of, names_after, number_in, numbers_of, value_of, weight_of}
use Rattle.mix_text.specs.declared.faults.Code.{Code}
use Rattle.mix_text.proofs.Gathering.{Unlike, bytes_eq_refl, same_bytes}
use Rattle.mix_text.proofs.PrintedNumbers.{number_printed}
use Rattle.mix_text.proofs.SoundAuctions.{among_snoc, not_alike, turned}
use Rattle.mix_text.proofs.Spellings.{between_ok, name_spelled}
use Rattle.mix_trial.specs.Printing.{bid_row, goods_row, head_row, value_text}
use Rattle.mix_trial.proofs.PrintedAuctions.{offer_fits}

-- a step that goes well
pub then_is : {A B E : Type 0} (r : Result A E) (f : A → Result B E) (x : A) (y : Result B E) → r ≡ Ok x → f x ≡ y → (r >>= f) ≡ y
then_is r f x y e h = rw e h

pub head_read : (format : ℕ) → IsFormat format → header_of (head_row format) ≡ Ok format
unfolding header_of
head_read zero is = let some = is.0 in absurd (omega arith)
head_read (suc zero) is = let e : decimal 1 ≡ codes "1" = decimal_digit 1 (omega arith) in rw e refl
head_read (suc (suc zero)) is = let e : decimal 2 ≡ codes "2" = decimal_digit 2 (omega arith) in rw e refl
head_read (suc (suc (suc zero))) is = let e : decimal 3 ≡ codes "3" = decimal_digit 3 (omega arith) in rw e refl
head_read (suc (suc (suc (suc n)))) is = let few = is.1 in absurd (omega arith)

-- ---- names

-- names none of which is among some seen before
abbrev NewTo : List (List ℕ) → List (List ℕ) → Type 0
NewTo seen [] = Unit {0}
NewTo seen (x ∷ xs) = (is_among x seen ≡ false) × NewTo seen xs

new_to_none : (names : List (List ℕ)) → NewTo [] names
new_to_none [] = tt
new_to_none (x ∷ xs) = (refl, new_to_none xs)

-- where one of them has been seen too, the others are new still
still_new : (seen : List (List ℕ)) (x : List ℕ) (names : List (List ℕ)) → NewTo seen names → is_among x names ≡ false → NewTo (seen ++ (x ∷ [])) names
still_new seen x [] new h = tt
still_new seen x (y ∷ ys) new h =
    let s = not_alike (bytes_eq x y) (is_among x ys) h in
    (among_snoc y x seen new.0 (turned x y s.0), still_new seen x ys new.1 s.1)

names_read : (seen names : List (List ℕ)) → AllPass is_name names → Unlike names → NewTo seen names → names_after seen names ≡ Ok (seen ++ names)
names_read seen [] form apart new = ap Ok (sym (append-nil seen))
names_read seen (x ∷ xs) form apart new =
    let P : List ℕ → Type 0 = λ y. is_name y ≡ true in
    let name = name_spelled x (All-head P x xs form) in
    let fresh = new.0 in
    let rest = names_read (seen ++ (x ∷ [])) xs (All-tail P x xs form) apart.1 (still_new seen x xs new.1 apart.0) in
    rw (name, fresh) (rest ∙ ap Ok (append_assoc seen (x ∷ []) xs))

pub goods_read : (names : List (List ℕ)) → 1 ≤ length names → AllPass is_name names → Unlike names → goods_row_of (goods_row names) ≡ Ok names
unfolding goods_row_of
goods_read [] some form apart = absurd (omega arith)
goods_read (x ∷ xs) some form apart =
    let two : nat_le 2 (length (codes "goods" ∷ x ∷ xs)) ≡ true = grind (arith, nat_tests) in
    rw two (names_read [] (x ∷ xs) form apart (new_to_none (x ∷ xs)))

-- ---- numbers

number_read : (low high v : ℤ) → FitsSigned w64 v → low ≤ℤ v → v ≤ℤ high → number_in low high (signed_decimal v) ≡ Ok v
number_read low high v fits l h = ap (between low high) (number_printed v fits) ∙ between_ok low high v l h

-- fields that are each read as what they show
each_read : {X : Type 0} (read : List ℕ → Result X Code) (show : X → List ℕ) (xs : List X) → All (λ x. read (show x) ≡ Ok x) xs → each_of read (map show xs) ≡ Ok xs
each_read read show [] h = refl
each_read {X = X} read show (x ∷ xs) h =
    let P : X → Type 0 = λ y. read (show y) ≡ Ok y in
    let first = All-head P x xs h in
    let rest = each_read read show xs (All-tail P x xs h) in
    rw (first, rest) refl

pub amount_read : (v : ℤ) → IsAmount v → number_in (pos 0) (pos 1000000) (signed_decimal v) ≡ Ok v
amount_read v h = number_read (pos 0) (pos 1000000) v (omega (arith, ints)) h.0 h.1

same_test : (n : ℕ) → (n == n) ≡ true
same_test n = grind (arith, nat_tests)

pub amounts_read : (word : List ℕ) (n : ℕ) (xs : List ℤ) → AreAmounts n xs → numbers_of word n (pos 0) (pos 1000000) (amounts_row word xs) ≡ Ok xs
unfolding numbers_of
amounts_read word n xs are =
    let begins = bytes_eq_refl word in
    let size : length (word ∷ map signed_decimal xs) ≡ n + 1 = omega (arith, length-map xs signed_decimal, are.0) in
    let count : (length (word ∷ map signed_decimal xs) == n + 1) ≡ true = ap (λ m. m == n + 1) size ∙ same_test (n + 1) in
    let read = each_read (number_in (pos 0) (pos 1000000)) signed_decimal xs (All-weaker IsAmount (λ v. number_in (pos 0) (pos 1000000) (signed_decimal v) ≡ Ok v) amount_read xs are.1) in
    rw (begins, count) read

-- ---- bids

dash_is_none : spelled_number (codes "-") ≡ None
unfolding negative_of
dash_is_none = refl

not_dash : (v : ℤ) → FitsSigned w64 v → bytes_eq (signed_decimal v) (codes "-") ≡ false
not_dash v fits = false_from_ne_true (bytes_eq (signed_decimal v) (codes "-")) (λ t.
    (let same = same_bytes (signed_decimal v) (codes "-") t in
    let e : Some v ≡ None = sym (number_printed v fits) ∙ ap spelled_number same ∙ dash_is_none in
    cc e))

value_read : (o : Option ℤ) → IsOffer o → value_of (value_text o) ≡ Ok o
unfolding value_of
value_read None h = refl
value_read (Some v) h = let dash = not_dash v (offer_fits v h) in let r = amount_read v (h v refl) in rw (dash, r) refl

weight_read : (n : ℕ) (b : Bid) → IsBid n b → weight_of (signed_decimal b.weight) ≡ Ok b.weight
unfolding weight_of
weight_read n b is =
    let w = is.weight in
    let r = number_read (neg_ℤ (pos 10000)) (pos 10000) b.weight (omega (arith, ints)) w.0 w.1 in
    let other = is.some in
    let some : int_eq b.weight (pos 0) ≡ false = grind (arith, ints) in
    rw (r, some) refl

pub bid_read : (n : ℕ) (name : List ℕ) (b : Bid) → is_name name ≡ true → IsBid n b → bid_row_of n (bid_row name b) ≡ Ok (record { name = name; bid = b })
unfolding bid_row_of bid_of
bid_read n name b h is =
    let size : length (bid_row name b) ≡ n + 3 = omega (arith, length-map b.values.items value_text, is.offers.size) in
    let count : (length (bid_row name b) == n + 3) ≡ true = ap (λ m. m == n + 3) size ∙ same_test (n + 3) in
    let named = name_spelled name h in
    let weight = weight_read n b is in
    let values = each_read value_of value_text b.values.items (All-weaker IsOffer (λ o. value_of (value_text o) ≡ Ok o) value_read b.values.items is.offers.each) in
    let some = is.offers.some in
    rw (count, named, weight, values, some) refl
