-- Rows are read exactly where they are printed.
use Rattle.std.proofs.Common.{◌≡◌, ◌==◌, ◌∙◌, sym, ap, ap₂, refl, subst, ◌<◌, ◌≤◌, ◌+◌, ◌-◌, ◌≤ℤ◌, ℕ, ℤ, pos, neg_ℤ, true, List, [], ◌∷◌, ◌++◌, length, map, drop, take, get_or, nat_lt, arith, inl, inr, Ok, All}
use Rattle.std.specs.Prelude.{codes}
use Rattle.std.specs.Fmt.{signed_decimal}
use Rattle.std.specs.Str.{bytes_eq}
use Rattle.std.proofs.lemmas.Bool.{cases_Bool}
use Rattle.std.proofs.lemmas.Bool.Decides.{nat_tests}
use Rattle.std.proofs.lemmas.Int.{ints}
use Rattle.std.proofs.lemmas.List.Elements.{All-cons, All-head, All-nil, All-tail}
use Rattle.std.proofs.lemmas.List.{drop_all, drop_more, get_or-append_right, get_or-drop, length-append, length-drop, length-map, take_all, take_at, take_more}
use Rattle.mix_num.specs.Sellers.{AreAmounts}
use Rattle.mix_num.specs.declared.pair.Tight.{Tight}
use Rattle.mix_text.specs.Auctions.{AuctionText}
use Rattle.mix_text.specs.Bidders.{name_at}
use Rattle.mix_text.specs.Names.{AreNames}
use Rattle.mix_text.specs.Formats.{has_order}
use Rattle.mix_text.specs.Reading.{◌>>=◌, begins, bidder_of, each_of, end_of, field_at, holds, number_in, numbers_of}
use Rattle.mix_text.specs.SharedRows.{amounts_row, end_row, order_row}
use Rattle.mix_text.specs.Spelling.{is_name}
use Rattle.mix_text.specs.declared.faults.Code.TheVariants as code
use Rattle.mix_text.proofs.Gathering.{bytes_eq_refl, same_bytes}
use Rattle.mix_text.proofs.Sound.{equal_numbers, holds_ok, then_ok}
use Rattle.mix_answer.specs.Outcomes.{BidderGood, choice_text, cleared_row, head_row, refusal_row, share_row, tight_row, version_of}
use Rattle.mix_answer.specs.Readings.{amounts_of, choice_of, cleared_of, head_of, numbers_at, order_of, refusal_of, refusal_row_of, set_of, share_of, tight_of, wanted_name, wanted_names}
use Rattle.mix_answer.specs.Shapes.{AreSets, FitsAuction, IsShare}
use Rattle.mix_answer.specs.declared.refusal.Refusal.{Refusal}
use Rattle.mix_answer.specs.declared.share.Share.{Share}
use Rattle.mix_answer.proofs.SpelledFields.{IsExact, LiesFrom, bidder_exact, choice_exact, each_exact, holds_tells, number_exact, set_exact, then_tells, wanted_exact}

-- ---- fields of a row

-- equal numbers pass the test
same_count : (a b : ℕ) → a ≡ b → (a == b) ≡ true
same_count a b e = grind (arith, nat_tests)

first_of_two : (a b : ℕ) → a < b → nat_lt a b ≡ true
first_of_two a b h = grind (arith, nat_tests)

is_below : (a b : ℕ) → nat_lt a b ≡ true → a < b
is_below a b h = grind (arith, nat_tests)

-- the first field, and those after it
split_one : (fields : List (List ℕ)) → 0 < length fields → fields ≡ field_at fields 0 ∷ drop 1 fields
split_one fields h = drop_more fields 0 [] h

split_two : (fields : List (List ℕ)) → 1 < length fields → fields ≡ field_at fields 0 ∷ field_at fields 1 ∷ drop 2 fields
split_two fields h =
    let some : 0 < length fields = omega arith in
    split_one fields some ∙ ap (λ (rest : List (List ℕ)). field_at fields 0 ∷ rest) (drop_more fields 1 [] h)

split_four : (fields : List (List ℕ)) → 3 < length fields → fields ≡ field_at fields 0 ∷ field_at fields 1 ∷ field_at fields 2 ∷ field_at fields 3 ∷ drop 4 fields
split_four fields h =
    let two : 1 < length fields = omega arith in
    let third : 2 < length fields = omega arith in
    split_two fields two
    ∙ ap (λ (rest : List (List ℕ)). field_at fields 0 ∷ field_at fields 1 ∷ rest) (drop_more fields 2 [] third ∙ ap (λ (rest : List (List ℕ)). field_at fields 2 ∷ rest) (drop_more fields 3 [] h))

-- n fields, and the last one
split_last : (rest : List (List ℕ)) (n : ℕ) → length rest ≡ n + 1 → rest ≡ take n rest ++ get_or rest n [] ∷ []
split_last rest n size =
    let within : n < length rest = omega arith in
    sym (take_all (n + 1) rest (omega arith)) ∙ take_more rest n [] within

-- ---- numbers and one number more

abbrev NumbersAndOne : ℕ → ℤ → ℤ → ℤ → ℤ → List ℤ → ℤ → Type 0
NumbersAndOne n low high least most xs v = (length xs ≡ n) × All (LiesFrom low high) xs × LiesFrom least most v

numbers_told : (low high least most : ℤ) → IsExact (number_in low high) signed_decimal (LiesFrom low high) → IsExact (number_in least most) signed_decimal (LiesFrom least most)
    → (fields : List (List ℕ)) (first n : ℕ) (xs : List ℤ) (v : ℤ) → length fields ≡ n + (first + 1)
    → numbers_at first n low high fields ≡ Ok xs → number_in least most (field_at fields (n + first)) ≡ Ok v
    → (drop first fields ≡ map signed_decimal xs ++ signed_decimal v ∷ []) × NumbersAndOne n low high least most xs v
numbers_told low high least most each one fields first n xs v size e l =
    let rest : List (List ℕ) = drop first fields in
    let left : length rest ≡ n + 1 = omega (arith, length-drop first fields, size) in
    let numbers = (each_exact (number_in low high) signed_decimal (LiesFrom low high) each).told (take n rest) xs e in
    let last = one.told (field_at fields (n + first)) v l in
    let swap : first + n ≡ n + first = omega arith in
    let there : get_or rest n [] ≡ field_at fields (n + first) = get_or-drop first fields n [] ∙ ap (λ (i : ℕ). get_or fields i []) swap in
    let ends : rest ≡ map signed_decimal xs ++ signed_decimal v ∷ [] =
    split_last rest n left ∙ ap₂ (λ (front : List (List ℕ)) (end : List ℕ). front ++ end ∷ []) numbers.0 (there ∙ last.0) in
    let parts : length (take n rest) ≡ n = omega (arith, ap length (split_last rest n left), length-append (take n rest) (get_or rest n [] ∷ []), left) in
    let count : length xs ≡ n = omega (arith, ap length numbers.0, length-map xs signed_decimal, parts) in
    (ends, (count, numbers.1, last.1))

numbers_tell : (low high least most : ℤ) → IsExact (number_in low high) signed_decimal (LiesFrom low high) → IsExact (number_in least most) signed_decimal (LiesFrom least most)
    → (fields : List (List ℕ)) (first n : ℕ) (xs : List ℤ) (v : ℤ) → NumbersAndOne n low high least most xs v → drop first fields ≡ map signed_decimal xs ++ signed_decimal v ∷ []
    → (numbers_at first n low high fields ≡ Ok xs) × (number_in least most (field_at fields (n + first)) ≡ Ok v)
numbers_tell low high least most each one fields first n xs v are e =
    let size : length (map signed_decimal xs) ≡ n = omega (arith, length-map xs signed_decimal, are.0) in
    let swap : n + first ≡ first + n = omega arith in
    let none : n - n ≡ 0 = omega arith in
    let last : field_at fields (n + first) ≡ signed_decimal v =
    ap (λ (i : ℕ). get_or fields i []) swap ∙ sym (get_or-drop first fields n []) ∙ ap (λ (rest : List (List ℕ)). get_or rest n []) e
    ∙ get_or-append_right (map signed_decimal xs) (signed_decimal v ∷ []) n n [] size (omega arith) ∙ ap (λ (i : ℕ). get_or (signed_decimal v ∷ []) i []) none in (
      ap (λ (rest : List (List ℕ)). each_of (number_in low high) (take n rest)) e ∙ ap (each_of (number_in low high)) (take_at (map signed_decimal xs) (signed_decimal v ∷ []) n size)
          ∙ (each_exact (number_in low high) signed_decimal (LiesFrom low high) each).tells xs are.1,
      ap (number_in least most) last ∙ one.tells v are.2,
    )

-- ---- a word and a number for each good

pub word_row : (word : List ℕ) (n : ℕ) (low high : ℤ) → neg_ℤ (pos 10000000000000) ≤ℤ low → high ≤ℤ pos 10000000000000
    → IsExact (numbers_of word n low high) (amounts_row word) (λ (xs : List ℤ). (length xs ≡ n) × All (LiesFrom low high) xs)
unfolding numbers_of
word_row word n low high l h =
    let each = each_exact (number_in low high) signed_decimal (LiesFrom low high) (number_exact low high l h) in
    record {
      told = λ fields xs e. (
          let a = then_ok (holds (begins fields word) code.Place) _ xs e in
          let b = then_ok (holds (length fields == n + 1) code.Fields) _ xs a.2 in
          let first = same_bytes (field_at fields 0) word (holds_ok (begins fields word) code.Place a.0 a.1) in
          let size = equal_numbers (length fields) (n + 1) (holds_ok (length fields == n + 1) code.Fields b.0 b.1) in
          let some : 0 < length fields = omega (arith, size) in
          let numbers = each.told (drop 1 fields) xs b.2 in
          let count : length xs ≡ n = omega (arith, size, length-drop 1 fields, ap length numbers.0, length-map xs signed_decimal) in
          (split_one fields some ∙ ap₂ (λ (x : List ℕ) (rest : List (List ℕ)). x ∷ rest) first numbers.0, (count, numbers.1)));
      tells = λ xs are. (
          let row : List (List ℕ) = amounts_row word xs in
          let size : length row ≡ n + 1 = omega (arith, length-map xs signed_decimal, are.0) in
          then_tells (holds (begins row word) code.Place) _ tt xs (holds_tells (bytes_eq word word) code.Place (bytes_eq_refl word))
          (then_tells (holds (length row == n + 1) code.Fields) _ tt xs (holds_tells (length row == n + 1) code.Fields (same_count (length row) (n + 1) size)) (each.tells xs are.1)));
    }

low_bound : neg_ℤ (pos 10000000000000) ≤ℤ pos 0
low_bound = omega (arith, ints)

high_bound : (n : ℕ) → n ≤ 10000000000000 → pos n ≤ℤ pos 10000000000000
high_bound n h = omega (arith, ints)

pub amounts_exact : (word : List ℕ) (n : ℕ) → IsExact (amounts_of word n) (amounts_row word) (AreAmounts n)
amounts_exact word n = let exact = word_row word n (pos 0) (pos 1000000) low_bound (high_bound 1000000 (omega arith)) in record { told = exact.told; tells = exact.tells }

-- ---- the first row and the last ones

-- a list of one number that is v
one_number : (v : ℤ) (xs : List ℤ) → (length xs ≡ 1) × All (LiesFrom v v) xs → xs ≡ v ∷ []
one_number v [] h = absurd (let size = h.0 in omega (arith, size))
one_number v (x ∷ []) h =
    let range = All-head (LiesFrom v v) x [] h.1 in
    let low = range.0 in
    let high = range.1 in
    let one : x ≡ v = omega (arith, ints, low, high) in
    ap (λ (z : ℤ). z ∷ []) one
one_number v (x ∷ y ∷ xs) h = absurd (let size = h.0 in omega (arith, size))

pub version_small : (format : ℕ) → version_of format ≤ 2
version_small format = elim (cases_Bool (has_order format)) [
  | inl t ↦ rw t (omega arith)
  | inr f ↦ rw f (omega arith)
]

-- a row of a word and one number, whatever that is
number_row : (word : List ℕ) (v : ℕ) → v ≤ 2 → IsExact (λ fields. numbers_of word 1 (pos v) (pos v) fields >>= λ _. Ok tt) (λ (u : Unit {0}). amounts_row word (pos v ∷ [])) (λ (u : Unit {0}). Unit {0})
number_row word v few =
    let exact = word_row word 1 (pos v) (pos v) (omega (arith, ints)) (high_bound v (omega (arith, few))) in
    let lies : LiesFrom (pos v) (pos v) (pos v) = (omega (arith, ints), omega (arith, ints)) in
    let tells = exact.tells (pos v ∷ []) (refl, All-cons (LiesFrom (pos v) (pos v)) (pos v) [] lies (All-nil (LiesFrom (pos v) (pos v)))) in
    record {
      told = λ fields u e. (
          let a = then_ok (numbers_of word 1 (pos v) (pos v) fields) (λ _. Ok tt) u e in
          let row = exact.told fields a.0 a.1 in
          (row.0 ∙ ap (amounts_row word) (one_number (pos v) a.0 row.1), tt));
      tells = λ u k. then_tells (numbers_of word 1 (pos v) (pos v) (amounts_row word (pos v ∷ []))) (λ _. Ok tt) (pos v ∷ []) tt tells refl;
    }

pub head_exact : (format : ℕ) → IsExact (head_of format) (λ (u : Unit {0}). head_row format) (λ (u : Unit {0}). Unit {0})
head_exact format = let exact = number_row (codes "outcome") (version_of format) (version_small format) in record { told = exact.told; tells = exact.tells }

-- the names of an order
names_told : (names fields : List (List ℕ)) (u : Unit {0}) → All (λ name. is_name name ≡ true) names → length fields ≡ length names → wanted_names names fields ≡ Ok u → fields ≡ names
names_told [] [] u named size e = refl
names_told [] (field ∷ fields) u named size e = absurd (omega (arith, size))
names_told (name ∷ names) [] u named size e = absurd (omega (arith, size))
names_told (name ∷ names) (field ∷ fields) u named size e =
    let a = then_ok (wanted_name name field) (λ _. wanted_names names fields) u e in
    let here = (wanted_exact name (All-head (λ n. is_name n ≡ true) name names named)).told field a.0 a.1 in
    ap₂ (λ (x : List ℕ) (rest : List (List ℕ)). x ∷ rest) here.0 (names_told names fields u (All-tail (λ n. is_name n ≡ true) name names named) (omega (arith, size)) a.2)

names_tell : (names : List (List ℕ)) → All (λ name. is_name name ≡ true) names → wanted_names names names ≡ Ok tt
names_tell [] named = refl
names_tell (name ∷ names) named =
    then_tells (wanted_name name name) (λ _. wanted_names names names) tt tt ((wanted_exact name (All-head (λ n. is_name n ≡ true) name names named)).tells tt tt)
    (names_tell names (All-tail (λ n. is_name n ≡ true) name names named))

pub order_exact : (names : List (List ℕ)) → All (λ name. is_name name ≡ true) names → IsExact (order_of names) (λ (u : Unit {0}). order_row names) (λ (u : Unit {0}). Unit {0})
unfolding order_of
order_exact names named = record {
  told = λ fields u e. (
      let a = then_ok (holds (begins fields (codes "order")) code.Place) _ u e in
      let b = then_ok (holds (length fields == length names + 1) code.Fields) _ u a.2 in
      let first = same_bytes (field_at fields 0) (codes "order") (holds_ok (begins fields (codes "order")) code.Place a.0 a.1) in
      let size = equal_numbers (length fields) (length names + 1) (holds_ok (length fields == length names + 1) code.Fields b.0 b.1) in
      let some : 0 < length fields = omega (arith, size) in
      let rest = names_told names (drop 1 fields) u named (omega (arith, size, length-drop 1 fields)) b.2 in
      (split_one fields some ∙ ap₂ (λ (x : List ℕ) (rest : List (List ℕ)). x ∷ rest) first rest, tt));
  tells = λ u k. (
      let size : length (order_row names) ≡ length names + 1 = omega arith in
      then_tells (holds (length (order_row names) == length names + 1) code.Fields) (λ _. wanted_names names names) tt tt
      (holds_tells (length (order_row names) == length names + 1) code.Fields (same_count (length (order_row names)) (length names + 1) size)) (names_tell names named));
}

-- a row of one field
one_field : (fields : List (List ℕ)) (word : List ℕ) → begins fields word ≡ true → (length fields == 1) ≡ true → fields ≡ word ∷ []
one_field fields word b l =
    let size = equal_numbers (length fields) 1 l in
    let some : 0 < length fields = omega (arith, size) in
    split_one fields some ∙ ap₂ (λ (x : List ℕ) (rest : List (List ℕ)). x ∷ rest) (same_bytes (field_at fields 0) word b) (drop_all 1 fields (omega (arith, size)))

pub last_exact : IsExact end_of (λ (u : Unit {0}). end_row) (λ (u : Unit {0}). Unit {0})
unfolding end_of
last_exact = record {
  told = λ fields u e. (
      let a = then_ok (holds (begins fields (codes "end")) code.Place) _ u e in
      (one_field fields (codes "end") (holds_ok (begins fields (codes "end")) code.Place a.0 a.1) (holds_ok (length fields == 1) code.Fields u a.2), tt));
  tells = λ u k. refl;
}

-- the row before an answer
pub cleared_told : (fields : List (List ℕ)) (u : Unit {0}) → begins fields (codes "cleared") ≡ true → cleared_of fields ≡ Ok u → fields ≡ cleared_row
cleared_told fields u b e = one_field fields (codes "cleared") b (holds_ok (length fields == 1) code.Fields u e)

-- ---- shares

pub share_exact : (n : ℕ) (name : List ℕ) → is_name name ≡ true → IsExact (share_of n name) (share_row name) (IsShare n)
unfolding share_of
share_exact n name form =
    let each = number_exact (pos 0) (pos 1000000) low_bound (high_bound 1000000 (omega arith)) in
    let one = number_exact (pos 0) (pos 10000000000000) low_bound (high_bound 10000000000000 (omega arith)) in
    let wanted = wanted_exact name form in
    record {
      told = λ fields share e. (
          let a = then_ok (holds (begins fields (codes "share")) code.Place) _ share e in
          let b = then_ok (holds (length fields == n + 3) code.Fields) _ share a.2 in
          let c = then_ok (wanted_name name (field_at fields 1)) _ share b.2 in
          let d = then_ok (numbers_at 2 n (pos 0) (pos 1000000) fields) _ share c.2 in
          let f = then_ok (number_in (pos 0) (pos 10000000000000) (field_at fields (n + 2))) _ share d.2 in
          let same : record { bundle = record { items = d.0 }; payment = f.0 } ≡ share = let q = f.2 in cc q in
          let first = same_bytes (field_at fields 0) (codes "share") (holds_ok (begins fields (codes "share")) code.Place a.0 a.1) in
          let size = equal_numbers (length fields) (n + 3) (holds_ok (length fields == n + 3) code.Fields b.0 b.1) in
          let second = (wanted.told (field_at fields 1) c.0 c.1).0 in
          let two : 1 < length fields = omega (arith, size) in
          let numbers = numbers_told (pos 0) (pos 1000000) (pos 0) (pos 10000000000000) each one fields 2 n d.0 f.0 size d.1 f.1 in
          let row : fields ≡ share_row name (record { bundle = record { items = d.0 }; payment = f.0 }) =
          split_two fields two ∙ ap₂ (λ (x : List ℕ) (rest : List (List ℕ)). x ∷ rest) first (ap₂ (λ (x : List ℕ) (rest : List (List ℕ)). x ∷ rest) second numbers.0) in
          subst (λ (z : Share). (fields ≡ share_row name z) × IsShare n z) same
          (row, record { bundle = (numbers.1.0, numbers.1.1); least = numbers.1.2.0; most = numbers.1.2.1 }));
      tells = λ share is. (
          let row : List (List ℕ) = share_row name share in
          let bundle = is.bundle in
          let numbers = numbers_tell (pos 0) (pos 1000000) (pos 0) (pos 10000000000000) each one row 2 n share.bundle.items share.payment (bundle.0, bundle.1, (is.least, is.most)) refl in
          let size : length row ≡ n + 3 = omega (arith, bundle.0, length-map share.bundle.items signed_decimal, length-append (map signed_decimal share.bundle.items) (signed_decimal share.payment ∷ [])) in
          then_tells (holds (length row == n + 3) code.Fields) _ tt share (holds_tells (length row == n + 3) code.Fields (same_count (length row) (n + 3) size))
          (then_tells (wanted_name name name) _ tt share (wanted.tells tt tt)
          (then_tells (numbers_at 2 n (pos 0) (pos 1000000) row) _ share.bundle.items share numbers.0
          (then_tells (number_in (pos 0) (pos 10000000000000) (field_at row (n + 2))) _ share.payment share numbers.1 refl))));
    }

-- ---- pairs

-- a row of five fields
split_five : (fields : List (List ℕ)) → length fields ≡ 5 → fields ≡ field_at fields 0 ∷ field_at fields 1 ∷ field_at fields 2 ∷ field_at fields 3 ∷ field_at fields 4 ∷ []
split_five fields size =
    let four : 3 < length fields = omega (arith, size) in
    let five : 4 < length fields = omega (arith, size) in
    split_four fields four
    ∙ ap (λ (rest : List (List ℕ)). field_at fields 0 ∷ field_at fields 1 ∷ field_at fields 2 ∷ field_at fields 3 ∷ rest) (drop_more fields 4 [] five ∙ ap (λ (rest : List (List ℕ)). field_at fields 4 ∷ rest) (drop_all 5 fields (omega (arith, size))))

pub tight_exact : (n : ℕ) (names : BidderGood) → n ≤ 8 → is_name names.bidder ≡ true → is_name names.good ≡ true → IsExact (tight_of n names) (tight_row names) (AreSets n)
unfolding tight_of
tight_exact n names few b g =
    let bidder = wanted_exact names.bidder b in
    let good = wanted_exact names.good g in
    let sets = set_exact n few in
    record {
      told = λ fields tight e. (
          let h = then_ok (holds (begins fields (codes "tight")) code.Place) _ tight e in
          let i = then_ok (holds (length fields == 5) code.Fields) _ tight h.2 in
          let j = then_ok (wanted_name names.bidder (field_at fields 1)) _ tight i.2 in
          let k = then_ok (wanted_name names.good (field_at fields 2)) _ tight j.2 in
          let u = then_ok (set_of n (field_at fields 3)) _ tight k.2 in
          let l = then_ok (set_of n (field_at fields 4)) _ tight u.2 in
          let same : record { upper = u.0; lower = l.0 } ≡ tight = let q = l.2 in cc q in
          let size = equal_numbers (length fields) 5 (holds_ok (length fields == 5) code.Fields i.0 i.1) in
          let first = same_bytes (field_at fields 0) (codes "tight") (holds_ok (begins fields (codes "tight")) code.Place h.0 h.1) in
          let upper = sets.told (field_at fields 3) u.0 u.1 in
          let lower = sets.told (field_at fields 4) l.0 l.1 in
          let put : List ℕ → List (List ℕ) → List (List ℕ) = λ x rest. x ∷ rest in
          let row : fields ≡ tight_row names (record { upper = u.0; lower = l.0 }) =
          split_five fields size
          ∙ ap₂ put first (ap₂ put (bidder.told (field_at fields 1) j.0 j.1).0 (ap₂ put (good.told (field_at fields 2) k.0 k.1).0 (ap₂ put upper.0 (ap (λ (x : List ℕ). x ∷ []) lower.0)))) in
          subst (λ (z : Tight). (fields ≡ tight_row names z) × AreSets n z) same (row, (upper.1, lower.1)));
      tells = λ tight are.
          then_tells (wanted_name names.bidder names.bidder) _ tt tight (bidder.tells tt tt)
          (then_tells (wanted_name names.good names.good) _ tt tight (good.tells tt tt)
          (then_tells (set_of n (signed_decimal (pos tight.upper))) _ tight.upper tight (sets.tells tight.upper are.0)
          (then_tells (set_of n (signed_decimal (pos tight.lower))) _ tight.lower tight (sets.tells tight.lower are.1) refl)));
    }

-- ---- refusals

pub refusal_exact : (a : AuctionText) → AreNames a.goods → AreNames (map (λ bidder. bidder.0) a.bidders) → IsExact (refusal_row_of a) (refusal_row a) (FitsAuction a)
unfolding refusal_row_of refusal_of
refusal_exact a goods bidders =
    let n = length a.goods in
    let each = number_exact (neg_ℤ (pos 2000000)) (pos 2000000) (omega (arith, ints)) (high_bound 2000000 (omega arith)) in
    let one = number_exact (neg_ℤ (pos 4000000)) (neg_ℤ (pos 1)) (omega (arith, ints)) (omega (arith, ints)) in
    let names = bidder_exact a.bidders bidders in
    let choices = choice_exact a.goods goods in
    record {
      told = λ fields r e. (
          let h = then_ok (holds (begins fields (codes "refused")) code.Place) _ r e in
          let i = then_ok (holds (length fields == n + 5) code.Fields) _ r h.2 in
          let b = then_ok (bidder_of a.bidders (field_at fields 1)) _ r i.2 in
          let f = then_ok (choice_of a.goods (field_at fields 2)) _ r b.2 in
          let s = then_ok (choice_of a.goods (field_at fields 3)) _ r f.2 in
          let o = then_ok (holds (nat_lt f.0 s.0) code.Other) _ r s.2 in
          let p = then_ok (numbers_at 4 n (neg_ℤ (pos 2000000)) (pos 2000000) fields) _ r o.2 in
          let w = then_ok (number_in (neg_ℤ (pos 4000000)) (neg_ℤ (pos 1)) (field_at fields (n + 4))) _ r p.2 in
          let made : Refusal = record { bidder = b.0; first = f.0; second = s.0; prices = record { items = p.0 }; weight = w.0 } in
          let same : made ≡ r = let q = w.2 in cc q in
          let size = equal_numbers (length fields) (n + 5) (holds_ok (length fields == n + 5) code.Fields i.0 i.1) in
          let four : 3 < length fields = omega (arith, size) in
          let word = same_bytes (field_at fields 0) (codes "refused") (holds_ok (begins fields (codes "refused")) code.Place h.0 h.1) in
          let bidder = names.told (field_at fields 1) b.0 b.1 in
          let first = choices.told (field_at fields 2) f.0 f.1 in
          let second = choices.told (field_at fields 3) s.0 s.1 in
          let numbers = numbers_told (neg_ℤ (pos 2000000)) (pos 2000000) (neg_ℤ (pos 4000000)) (neg_ℤ (pos 1)) each one fields 4 n p.0 w.0 size p.1 w.1 in
          let put : List ℕ → List (List ℕ) → List (List ℕ) = λ x rest. x ∷ rest in
          let row : fields ≡ refusal_row a made = split_four fields four ∙ ap₂ put word (ap₂ put bidder.0 (ap₂ put first.0 (ap₂ put second.0 numbers.0))) in
          subst (λ (z : Refusal). (fields ≡ refusal_row a z) × FitsAuction a z) same (
            row,
            record {
              bidder = bidder.1;
              order = is_below f.0 s.0 (holds_ok (nat_lt f.0 s.0) code.Other o.0 o.1);
              choices = second.1;
              prices = (numbers.1.0, numbers.1.1);
              least = numbers.1.2.0;
              negative = numbers.1.2.1;
            },
          ));
      tells = λ r fits. (
          let row : List (List ℕ) = refusal_row a r in
          let prices = fits.prices in
          let order = fits.order in
          let most = fits.choices in
          let numbers = numbers_tell (neg_ℤ (pos 2000000)) (pos 2000000) (neg_ℤ (pos 4000000)) (neg_ℤ (pos 1)) each one row 4 n r.prices.items r.weight (prices.0, prices.1, (fits.least, fits.negative)) refl in
          let size : length row ≡ n + 5 = omega (arith, prices.0, length-map r.prices.items signed_decimal, length-append (map signed_decimal r.prices.items) (signed_decimal r.weight ∷ [])) in
          let within : r.first ≤ n = omega (arith, order, most) in
          then_tells (holds (length row == n + 5) code.Fields) _ tt r (holds_tells (length row == n + 5) code.Fields (same_count (length row) (n + 5) size))
          (then_tells (bidder_of a.bidders (name_at a.bidders r.bidder)) _ r.bidder r (names.tells r.bidder fits.bidder)
          (then_tells (choice_of a.goods (choice_text a.goods r.first)) _ r.first r (choices.tells r.first within)
          (then_tells (choice_of a.goods (choice_text a.goods r.second)) _ r.second r (choices.tells r.second most)
          (then_tells (holds (nat_lt r.first r.second) code.Other) _ tt r (holds_tells (nat_lt r.first r.second) code.Other (first_of_two r.first r.second order))
          (then_tells (numbers_at 4 n (neg_ℤ (pos 2000000)) (pos 2000000) row) _ r.prices.items r numbers.0
          (then_tells (number_in (neg_ℤ (pos 4000000)) (neg_ℤ (pos 1)) (field_at row (n + 4))) _ r.weight r numbers.1 refl)))))));
    }
