-- The caps that are read are caps of the bidders.
use Rattle.std.proofs.Common.{◌≡◌, ◌≢◌, ◌≤◌, ◌≤ℤ◌, ◌==◌, ◌+◌, ◌⊎◌, ℕ, zero, suc, ℤ, pos, List, [], ◌∷◌, length, sym, ◌∙◌, ap, arith, refl, subst, Option, Some, None, Ok, Bool, true, false, true≢false, cond, inl, inr, All, int_lt}
use Rattle.std.specs.Prelude.{count_by, is_none}
use Rattle.std.proofs.lemmas.Bool.{cases_Bool, false_from_ne_true}
use Rattle.std.proofs.lemmas.Bool.Decides.{nat_tests}
use Rattle.std.proofs.lemmas.Int.{ints}
use Rattle.std.proofs.lemmas.List.{length-set}
use Rattle.std.proofs.lemmas.List.Sums.{sum_by-cons}
use Rattle.std.proofs.lemmas.List.Elements.{All-cons, All-head, All-nil, All-tail}
use Rattle.mix_bids.specs.Bids.{AreBids, IsBid}
use Rattle.mix_bids.specs.Caps.{ArePositive, IsPositive}
use Rattle.mix_bids.specs.declared.bid.Bid.{Bid}
use Rattle.mix_text.specs.Auctions.{IsBook}
use Rattle.mix_text.specs.Rows.{RowText}
use Rattle.mix_text.specs.Bidders.{Named, list_at}
use Rattle.mix_text.specs.Caps.{AreCaps, cap_at, with_cap}
use Rattle.mix_text.specs.Formats.{has_caps}
use Rattle.mix_text.specs.Reading.{bidder_of, cap_row_of, caps_from, field_at, holds, is_cap_row, is_negative, none_negative, number_in, placed}
use Rattle.mix_text.specs.declared.faults.Code.TheVariants as code
use Rattle.mix_text.proofs.Sound.{equal_numbers, holds_ok, number_ok, then_ok}
use Rattle.mix_text.proofs.SoundAuctions.{placed_ok}

-- bids of which none is negative are positive, as no weight is 0
positive_from : (n : ℕ) (bids : List Bid) → AreBids n bids → count_by is_negative bids ≡ 0 → ArePositive bids
positive_from n [] are none = All-nil IsPositive
positive_from n (bid ∷ bids) are none =
    let count = sum_by-cons (λ b. cond (is_negative b) 1 0) bid bids in
    let some = (All-head (IsBid n) bid bids are).some in
    let here = both_none (is_negative bid) (count_by is_negative bids) (sym count ∙ none) in
    All-cons IsPositive bid bids (at_least_one bid.weight some here.0) (positive_from n bids (All-tail (IsBid n) bid bids are) here.1)
  where
    both_none : (t : Bool) (m : ℕ) → cond t 1 0 + m ≡ 0 → (t ≡ false) × (m ≡ 0)
    both_none true m h = absurd (omega (arith, h))
    both_none false m h = (refl, omega (arith, h))

    at_least_one : (w : ℤ) → w ≢ pos 0 → int_lt w (pos 0) ≡ false → pos 1 ≤ℤ w
    at_least_one w some f = grind (arith, ints, some, f)

-- the list of each bidder, and that of a place where there is none
bids_there : (n : ℕ) (bidders : Named) (k : ℕ) → All (λ bidder. IsBook n bidder.1) bidders → AreBids n (list_at bidders k).bids
bids_there n [] k books = All-nil (IsBid n)
bids_there n (bidder ∷ bidders) zero books = (All-head (λ bidder. IsBook n bidder.1) bidder bidders books).bids
bids_there n (bidder ∷ bidders) (suc k) books = bids_there n bidders k (All-tail (λ bidder. IsBook n bidder.1) bidder bidders books)

-- the cap of another place stays, and that of the place itself is the new one
cap_after : (caps : List (Option ℤ)) (k j : ℕ) (cap found : ℤ) → cap_at (with_cap caps k cap) j ≡ Some found → (cap_at caps j ≡ Some found) ⊎ ((j ≡ k) × (cap ≡ found))
cap_after [] k j cap found e = inl e
cap_after (c ∷ caps) zero zero cap found e = inr (refl, cc e)
cap_after (c ∷ caps) zero (suc j) cap found e = inl e
cap_after (c ∷ caps) (suc k) zero cap found e = inl e
cap_after (c ∷ caps) (suc k) (suc j) cap found e = elim (cap_after caps k j cap found e) [
  | inl same ↦ inl same
  | inr new ↦ inr (ap suc new.0, new.1)
]

-- one cap more
cap_ok : (n : ℕ) (bidders : Named) (caps more : List (Option ℤ)) (fields : List (List ℕ)) → All (λ bidder. IsBook n bidder.1) bidders → AreCaps bidders caps → cap_row_of bidders caps fields ≡ Ok more
    → AreCaps bidders more
unfolding cap_row_of
cap_ok n bidders caps more fields books are e =
    let count = then_ok (holds (length fields == 3) code.Fields) _ more e in
    let k = then_ok (bidder_of bidders (field_at fields 1)) _ more count.2 in
    let new = then_ok (holds (is_none (cap_at caps k.0)) code.Repeated) _ more k.2 in
    let cap = then_ok (number_in (pos 0) (pos 1000000) (field_at fields 2)) _ more new.2 in
    let positive = then_ok (holds (none_negative (list_at bidders k.0).bids) code.Weight) _ more cap.2 in
    let same : with_cap caps k.0 cap.0 ≡ more = let q = positive.2 in cc q in
    let range = number_ok (pos 0) (pos 1000000) (field_at fields 2) cap.0 cap.1 in
    let none = equal_numbers (count_by is_negative (list_at bidders k.0).bids) 0 (holds_ok (none_negative (list_at bidders k.0).bids) code.Weight positive.0 positive.1) in
    let positives = positive_from n (list_at bidders k.0).bids (bids_there n bidders k.0 books) none in
    subst (AreCaps bidders) same (record {
      size = length-set caps k.0 (Some cap.0) ∙ are.size;
      range = λ j found at. elim (cap_after caps k.0 j cap.0 found at) [
        | inl old ↦ are.range j found old
        | inr q ↦ subst (λ (z : ℤ). (pos 0 ≤ℤ z) × (z ≤ℤ pos 1000000)) q.1 range
      ];
      positive = λ j found at. elim (cap_after caps k.0 j cap.0 found at) [
        | inl old ↦ are.positive j found old
        | inr q ↦ subst (λ (i : ℕ). ArePositive (list_at bidders i).bids) (sym q.0) positives
      ];
    })

-- caps that are read after others
pub caps_ok : (format n : ℕ) (bidders : Named) (caps : List (Option ℤ)) (rows : List RowText) (read : List (Option ℤ) × List RowText) → All (λ bidder. IsBook n bidder.1) bidders → AreCaps bidders caps
    → caps_from format bidders caps rows ≡ Ok read → AreCaps bidders read.0
unfolding caps_from
caps_ok format n bidders caps [] read books are e = let same : (caps, []) ≡ read = cc e in subst (λ (z : List (Option ℤ) × List RowText). AreCaps bidders z.0) same are
caps_ok format n bidders caps (row ∷ rest) read books are e = elim (cases_Bool (is_cap_row format row.fields)) [
  | inl t ↦ (
      let q = rw t at e in
      let more = then_ok (placed row.number (cap_row_of bidders caps row.fields)) (λ more. caps_from format bidders more rest) read q in
      let next = cap_ok n bidders caps more.0 row.fields books are (placed_ok row.number (cap_row_of bidders caps row.fields) more.0 more.1) in
      caps_ok format n bidders more.0 rest read books next more.2)
  | inr f ↦ (
      let q = rw f at e in
      let same : (caps, row ∷ rest) ≡ read = cc q in
      subst (λ (z : List (Option ℤ) × List RowText). AreCaps bidders z.0) same are)
]

-- in formats 1 and 2 there are no more
pub first_caps : (format : ℕ) (bidders : Named) (caps : List (Option ℤ)) (rows : List RowText) (read : List (Option ℤ) × List RowText) → format ≤ 2 → caps_from format bidders caps rows ≡ Ok read → read.0 ≡ caps
unfolding caps_from
first_caps format bidders caps [] read old e = let same : (caps, []) ≡ read = cc e in ap (λ (z : List (Option ℤ) × List RowText). z.0) (sym same)
first_caps format bidders caps (row ∷ rest) read old e =
    let none : has_caps format ≡ false = grind (arith, nat_tests) in
    let q = rw none at e in
    let same : (caps, row ∷ rest) ≡ read = cc q in
    ap (λ (z : List (Option ℤ) × List RowText). z.0) (sym same)

-- ---- a cap that may be given is read

-- of positive bids none is negative
pub none_of_positive : (bids : List Bid) → ArePositive bids → none_negative bids ≡ true
none_of_positive bids positive = ap (λ m. m == 0) (none bids positive)
  where
    not_negative : (w : ℤ) → pos 1 ≤ℤ w → int_lt w (pos 0) ≡ false
    not_negative w h = false_from_ne_true (int_lt w (pos 0)) (λ t. grind (arith, ints, h, t))

    both : (t : Bool) (m : ℕ) → t ≡ false → m ≡ 0 → cond t 1 0 + m ≡ 0
    both true m f h = absurd (true≢false f)
    both false m f h = omega (arith, h)

    none : (bids : List Bid) → ArePositive bids → count_by is_negative bids ≡ 0
    none [] h = refl
    none (bid ∷ bids) h =
        sum_by-cons (λ b. cond (is_negative b) 1 0) bid bids
        ∙ both (is_negative bid) (count_by is_negative bids) (not_negative bid.weight (All-head IsPositive bid bids h)) (none bids (All-tail IsPositive bid bids h))

-- three fields whose second names a bidder without a cap and without a negative bid, and whose third spells a number of units
pub cap_row_read : (bidders : Named) (caps : List (Option ℤ)) (fields : List (List ℕ)) (k : ℕ) (cap : ℤ) → length fields ≡ 3 → bidder_of bidders (field_at fields 1) ≡ Ok k → cap_at caps k ≡ None
    → number_in (pos 0) (pos 1000000) (field_at fields 2) ≡ Ok cap → ArePositive (list_at bidders k).bids → cap_row_of bidders caps fields ≡ Ok (with_cap caps k cap)
unfolding cap_row_of
cap_row_read bidders caps fields k cap size named none spelled positive =
    let count : (length fields == 3) ≡ true = ap (λ (m : ℕ). m == 3) size in
    let negatives = none_of_positive (list_at bidders k).bids positive in
    rw (count, named, none, spelled, negatives) refl
