-- Caps of bidders of whom one has a bid more, or who are one more.
use Rattle.std.proofs.Common.{◌≡◌, ◌≢◌, ◌<◌, ◌≤◌, ◌≤ℤ◌, ◌==◌, ℕ, zero, suc, ℤ, pos, List, [], ◌∷◌, ◌++◌, length, sym, ◌∙◌, ap, arith, refl, subst, Bool, true, false, true≢false, inl, inr, nat_lt, Option, Some, None, int_lt}
use Rattle.std.proofs.lemmas.Bool.{cases_Bool}
use Rattle.std.proofs.lemmas.Bool.Decides.{nat_tests}
use Rattle.std.proofs.lemmas.Int.{ints}
use Rattle.std.proofs.lemmas.List.{get_or-set_other, get_or-set_same, get_or_append_left, get_or_past, length-append, length-set}
use Rattle.std.proofs.lemmas.List.Elements.{All-push}
use Rattle.mix_bids.specs.Bids.{Book, IsBid}
use Rattle.mix_bids.specs.Caps.{ArePositive, IsPositive}
use Rattle.mix_bids.specs.declared.bid.Bid.{Bid}
use Rattle.mix_text.specs.Bidders.{Named, list_at, name_at, with_bid, with_bid_at}
use Rattle.mix_text.specs.Caps.{AreCaps, cap_at}
use Rattle.mix_text.specs.Reading.{is_negative}

abbrev nobody : List ℕ × Book
nobody = ([], record { goods = 0; bids = [] })

-- a bid whose weight isn't negative is positive, as no weight is 0
positive_bid : (n : ℕ) (bid : Bid) → IsBid n bid → is_negative bid ≡ false → IsPositive bid
positive_bid n bid is f = let some = is.some in weight bid.weight some f
  where
    weight : (w : ℤ) → w ≢ pos 0 → int_lt w (pos 0) ≡ false → pos 1 ≤ℤ w
    weight w some f = grind (arith, ints, some, f)

-- caps where one of their bidders has a bid more, which is positive where the bidder has a cap
pub caps_of_more : (n : ℕ) (bidders : Named) (caps : List (Option ℤ)) (bid : Bid) (k : ℕ) → k < length bidders → IsBid n bid → (is_negative bid ≡ true → cap_at caps k ≡ None) → AreCaps bidders caps
    → AreCaps (with_bid_at bidders k bid) caps
caps_of_more n bidders caps bid k below is apart are =
    let entry : List ℕ × Book = (name_at bidders k, with_bid (list_at bidders k) bid) in
    record {
      size = are.size ∙ sym (length-set bidders k entry);
      range = are.range;
      positive = λ j cap e. elim (cases_Bool (j == k)) [
        | inl t ↦ (
            let same : j ≡ k = grind (arith, nat_tests) in
            let here : cap_at caps k ≡ Some cap = ap (cap_at caps) (sym same) ∙ e in
            let longer = All-push IsPositive (list_at bidders k).bids bid (are.positive k cap here) (positive_bid n bid is (not_negative (is_negative bid) cap apart here)) in
            subst (λ (i : ℕ). ArePositive (list_at (with_bid_at bidders k bid) i).bids) (sym same)
            (subst (λ (bidder : List ℕ × Book). ArePositive bidder.1.bids) (sym (get_or-set_same bidders k entry nobody below)) longer))
        | inr f ↦ (
            let other : j ≢ k = (λ q. let t : (j == k) ≡ true = grind (arith, nat_tests) in true≢false (sym t ∙ f)) in
            subst (λ (bidder : List ℕ × Book). ArePositive bidder.1.bids) (sym (get_or-set_other bidders k j entry nobody other)) (are.positive j cap e))
      ];
    }
  where
    not_negative : (t : Bool) (cap : ℤ) → (t ≡ true → cap_at caps k ≡ None) → cap_at caps k ≡ Some cap → t ≡ false
    not_negative false most apart e = refl
    not_negative true most apart e = absurd (let q = sym (apart refl) ∙ e in cc q)

-- a cap that is there with one bidder more, who has none, was there before
cap_before : (caps : List (Option ℤ)) (k : ℕ) → cap_at (caps ++ None ∷ []) k ≡ cap_at caps k
cap_before [] zero = refl
cap_before [] (suc k) = refl
cap_before (c ∷ caps) zero = refl
cap_before (c ∷ caps) (suc k) = cap_before caps k

capped_below : (caps : List (Option ℤ)) (k : ℕ) (cap : ℤ) → cap_at caps k ≡ Some cap → k < length caps
capped_below caps k cap e = elim (cases_Bool (nat_lt k (length caps))) [
  | inl t ↦ grind (arith, nat_tests)
  | inr f ↦ (let past : length caps ≤ k = grind (arith, nat_tests) in absurd (let q = sym (get_or_past caps k None past) ∙ e in cc q))
]

-- a bidder more, who has no cap
pub caps_with_one : (bidders : Named) (caps : List (Option ℤ)) (bidder : List ℕ × Book) → AreCaps bidders caps → AreCaps (bidders ++ bidder ∷ []) (caps ++ None ∷ [])
caps_with_one bidders caps bidder are = record {
  size = let size = are.size in let p = length-append caps (None ∷ []) in let q = length-append bidders (bidder ∷ []) in omega (arith, p, q, size);
  range = λ k cap e. are.range k cap (sym (cap_before caps k) ∙ e);
  positive = λ k cap e.
      let before = sym (cap_before caps k) ∙ e in
      let size = are.size in
      let below = capped_below caps k cap before in
      subst (λ (b : List ℕ × Book). ArePositive b.1.bids) (sym (get_or_append_left bidders (bidder ∷ []) nobody k (omega (arith, below, size)))) (are.positive k cap before);
}
