-- The printed rows of caps are read as these caps.
use Rattle.std.proofs.Common.{◌≡◌, ◌∙◌, sym, ap, refl, ◌<◌, ◌≤◌, ◌+◌, ◌-◌, true, false, inl, inr, ℕ, suc, ℤ, List, [], ◌∷◌, ◌++◌, map, length, set, drop, append_assoc, arith, Option, Some, None, Ok}
use Rattle.std.proofs.lemmas.Bool.{cases_Bool}
use Rattle.std.proofs.lemmas.Bool.Decides.{nat_tests}
use Rattle.std.proofs.lemmas.List.{drop_more, get_or-append_right, length-append, set-append_right}
use Rattle.mix_num.specs.Sellers.{IsAmount}
use Rattle.mix_bids.specs.Caps.{ArePositive}
use Rattle.mix_text.specs.Auctions.{AuctionText, IsAuction}
use Rattle.mix_text.specs.Bidders.{Named, list_at, name_at}
use Rattle.mix_text.specs.Caps.{AreCaps, cap_at, no_caps, with_cap}
use Rattle.mix_text.specs.Formats.{has_caps, has_order}
use Rattle.mix_text.specs.Names.{AreNames}
use Rattle.mix_text.specs.Reading.{cap_row_of, caps_from, ends_bids, is_cap_row}
use Rattle.mix_text.specs.Rows.{numbered}
use Rattle.mix_text.specs.SharedRows.{end_row, order_rows}
use Rattle.mix_text.proofs.CapsRead.{cap_row_read}
use Rattle.mix_text.proofs.NoCaps.{none_at}
use Rattle.mix_text.proofs.OwnPlaces.{bidder_found}
use Rattle.mix_trial.specs.Printing.{cap_row, cap_rows}
use Rattle.mix_trial.proofs.ReadFields.{amount_read}
use Rattle.mix_trial.proofs.ReadOrders.{tail}

-- ---- one row

none_left : (k : ℕ) → k - k ≡ 0
none_left k = omega arith

-- the place after those of a list
place_after : (done after : List (Option ℤ)) (cap : Option ℤ) → cap_at (done ++ cap ∷ after) (length done) ≡ cap
place_after done after cap = get_or-append_right done (cap ∷ after) (length done) (length done) None refl (omega arith) ∙ ap (λ (i : ℕ). cap_at (cap ∷ after) i) (none_left (length done))

-- a cap given to the bidder at that place
cap_put : (done after : List (Option ℤ)) (cap : ℤ) → with_cap (done ++ None ∷ after) (length done) cap ≡ done ++ Some cap ∷ after
cap_put done after cap = set-append_right done (None ∷ after) (length done) (length done) (Some cap) refl (omega arith) ∙ ap (λ (i : ℕ). done ++ set (None ∷ after) i (Some cap)) (none_left (length done))

-- the cap of the bidder after those whose caps are known
cap_read : (bidders : Named) (done after : List (Option ℤ)) (cap : ℤ) → AreNames (map (λ bidder. bidder.0) bidders) → length done < length bidders → IsAmount cap → ArePositive (list_at bidders (length done)).bids
    → cap_row_of bidders (done ++ None ∷ after) (cap_row (name_at bidders (length done)) cap) ≡ Ok (done ++ Some cap ∷ after)
cap_read bidders done after cap names within amount positive =
    let found = bidder_found bidders (length done) names within in
    cap_row_read bidders (done ++ None ∷ after) (cap_row (name_at bidders (length done)) cap) (length done) cap refl found (place_after done after None) (amount_read cap amount) positive
    ∙ ap Ok (cap_put done after cap)

-- ---- all rows

-- the row of a cap is one where a format has caps
row_of_cap : (format : ℕ) (name : List ℕ) (cap : ℤ) → has_caps format ≡ true → is_cap_row format (cap_row name cap) ≡ true
row_of_cap format name cap t = rw t refl

-- the rows of the caps that are left, after caps that are known, and a row that is no cap
caps_after : (format : ℕ) (bidders : Named) (k : ℕ) (done left : List (Option ℤ)) (end : List (List ℕ)) (rest : List (List (List ℕ)))
    → AreNames (map (λ bidder. bidder.0) bidders) → AreCaps bidders (done ++ left) → ((place : ℕ) (cap : ℤ) → cap_at (done ++ left) place ≡ Some cap → has_caps format ≡ true) → is_cap_row format end ≡ false
    → caps_from format bidders (done ++ no_caps (length left)) (numbered k (cap_rows (drop (length done) bidders) left ++ end ∷ rest))
    ≡ Ok (done ++ left, numbered (k + length (cap_rows (drop (length done) bidders) left)) (end ∷ rest))
unfolding caps_from
caps_after format bidders k done [] end rest names are may stops =
    let none = no_rows (drop (length done) bidders) in
    rw (none, stops) (ap (λ (i : ℕ). Ok (done ++ [], numbered i (end ∷ rest))) (at k))
  where
    no_rows : (others : Named) → cap_rows others [] ≡ []
    no_rows [] = refl
    no_rows (b ∷ others) = refl

    at : (k : ℕ) → k ≡ k + 0
    at k = omega arith
caps_after format bidders k done (None ∷ left) end rest names are may stops =
    let within : length done < length bidders = omega (arith, are.size, length-append done (None ∷ left)) in
    let others = drop_more bidders (length done) ([], record { goods = 0; bids = [] }) within in
    let one : length (done ++ None ∷ []) ≡ length done + 1 = length-append done (None ∷ []) in
    let regroup = append_assoc done (None ∷ []) left in
    let known = append_assoc done (None ∷ []) (no_caps (length left)) in
    let later = caps_after format bidders k (done ++ None ∷ []) left end rest names (rw (← regroup) at are) (rw (← regroup) at may) stops in
    rw (others) (rw (one, regroup, known) at later)
caps_after format bidders k done (Some cap ∷ left) end rest names are may stops =
    let place = place_after done left (Some cap) in
    let within : length done < length bidders = omega (arith, are.size, length-append done (Some cap ∷ left)) in
    let others = drop_more bidders (length done) ([], record { goods = 0; bids = [] }) within in
    let one : length (done ++ Some cap ∷ []) ≡ length done + 1 = length-append done (Some cap ∷ []) in
    let regroup = append_assoc done (Some cap ∷ []) left in
    let known = append_assoc done (Some cap ∷ []) (no_caps (length left)) in
    let has = row_of_cap format (name_at bidders (length done)) cap (may (length done) cap place) in
    let read = cap_read bidders done (no_caps (length left)) cap names within (are.range (length done) cap place) (are.positive (length done) cap place) in
    let later = caps_after format bidders (k + 1) (done ++ Some cap ∷ []) left end rest names (rw (← regroup) at are) (rw (← regroup) at may) stops in
    rw (others, has, read) (rw (one, regroup, known) at later ∙ ap (λ (i : ℕ). Ok (done ++ Some cap ∷ left, numbered i (end ∷ rest))) (at k (length (cap_rows (drop (length done + 1) bidders) left))))
  where
    at : (k m : ℕ) → k + 1 + m ≡ k + suc m
    at k m = omega arith

-- in an auction only a format with caps has them
has_capped : (a : AuctionText) → IsAuction a → (k : ℕ) (cap : ℤ) → cap_at a.caps k ≡ Some cap → has_caps a.format ≡ true
has_capped a is k cap e = elim (cases_Bool (has_caps a.format)) [
  | inl t ↦ t
  | inr f ↦ absurd (
      let none = is.uncapped (before_caps a.format f) in
      let nobody = none_at (length a.bidders) k in
      let same = ap (λ (caps : List (Option ℤ)). cap_at caps k) none in
      cc (e, same, nobody))
]
  where
    before_caps : (format : ℕ) → has_caps format ≡ false → format ≤ 2
    before_caps format f = grind (arith, nat_tests)

pub caps_read : (a : AuctionText) → IsAuction a → (k : ℕ) (end : List (List ℕ)) (rest : List (List (List ℕ))) → is_cap_row a.format end ≡ false
    → caps_from a.format a.bidders (no_caps (length a.bidders)) (numbered k (cap_rows a.bidders a.caps ++ end ∷ rest)) ≡ Ok (a.caps, numbered (k + length (cap_rows a.bidders a.caps)) (end ∷ rest))
caps_read a is k end rest stops =
    ap (λ (m : ℕ). caps_from a.format a.bidders (no_caps m) (numbered k (cap_rows a.bidders a.caps ++ end ∷ rest))) (sym is.caps.size)
    ∙ caps_after a.format a.bidders k [] a.caps end rest is.names is.caps (has_capped a is) stops

-- ---- the rows after those of the bids

-- rows the first of which ends the bids
pub record Ending (format : ℕ) (rows : List (List (List ℕ))) : Type 0 where
  pub first : List (List ℕ)
  pub rest : List (List (List ℕ))
  pub are : rows ≡ first ∷ rest
  pub stops : ends_bids format first ≡ true

-- rows of caps, if any, and such rows
caps_end_bids : (format : ℕ) (after : List (List (List ℕ))) → Ending format after → (bidders : Named) (caps : List (Option ℤ)) → ((k : ℕ) (cap : ℤ) → cap_at caps k ≡ Some cap → has_caps format ≡ true)
    → Ending format (cap_rows bidders caps ++ after)
caps_end_bids format after ending [] caps may = ending
caps_end_bids format after ending (b ∷ bs) [] may = ending
caps_end_bids format after ending (b ∷ bs) (None ∷ caps) may = caps_end_bids format after ending bs caps (λ k. may (suc k))
caps_end_bids format after ending (b ∷ bs) (Some cap ∷ caps) may = record { first = cap_row b.0 cap; rest = cap_rows bs caps ++ after; are = refl; stops = ends (may 0 cap refl) }
  where
    ends : has_caps format ≡ true → ends_bids format (cap_row b.0 cap) ≡ true
    ends t = elim (cases_Bool (has_order format)) [
      | inl o ↦ rw (o, t) refl
      | inr f ↦ rw (f, t) refl
    ]

pub ending : (a : AuctionText) → IsAuction a → Ending a.format (cap_rows a.bidders a.caps ++ (order_rows a ++ end_row ∷ []))
ending a is =
    let last = tail a in
    caps_end_bids a.format (order_rows a ++ end_row ∷ []) (record { first = last.first; rest = last.rest; are = last.are; stops = last.stops }) a.bidders a.caps (has_capped a is)
