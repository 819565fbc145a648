-- The rows of bids, of bidders and of caps, printed one by one.
use Rattle.std.proofs.Common.{◌≡◌, ◌∙◌, sym, ap, refl, ◌<◌, ◌≤◌, ◌+◌, ℕ, List, [], ◌∷◌, ◌++◌, append-nil, append_assoc, length, drop, get_or, map, ℤ, Option, None, arith}
use Rattle.std.proofs.lemmas.List.{drop_all, drop_more}
use Rattle.mix_bids.specs.Bids.{Book}
use Rattle.mix_bids.specs.declared.bid.Bid.{Bid}
use Rattle.mix_text.specs.Bidders.{Named, list_at, name_at}
use Rattle.mix_text.specs.Caps.{cap_at}
use Rattle.mix_text.specs.Pages.{PageText, line_of, printed}
use Rattle.mix_text.specs.declared.auction.Auction.{Auction}
use Rattle.mix_trial.specs.Printing.{bid_row, bidder_rows, cap_rows, own_cap_rows}

pub printed-append : (rows others : List (List (List ℕ))) → printed (rows ++ others) ≡ printed rows ++ printed others
printed-append [] others = refl
printed-append (row ∷ rows) others = ap (λ (t : List ℕ). line_of row ++ t) (printed-append rows others) ∙ sym (append_assoc (line_of row) (printed rows) (printed others))

-- a page on which no more rows come
no_more : (page : PageText) (all : List ℕ) (rows : List (List (List ℕ))) → page.fields ≡ [] → rows ≡ [] → page.ended ++ printed rows ≡ all → page ≡ record { ended = all; fields = [] }
no_more page all rows open_row none so_far =
    let text : page.ended ≡ all = sym (append-nil page.ended) ∙ ap (λ (left : List (List (List ℕ))). page.ended ++ printed left) (sym none) ∙ so_far in
    ap (λ (fields : List (List ℕ)). record { ended = page.ended; fields = fields }) open_row ∙ ap (λ (t : List ℕ). record { ended = t; fields = [] }) text

-- some rows more, and those after them
more : (ended all : List ℕ) (rows others whole : List (List (List ℕ))) → whole ≡ rows ++ others → ended ++ printed whole ≡ all → (ended ++ printed rows) ++ printed others ≡ all
more ended all rows others whole e h =
    append_assoc ended (printed rows) (printed others) ∙ ap (λ (t : List ℕ). ended ++ t) (sym (printed-append rows others)) ∙ ap (λ (z : List (List (List ℕ))). ended ++ printed z) (sym e) ∙ h

-- ---- bids

-- the row of a bid more
pub bids_more : (ended all : List ℕ) (name : List ℕ) (bids : List Bid) (k : ℕ) (bid : Bid) → k < length bids → bid ≡ get_or bids k bid
    → ended ++ printed (map (bid_row name) (drop k bids)) ≡ all → (ended ++ line_of (bid_row name bid)) ++ printed (map (bid_row name) (drop (k + 1) bids)) ≡ all
bids_more ended all name bids k bid h e i =
    ap (λ (t : List ℕ). (ended ++ t) ++ printed (map (bid_row name) (drop (k + 1) bids))) (sym (append-nil (line_of (bid_row name bid))))
    ∙ more ended all (bid_row name bid ∷ []) (map (bid_row name) (drop (k + 1) bids)) (map (bid_row name) (drop k bids)) (rw (drop_more bids k bid h, ← e) refl) i

pub bids_end : (page : PageText) (all : List ℕ) (name : List ℕ) (bids : List Bid) (k : ℕ) → length bids ≤ k → page.fields ≡ []
    → page.ended ++ printed (map (bid_row name) (drop k bids)) ≡ all → page ≡ record { ended = all; fields = [] }
bids_end page all name bids k b o i = no_more page all (map (bid_row name) (drop k bids)) o (rw (drop_all k bids b) refl) i

-- ---- bidders

-- the rows of a bidder more
pub bidders_more : (ended all : List ℕ) (bidders : Named) (k : ℕ) → k < length bidders → ended ++ printed (bidder_rows (drop k bidders)) ≡ all
    → (ended ++ printed (map (bid_row (name_at bidders k)) (list_at bidders k).bids)) ++ printed (bidder_rows (drop (k + 1) bidders)) ≡ all
bidders_more ended all bidders k h i =
    let nobody : List ℕ × Book = ([], record { goods = 0; bids = [] }) in
    more ended all (map (bid_row (name_at bidders k)) (list_at bidders k).bids) (bidder_rows (drop (k + 1) bidders)) (bidder_rows (drop k bidders)) (rw (drop_more bidders k nobody h) refl) i

pub bidders_end : (page : PageText) (all : List ℕ) (bidders : Named) (k : ℕ) → length bidders ≤ k → page.fields ≡ []
    → page.ended ++ printed (bidder_rows (drop k bidders)) ≡ all → page ≡ record { ended = all; fields = [] }
bidders_end page all bidders k b o i = no_more page all (bidder_rows (drop k bidders)) o (rw (drop_all k bidders b) refl) i

-- ---- caps

-- there is a cap, or none, for each bidder
pub caps_counted : (auction : Auction) → length auction.caps ≡ length auction.bidders
caps_counted auction = auction.sound.caps.size

-- the row of a bidder's cap more, where it has one
pub caps_more : (ended all : List ℕ) (bidders : Named) (caps : List (Option ℤ)) (k : ℕ) → k < length bidders → length caps ≡ length bidders → ended ++ printed (cap_rows (drop k bidders) (drop k caps)) ≡ all
    → (ended ++ printed (own_cap_rows (name_at bidders k) (cap_at caps k))) ++ printed (cap_rows (drop (k + 1) bidders) (drop (k + 1) caps)) ≡ all
caps_more ended all bidders caps k h size i =
    let nobody : List ℕ × Book = ([], record { goods = 0; bids = [] }) in
    let within : k < length caps = omega (arith, h, size) in
    more ended all (own_cap_rows (name_at bidders k) (cap_at caps k)) (cap_rows (drop (k + 1) bidders) (drop (k + 1) caps)) (cap_rows (drop k bidders) (drop k caps)) (rw (drop_more bidders k nobody h, drop_more caps k None within) refl) i

pub caps_end : (page : PageText) (all : List ℕ) (bidders : Named) (caps : List (Option ℤ)) (k : ℕ) → length bidders ≤ k → page.fields ≡ []
    → page.ended ++ printed (cap_rows (drop k bidders) (drop k caps)) ≡ all → page ≡ record { ended = all; fields = [] }
caps_end page all bidders caps k b o i = no_more page all (cap_rows (drop k bidders) (drop k caps)) o (rw (drop_all k bidders b) refl) i
