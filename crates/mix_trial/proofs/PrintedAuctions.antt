-- The text of an auction is its printed rows, and each of them may be printed.
use Rattle.std.proofs.Common.{◌≡◌, ◌∙◌, sym, ap, ap₂, refl, ◌<◌, ◌&&◌, true, inl, inr, ℕ, suc, ℤ, pos, List, [], ◌∷◌, ◌++◌, append_assoc, map, length, arith, All, Option, Some, None, nat_lt}
use Rattle.std.specs.Prelude.{codes}
use Rattle.std.specs.Fmt.{signed_decimal}
use Rattle.std.specs.Int.RustNames.{FitsSigned}
use mir.Syntax.{w64}
use Rattle.std.specs.List.{AllPass, list_all}
use Rattle.std.proofs.lemmas.Bool.{cases_Bool}
use Rattle.std.proofs.lemmas.Bool.Decides.{nat_tests}
use Rattle.std.proofs.lemmas.Int.{ints}
use Rattle.std.proofs.lemmas.List.Elements.{All-cons, All-get_or, All-head, All-nil, All-tail}
use Rattle.std.proofs.lemmas.List.Folds.{list_all-append}
use Rattle.mix_num.specs.Sellers.{IsAmount}
use Rattle.mix_bids.specs.Bids.{AreBids, Book, IsBid}
use Rattle.mix_bids.specs.Offers.{IsOffer}
use Rattle.mix_bids.specs.declared.bid.Bid.{Bid}
use Rattle.mix_text.specs.Auctions.{AuctionText, IsAuction, IsBook}
use Rattle.mix_num.specs.Orders.{place_at}
use Rattle.mix_text.specs.Bidders.{Named, name_at, names_at}
use Rattle.mix_text.specs.Caps.{cap_at}
use Rattle.mix_text.specs.Formats.{has_order}
use Rattle.mix_text.specs.Pages.{PageText, is_printable, is_printable_row, line_of, printed}
use Rattle.mix_text.specs.SharedRows.{amounts_row, end_row, order_rows}
use Rattle.mix_text.specs.Spelling.{is_name}
use Rattle.mix_text.proofs.PrintedNumbers.{signed_printable}
use Rattle.mix_text.proofs.Spellings.{name_printable}
use Rattle.mix_trial.specs.Printing.{auction_rows, bid_row, bidder_rows, cap_rows, goods_row, head_row, value_text}
use Rattle.mix_trial.proofs.PrintedBids.{printed-append}

whole_text : (a b c d f g h i : List ℕ) → ((((((a ++ b) ++ c) ++ d) ++ f) ++ g) ++ h) ++ i ≡ a ++ (b ++ (c ++ (d ++ (f ++ (g ++ (h ++ i))))))
whole_text a b c d f g h i = simp append_assoc

last_text : (rows : List (List (List ℕ))) (row : List (List ℕ)) → printed rows ++ line_of row ≡ printed (rows ++ (row ∷ []))
last_text rows row = ap (λ (t : List ℕ). printed rows ++ t) (alone (line_of row)) ∙ sym (printed-append rows (row ∷ []))
  where
    alone : (t : List ℕ) → t ≡ t ++ []
    alone [] = refl
    alone (x ∷ xs) = ap (λ (r : List ℕ). x ∷ r) (alone xs)

-- the pages after each kind of row
pub auction_pages : (a : AuctionText) (sold least : List ℤ) (start head goods supply reserve bids caps order all : PageText)
    → sold ≡ a.supply → least ≡ a.reserve
    → start ≡ record { ended = []; fields = [] }
    → head ≡ record { ended = start.ended ++ line_of (head_row a.format); fields = [] }
    → goods ≡ record { ended = head.ended ++ line_of (goods_row a.goods); fields = [] }
    → supply ≡ record { ended = goods.ended ++ line_of (amounts_row (codes "supply") sold); fields = [] }
    → reserve ≡ record { ended = supply.ended ++ line_of (amounts_row (codes "reserve") least); fields = [] }
    → bids ≡ record { ended = reserve.ended ++ printed (bidder_rows a.bidders); fields = [] }
    → caps ≡ record { ended = bids.ended ++ printed (cap_rows a.bidders a.caps); fields = [] }
    → order ≡ record { ended = caps.ended ++ printed (order_rows a); fields = [] }
    → all ≡ record { ended = order.ended ++ line_of end_row; fields = [] }
    → all.ended ≡ printed (auction_rows a)
auction_pages a sold least start head goods supply reserve bids caps order all same at_least s h g p r b c o e =
    let before : List ℕ = line_of (head_row a.format) in
    let one : List ℕ = line_of (goods_row a.goods) in
    let two : List ℕ = line_of (amounts_row (codes "supply") a.supply) in
    let three : List ℕ = line_of (amounts_row (codes "reserve") a.reserve) in
    let offers : List (List (List ℕ)) = bidder_rows a.bidders in
    let capped : List (List (List ℕ)) = cap_rows a.bidders a.caps in
    let last : List (List (List ℕ)) = order_rows a ++ end_row ∷ [] in
    rw (e, o, c, b, r, p, g, h, s, same, at_least) (
    whole_text before one two three (printed offers) (printed capped) (printed (order_rows a)) (line_of end_row)
    ∙ ap (λ (t : List ℕ). before ++ (one ++ (two ++ (three ++ (printed offers ++ (printed capped ++ t)))))) (last_text (order_rows a) end_row)
    ∙ ap (λ (t : List ℕ). before ++ (one ++ (two ++ (three ++ (printed offers ++ t))))) (sym (printed-append capped last))
    ∙ ap (λ (t : List ℕ). before ++ (one ++ (two ++ (three ++ t)))) (sym (printed-append offers (capped ++ last)))
    )

-- ---- each row may be printed

amount_fits : (v : ℤ) → IsAmount v → FitsSigned w64 v
amount_fits v h = omega (arith, ints)

weight_fits : (n : ℕ) (b : Bid) → IsBid n b → FitsSigned w64 b.weight
weight_fits n b h = let w = h.weight in omega (arith, ints)

pub offer_fits : (v : ℤ) → IsOffer (Some v) → FitsSigned w64 v
offer_fits v h = let r = h v refl in amount_fits v r

amounts_printable : (xs : List ℤ) → All IsAmount xs → list_all is_printable (map signed_decimal xs) ≡ true
amounts_printable [] h = refl
amounts_printable (x ∷ xs) h =
    let first = signed_printable x (amount_fits x (All-head IsAmount x xs h)) in
    let rest = amounts_printable xs (All-tail IsAmount x xs h) in
    rw (first, rest) refl

names_printable : (names : List (List ℕ)) → AllPass is_name names → list_all is_printable names ≡ true
names_printable [] h = refl
names_printable (x ∷ xs) h =
    let first = name_printable x (All-head (λ y. is_name y ≡ true) x xs h) in
    let rest = names_printable xs (All-tail (λ y. is_name y ≡ true) x xs h) in
    rw (first, rest) refl

value_printable : (o : Option ℤ) → IsOffer o → is_printable (value_text o) ≡ true
value_printable None h = refl
value_printable (Some v) h = signed_printable v (offer_fits v h)

values_printable : (vs : List (Option ℤ)) → All IsOffer vs → list_all is_printable (map value_text vs) ≡ true
values_printable [] h = refl
values_printable (o ∷ vs) h =
    let first = value_printable o (All-head IsOffer o vs h) in
    let rest = values_printable vs (All-tail IsOffer o vs h) in
    rw (first, rest) refl

word_row : (word : List ℕ) (rest : List (List ℕ)) → is_printable word ≡ true → list_all is_printable rest ≡ true → is_printable_row (word ∷ rest) ≡ true
word_row word rest w r = let some : nat_lt 0 (length (word ∷ rest)) ≡ true = grind (arith, nat_tests) in rw (some, w, r) refl

bid_printable : (n : ℕ) (name : List ℕ) (b : Bid) → is_name name ≡ true → IsBid n b → is_printable_row (bid_row name b) ≡ true
bid_printable n name b h is =
    let first = name_printable name h in
    let weight = signed_printable b.weight (weight_fits n b is) in
    let values = values_printable b.values.items is.offers.each in
    word_row (codes "bid") (name ∷ signed_decimal b.weight ∷ map value_text b.values.items) refl (rw (first, weight, values) refl)

bids_printable : (n : ℕ) (name : List ℕ) (bs : List Bid) → is_name name ≡ true → AreBids n bs → list_all is_printable_row (map (bid_row name) bs) ≡ true
bids_printable n name [] h are = refl
bids_printable n name (b ∷ bs) h are =
    let first = bid_printable n name b h (All-head (IsBid n) b bs are) in
    let rest = bids_printable n name bs h (All-tail (IsBid n) b bs are) in
    ap (λ t. t && list_all is_printable_row (map (bid_row name) bs)) first ∙ rest

bidders_printable : (n : ℕ) (bidders : Named) → All (λ bidder. is_name bidder.0 ≡ true) bidders → All (λ bidder. IsBook n bidder.1) bidders → list_all is_printable_row (bidder_rows bidders) ≡ true
bidders_printable n [] names books = refl
bidders_printable n (b ∷ bs) names books =
    let N : List ℕ × Book → Type 0 = λ bidder. is_name bidder.0 ≡ true in
    let B : List ℕ × Book → Type 0 = λ bidder. IsBook n bidder.1 in
    let book = All-head B b bs books in
    let first = bids_printable n b.0 b.1.bids (All-head N b bs names) book.bids in
    let rest = bidders_printable n bs (All-tail N b bs names) (All-tail B b bs books) in
    list_all-append is_printable_row (map (bid_row b.0) b.1.bids) (bidder_rows bs) ∙ rw (first, rest) refl

-- the names of bidders, one by one
pub each_name : (bidders : Named) → AllPass is_name (map (λ bidder. bidder.0) bidders) → All (λ bidder. is_name bidder.0 ≡ true) bidders
each_name [] h = All-nil (λ (bidder : List ℕ × Book). is_name bidder.0 ≡ true)
each_name (b ∷ bs) h =
    let P : List ℕ → Type 0 = λ x. is_name x ≡ true in
    let names : List (List ℕ) = map (λ bidder. bidder.0) bs in
    All-cons (λ (bidder : List ℕ × Book). is_name bidder.0 ≡ true) b bs (All-head P b.0 names h) (each_name bs (All-tail P b.0 names h))

-- the names of the bidders at these places
names_at_printable : (bidders : Named) (order : List ℕ) → ((i : ℕ) → i < length order → is_name (name_at bidders (place_at order i)) ≡ true) → list_all is_printable (names_at bidders order) ≡ true
names_at_printable bidders [] h = refl
names_at_printable bidders (k ∷ order) h =
    let first = name_printable (name_at bidders k) (h 0 (omega arith)) in
    let rest = names_at_printable bidders order (λ i l. h (suc i) (omega (arith, l))) in
    rw (first, rest) refl

order_printable : (a : AuctionText) → IsAuction a → list_all is_printable_row (order_rows a) ≡ true
order_printable a is = elim (cases_Bool (has_order a.format)) [
  | inl t ↦ (
      let order = is.order in
      let size = order.size in
      let names = names_at_printable a.bidders a.order (λ i l. All-get_or (λ (bidder : List ℕ × Book). is_name bidder.0 ≡ true) a.bidders (place_at a.order i) ([], record { goods = 0; bids = [] }) (order.within i (omega (arith, l, size))) (each_name a.bidders is.names.form)) in
      let row = word_row (codes "order") (names_at a.bidders a.order) refl names in
      rw t (rw row refl))
  | inr f ↦ rw f refl
]

-- the rows of caps from a place on
caps_printable : (bidders : Named) (caps : List (Option ℤ)) → All (λ bidder. is_name bidder.0 ≡ true) bidders → ((k : ℕ) (cap : ℤ) → cap_at caps k ≡ Some cap → IsAmount cap) → list_all is_printable_row (cap_rows bidders caps) ≡ true
caps_printable [] caps names range = refl
caps_printable (b ∷ bs) [] names range = refl
caps_printable (b ∷ bs) (None ∷ caps) names range = caps_printable bs caps (All-tail (λ (bidder : List ℕ × Book). is_name bidder.0 ≡ true) b bs names) (λ k. range (suc k))
caps_printable (b ∷ bs) (Some cap ∷ caps) names range =
    let N : List ℕ × Book → Type 0 = λ bidder. is_name bidder.0 ≡ true in
    let name = name_printable b.0 (All-head N b bs names) in
    let number = signed_printable cap (amount_fits cap (range 0 cap refl)) in
    let first = word_row (codes "cap") (b.0 ∷ signed_decimal cap ∷ []) refl (rw (name, number) refl) in
    let rest = caps_printable bs caps (All-tail N b bs names) (λ k. range (suc k)) in
    ap (λ t. t && list_all is_printable_row (cap_rows bs caps)) first ∙ rest

pub auction_printable : (a : AuctionText) → IsAuction a → list_all is_printable_row (auction_rows a) ≡ true
auction_printable a is =
    let format = is.format in
    let head = signed_printable (pos a.format) (omega (arith, ints)) in
    let goods = word_row (codes "goods") a.goods refl (names_printable a.goods is.goods.form) in
    let supply = word_row (codes "supply") (map signed_decimal a.supply) refl (amounts_printable a.supply is.supply.1) in
    let reserve = word_row (codes "reserve") (map signed_decimal a.reserve) refl (amounts_printable a.reserve is.reserve.1) in
    let bids = bidders_printable (length a.goods) a.bidders (each_name a.bidders is.names.form) is.books in
    let order = list_all-append is_printable_row (order_rows a) (end_row ∷ []) ∙ ap (λ t. t && true) (order_printable a is) in
    let caps = caps_printable a.bidders a.caps (each_name a.bidders is.names.form) is.caps.range in
    let capped = list_all-append is_printable_row (cap_rows a.bidders a.caps) (order_rows a ++ end_row ∷ []) ∙ ap₂ (λ t u. t && u) caps order in
    let last = list_all-append is_printable_row (bidder_rows a.bidders) (cap_rows a.bidders a.caps ++ (order_rows a ++ end_row ∷ [])) ∙ ap₂ (λ t u. t && u) bids capped in
    rw (head, goods, supply, reserve, last) refl
