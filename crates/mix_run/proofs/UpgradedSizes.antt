-- How long a text is that `upgrade` prints: an auction of format 1 and its outcome, in format 2, have no more than 16,777,216 bytes.
use Rattle.std.proofs.Common.{◌≡◌, refl, ap, ◌∙◌, subst, ◌<◌, ◌≤◌, ◌+◌, ◌*◌, ◌^◌, ◌≤ℤ◌, ℕ, zero, suc, ℤ, pos, neg_ℤ, true, List, [], ◌∷◌, ◌++◌, length, map, get_or, arith, inl, inr, Option, Some, None, All}
use Rattle.std.specs.Prelude.{codes}
use Rattle.std.specs.Fmt.{signed_decimal}
use Rattle.std.specs.Int.RustNames.{FitsSigned}
use Rattle.std.specs.List.{zip}
use mir.Syntax.{w64}
use Rattle.std.proofs.lemmas.Bool.{cases_Bool}
use Rattle.std.proofs.lemmas.Bool.Decides.{nat_tests}
use Rattle.std.proofs.lemmas.Fmt.{length_signed_le}
use Rattle.std.proofs.lemmas.Int.{ints}
use Rattle.std.proofs.lemmas.List.{length-append, length-map}
use Rattle.std.proofs.lemmas.List.Elements.{All-append, All-cons, All-get_or, All-head, All-map, All-nil, All-tail, All-weaker}
use Rattle.std.proofs.lemmas.Nat.{mul-le}
use Rattle.mix_num.specs.Ranges.{Lies}
use Rattle.mix_num.specs.Sellers.{IsAmount}
use Rattle.mix_num.specs.declared.pair.Tight.{Tight}
use Rattle.mix_num.proofs.Cleared.{few_sets}
use Rattle.mix_bids.specs.Bids.{Book, IsBid}
use Rattle.mix_bids.specs.Offers.{IsOffer}
use Rattle.mix_bids.specs.declared.bid.Bid.{Bid}
use Rattle.mix_text.specs.Auctions.{AuctionText, IsAuction, IsBook}
use Rattle.mix_text.specs.Bidders.{Named, name_at, names_at}
use Rattle.mix_text.specs.Caps.{no_caps}
use Rattle.mix_text.specs.Formats.{has_order, limits_of}
use Rattle.mix_text.specs.Limits.{MeetsLimits}
use Rattle.mix_text.specs.Pages.{after_commas, line_of, printed}
use Rattle.mix_text.specs.SharedRows.{amounts_row, end_row, order_rows}
use Rattle.mix_text.specs.Spelling.{is_name}
use Rattle.mix_text.proofs.Upgrades.{is_of_two}
use Rattle.mix_answer.specs.Outcomes.{BidderGood, answer_rows, bidders_goods, choice_text, cleared_row, head_row, inner_rows, outcome_rows, outcome_text, refusal_row, share_row, share_rows, tight_row, tight_rows, version_of}
use Rattle.mix_answer.specs.Shapes.{AreSets, FitsAuction, HasAnswerShape, HasShape, IsShare}
use Rattle.mix_answer.specs.declared.outcome.Answer.{Answer}
use Rattle.mix_answer.specs.declared.outcome.Outcome.{Outcome}
use Rattle.mix_answer.specs.declared.outcome.Outcome.TheVariants.{Cleared, Refused}
use Rattle.mix_answer.specs.declared.refusal.Refusal.{Refusal}
use Rattle.mix_answer.specs.declared.share.Share.{Share}
use Rattle.mix_answer.proofs.PrintedPages.{printed-append}
use Rattle.mix_answer.proofs.SpelledOutcomes.{AreNamed, bidders_named, goods_named, order_named, pairs_named}
use Rattle.mix_answer.proofs.SpelledRows.{version_small}
use Rattle.mix_trial.specs.Printing.{auction_rows, bid_row, bidder_rows, cap_rows, goods_row, value_text}
use Rattle.mix_trial.specs.Printing.{head_row as first_row}
use Rattle.mix_run.specs.command.Upgrade.{upgraded, upgraded_text}

-- ---- fields

-- at most 32 bytes
abbrev IsBrief : List ℕ → Type 0
IsBrief field = length field ≤ 32

name : (field : List ℕ) → is_name field ≡ true → IsBrief field
name field form = grind (arith, nat_tests)

names : (fields : List (List ℕ)) → All (λ field. is_name field ≡ true) fields → All IsBrief fields
names fields form = All-weaker (λ field. is_name field ≡ true) IsBrief name fields form

fitting : (v : ℤ) → FitsSigned w64 v → IsBrief (signed_decimal v)
fitting v fits = let most = length_signed_le 19 v (omega (arith, fits)) (omega (arith, fits)) in omega (arith, most)

number : (v : ℤ) → neg_ℤ (pos 10000000000000) ≤ℤ v → v ≤ℤ pos 10000000000000 → IsBrief (signed_decimal v)
number v low high = let fits : FitsSigned w64 v = omega (arith, ints, low, high) in fitting v fits

lying : (v : ℤ) → Lies 2000000 v → IsBrief (signed_decimal v)
lying v lies = let low = lies.0 in let high = lies.1 in number v (omega (arith, ints, low)) (omega (arith, ints, high))

amount : (v : ℤ) → IsAmount v → IsBrief (signed_decimal v)
amount v is = let low = is.0 in let high = is.1 in number v (omega (arith, ints, low)) (omega (arith, ints, high))

amounts : (xs : List ℤ) → All IsAmount xs → All IsBrief (map signed_decimal xs)
amounts xs are = All-map IsBrief signed_decimal xs (All-weaker IsAmount (λ v. IsBrief (signed_decimal v)) amount xs are)

prices : (xs : List ℤ) → All (Lies 2000000) xs → All IsBrief (map signed_decimal xs)
prices xs are = All-map IsBrief signed_decimal xs (All-weaker (Lies 2000000) (λ v. IsBrief (signed_decimal v)) lying xs are)

value : (o : Option ℤ) → IsOffer o → IsBrief (value_text o)
value None is = omega arith
value (Some v) is = amount v (is v refl)

choice : (goods : List (List ℕ)) (k : ℕ) → All (λ field. is_name field ≡ true) goods → k ≤ length goods → IsBrief (choice_text goods k)
choice goods zero named h = omega arith
choice goods (suc j) named h = let below : j < length goods = omega arith in name (get_or goods j []) (All-get_or (λ field. is_name field ≡ true) goods j [] below named)

one : (field : List ℕ) → IsBrief field → All IsBrief (field ∷ [])
one field h = All-cons IsBrief field [] h (All-nil IsBrief)

-- numbers and one number more
and_one : (xs : List ℤ) (v : ℤ) → All IsBrief (map signed_decimal xs) → IsBrief (signed_decimal v) → All IsBrief (map signed_decimal xs ++ signed_decimal v ∷ [])
and_one xs v are is = All-append IsBrief (map signed_decimal xs) (signed_decimal v ∷ []) are (one (signed_decimal v) is)

count_and_one : (xs : List ℤ) (v : ℤ) → length (map signed_decimal xs ++ signed_decimal v ∷ []) ≡ length xs + 1
count_and_one xs v = omega (arith, length-append (map signed_decimal xs) (signed_decimal v ∷ []), length-map xs signed_decimal)

-- ---- lines

after_commas_brief : (fields : List (List ℕ)) → All IsBrief fields → length (after_commas fields) ≤ 33 * length fields
after_commas_brief [] h = omega arith
after_commas_brief (field ∷ rest) h =
    let here = All-head IsBrief field rest h in
    let later = after_commas_brief rest (All-tail IsBrief field rest h) in
    omega (arith, here, later, length-append field (after_commas rest))

-- the line of a field and those after it
line_most : (f : ℕ) (field : List ℕ) (fields : List (List ℕ)) → IsBrief field → length fields ≤ f → All IsBrief fields → length (line_of (field ∷ fields)) ≤ 33 * f + 33
line_most f field fields h few hs =
    let later = after_commas_brief fields hs in
    omega (arith, h, few, later, length-append (field ++ after_commas fields) (10 ∷ []), length-append field (after_commas fields))

-- at most 330 bytes: a line of at most 10 fields
abbrev IsLine : List (List ℕ) → Type 0
IsLine fields = length (line_of fields) ≤ 330

line : (field : List ℕ) (fields : List (List ℕ)) → IsBrief field → length fields ≤ 9 → All IsBrief fields → IsLine (field ∷ fields)
line field fields h few hs = line_most 9 field fields h few hs

-- a word and at most 5 numbers
amounts_line : (word : List ℕ) (xs : List ℤ) → IsBrief word → length xs ≤ 5 → All IsAmount xs → IsLine (amounts_row word xs)
amounts_line word xs w few are = line word (map signed_decimal xs) w (omega (arith, few, length-map xs signed_decimal)) (amounts xs are)

bid_line : (n : ℕ) (bidder : List ℕ) (bid : Bid) → n ≤ 5 → is_name bidder ≡ true → IsBid n bid → IsLine (bid_row bidder bid)
bid_line n bidder bid few form is =
    let size = is.offers.size in
    let low = is.weight.0 in
    let high = is.weight.1 in
    let values : List (List ℕ) = map value_text bid.values.items in
    let count : length values ≡ length bid.values.items = length-map bid.values.items value_text in
    let weight = number bid.weight (omega (arith, ints, low)) (omega (arith, ints, high)) in
    let each = All-map IsBrief value_text bid.values.items (All-weaker IsOffer (λ o. IsBrief (value_text o)) value bid.values.items is.offers.each) in
    line (codes "bid") (bidder ∷ signed_decimal bid.weight ∷ values) (omega arith) (omega (arith, few, size, count))
    (All-cons IsBrief bidder (signed_decimal bid.weight ∷ values) (name bidder form) (All-cons IsBrief (signed_decimal bid.weight) values weight each))

share_line : (n : ℕ) (bidder : List ℕ) (share : Share) → n ≤ 5 → is_name bidder ≡ true → IsShare n share → IsLine (share_row bidder share)
share_line n bidder share few form is =
    let size = is.bundle.0 in
    let low = is.least in
    let high = is.most in
    let rest : List (List ℕ) = map signed_decimal share.bundle.items ++ signed_decimal share.payment ∷ [] in
    let count : length rest ≡ length share.bundle.items + 1 = count_and_one share.bundle.items share.payment in
    line (codes "share") (bidder ∷ rest) (omega arith) (omega (arith, few, size, count))
    (All-cons IsBrief bidder rest (name bidder form) (and_one share.bundle.items share.payment (amounts share.bundle.items is.bundle.1) (number share.payment (omega (arith, ints, low)) high)))

set_brief : (n s : ℕ) → n ≤ 8 → s < 2 ^ suc n → IsBrief (signed_decimal (pos s))
set_brief n s few h = let sets = few_sets n few in number (pos s) (omega (arith, ints)) (omega (arith, ints, h, sets))

tight_line : (n : ℕ) (pair : BidderGood) (tight : Tight) → n ≤ 8 → AreNamed pair → AreSets n tight → IsLine (tight_row pair tight)
tight_line n pair tight few named are =
    let upper : List ℕ = signed_decimal (pos tight.upper) in
    let lower : List ℕ = signed_decimal (pos tight.lower) in
    line (codes "tight") (pair.bidder ∷ pair.good ∷ upper ∷ lower ∷ []) (omega arith) (omega arith)
    (All-cons IsBrief pair.bidder (pair.good ∷ upper ∷ lower ∷ []) (name pair.bidder named.0)
    (All-cons IsBrief pair.good (upper ∷ lower ∷ []) (name pair.good named.1)
    (All-cons IsBrief upper (lower ∷ []) (set_brief n tight.upper few are.0) (one lower (set_brief n tight.lower few are.1)))))

refusal_line : (a : AuctionText) (r : Refusal) → length a.goods ≤ 5 → IsAuction a → FitsAuction a r → IsLine (refusal_row a r)
refusal_line a r few is fits =
    let order = fits.order in
    let most = fits.choices in
    let least = fits.least in
    let negative = fits.negative in
    let size = fits.prices.0 in
    let first : r.first ≤ length a.goods = omega (arith, order, most) in
    let named = goods_named a is in
    let rest : List (List ℕ) = map signed_decimal r.prices.items ++ signed_decimal r.weight ∷ [] in
    let count : length rest ≡ length r.prices.items + 1 = count_and_one r.prices.items r.weight in
    let bidder = All-get_or (λ (bidder : List ℕ × Book). is_name bidder.0 ≡ true) a.bidders r.bidder ([], record { goods = 0; bids = [] }) fits.bidder (bidders_named a is) in
    line (codes "refused") (name_at a.bidders r.bidder ∷ choice_text a.goods r.first ∷ choice_text a.goods r.second ∷ rest) (omega arith) (omega (arith, few, size, count))
    (All-cons IsBrief (name_at a.bidders r.bidder) (choice_text a.goods r.first ∷ choice_text a.goods r.second ∷ rest) (name (name_at a.bidders r.bidder) bidder)
    (All-cons IsBrief (choice_text a.goods r.first) (choice_text a.goods r.second ∷ rest) (choice a.goods r.first named first)
    (All-cons IsBrief (choice_text a.goods r.second) rest (choice a.goods r.second named most)
    (and_one r.prices.items r.weight (prices r.prices.items fits.prices.1) (number r.weight (omega (arith, ints, least)) (omega (arith, ints, negative)))))))

-- a row of a word alone
word_line : (word : List ℕ) → IsBrief word → IsLine (word ∷ [])
word_line word h = line word [] h (omega arith) (All-nil IsBrief)

-- ---- rows one after the other

-- rows of at most m bytes in all
abbrev AreWithin : ℕ → List (List (List ℕ)) → Type 0
AreWithin m rows = length (printed rows) ≤ m

texts : (m k : ℕ) (s t : List ℕ) → length s ≤ m → length t ≤ k → length (s ++ t) ≤ m + k
texts m k s t h g = omega (arith, h, g, length-append s t)

wider : (m k : ℕ) (s : List ℕ) → m ≤ k → length s ≤ m → length s ≤ k
wider m k s le h = omega (arith, le, h)

none_within : AreWithin 0 []
none_within = omega arith

more_within : (c m : ℕ) (row : List (List ℕ)) (rows : List (List (List ℕ))) → length (line_of row) ≤ c → AreWithin m rows → AreWithin (c + m) (row ∷ rows)
more_within c m row rows h hs = texts c m (line_of row) (printed rows) h hs

both_within : (m k : ℕ) (rows others : List (List (List ℕ))) → AreWithin m rows → AreWithin k others → AreWithin (m + k) (rows ++ others)
both_within m k rows others h g = let parts = printed-append rows others in rw parts (texts m k (printed rows) (printed others) h g)

lines_within : (rows : List (List (List ℕ))) → All IsLine rows → AreWithin (330 * length rows) rows
lines_within [] h = omega arith
lines_within (row ∷ rows) h =
    let later = lines_within rows (All-tail IsLine row rows h) in
    let all = more_within 330 (330 * length rows) row rows (All-head IsLine row rows h) later in
    omega (arith, all)

-- a row for each of these, with each of those beside it
pairs_within : {W X : Type 0} (print : W → X → List (List ℕ)) (P : W → Type 0) (Q : X → Type 0) → ((w : W) (x : X) → P w → Q x → IsLine (print w x)) → (wanted : List W) (xs : List X) → All P wanted → All Q xs
    → AreWithin (330 * length xs) (map (λ p. print p.0 p.1) (zip wanted xs))
pairs_within print P Q h [] xs ps qs = omega arith
pairs_within print P Q h (w ∷ wanted) [] ps qs = omega arith
pairs_within print P Q h (w ∷ wanted) (x ∷ xs) ps qs =
    let rows : List (List (List ℕ)) = map (λ p. print p.0 p.1) (zip wanted xs) in
    let later = pairs_within print P Q h wanted xs (All-tail P w wanted ps) (All-tail Q x xs qs) in
    let all = more_within 330 (330 * length xs) (print w x) rows (h w x (All-head P w wanted ps) (All-head Q x xs qs)) later in
    omega (arith, all)

-- ---- the auction

-- the bids of each bidder: at most 400 lines
bidders_within : (n : ℕ) (bidders : Named) → n ≤ 5 → All (λ bidder. is_name bidder.0 ≡ true) bidders → All (λ bidder. IsBook n bidder.1) bidders → AreWithin (132000 * length bidders) (bidder_rows bidders)
bidders_within n [] few named books = omega arith
bidders_within n (b ∷ bs) few named books =
    let N : List ℕ × Book → Type 0 = λ bidder. is_name bidder.0 ≡ true in
    let B : List ℕ × Book → Type 0 = λ bidder. IsBook n bidder.1 in
    let form = All-head N b bs named in
    let book = All-head B b bs books in
    let most = book.few in
    let rows : List (List (List ℕ)) = map (bid_row b.0) b.1.bids in
    let count : length rows ≡ length b.1.bids = length-map b.1.bids (bid_row b.0) in
    let lines = lines_within rows (All-map IsLine (bid_row b.0) b.1.bids (All-weaker (IsBid n) (λ bid. IsLine (bid_row b.0 bid)) (λ bid is. bid_line n b.0 bid few form is) b.1.bids book.bids)) in
    let own : AreWithin 132000 rows = omega (arith, most, count, lines) in
    let later = bidders_within n bs few (All-tail N b bs named) (All-tail B b bs books) in
    let all = both_within 132000 (132000 * length bs) rows (bidder_rows bs) own later in
    omega (arith, all)

-- the row of the order, where there is one: a word and at most 64 names
order_within : (a : AuctionText) → IsAuction a → length a.bidders ≤ 64 → AreWithin 2145 (order_rows a)
order_within a is few = elim (cases_Bool (has_order a.format)) [
  | inl t ↦ (
      let size = is.order.size in
      let fields : List (List ℕ) = names_at a.bidders a.order in
      let count : length fields ≡ length a.order = length-map a.order (name_at a.bidders) in
      let row = line_most 64 (codes "order") fields (omega arith) (omega (arith, few, size, count)) (names fields (order_named a is)) in
      rw t (more_within 2145 0 (codes "order" ∷ fields) [] row none_within))
  | inr f ↦ rw f (omega arith)
]

no_cap_rows : (bidders : Named) → cap_rows bidders (no_caps (length bidders)) ≡ []
no_cap_rows [] = refl
no_cap_rows (b ∷ bs) = no_cap_rows bs

-- a text of format 1 or 2, which has no caps
auction_within : (a : AuctionText) → IsAuction a → a.format ≤ 2 → length a.goods ≤ 5 → length a.bidders ≤ 64 → AreWithin 8451795 (auction_rows a)
auction_within a is former goods bidders =
    let format = is.format in
    let supplies = is.supply.0 in
    let reserves = is.reserve.0 in
    let supply : List (List ℕ) = amounts_row (codes "supply") a.supply in
    let reserve : List (List ℕ) = amounts_row (codes "reserve") a.reserve in
    let last : List (List (List ℕ)) = order_rows a ++ end_row ∷ [] in
    let rows : List (List (List ℕ)) = bidder_rows a.bidders ++ last in
    let uncapped : cap_rows a.bidders a.caps ≡ [] = ap (cap_rows a.bidders) (is.uncapped former) ∙ no_cap_rows a.bidders in
    rw uncapped (
    let bids : AreWithin 8448000 (bidder_rows a.bidders) = let h = bidders_within (length a.goods) a.bidders goods (bidders_named a is) is.books in omega (arith, bidders, h) in
    let end = more_within 330 0 end_row [] (word_line (codes "end") (omega arith)) none_within in
    let number_line : IsLine (first_row a.format) = line (codes "mix") (signed_decimal (pos a.format) ∷ []) (omega arith) (omega arith) (one (signed_decimal (pos a.format)) (fitting (pos a.format) (omega (arith, ints)))) in
    let goods_line : IsLine (goods_row a.goods) = line (codes "goods") a.goods (omega arith) (omega (arith, goods)) (names a.goods (goods_named a is)) in
    more_within 330 8451465 (first_row a.format) (goods_row a.goods ∷ supply ∷ reserve ∷ rows) number_line
    (more_within 330 8451135 (goods_row a.goods) (supply ∷ reserve ∷ rows) goods_line
    (more_within 330 8450805 supply (reserve ∷ rows) (amounts_line (codes "supply") a.supply (omega arith) (omega (arith, goods, supplies)) is.supply.1)
    (more_within 330 8450475 reserve rows (amounts_line (codes "reserve") a.reserve (omega arith) (omega (arith, goods, reserves)) is.reserve.1)
    (both_within 8448000 2475 (bidder_rows a.bidders) last bids (both_within 2145 330 (order_rows a) (end_row ∷ []) (order_within a is bidders) end))))))

-- ---- the outcome

answer_within : (a : AuctionText) (answer : Answer) → IsAuction a → length a.goods ≤ 5 → length a.bidders ≤ 64 → HasAnswerShape a answer → AreWithin 127710 (answer_rows a answer)
unfolding answer_rows share_rows tight_rows
answer_within a answer is goods bidders shape =
    let n = length a.goods in
    let few : n ≤ 8 = omega (arith, goods) in
    let price_count = shape.prices.0 in
    let return_count = shape.returns.0 in
    let share_count = shape.count in
    let tight_count = shape.pairs in
    let tight_most = mul-le (length a.bidders) (length a.goods) 64 5 bidders goods in
    let price_row : List (List ℕ) = amounts_row (codes "price") answer.prices.items in
    let return_row : List (List ℕ) = amounts_row (codes "return") answer.returns.items in
    let share_lines : List (List (List ℕ)) = share_rows a.bidders answer.shares in
    let tight_lines : List (List (List ℕ)) = tight_rows (bidders_goods a.goods a.bidders) answer.tights in
    let shares : AreWithin 21120 share_lines =
    let h = pairs_within (λ (bidder : List ℕ × Book). share_row bidder.0) (λ bidder. is_name bidder.0 ≡ true) (IsShare n) (λ bidder share form is. share_line n bidder.0 share goods form is) a.bidders answer.shares (bidders_named a is) shape.shares in
    wider (330 * length answer.shares) 21120 (printed share_lines) (omega (arith, share_count, bidders)) h in
    let tights : AreWithin 105600 tight_lines =
    let h = pairs_within tight_row AreNamed (AreSets n) (λ pair tight named are. tight_line n pair tight few named are) (bidders_goods a.goods a.bidders) answer.tights (pairs_named a.goods a.bidders (goods_named a is) (bidders_named a is)) shape.tights in
    wider (330 * length answer.tights) 105600 (printed tight_lines) (omega (arith, tight_count, tight_most)) h in
    more_within 330 127380 cleared_row (price_row ∷ (share_lines ++ return_row ∷ tight_lines)) (word_line (codes "cleared") (omega arith))
    (more_within 330 127050 price_row (share_lines ++ return_row ∷ tight_lines) (amounts_line (codes "price") answer.prices.items (omega arith) (omega (arith, goods, price_count)) shape.prices.1)
    (both_within 21120 105930 share_lines (return_row ∷ tight_lines) shares
    (more_within 330 105600 return_row tight_lines (amounts_line (codes "return") answer.returns.items (omega arith) (omega (arith, goods, return_count)) shape.returns.1) tights)))

inner_within : (a : AuctionText) (outcome : Outcome) → IsAuction a → length a.goods ≤ 5 → length a.bidders ≤ 64 → HasShape a outcome → AreWithin 127710 (inner_rows a outcome)
inner_within a (Refused r) is goods bidders shape =
    wider 330 127710 (printed (refusal_row a r ∷ [])) (omega arith) (more_within 330 0 (refusal_row a r) [] (refusal_line a r goods is shape) none_within)
inner_within a (Cleared answer) is goods bidders shape = answer_within a answer is goods bidders shape

outcome_within : (a : AuctionText) (outcome : Outcome) → IsAuction a → length a.goods ≤ 5 → length a.bidders ≤ 64 → HasShape a outcome → AreWithin 130515 (outcome_rows a outcome)
outcome_within a outcome is goods bidders shape =
    let few = version_small a.format in
    let inner : List (List (List ℕ)) = inner_rows a outcome in
    let version : List ℕ = signed_decimal (pos (version_of a.format)) in
    let brief : IsBrief version = number (pos (version_of a.format)) (omega (arith, ints)) (omega (arith, ints, few)) in
    let head : IsLine (head_row a.format) = line (codes "outcome") (version ∷ []) (omega arith) (omega arith) (one version brief) in
    let end = more_within 330 0 end_row [] (word_line (codes "end") (omega arith)) none_within in
    more_within 330 130185 (head_row a.format) (order_rows a ++ (inner ++ end_row ∷ [])) head
    (both_within 2145 128040 (order_rows a) (inner ++ end_row ∷ []) (order_within a is bidders)
    (both_within 127710 330 inner (end_row ∷ []) (inner_within a outcome is goods bidders shape) end))

-- ---- both texts

text_short : (a : AuctionText) (outcome : Outcome) → IsAuction a → a.format ≤ 2 → length a.goods ≤ 5 → length a.bidders ≤ 64 → HasShape a outcome → length (printed (auction_rows a) ++ outcome_text a outcome) ≤ 16777216
text_short a outcome is former goods bidders shape =
    wider 8582310 16777216 (printed (auction_rows a) ++ outcome_text a outcome) (omega arith)
    (texts 8451795 130515 (printed (auction_rows a)) (outcome_text a outcome) (auction_within a is former goods bidders) (outcome_within a outcome is goods bidders shape))

-- the shape of an outcome says nothing of the format
pub shape_of_two : (a : AuctionText) (outcome : Outcome) → HasShape a outcome → HasShape (upgraded a) outcome
shape_of_two a (Refused r) s = record { bidder = s.bidder; order = s.order; choices = s.choices; prices = s.prices; least = s.least; negative = s.negative }
shape_of_two a (Cleared answer) s = record { prices = s.prices; count = s.count; shares = s.shares; returns = s.returns; pairs = s.pairs; tights = s.tights }

-- what `upgrade` prints may be read again
pub upgraded_short : (a : AuctionText) (outcome : Outcome) → IsAuction a → MeetsLimits a → a.format ≡ 1 → HasShape a outcome → length (upgraded_text a outcome) ≤ 16777216
unfolding limits_of
upgraded_short a outcome is limits first shape =
    let goods : length a.goods ≤ 5 = subst (λ (f : ℕ). length a.goods ≤ (limits_of f).goods) first limits.goods in
    let bidders : length a.bidders ≤ 64 = subst (λ (f : ℕ). length a.bidders ≤ (limits_of f).bidders) first limits.bidders in
    text_short (upgraded a) outcome (is_of_two a is first) (omega arith) goods bidders (shape_of_two a outcome shape)
