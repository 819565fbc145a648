-- The rows of shares and of pairs, printed one by one.
use Rattle.std.proofs.Common.{◌≡◌, ◌∙◌, sym, ap, refl, ◌<◌, ◌≤◌, ◌+◌, ◌*◌, ℕ, List, [], ◌∷◌, ◌++◌, append-nil, append_assoc, length, drop, get_or, arith}
use Rattle.std.specs.Prelude.{codes}
use Rattle.std.proofs.lemmas.List.{drop-drop, drop_all, drop_more, length-map}
use Rattle.mix_bids.specs.Bids.{Book}
use Rattle.mix_num.specs.declared.pair.Tight.{Tight}
use Rattle.mix_text.specs.Auctions.{AuctionText}
use Rattle.mix_text.specs.Bidders.{Named, name_at}
use Rattle.mix_text.specs.Pages.{PageText, line_of, printed}
use Rattle.mix_text.specs.SharedRows.{amounts_row, end_row, order_rows}
use Rattle.mix_answer.specs.Outcomes.{BidderGood, answer_rows, bidders_goods, cleared_row, head_row, inner_rows, outcome_text, share_row, share_rows, tight_row, tight_rows, with_each}
use Rattle.mix_answer.specs.declared.outcome.Answer.{Answer}
use Rattle.mix_answer.specs.declared.outcome.Outcome.{Outcome}
use Rattle.mix_answer.specs.declared.share.Share.{Share}
use Rattle.mix_answer.proofs.PrintedPages.{printed-append, printed_alone, printed_more}

-- a page on which no more rows come
no_more : (page : PageText) (all : List ℕ) (rows : List (List (List ℕ))) → page.fields ≡ [] → rows ≡ [] → page.ended ++ printed rows ≡ all → page ≡ record { ended = all; fields = [] }
no_more page all rows open_row none so_far =
    let text : page.ended ≡ all = sym (append-nil page.ended) ∙ ap (λ (left : List (List (List ℕ))). page.ended ++ printed left) (sym none) ∙ so_far in
    ap (λ (fields : List (List ℕ)). record { ended = page.ended; fields = fields }) open_row ∙ ap (λ (t : List ℕ). record { ended = t; fields = [] }) text

-- ---- shares

-- the rows from a place on are the row there and those after it
pub shares_from : (bidders : Named) (shares : List Share) (k : ℕ) (share : Share) → k < length bidders → k < length shares → share ≡ get_or shares k share
    → share_rows (drop k bidders) (drop k shares) ≡ share_row (name_at bidders k) share ∷ share_rows (drop (k + 1) bidders) (drop (k + 1) shares)
unfolding share_rows
shares_from bidders shares k share b h e =
    let nobody : List ℕ × Book = ([], record { goods = 0; bids = [] }) in
    rw (drop_more bidders k nobody b, drop_more shares k share h, ← e) refl

-- a row more on the page
pub shares_more : (ended all : List ℕ) (bidders : Named) (shares : List Share) (k : ℕ) (share : Share) → k < length bidders → k < length shares → share ≡ get_or shares k share
    → ended ++ printed (share_rows (drop k bidders) (drop k shares)) ≡ all
    → (ended ++ line_of (share_row (name_at bidders k) share)) ++ printed (share_rows (drop (k + 1) bidders) (drop (k + 1) shares)) ≡ all
shares_more ended all bidders shares k share b h e i =
    sym (printed_more ended (share_row (name_at bidders k) share) (share_rows (drop (k + 1) bidders) (drop (k + 1) shares)))
    ∙ ap (λ (rows : List (List (List ℕ))). ended ++ printed rows) (sym (shares_from bidders shares k share b h e)) ∙ i

-- no row more
pub shares_end : (page : PageText) (all : List ℕ) (bidders : Named) (shares : List Share) (k : ℕ) → length bidders ≤ k → page.fields ≡ []
    → page.ended ++ printed (share_rows (drop k bidders) (drop k shares)) ≡ all → page ≡ record { ended = all; fields = [] }
unfolding share_rows
shares_end page all bidders shares k b o i = no_more page all (share_rows (drop k bidders) (drop k shares)) o (rw (drop_all k bidders b) refl) i

-- ---- pairs

-- the rows of some pairs, and of those after them
tights_append : (names others : List BidderGood) (tights : List Tight) → tight_rows (names ++ others) tights ≡ tight_rows names tights ++ tight_rows others (drop (length names) tights)
unfolding tight_rows
tights_append [] others tights = refl
tights_append (name ∷ names) [] [] = refl
tights_append (name ∷ names) (other ∷ others) [] = refl
tights_append (name ∷ names) others (tight ∷ tights) = ap (λ (rows : List (List (List ℕ))). tight_row name tight ∷ rows) (tights_append names others tights)

-- the rows of a bidder's pairs from a good on are the row there and those after it
bidder_from : (goods : List (List ℕ)) (bidder : List ℕ) (tights : List Tight) (first j : ℕ) (tight : Tight) → j < length goods → first + j < length tights → tight ≡ get_or tights (first + j) tight
    → tight_rows (with_each (drop j goods) bidder) (drop (first + j) tights)
    ≡ tight_row (record { bidder = bidder; good = get_or goods j [] }) tight ∷ tight_rows (with_each (drop (j + 1) goods) bidder) (drop (first + (j + 1)) tights)
unfolding tight_rows
bidder_from goods bidder tights first j tight g h e =
    let next : first + (j + 1) ≡ (first + j) + 1 = omega arith in
    rw (drop_more goods j [] g, drop_more tights (first + j) tight h, ← e, next) refl

-- a row more on the page
pub bidder_more : (ended all : List ℕ) (goods : List (List ℕ)) (bidder : List ℕ) (tights : List Tight) (first j : ℕ) (tight : Tight) → j < length goods → first + j < length tights → tight ≡ get_or tights (first + j) tight
    → ended ++ printed (tight_rows (with_each (drop j goods) bidder) (drop (first + j) tights)) ≡ all
    → (ended ++ line_of (tight_row (record { bidder = bidder; good = get_or goods j [] }) tight)) ++ printed (tight_rows (with_each (drop (j + 1) goods) bidder) (drop (first + (j + 1)) tights)) ≡ all
bidder_more ended all goods bidder tights first j tight g h e i =
    let names : BidderGood = record { bidder = bidder; good = get_or goods j [] } in
    sym (printed_more ended (tight_row names tight) (tight_rows (with_each (drop (j + 1) goods) bidder) (drop (first + (j + 1)) tights)))
    ∙ ap (λ (rows : List (List (List ℕ))). ended ++ printed rows) (sym (bidder_from goods bidder tights first j tight g h e)) ∙ i

-- no row more
pub bidder_end : (page : PageText) (all : List ℕ) (goods : List (List ℕ)) (bidder : List ℕ) (tights : List Tight) (first j : ℕ) → length goods ≤ j → page.fields ≡ []
    → page.ended ++ printed (tight_rows (with_each (drop j goods) bidder) (drop (first + j) tights)) ≡ all → page ≡ record { ended = all; fields = [] }
unfolding tight_rows
bidder_end page all goods bidder tights first j g o i = no_more page all (tight_rows (with_each (drop j goods) bidder) (drop (first + j) tights)) o (rw (drop_all j goods g) refl) i

-- the rows from a bidder on are this one's and those after them
tights_from : (goods : List (List ℕ)) (bidders : Named) (tights : List Tight) (k : ℕ) → k < length bidders
    → tight_rows (bidders_goods goods (drop k bidders)) (drop (k * length goods) tights)
    ≡ tight_rows (with_each goods (name_at bidders k)) (drop (k * length goods) tights) ++ tight_rows (bidders_goods goods (drop (k + 1) bidders)) (drop ((k + 1) * length goods) tights)
tights_from goods bidders tights k b =
    let nobody : List ℕ × Book = ([], record { goods = 0; bids = [] }) in
    let own : List BidderGood = with_each goods (name_at bidders k) in
    let size : length own ≡ length goods = length-map goods (λ (good : List ℕ). record { bidder = name_at bidders k; good = good }) in
    let next : k * length goods + length own ≡ (k + 1) * length goods = omega (arith, size) in
    ap (λ (left : Named). tight_rows (bidders_goods goods left) (drop (k * length goods) tights)) (drop_more bidders k nobody b)
    ∙ tights_append own (bidders_goods goods (drop (k + 1) bidders)) (drop (k * length goods) tights)
    ∙ ap (λ (left : List Tight). tight_rows own (drop (k * length goods) tights) ++ tight_rows (bidders_goods goods (drop (k + 1) bidders)) left) (drop-drop (length own) (k * length goods) tights ∙ ap (λ (i : ℕ). drop i tights) next)

-- a bidder's rows more on the page
pub tights_more : (ended all : List ℕ) (goods : List (List ℕ)) (bidders : Named) (tights : List Tight) (k : ℕ) → k < length bidders
    → ended ++ printed (tight_rows (bidders_goods goods (drop k bidders)) (drop (k * length goods) tights)) ≡ all
    → (ended ++ printed (tight_rows (with_each goods (name_at bidders k)) (drop (k * length goods) tights))) ++ printed (tight_rows (bidders_goods goods (drop (k + 1) bidders)) (drop ((k + 1) * length goods) tights)) ≡ all
tights_more ended all goods bidders tights k b i =
    let own : List (List (List ℕ)) = tight_rows (with_each goods (name_at bidders k)) (drop (k * length goods) tights) in
    let others : List (List (List ℕ)) = tight_rows (bidders_goods goods (drop (k + 1) bidders)) (drop ((k + 1) * length goods) tights) in
    append_assoc ended (printed own) (printed others)
    ∙ ap (λ (t : List ℕ). ended ++ t) (sym (printed-append own others))
    ∙ ap (λ (rows : List (List (List ℕ))). ended ++ printed rows) (sym (tights_from goods bidders tights k b)) ∙ i

-- no row more
pub tights_end : (page : PageText) (all : List ℕ) (goods : List (List ℕ)) (bidders : Named) (tights : List Tight) (k : ℕ) → length bidders ≤ k → page.fields ≡ []
    → page.ended ++ printed (tight_rows (bidders_goods goods (drop k bidders)) (drop (k * length goods) tights)) ≡ all → page ≡ record { ended = all; fields = [] }
unfolding tight_rows
tights_end page all goods bidders tights k b o i = no_more page all (tight_rows (bidders_goods goods (drop k bidders)) (drop (k * length goods) tights)) o (rw (drop_all k bidders b) refl) i

-- ---- answers

-- the rows of an answer, part after part
answer_printed : (ended : List ℕ) (a : AuctionText) (answer : Answer)
    → ((((ended ++ line_of cleared_row) ++ line_of (amounts_row (codes "price") answer.prices.items)) ++ printed (share_rows a.bidders answer.shares))
    ++ line_of (amounts_row (codes "return") answer.returns.items)) ++ printed (tight_rows (bidders_goods a.goods a.bidders) answer.tights)
    ≡ ended ++ printed (answer_rows a answer)
unfolding answer_rows
answer_printed ended a answer =
    let prices : List (List ℕ) = amounts_row (codes "price") answer.prices.items in
    let shares : List (List (List ℕ)) = share_rows a.bidders answer.shares in
    let returns : List (List ℕ) = amounts_row (codes "return") answer.returns.items in
    let tights : List (List (List ℕ)) = tight_rows (bidders_goods a.goods a.bidders) answer.tights in
    sym (
    printed_more ended cleared_row (prices ∷ (shares ++ (returns ∷ tights)))
    ∙ printed_more (ended ++ line_of cleared_row) prices (shares ++ (returns ∷ tights))
    ∙ ap (λ (t : List ℕ). ((ended ++ line_of cleared_row) ++ line_of prices) ++ t) (printed-append shares (returns ∷ tights))
    ∙ sym (append_assoc ((ended ++ line_of cleared_row) ++ line_of prices) (printed shares) (printed (returns ∷ tights)))
    ∙ printed_more (((ended ++ line_of cleared_row) ++ line_of prices) ++ printed shares) returns tights
    )

-- the pages after its parts
pub answer_pages : (ended : List ℕ) (a : AuctionText) (answer : Answer) (cleared prices shares returns : PageText)
    → cleared ≡ record { ended = ended ++ line_of cleared_row; fields = [] }
    → prices ≡ record { ended = cleared.ended ++ line_of (amounts_row (codes "price") answer.prices.items); fields = [] }
    → shares ≡ record { ended = prices.ended ++ printed (share_rows a.bidders answer.shares); fields = [] }
    → returns ≡ record { ended = shares.ended ++ line_of (amounts_row (codes "return") answer.returns.items); fields = [] }
    → returns.ended ++ printed (tight_rows (bidders_goods a.goods a.bidders) answer.tights) ≡ ended ++ printed (answer_rows a answer)
answer_pages ended a answer cleared prices shares returns c p s r = rw (r, s, p, c) (answer_printed ended a answer)

-- ---- outcomes

-- the pages after the first row, that of the order, the rows of the outcome itself and the last row
pub outcome_pages : (a : AuctionText) (outcome : Outcome) (start head order inner all : PageText)
    → start ≡ record { ended = []; fields = [] }
    → head ≡ record { ended = start.ended ++ line_of (head_row a.format); fields = [] }
    → order ≡ record { ended = head.ended ++ printed (order_rows a); fields = [] }
    → inner ≡ record { ended = order.ended ++ printed (inner_rows a outcome); fields = [] }
    → all ≡ record { ended = inner.ended ++ line_of end_row; fields = [] }
    → all.ended ≡ outcome_text a outcome
outcome_pages a outcome start head order inner all s h o i e =
    let first : List ℕ = line_of (head_row a.format) in
    let stated : List (List (List ℕ)) = order_rows a in
    let rows : List (List (List ℕ)) = inner_rows a outcome in
    rw (e, i, o, h, s) (
    append_assoc (first ++ printed stated) (printed rows) (line_of end_row)
    ∙ append_assoc first (printed stated) (printed rows ++ line_of end_row)
    ∙ ap (λ (t : List ℕ). first ++ (printed stated ++ (printed rows ++ t))) (sym (printed_alone end_row))
    ∙ ap (λ (t : List ℕ). first ++ (printed stated ++ t)) (sym (printed-append rows (end_row ∷ [])))
    ∙ ap (λ (t : List ℕ). first ++ t) (sym (printed-append stated (rows ++ end_row ∷ [])))
    )
