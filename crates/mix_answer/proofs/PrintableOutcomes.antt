-- The rows of an outcome may be printed, and so its text is read as them.
use Rattle.std.proofs.Common.{◌≡◌, ◌∙◌, sym, ap, refl, ◌<◌, ◌≤◌, ◌+◌, ◌^◌, ◌≤ℤ◌, ℕ, zero, suc, ℤ, pos, neg_ℤ, Bool, true, List, [], ◌∷◌, ◌++◌, length, map, get_or, nat_lt, arith, inl, inr, Ok, All}
use Rattle.std.specs.Prelude.{codes}
use Rattle.std.specs.Fmt.{signed_decimal}
use Rattle.std.specs.Int.RustNames.{FitsSigned}
use Rattle.std.specs.List.{list_all, zip}
use mir.Syntax.{w64}
use Rattle.std.proofs.lemmas.Bool.{cases_Bool}
use Rattle.std.proofs.lemmas.Bool.Decides.{nat_tests}
use Rattle.std.proofs.lemmas.Int.{ints}
use Rattle.std.proofs.lemmas.List.Elements.{All-append, All-cons, All-get_or, All-head, All-map, All-nil, All-tail, All-weaker}
use Rattle.mix_bids.specs.Bids.{Book}
use Rattle.mix_num.specs.Ranges.{Lies}
use Rattle.mix_num.specs.Sellers.{IsAmount}
use Rattle.mix_num.specs.declared.pair.Tight.{Tight}
use Rattle.mix_num.proofs.Cleared.{few_sets}
use Rattle.mix_text.specs.Auctions.{AuctionText, IsAuction}
use Rattle.mix_text.specs.Bidders.{name_at, names_at}
use Rattle.mix_text.specs.Formats.{has_order}
use Rattle.mix_text.specs.Pages.{is_printable, is_printable_row}
use Rattle.mix_text.specs.Rows.{numbered, rows_of}
use Rattle.mix_text.specs.SharedRows.{amounts_row, end_row, order_row, order_rows}
use Rattle.mix_text.specs.Spelling.{is_name}
use Rattle.mix_text.proofs.PrintedNumbers.{signed_printable}
use Rattle.mix_text.proofs.ReadBack.{rows_of-printed}
use Rattle.mix_text.proofs.Spellings.{name_printable}
use Rattle.mix_answer.specs.Outcomes.{BidderGood, answer_rows, bidders_goods, choice_text, cleared_row, head_row, inner_rows, outcome_rows, outcome_text, refusal_row, share_row, share_rows, tight_row, tight_rows, version_of}
use Rattle.mix_answer.specs.Readings.{lines_of, outcome_in}
use Rattle.mix_answer.specs.Shapes.{AreSets, FitsAuction, HasAnswerShape, HasShape, IsShare}
use Rattle.mix_answer.specs.declared.outcome.Answer.{Answer}
use Rattle.mix_answer.specs.declared.outcome.Outcome.{Outcome}
use Rattle.mix_answer.specs.declared.outcome.Outcome.TheVariants.{Cleared, Refused}
use Rattle.mix_answer.specs.declared.refusal.Refusal.{Refusal}
use Rattle.mix_answer.specs.declared.share.Share.{Share}
use Rattle.mix_answer.proofs.SpelledOutcomes.{AreNamed, bidders_named, goods_named, order_named, outcome_tells, pairs_named}
use Rattle.mix_answer.proofs.SpelledRows.{version_small}

-- ---- fields and rows

abbrev IsField : List ℕ → Type 0
IsField field = is_printable field ≡ true

abbrev IsLine : List (List ℕ) → Type 0
IsLine fields = is_printable_row fields ≡ true

all_pass : {X : Type 0} (p : X → Bool) (xs : List X) → All (λ x. p x ≡ true) xs → list_all p xs ≡ true
all_pass p [] h = refl
all_pass p (x ∷ xs) h =
    let here = All-head (λ y. p y ≡ true) x xs h in
    let rest = all_pass p xs (All-tail (λ y. p y ≡ true) x xs h) in
    rw (here, rest) refl

-- a row that begins with a field
line : (field : List ℕ) (fields : List (List ℕ)) → IsField field → All IsField fields → IsLine (field ∷ fields)
line field fields h hs =
    let some : nat_lt 0 (length (field ∷ fields)) ≡ true = grind (arith, nat_tests) in
    let all = all_pass is_printable (field ∷ fields) (All-cons IsField field fields h hs) in
    rw (some, all) refl

one : (field : List ℕ) → IsField field → All IsField (field ∷ [])
one field h = All-cons IsField field [] h (All-nil IsField)

number : (v : ℤ) → neg_ℤ (pos 10000000000000) ≤ℤ v → v ≤ℤ pos 10000000000000 → IsField (signed_decimal v)
number v low high = let fits : FitsSigned w64 v = omega (arith, ints, low, high) in signed_printable v fits

amounts : (xs : List ℤ) → All IsAmount xs → All IsField (map signed_decimal xs)
amounts xs are = All-map IsField signed_decimal xs (All-weaker IsAmount (λ v. IsField (signed_decimal v)) (λ v is. (let low = is.0 in let high = is.1 in number v (omega (arith, ints, low)) (omega (arith, ints, high)))) xs are)

prices : (xs : List ℤ) → All (Lies 2000000) xs → All IsField (map signed_decimal xs)
prices xs are = All-map IsField signed_decimal xs (All-weaker (Lies 2000000) (λ v. IsField (signed_decimal v)) (λ v is. (let low = is.0 in let high = is.1 in number v (omega (arith, ints, low)) (omega (arith, ints, high)))) xs are)

-- numbers and one number more
and_one : (xs : List ℤ) (v : ℤ) → All IsField (map signed_decimal xs) → IsField (signed_decimal v) → All IsField (map signed_decimal xs ++ signed_decimal v ∷ [])
and_one xs v are is = All-append IsField (map signed_decimal xs) (signed_decimal v ∷ []) are (one (signed_decimal v) is)

amounts_line : (word : List ℕ) (xs : List ℤ) → IsField word → All IsAmount xs → IsLine (amounts_row word xs)
amounts_line word xs w are = line word (map signed_decimal xs) w (amounts xs are)

share_line : (n : ℕ) (name : List ℕ) (share : Share) → is_name name ≡ true → IsShare n share → IsLine (share_row name share)
share_line n name share form is =
    let low = is.least in
    let high = is.most in
    line (codes "share") (name ∷ (map signed_decimal share.bundle.items ++ signed_decimal share.payment ∷ [])) refl
    (All-cons IsField name (map signed_decimal share.bundle.items ++ signed_decimal share.payment ∷ []) (name_printable name form)
    (and_one share.bundle.items share.payment (amounts share.bundle.items is.bundle.1) (number share.payment (omega (arith, ints, low)) high)))

set_field : (n s : ℕ) → n ≤ 8 → s < 2 ^ suc n → IsField (signed_decimal (pos s))
set_field n s few h = let sets = few_sets n few in number (pos s) (omega (arith, ints)) (omega (arith, ints, h, sets))

tight_line : (n : ℕ) (names : BidderGood) (tight : Tight) → n ≤ 8 → AreNamed names → AreSets n tight → IsLine (tight_row names tight)
tight_line n names tight few named are =
    line (codes "tight") (names.bidder ∷ names.good ∷ signed_decimal (pos tight.upper) ∷ signed_decimal (pos tight.lower) ∷ []) refl
    (All-cons IsField names.bidder (names.good ∷ signed_decimal (pos tight.upper) ∷ signed_decimal (pos tight.lower) ∷ []) (name_printable names.bidder named.0)
    (All-cons IsField names.good (signed_decimal (pos tight.upper) ∷ signed_decimal (pos tight.lower) ∷ []) (name_printable names.good named.1)
    (All-cons IsField (signed_decimal (pos tight.upper)) (signed_decimal (pos tight.lower) ∷ []) (set_field n tight.upper few are.0)
    (one (signed_decimal (pos tight.lower)) (set_field n tight.lower few are.1)))))

choice_field : (goods : List (List ℕ)) (choice : ℕ) → All (λ name. is_name name ≡ true) goods → choice ≤ length goods → IsField (choice_text goods choice)
choice_field goods zero named h = refl
choice_field goods (suc j) named h = let below : j < length goods = omega arith in name_printable (get_or goods j []) (All-get_or (λ name. is_name name ≡ true) goods j [] below named)

refusal_line : (a : AuctionText) (r : Refusal) → IsAuction a → FitsAuction a r → IsLine (refusal_row a r)
refusal_line a r is fits =
    let order = fits.order in
    let most = fits.choices in
    let least = fits.least in
    let negative = fits.negative in
    let first : r.first ≤ length a.goods = omega (arith, order, most) in
    let named = goods_named a is in
    let rest : List (List ℕ) = map signed_decimal r.prices.items ++ signed_decimal r.weight ∷ [] in
    let bidder = All-get_or (λ (bidder : List ℕ × Book). is_name bidder.0 ≡ true) a.bidders r.bidder ([], record { goods = 0; bids = [] }) fits.bidder (bidders_named a is) in
    line (codes "refused") (name_at a.bidders r.bidder ∷ choice_text a.goods r.first ∷ choice_text a.goods r.second ∷ rest) refl
    (All-cons IsField (name_at a.bidders r.bidder) (choice_text a.goods r.first ∷ choice_text a.goods r.second ∷ rest) (name_printable (name_at a.bidders r.bidder) bidder)
    (All-cons IsField (choice_text a.goods r.first) (choice_text a.goods r.second ∷ rest) (choice_field a.goods r.first named first)
    (All-cons IsField (choice_text a.goods r.second) rest (choice_field a.goods r.second named most)
    (and_one r.prices.items r.weight (prices r.prices.items fits.prices.1) (number r.weight (omega (arith, ints, least)) (omega (arith, ints, negative)))))))

-- ---- rows in turn

each_line : {W X : Type 0} (print : W → X → List (List ℕ)) (P : W → Type 0) (Q : X → Type 0) → ((w : W) (x : X) → P w → Q x → IsLine (print w x)) → (wanted : List W) (xs : List X) → All P wanted → All Q xs
    → All IsLine (map (λ p. print p.0 p.1) (zip wanted xs))
each_line print P Q h [] xs ps qs = All-nil IsLine
each_line print P Q h (w ∷ wanted) [] ps qs = All-nil IsLine
each_line print P Q h (w ∷ wanted) (x ∷ xs) ps qs =
    All-cons IsLine (print w x) (map (λ p. print p.0 p.1) (zip wanted xs)) (h w x (All-head P w wanted ps) (All-head Q x xs qs)) (each_line print P Q h wanted xs (All-tail P w wanted ps) (All-tail Q x xs qs))

answer_lines : (a : AuctionText) (answer : Answer) → IsAuction a → HasAnswerShape a answer → All IsLine (answer_rows a answer)
unfolding answer_rows share_rows tight_rows
answer_lines a answer is shape =
    let n = length a.goods in
    let shares = each_line (λ (bidder : List ℕ × Book). share_row bidder.0) (λ bidder. is_name bidder.0 ≡ true) (IsShare n) (λ bidder share form is. share_line n bidder.0 share form is) a.bidders answer.shares (bidders_named a is) shape.shares in
    let tights = each_line tight_row AreNamed (AreSets n) (λ names tight named are. tight_line n names tight is.few_goods named are) (bidders_goods a.goods a.bidders) answer.tights (pairs_named a.goods a.bidders (goods_named a is) (bidders_named a is)) shape.tights in
    let price_row : List (List ℕ) = amounts_row (codes "price") answer.prices.items in
    let return_row : List (List ℕ) = amounts_row (codes "return") answer.returns.items in
    let share_lines : List (List (List ℕ)) = share_rows a.bidders answer.shares in
    let tight_lines : List (List (List ℕ)) = tight_rows (bidders_goods a.goods a.bidders) answer.tights in
    All-cons IsLine cleared_row (price_row ∷ (share_lines ++ return_row ∷ tight_lines)) refl
    (All-cons IsLine price_row (share_lines ++ return_row ∷ tight_lines) (amounts_line (codes "price") answer.prices.items refl shape.prices.1)
    (All-append IsLine share_lines (return_row ∷ tight_lines) shares
    (All-cons IsLine return_row tight_lines (amounts_line (codes "return") answer.returns.items refl shape.returns.1) tights)))

inner_lines : (a : AuctionText) (outcome : Outcome) → IsAuction a → HasShape a outcome → All IsLine (inner_rows a outcome)
inner_lines a (Refused r) is shape = All-cons IsLine (refusal_row a r) [] (refusal_line a r is shape) (All-nil IsLine)
inner_lines a (Cleared answer) is shape = answer_lines a answer is shape

head_line : (format : ℕ) → IsLine (head_row format)
head_line format = let few = version_small format in line (codes "outcome") (signed_decimal (pos (version_of format)) ∷ []) refl (one (signed_decimal (pos (version_of format))) (number (pos (version_of format)) (omega (arith, ints)) (omega (arith, ints, few))))

order_lines : (a : AuctionText) → IsAuction a → All IsLine (order_rows a)
order_lines a is = elim (cases_Bool (has_order a.format)) [
  | inl t ↦ (
      let names = names_at a.bidders a.order in
      rw t (All-cons IsLine (order_row names) [] (line (codes "order") names refl (All-weaker (λ name. is_name name ≡ true) IsField (λ name form. name_printable name form) names (order_named a is))) (All-nil IsLine)))
  | inr f ↦ rw f (All-nil IsLine)
]

-- each row of an outcome may be printed
pub outcome_lines : (a : AuctionText) (outcome : Outcome) → IsAuction a → HasShape a outcome → list_all is_printable_row (outcome_rows a outcome) ≡ true
outcome_lines a outcome is shape = all_pass is_printable_row (outcome_rows a outcome)
    (All-cons IsLine (head_row a.format) (order_rows a ++ (inner_rows a outcome ++ end_row ∷ [])) (head_line a.format)
    (All-append IsLine (order_rows a) (inner_rows a outcome ++ end_row ∷ []) (order_lines a is)
    (All-append IsLine (inner_rows a outcome) (end_row ∷ []) (inner_lines a outcome is shape) (All-cons IsLine end_row [] refl (All-nil IsLine)))))

-- ---- texts

-- numbered rows keep their fields
pub lines_numbered : (k : ℕ) (lines : List (List (List ℕ))) → lines_of (numbered k lines) ≡ lines
lines_numbered k [] = refl
lines_numbered k (fields ∷ lines) = ap (λ (rest : List (List (List ℕ))). fields ∷ rest) (lines_numbered (k + 1) lines)

-- the text of an outcome has its rows
pub text_lines : (a : AuctionText) (outcome : Outcome) → IsAuction a → HasShape a outcome → lines_of (rows_of (outcome_text a outcome)) ≡ outcome_rows a outcome
text_lines a outcome is shape = ap lines_of (rows_of-printed (outcome_rows a outcome) (outcome_lines a outcome is shape)) ∙ lines_numbered 1 (outcome_rows a outcome)

-- what is printed is read again
pub text_read : (a : AuctionText) → IsAuction a → (outcome : Outcome) → HasShape a outcome → (next : ℕ) → outcome_in a next (rows_of (outcome_text a outcome)) ≡ Ok outcome
text_read a is outcome shape next = outcome_tells a is next (rows_of (outcome_text a outcome)) outcome shape (text_lines a outcome is shape)

-- two outcomes that are printed alike are the same
pub same_texts : (a : AuctionText) → IsAuction a → (outcome other : Outcome) → HasShape a outcome → HasShape a other → outcome_text a outcome ≡ outcome_text a other → outcome ≡ other
same_texts a is outcome other shape others same =
    let one_read = text_read a is outcome shape 0 in
    let other_read = ap (λ (text : List ℕ). outcome_in a 0 (rows_of text)) same ∙ text_read a is other others 0 in
    let equal = sym one_read ∙ other_read in
    cc equal
