-- The rows of an outcome are read exactly where they are printed.
use Rattle.std.proofs.Common.{◌≡◌, ◌∙◌, sym, ap, ap₂, refl, subst, ◌<◌, ◌*◌, ℕ, suc, true, false, inl, inr, List, [], ◌∷◌, ◌++◌, length, map, get_or, append_assoc, arith, Result, Ok, Err, All}
use Rattle.std.specs.Prelude.{codes}
use Rattle.std.specs.List.{zip}
use Rattle.std.proofs.lemmas.Bool.{cases_Bool}
use Rattle.std.proofs.lemmas.List.{get_or-map, length-append, length-map}
use Rattle.std.proofs.lemmas.List.Elements.{All-append, All-cons, All-get_or, All-head, All-map, All-nil, All-tail, All-weaker}
use Rattle.mix_bids.specs.Bids.{Book}
use Rattle.mix_num.specs.Sellers.{AreAmounts}
use Rattle.mix_text.specs.Auctions.{AuctionText, IsAuction}
use Rattle.mix_num.specs.Orders.{place_at}
use Rattle.mix_text.specs.Bidders.{Named, name_at, names_at}
use Rattle.mix_text.specs.Formats.{has_order}
use Rattle.mix_text.specs.Reading.{◌>>=◌, begins, end_of}
use Rattle.mix_text.specs.Rows.{RowText}
use Rattle.mix_text.specs.SharedRows.{amounts_row, end_row, order_row, order_rows}
use Rattle.mix_text.specs.Spelling.{is_name}
use Rattle.mix_text.specs.declared.faults.Code.{Code}
use Rattle.mix_text.proofs.Sound.{then_ok}
use Rattle.mix_answer.specs.Outcomes.{BidderGood, answer_rows, bidders_goods, cleared_row, head_row, inner_rows, outcome_rows, refusal_row, share_row, share_rows, tight_row, tight_rows, with_each}
use Rattle.mix_answer.specs.Readings.{amounts_of, answer_in, cleared_of, first_row, first_rows, head_of, in_row, inner_in, lines_of, none_left, order_in, order_of, outcome_in, refusal_row_of, share_of, tight_of}
use Rattle.mix_answer.specs.Shapes.{AreSets, HasAnswerShape, HasShape, IsShare}
use Rattle.mix_answer.specs.declared.faults.OutcomeError.{OutcomeError}
use Rattle.mix_answer.specs.declared.outcome.Answer.{Answer}
use Rattle.mix_answer.specs.declared.outcome.Outcome.{Outcome}
use Rattle.mix_answer.specs.declared.outcome.Outcome.TheVariants.{Cleared, Refused}
use Rattle.mix_answer.proofs.FirstRows.{shares_read}
use Rattle.mix_answer.proofs.SpelledFields.{IsExact, then_tells}
use Rattle.mix_answer.proofs.SpelledRows.{amounts_exact, cleared_told, head_exact, last_exact, order_exact, refusal_exact, share_exact, tight_exact}

-- ---- one row

in_row_told : {X : Type 0} (number : ℕ) (r : Result X Code) (x : X) → in_row number r ≡ Ok x → r ≡ Ok x
in_row_told number (Ok y) x e = let same : y ≡ x = cc e in ap (λ z. Ok z) same
in_row_told number (Err c) x e = cc e

-- something read, and the rows after it
abbrev read_to : {X : Type 0} → X → List RowText → Result (X × List RowText) OutcomeError
read_to x left = Ok (x, left)

same_pair : {X : Type 0} (x y : X) (left others : List RowText) → read_to x left ≡ read_to y others → (x ≡ y) × (left ≡ others)
same_pair {X = X} x y left others e =
    let same : (x, left) ≡ (y, others) = cc e in
    (ap (λ (p : X × List RowText). p.0) same, ap (λ (p : X × List RowText). p.1) same)

-- what the first row says is what it is printed of
first_told : {X : Type 0} (read : List (List ℕ) → Result X Code) (print : X → List (List ℕ)) (IsKind : X → Type 0) → IsExact read print IsKind → (next : ℕ) (rows left : List RowText) (x : X)
    → first_row next read rows ≡ Ok (x, left) → (lines_of rows ≡ print x ∷ lines_of left) × IsKind x
first_told read print IsKind exact next [] left x e = cc e
first_told read print IsKind exact next (row ∷ rest) left x e =
    let a = then_ok (in_row row.number (read row.fields)) (λ y. Ok (y, rest)) (x, left) e in
    let same = same_pair a.0 x rest left a.2 in
    let h = exact.told row.fields a.0 (in_row_told row.number (read row.fields) a.0 a.1) in
    (ap₂ (λ (line : List (List ℕ)) (lines : List (List (List ℕ))). line ∷ lines) (h.0 ∙ ap print same.0) (ap lines_of same.1), subst IsKind same.0 h.1)

-- what is read of rows, and the fields of the rows after them
record Reads {X : Type 0} (told : Result (X × List RowText) OutcomeError) (x : X) (lines : List (List (List ℕ))) : Type 0 where
  left : List RowText
  read : told ≡ Ok (x, left)
  after : lines_of left ≡ lines

first_tells : {X : Type 0} (read : List (List ℕ) → Result X Code) (print : X → List (List ℕ)) (IsKind : X → Type 0) → IsExact read print IsKind → (next : ℕ) (rows : List RowText) (lines : List (List (List ℕ))) (x : X)
    → IsKind x → lines_of rows ≡ print x ∷ lines → Reads (first_row next read rows) x lines
first_tells read print IsKind exact next [] lines x is e = cc e
first_tells read print IsKind exact next (row ∷ rest) lines x is e =
    let same : row.fields ≡ print x = cc e in
    let others : lines_of rest ≡ lines = cc e in
    record {
      left = rest;
      read = rw (ap read same ∙ exact.tells x is) refl;
      after = others;
    }

-- ---- rows in turn

-- each of these is read exactly
abbrev AreExact : {W X : Type 0} → (W → List (List ℕ) → Result X Code) → (W → X → List (List ℕ)) → (X → Type 0) → List W → Type 0
AreExact read print IsKind wanted = All (λ w. IsExact (read w) (print w) IsKind) wanted

-- the lines of these, each with what it says
abbrev lines_for : {W X : Type 0} → (W → X → List (List ℕ)) → List W → List X → List (List (List ℕ))
lines_for print wanted xs = map (λ p. print p.0 p.1) (zip wanted xs)

rows_told : {W X : Type 0} (read : W → List (List ℕ) → Result X Code) (print : W → X → List (List ℕ)) (IsKind : X → Type 0) (next : ℕ) (wanted : List W) → AreExact read print IsKind wanted
    → (rows left : List RowText) (xs : List X) → first_rows next read wanted rows ≡ Ok (xs, left)
    → (lines_of rows ≡ lines_for print wanted xs ++ lines_of left) × (length xs ≡ length wanted) × All IsKind xs
unfolding first_rows
rows_told {X = X} read print IsKind next [] exact rows left xs e =
    let same = same_pair [] xs rows left e in
    (ap lines_of same.1, ap length (sym same.0), subst (λ (z : List X). All IsKind z) same.0 (All-nil IsKind))
rows_told {X = X} read print IsKind next (w ∷ wanted) exact rows left xs e =
    let a = then_ok (first_row next (read w) rows) (λ here. first_rows next read wanted here.1 >>= λ later. Ok (here.0 ∷ later.0, later.1)) (xs, left) e in
    let b = then_ok (first_rows next read wanted a.0.1) (λ later. Ok (a.0.0 ∷ later.0, later.1)) (xs, left) a.2 in
    let same = same_pair (a.0.0 ∷ b.0.0) xs b.0.1 left b.2 in
    let here = first_told (read w) (print w) IsKind (All-head (λ v. IsExact (read v) (print v) IsKind) w wanted exact) next rows a.0.1 a.0.0 a.1 in
    let later = rows_told read print IsKind next wanted (All-tail (λ v. IsExact (read v) (print v) IsKind) w wanted exact) a.0.1 b.0.1 b.0.0 b.1 in
    let lines : lines_of rows ≡ lines_for print (w ∷ wanted) (a.0.0 ∷ b.0.0) ++ lines_of left =
    here.0 ∙ ap (λ (rest : List (List (List ℕ))). print w a.0.0 ∷ rest) (later.0 ∙ ap (λ (z : List RowText). lines_for print wanted b.0.0 ++ lines_of z) same.1) in
    subst (λ (z : List X). (lines_of rows ≡ lines_for print (w ∷ wanted) z ++ lines_of left) × (length z ≡ suc (length wanted)) × All IsKind z) same.0
    (lines, ap suc later.1, All-cons IsKind a.0.0 b.0.0 here.1 later.2)

rows_tell : {W X : Type 0} (read : W → List (List ℕ) → Result X Code) (print : W → X → List (List ℕ)) (IsKind : X → Type 0) (next : ℕ) (wanted : List W) → AreExact read print IsKind wanted
    → (rows : List RowText) (lines : List (List (List ℕ))) (xs : List X) → length xs ≡ length wanted → All IsKind xs → lines_of rows ≡ lines_for print wanted xs ++ lines
    → Reads (first_rows next read wanted rows) xs lines
unfolding first_rows
rows_tell read print IsKind next [] exact rows lines [] size are e = record { left = rows; read = refl; after = e }
rows_tell read print IsKind next [] exact rows lines (x ∷ xs) size are e = absurd (omega (arith, size))
rows_tell read print IsKind next (w ∷ wanted) exact rows lines [] size are e = absurd (omega (arith, size))
rows_tell read print IsKind next (w ∷ wanted) exact rows lines (x ∷ xs) size are e =
    let count : length xs ≡ length wanted = omega (arith, size) in
    let here = first_tells (read w) (print w) IsKind (All-head (λ v. IsExact (read v) (print v) IsKind) w wanted exact) next rows (lines_for print wanted xs ++ lines) x (All-head IsKind x xs are) e in
    let later = rows_tell read print IsKind next wanted (All-tail (λ v. IsExact (read v) (print v) IsKind) w wanted exact) here.left lines xs count (All-tail IsKind x xs are) here.after in
    record {
      left = later.left;
      read = then_tells (first_row next (read w) rows) _ (x, here.left) (x ∷ xs, later.left) here.read
          (then_tells (first_rows next read wanted here.left) _ (xs, later.left) (x ∷ xs, later.left) later.read refl);
      after = later.after;
    }

-- ---- names of bidders and of goods

each_name : (names : List (List ℕ)) → ((k : ℕ) → k < length names → is_name (get_or names k []) ≡ true) → All (λ name. is_name name ≡ true) names
each_name [] h = All-nil (λ name. is_name name ≡ true)
each_name (name ∷ names) h = All-cons (λ name. is_name name ≡ true) name names (h 0 (omega arith)) (each_name names (λ k b. h (suc k) (omega arith)))

bidders_all : (P : List ℕ → Type 0) (bidders : Named) → All P (map (λ bidder. bidder.0) bidders) → All (λ (bidder : List ℕ × Book). P bidder.0) bidders
bidders_all P [] h = All-nil (λ (bidder : List ℕ × Book). P bidder.0)
bidders_all P (bidder ∷ bidders) h =
    All-cons (λ (b : List ℕ × Book). P b.0) bidder bidders (All-head P bidder.0 (map (λ b. b.0) bidders) h) (bidders_all P bidders (All-tail P bidder.0 (map (λ b. b.0) bidders) h))

pub goods_named : (a : AuctionText) → IsAuction a → All (λ name. is_name name ≡ true) a.goods
goods_named a is = each_name a.goods (λ k h. is.goods.form k [] h)

pub bidders_named : (a : AuctionText) → IsAuction a → All (λ (bidder : List ℕ × Book). is_name bidder.0 ≡ true) a.bidders
bidders_named a is = bidders_all (λ name. is_name name ≡ true) a.bidders (each_name (map (λ bidder. bidder.0) a.bidders) (λ k h. is.names.form k [] h))

-- both names of a pair
abbrev pub AreNamed : BidderGood → Type 0
AreNamed names = (is_name names.bidder ≡ true) × (is_name names.good ≡ true)

pub pairs_named : (goods : List (List ℕ)) (bidders : Named) → All (λ name. is_name name ≡ true) goods → All (λ (bidder : List ℕ × Book). is_name bidder.0 ≡ true) bidders → All AreNamed (bidders_goods goods bidders)
pairs_named goods [] g b = All-nil AreNamed
pairs_named goods (bidder ∷ bidders) g b =
    let named = All-head (λ (z : List ℕ × Book). is_name z.0 ≡ true) bidder bidders b in
    let own = All-map AreNamed (λ (good : List ℕ). record { bidder = bidder.0; good = good }) goods (All-weaker (λ name. is_name name ≡ true) (λ good. AreNamed (record { bidder = bidder.0; good = good })) (λ good form. (named, form)) goods g) in
    All-append AreNamed (with_each goods bidder.0) (bidders_goods goods bidders) own (pairs_named goods bidders g (All-tail (λ (z : List ℕ × Book). is_name z.0 ≡ true) bidder bidders b))

pairs_count : (goods : List (List ℕ)) (bidders : Named) → length (bidders_goods goods bidders) ≡ length bidders * length goods
pairs_count goods [] = omega arith
pairs_count goods (bidder ∷ bidders) =
    let later = pairs_count goods bidders in
    let own : length (with_each goods bidder.0) ≡ length goods = length-map goods (λ (good : List ℕ). record { bidder = bidder.0; good = good }) in
    omega (arith, later, own, length-append (with_each goods bidder.0) (bidders_goods goods bidders))

shares_exact : (a : AuctionText) → IsAuction a → AreExact (shares_read (length a.goods)) (λ bidder. share_row bidder.0) (IsShare (length a.goods)) a.bidders
shares_exact a is =
    All-weaker (λ (bidder : List ℕ × Book). is_name bidder.0 ≡ true) (λ bidder. IsExact (share_of (length a.goods) bidder.0) (share_row bidder.0) (IsShare (length a.goods)))
    (λ bidder form. share_exact (length a.goods) bidder.0 form) a.bidders (bidders_named a is)

tights_exact : (a : AuctionText) → IsAuction a → AreExact (tight_of (length a.goods)) tight_row (AreSets (length a.goods)) (bidders_goods a.goods a.bidders)
tights_exact a is =
    All-weaker AreNamed (λ names. IsExact (tight_of (length a.goods) names) (tight_row names) (AreSets (length a.goods)))
    (λ names named. tight_exact (length a.goods) names is.few_goods named.0 named.1) (bidders_goods a.goods a.bidders) (pairs_named a.goods a.bidders (goods_named a is) (bidders_named a is))

-- ---- answers

-- the rows of an answer after its first one
abbrev later_rows : AuctionText → Answer → List (List (List ℕ)) → List (List (List ℕ))
later_rows a answer lines =
    amounts_row (codes "price") answer.prices.items
    ∷ (lines_for (λ (bidder : List ℕ × Book). share_row bidder.0) a.bidders answer.shares
    ++ amounts_row (codes "return") answer.returns.items ∷ (lines_for tight_row (bidders_goods a.goods a.bidders) answer.tights ++ lines))

later_rows-is : (a : AuctionText) (answer : Answer) (lines : List (List (List ℕ))) → answer_rows a answer ++ lines ≡ cleared_row ∷ later_rows a answer lines
unfolding answer_rows share_rows tight_rows
later_rows-is a answer lines =
    ap (λ (rest : List (List (List ℕ))). cleared_row ∷ amounts_row (codes "price") answer.prices.items ∷ rest)
    (append_assoc (share_rows a.bidders answer.shares) (amounts_row (codes "return") answer.returns.items ∷ tight_rows (bidders_goods a.goods a.bidders) answer.tights) lines)

answer_told : (a : AuctionText) → IsAuction a → (next : ℕ) (rows left : List RowText) (answer : Answer) → answer_in a next rows ≡ Ok (answer, left)
    → (lines_of rows ≡ later_rows a answer (lines_of left)) × HasAnswerShape a answer
unfolding answer_in
answer_told a is next rows left answer e =
    let n = length a.goods in
    let prices_read = amounts_exact (codes "price") n in
    let returns_read = amounts_exact (codes "return") n in
    let p = then_ok (first_row next (amounts_of (codes "price") n) rows) _ (answer, left) e in
    let s = then_ok (first_rows next (shares_read n) a.bidders p.0.1) _ (answer, left) p.2 in
    let r = then_ok (first_row next (amounts_of (codes "return") n) s.0.1) _ (answer, left) s.2 in
    let t = then_ok (first_rows next (tight_of n) (bidders_goods a.goods a.bidders) r.0.1) _ (answer, left) r.2 in
    let made : Answer = record { prices = record { items = p.0.0 }; shares = s.0.0; returns = record { items = r.0.0 }; tights = t.0.0 } in
    let same = same_pair made answer t.0.1 left t.2 in
    let prices = first_told (amounts_of (codes "price") n) (amounts_row (codes "price")) (AreAmounts n) prices_read next rows p.0.1 p.0.0 p.1 in
    let shares = rows_told (shares_read n) (λ bidder. share_row bidder.0) (IsShare n) next a.bidders (shares_exact a is) p.0.1 s.0.1 s.0.0 s.1 in
    let returns = first_told (amounts_of (codes "return") n) (amounts_row (codes "return")) (AreAmounts n) returns_read next s.0.1 r.0.1 r.0.0 r.1 in
    let tights = rows_told (tight_of n) tight_row (AreSets n) next (bidders_goods a.goods a.bidders) (tights_exact a is) r.0.1 t.0.1 t.0.0 t.1 in
    let lines : lines_of rows ≡ later_rows a made (lines_of left) =
    prices.0 ∙ ap (λ (rest : List (List (List ℕ))). amounts_row (codes "price") p.0.0 ∷ rest)
    (shares.0 ∙ ap (λ (rest : List (List (List ℕ))). lines_for (λ (bidder : List ℕ × Book). share_row bidder.0) a.bidders s.0.0 ++ rest)
    (returns.0 ∙ ap (λ (rest : List (List (List ℕ))). amounts_row (codes "return") r.0.0 ∷ rest)
    (tights.0 ∙ ap (λ (z : List RowText). lines_for tight_row (bidders_goods a.goods a.bidders) t.0.0 ++ lines_of z) same.1))) in
    subst (λ (z : Answer). (lines_of rows ≡ later_rows a z (lines_of left)) × HasAnswerShape a z) same.0 (
      lines,
      record {
        prices = prices.1;
        count = shares.1;
        shares = shares.2;
        returns = returns.1;
        pairs = tights.1 ∙ pairs_count a.goods a.bidders;
        tights = tights.2;
      },
    )

answer_tells : (a : AuctionText) → IsAuction a → (next : ℕ) (rows : List RowText) (answer : Answer) (lines : List (List (List ℕ))) → HasAnswerShape a answer → lines_of rows ≡ later_rows a answer lines
    → Reads (answer_in a next rows) answer lines
unfolding answer_in
answer_tells a is next rows answer lines shape e =
    let n = length a.goods in
    let prices = first_tells (amounts_of (codes "price") n) (amounts_row (codes "price")) (AreAmounts n) (amounts_exact (codes "price") n) next rows _ answer.prices.items shape.prices e in
    let shares = rows_tell (shares_read n) (λ bidder. share_row bidder.0) (IsShare n) next a.bidders (shares_exact a is) prices.left _ answer.shares shape.count shape.shares prices.after in
    let returns = first_tells (amounts_of (codes "return") n) (amounts_row (codes "return")) (AreAmounts n) (amounts_exact (codes "return") n) next shares.left _ answer.returns.items shape.returns shares.after in
    let tights = rows_tell (tight_of n) tight_row (AreSets n) next (bidders_goods a.goods a.bidders) (tights_exact a is) returns.left lines answer.tights (shape.pairs ∙ sym (pairs_count a.goods a.bidders)) shape.tights returns.after in
    record {
      left = tights.left;
      read = then_tells (first_row next (amounts_of (codes "price") n) rows) _ (answer.prices.items, prices.left) (answer, tights.left) prices.read
          (then_tells (first_rows next (shares_read n) a.bidders prices.left) _ (answer.shares, shares.left) (answer, tights.left) shares.read
          (then_tells (first_row next (amounts_of (codes "return") n) shares.left) _ (answer.returns.items, returns.left) (answer, tights.left) returns.read
          (then_tells (first_rows next (tight_of n) (bidders_goods a.goods a.bidders) returns.left) _ (answer.tights, tights.left) (answer, tights.left) tights.read refl)));
      after = tights.after;
    }

-- ---- a refusal or an answer

inner_told : (a : AuctionText) → IsAuction a → (next : ℕ) (rows left : List RowText) (outcome : Outcome) → inner_in a next rows ≡ Ok (outcome, left)
    → (lines_of rows ≡ inner_rows a outcome ++ lines_of left) × HasShape a outcome
unfolding inner_in
inner_told a is next [] left outcome e = cc e
inner_told a is next (row ∷ rest) left outcome e = elim (cases_Bool (begins row.fields (codes "cleared"))) [
  | inl t ↦ (
      let q = rw t at e in
      let c = then_ok (in_row row.number (cleared_of row.fields)) (λ _. answer_in a next rest >>= λ answer. Ok (Cleared answer.0, answer.1)) (outcome, left) q in
      let r = then_ok (answer_in a next rest) (λ answer. Ok (Cleared answer.0, answer.1)) (outcome, left) c.2 in
      let same = same_pair (Cleared r.0.0) outcome r.0.1 left r.2 in
      let first = cleared_told row.fields c.0 t (in_row_told row.number (cleared_of row.fields) c.0 c.1) in
      let answer = answer_told a is next rest r.0.1 r.0.0 r.1 in
      let lines : lines_of (row ∷ rest) ≡ inner_rows a (Cleared r.0.0) ++ lines_of left =
      ap₂ (λ (line : List (List ℕ)) (lines : List (List (List ℕ))). line ∷ lines) first (answer.0 ∙ ap (λ (z : List RowText). later_rows a r.0.0 (lines_of z)) same.1) ∙ sym (later_rows-is a r.0.0 (lines_of left)) in
      subst (λ (z : Outcome). (lines_of (row ∷ rest) ≡ inner_rows a z ++ lines_of left) × HasShape a z) same.0 (lines, answer.1))
  | inr f ↦ (
      let q = rw f at e in
      let r = then_ok (in_row row.number (refusal_row_of a row.fields)) (λ refusal. Ok (Refused refusal, rest)) (outcome, left) q in
      let same = same_pair (Refused r.0) outcome rest left r.2 in
      let h = (refusal_exact a is.goods is.names).told row.fields r.0 (in_row_told row.number (refusal_row_of a row.fields) r.0 r.1) in
      let lines : lines_of (row ∷ rest) ≡ inner_rows a (Refused r.0) ++ lines_of left = ap₂ (λ (line : List (List ℕ)) (lines : List (List (List ℕ))). line ∷ lines) h.0 (ap lines_of same.1) in
      subst (λ (z : Outcome). (lines_of (row ∷ rest) ≡ inner_rows a z ++ lines_of left) × HasShape a z) same.0 (lines, h.1))
]

inner_tells : (a : AuctionText) → IsAuction a → (next : ℕ) (rows : List RowText) (outcome : Outcome) (lines : List (List (List ℕ))) → HasShape a outcome → lines_of rows ≡ inner_rows a outcome ++ lines
    → Reads (inner_in a next rows) outcome lines
unfolding inner_in
inner_tells a is next [] (Refused r) lines shape e = cc e
inner_tells a is next [] (Cleared answer) lines shape e = let q = e ∙ later_rows-is a answer lines in cc q
inner_tells a is next (row ∷ rest) (Refused r) lines shape e =
    let same : row.fields ≡ refusal_row a r = cc e in
    let others : lines_of rest ≡ lines = cc e in
    let word : begins row.fields (codes "cleared") ≡ false = ap (λ (fields : List (List ℕ)). begins fields (codes "cleared")) same in
    let read : refusal_row_of a row.fields ≡ Ok r = ap (refusal_row_of a) same ∙ (refusal_exact a is.goods is.names).tells r shape in
    record { left = rest; read = rw (word, read) refl; after = others }
inner_tells a is next (row ∷ rest) (Cleared answer) lines shape e =
    let all : lines_of (row ∷ rest) ≡ cleared_row ∷ later_rows a answer lines = e ∙ later_rows-is a answer lines in
    let same : row.fields ≡ cleared_row = cc all in
    let others : lines_of rest ≡ later_rows a answer lines = cc all in
    let word : begins row.fields (codes "cleared") ≡ true = ap (λ (fields : List (List ℕ)). begins fields (codes "cleared")) same in
    let read : cleared_of row.fields ≡ Ok tt = ap cleared_of same in
    let answer_read = answer_tells a is next rest answer lines shape others in
    let told = answer_read.read in
    record { left = answer_read.left; read = rw (word, read, told) refl; after = answer_read.after }

-- ---- the tie order

pub order_named : (a : AuctionText) → IsAuction a → All (λ name. is_name name ≡ true) (names_at a.bidders a.order)
order_named a is = each_name (names_at a.bidders a.order) (λ k h.
    let order = is.order in
    let size = order.size in
    let below : k < length a.order = omega (arith, h, length-map a.order (name_at a.bidders)) in
    ap is_name (get_or-map (name_at a.bidders) a.order k 0 [] below)
    ∙ All-get_or (λ (bidder : List ℕ × Book). is_name bidder.0 ≡ true) a.bidders (place_at a.order k) ([], record { goods = 0; bids = [] }) (order.within k (omega (arith, below, size))) (bidders_named a is))

order_told : (a : AuctionText) → IsAuction a → (next : ℕ) (rows left : List RowText) → order_in a next rows ≡ Ok left → lines_of rows ≡ order_rows a ++ lines_of left
unfolding order_in
order_told a is next rows left e = elim (cases_Bool (has_order a.format)) [
  | inl t ↦ (
      let names = names_at a.bidders a.order in
      let q = rw t at e in
      let o = then_ok (first_row next (order_of names) rows) (λ order. Ok order.1) left q in
      let same : o.0.1 ≡ left = let z = o.2 in cc z in
      let row = first_told (order_of names) (λ (u : Unit {0}). order_row names) (λ (u : Unit {0}). Unit {0}) (order_exact names (order_named a is)) next rows o.0.1 o.0.0 o.1 in
      rw t (row.0 ∙ ap (λ (z : List RowText). order_row names ∷ lines_of z) same))
  | inr f ↦ (
      let q = rw f at e in
      let same : rows ≡ left = cc q in
      rw f (ap lines_of same))
]

-- the rows after that of the order
record Leaves (told : Result (List RowText) OutcomeError) (lines : List (List (List ℕ))) : Type 0 where
  left : List RowText
  read : told ≡ Ok left
  after : lines_of left ≡ lines

order_tells : (a : AuctionText) → IsAuction a → (next : ℕ) (rows : List RowText) (lines : List (List (List ℕ))) → lines_of rows ≡ order_rows a ++ lines → Leaves (order_in a next rows) lines
unfolding order_in
order_tells a is next rows lines e = elim (cases_Bool (has_order a.format)) [
  | inl t ↦ (
      let names = names_at a.bidders a.order in
      let q = rw t at e in
      let row = first_tells (order_of names) (λ (u : Unit {0}). order_row names) (λ (u : Unit {0}). Unit {0}) (order_exact names (order_named a is)) next rows lines tt tt q in
      let told = row.read in
      record { left = row.left; read = rw (t, told) refl; after = row.after })
  | inr f ↦ (let q = rw f at e in record { left = rows; read = rw f refl; after = q })
]

-- ---- outcomes

none_told : (rows : List RowText) (u : Unit {0}) → none_left rows ≡ Ok u → rows ≡ []
none_told [] u e = refl
none_told (row ∷ rest) u e = cc e

-- what is read is printed as these rows, and has the auction's shape
pub outcome_told : (a : AuctionText) → IsAuction a → (next : ℕ) (rows : List RowText) (outcome : Outcome) → outcome_in a next rows ≡ Ok outcome → (lines_of rows ≡ outcome_rows a outcome) × HasShape a outcome
unfolding outcome_in
outcome_told a is next rows outcome e =
    let h = then_ok (first_row next (head_of a.format) rows) _ outcome e in
    let o = then_ok (order_in a next h.0.1) _ outcome h.2 in
    let i = then_ok (inner_in a next o.0) _ outcome o.2 in
    let l = then_ok (first_row next end_of i.0.1) _ outcome i.2 in
    let n = then_ok (none_left l.0.1) _ outcome l.2 in
    let same : i.0.0 ≡ outcome = let q = n.2 in cc q in
    let head = first_told (head_of a.format) (λ (u : Unit {0}). head_row a.format) (λ (u : Unit {0}). Unit {0}) (head_exact a.format) next rows h.0.1 h.0.0 h.1 in
    let order = order_told a is next h.0.1 o.0 o.1 in
    let inner = inner_told a is next o.0 i.0.1 i.0.0 i.1 in
    let last = first_told end_of (λ (u : Unit {0}). end_row) (λ (u : Unit {0}). Unit {0}) last_exact next i.0.1 l.0.1 l.0.0 l.1 in
    let lines : lines_of rows ≡ outcome_rows a i.0.0 =
    head.0 ∙ ap (λ (rest : List (List (List ℕ))). head_row a.format ∷ rest)
    (order ∙ ap (λ (rest : List (List (List ℕ))). order_rows a ++ rest)
    (inner.0 ∙ ap (λ (rest : List (List (List ℕ))). inner_rows a i.0.0 ++ rest) (last.0 ∙ ap (λ (z : List RowText). end_row ∷ lines_of z) (none_told l.0.1 n.0 n.1)))) in
    subst (λ (z : Outcome). (lines_of rows ≡ outcome_rows a z) × HasShape a z) same (lines, inner.1)

no_lines : (rows : List RowText) → lines_of rows ≡ [] → none_left rows ≡ Ok tt
no_lines [] e = refl
no_lines (row ∷ rest) e = cc e

-- the rows of an outcome of the auction's shape are read as it
pub outcome_tells : (a : AuctionText) → IsAuction a → (next : ℕ) (rows : List RowText) (outcome : Outcome) → HasShape a outcome → lines_of rows ≡ outcome_rows a outcome → outcome_in a next rows ≡ Ok outcome
unfolding outcome_in
outcome_tells a is next rows outcome shape e =
    let head = first_tells (head_of a.format) (λ (u : Unit {0}). head_row a.format) (λ (u : Unit {0}). Unit {0}) (head_exact a.format) next rows (order_rows a ++ (inner_rows a outcome ++ end_row ∷ [])) tt tt e in
    let order = order_tells a is next head.left (inner_rows a outcome ++ end_row ∷ []) head.after in
    let inner = inner_tells a is next order.left outcome (end_row ∷ []) shape order.after in
    let last = first_tells end_of (λ (u : Unit {0}). end_row) (λ (u : Unit {0}). Unit {0}) last_exact next inner.left [] tt tt inner.after in
    then_tells (first_row next (head_of a.format) rows) _ (tt, head.left) outcome head.read
    (then_tells (order_in a next head.left) _ order.left outcome order.read
    (then_tells (inner_in a next order.left) _ (outcome, inner.left) outcome inner.read
    (then_tells (first_row next end_of inner.left) _ (tt, last.left) outcome last.read
    (then_tells (none_left last.left) _ tt outcome (no_lines last.left last.after) refl))))
