-- An auction that is read keeps what every auction keeps, and the limits of its format.
use Rattle.std.proofs.Common.{◌≡◌, ◌<◌, ◌≤◌, ◌+◌, ◌||◌, ◌&&◌, ◌==◌, ℕ, suc, ℤ, pos, List, [], ◌∷◌, ◌++◌, length, map, drop, filter, sym, ◌∙◌, ap, arith, refl, subst, Option, Some, None, Ok, Err, Result, Bool, true, false, not, cond, inl, inr, All, true≢false, nat_lt}
use Rattle.std.specs.Prelude.{codes, nat_le, count_by}
use Rattle.std.specs.List.{AllPass}
use Rattle.std.specs.Str.{bytes_eq}
use Rattle.std.proofs.lemmas.Bool.{cases_Bool, false_from_ne_true}
use Rattle.std.proofs.lemmas.Bool.Decides.{nat_tests}
use Rattle.std.proofs.lemmas.List.Sums.{sum_by_push}
use Rattle.std.proofs.lemmas.List.{append-nil, length-append, length-drop, length-map, map-append}
use Rattle.std.proofs.lemmas.List.Elements.{All-cons, All-filter, All-head, All-map, All-nil, All-push, All-tail, All-weaker}
use Rattle.mix_bids.specs.Bids.{AreBids, Book, IsBid}
use Rattle.mix_bids.specs.Cells.{cells}
use Rattle.mix_bids.proofs.CellPushes.{cells_none}
use Rattle.mix_bids.specs.declared.bid.Bid.{Bid}
use Rattle.mix_text.specs.Rows.{RestText, RowText}
use Rattle.mix_text.specs.Spelling.{is_name, spelled_name}
use Rattle.mix_text.specs.Names.{AreNames, different, is_among}
use Rattle.mix_num.specs.Orders.{places}
use Rattle.mix_num.specs.Sellers.{AreAmounts}
use Rattle.mix_text.specs.Auctions.{AuctionText, IsAuction, IsBook}
use Rattle.mix_text.specs.Orders.{IsTieOrder}
use Rattle.mix_text.specs.Bidders.{with_bid}
use Rattle.mix_text.specs.Caps.{AreCaps, no_caps}
use Rattle.mix_text.specs.Formats.{AreLimits, IsFormat, is_past, limits_of}
use Rattle.mix_text.specs.Limits.{BidsMeet, MeetsLimits}
use Rattle.mix_text.specs.Reading.{◌>>=◌, NamedBid, begins, bid_row_of, bidders_of, bids_from, bids_under, caps_from, end_from, ends_bids, field_at, format_of, goods_at, goods_form_of, goods_row_of, header_of, holds, is_negative, limit_of, list_limit_of, list_under, ReadsBids, names_after, names_of, numbers_of, order_from, past_goods, placed, read_at, reading_of, row_at, unless_past}
use Rattle.mix_text.specs.declared.faults.Code.{Code}
use Rattle.mix_text.specs.declared.faults.Code.TheVariants as code
use Rattle.mix_text.specs.declared.faults.TextError.{TextError}
use Rattle.mix_text.specs.declared.faults.What.{What}
use Rattle.mix_text.specs.declared.faults.What.TheVariants as what
use Rattle.mix_text.specs.declared.formats.Limits.{Limits}
use Rattle.mix_text.proofs.FormatLimits.{none_past}
use Rattle.mix_text.proofs.Gathering.{Unlike, bids_under_snoc, bids_under_some, bytes_eq_refl, different_same, different_snoc, different_unlike, among_different, same_bytes, unlike}
use Rattle.mix_text.proofs.Sound.{IsNamedBid, bid_row_ok, holds_ok, numbers_ok, then_ok}
use Rattle.mix_text.proofs.Spellings.{name_read}

pub placed_ok : {X : Type 0} (number : ℕ) (r : Result X Code) (x : X) → placed number r ≡ Ok x → r ≡ Ok x
placed_ok number (Ok y) x e = let same : y ≡ x = cc e in ap (λ z. Ok z) same
placed_ok number (Err c) x e = cc e

within_limit : (number : ℕ) (limit : Option What) (u : Unit {0}) → unless_past number limit ≡ Ok u → limit ≡ None
within_limit number None u e = refl
within_limit number (Some w) u e = cc e

-- ---- names

pub not_alike : (a b : Bool) → (a || b) ≡ false → (a ≡ false) × (b ≡ false)
not_alike false b h = (refl, h)
not_alike true b h = absurd (true≢false h)

pub among_snoc : (y x : List ℕ) (names : List (List ℕ)) → is_among y names ≡ false → bytes_eq y x ≡ false → is_among y (names ++ (x ∷ [])) ≡ false
among_snoc y x [] h e = rw e refl
among_snoc y x (z ∷ zs) h e = let s = not_alike (bytes_eq y z) (is_among y zs) h in rw s.0 (among_snoc y x zs s.1 e)

pub turned : (x y : List ℕ) → bytes_eq x y ≡ false → bytes_eq y x ≡ false
turned x y h = false_from_ne_true (bytes_eq y x) (λ e. true≢false (sym (bytes_eq_refl x) ∙ ap (bytes_eq x) (sym (same_bytes y x e)) ∙ h))

pub unlike_snoc : (names : List (List ℕ)) (x : List ℕ) → Unlike names → is_among x names ≡ false → Unlike (names ++ (x ∷ []))
unlike_snoc [] x u h = (refl, tt)
unlike_snoc (y ∷ ys) x u h = let s = not_alike (bytes_eq x y) (is_among x ys) h in (among_snoc y x ys u.0 (turned x y s.0), unlike_snoc ys x u.1 s.1)

-- names so far: of the right form, no two alike
record Proper (names : List (List ℕ)) : Type 0 where
  form : AllPass is_name names
  apart : Unlike names

names_after_ok : (seen fields names : List (List ℕ)) → Proper seen → names_after seen fields ≡ Ok names → Proper names × (length names ≡ length seen + length fields)
names_after_ok seen [] names p e = let same : seen ≡ names = cc e in subst (λ (z : List (List ℕ)). Proper z × (length z ≡ length seen + 0)) same (p, omega arith)
names_after_ok seen (field ∷ rest) names p e =
    let a = then_ok (spelled_name field) (λ name. holds (not (is_among name seen)) code.Repeated >>= λ _. names_after (seen ++ (name ∷ [])) rest) names e in
    let b = then_ok (holds (not (is_among a.0 seen)) code.Repeated) (λ _. names_after (seen ++ (a.0 ∷ [])) rest) names a.2 in
    let new = not_true_is (is_among a.0 seen) (holds_ok (not (is_among a.0 seen)) code.Repeated b.0 b.1) in
    let r = names_after_ok (seen ++ (a.0 ∷ [])) rest names (record { form = All-push (λ x. is_name x ≡ true) seen a.0 p.form (name_read field a.0 a.1).1; apart = unlike_snoc seen a.0 p.apart new }) b.2 in
    (r.0, omega (arith, r.1, length-append seen (a.0 ∷ [])))
  where
    not_true_is : (t : Bool) → not t ≡ true → t ≡ false
    not_true_is true h = absurd (true≢false (sym h))
    not_true_is false h = refl

are_names : (names : List (List ℕ)) → Proper names → AreNames names
are_names names p = record { form = p.form; unlike = different_same names p.apart }

at_least : (a b : ℕ) → nat_le a b ≡ true → a ≤ b
at_least a b h = grind (arith, nat_tests)

not_past : (most n : ℕ) (w : What) → cond (nat_lt most n) (Some w) None ≡ None → n ≤ most
not_past most n w h = elim (cases_Bool (nat_lt most n)) [
  | inl t ↦ absurd (let q = rw t at h in cc q)
  | inr f ↦ grind (arith, nat_tests)
]

-- the goods that are read: at least one name, within the limit, no two alike
pub record AreGoods (limits : Limits) (goods : List (List ℕ)) : Type 0 where
  pub some : 1 ≤ length goods
  pub few : length goods ≤ limits.goods
  pub names : AreNames goods

pub goods_ok : (limits : Limits) (row : RowText) (names : List (List ℕ)) → goods_at limits row ≡ Ok names → AreGoods limits names
unfolding goods_at goods_row_of
goods_ok limits row names e =
    let a = then_ok (placed row.number (goods_row_of row.fields)) (λ goods. unless_past row.number (past_goods limits goods) >>= λ _. Ok goods) names e in
    let b = then_ok (unless_past row.number (past_goods limits a.0)) (λ _. Ok a.0) names a.2 in
    let same : a.0 ≡ names = let q = b.2 in cc q in
    let g = placed_ok row.number (goods_row_of row.fields) a.0 a.1 in
    let f = then_ok (goods_form_of row.fields) (λ _. names_after [] (drop 1 row.fields)) a.0 g in
    let w = then_ok (holds (begins row.fields (codes "goods")) code.Place) (λ _. holds (nat_le 2 (length row.fields)) code.Fields) f.0 f.1 in
    let two = at_least 2 (length row.fields) (holds_ok (nat_le 2 (length row.fields)) code.Fields f.0 w.2) in
    let r = names_after_ok [] (drop 1 row.fields) a.0 (record { form = All-nil (λ x. is_name x ≡ true); apart = tt }) f.2 in
    let few = not_past limits.goods (length a.0) what.Goods (within_limit row.number (past_goods limits a.0) b.0 b.1) in
    subst (AreGoods limits) same (record { some = omega (arith, r.1, length-drop 1 row.fields); few = few; names = are_names a.0 r.0 })

-- ---- bids

-- the bids so far: over n goods, and within the limits of bidders, and of bids for each name
pub record AreFew (limits : Limits) (n : ℕ) (bids : List NamedBid) : Type 0 where
  pub each : All (IsNamedBid n) bids
  pub names : length (different (names_of bids)) ≤ limits.bidders
  pub under : (m : List ℕ) → BidsMeet limits (list_under n m bids)

pub not_at : (a b : ℕ) → nat_le a b ≡ false → b < a
not_at a b h = grind (arith, nat_tests)

-- a list whose one bid more passes no limit: it has room for a bid, and for a negative one, and stays within the cells
pub record HasRoom (limits : Limits) (list : Book) (bid : Bid) : Type 0 where
  pub bids : length list.bids < limits.bids
  pub negatives : is_negative bid ≡ true → is_past limits.negatives (suc (count_by is_negative list.bids)) ≡ false
  pub cells : is_past limits.cells (cells (with_bid list bid)) ≡ false

-- the tests of the limits, all of which failed
tests_failed : (long negative full many : Bool) (v u w : What) → cond long (Some v) (cond (negative && full) (Some u) (cond many (Some w) None)) ≡ None
    → (long ≡ false) × (negative ≡ true → full ≡ false) × (many ≡ false)
tests_failed true negative full many v u w e = cc e
tests_failed false true true many v u w e = cc e
tests_failed false true false true v u w e = cc e
tests_failed false true false false v u w e = (refl, λ _. refl, refl)
tests_failed false false full true v u w e = cc e
tests_failed false false full false v u w e = (refl, λ t. absurd (true≢false (sym t)), refl)

pub has_room : (limits : Limits) (list : Book) (bid : Bid) → list_limit_of limits list bid ≡ None → HasRoom limits list bid
unfolding list_limit_of
has_room limits list bid h =
    let t = tests_failed (nat_le limits.bids (length list.bids)) (is_negative bid) (is_past limits.negatives (suc (count_by is_negative list.bids)))
    (is_past limits.cells (cells (with_bid list bid))) what.Bids what.Negatives what.Cells h in
    record { bids = not_at limits.bids (length list.bids) t.0; negatives = t.1; cells = t.2 }

test_failed : (there many : Bool) (w : What) (rest : Option What) → cond (not there && many) (Some w) rest ≡ None → (there ≡ false → many ≡ false) × (rest ≡ None)
test_failed false true w rest e = cc e
test_failed false false w rest e = (λ _. refl, e)
test_failed true many w rest e = (λ f. absurd (true≢false f), e)

-- what it means that no limit is passed
no_limit : (limits : Limits) (n : ℕ) (before : List NamedBid) (b : NamedBid) → limit_of limits n before b ≡ None
    → (is_among b.name (names_of before) ≡ false → length (different (names_of before)) < limits.bidders) × HasRoom limits (list_under n b.name before) b.bid
unfolding limit_of
no_limit limits n before b h =
    let t = test_failed (is_among b.name (names_of before)) (nat_le limits.bidders (length (different (names_of before)))) what.Bidders (list_limit_of limits (list_under n b.name before) b.bid) h in
    (λ f. not_at limits.bidders (length (different (names_of before))) (t.0 f), has_room limits (list_under n b.name before) b.bid t.1)

-- a list with room, one more bid at its end
bid_more : (limits : Limits) (list : Book) (bid : Bid) → HasRoom limits list bid → BidsMeet limits list → BidsMeet limits (with_bid list bid)
bid_more limits list bid room m =
    let room_left = room.bids in
    let count = sum_by_push (λ b. cond (is_negative b) 1 0) list.bids bid in
    record {
      bids = rw (length-append list.bids (bid ∷ [])) (omega arith);
      negatives = elim (cases_Bool (is_negative bid)) [
        | inl t ↦ (let below = room.negatives t in rw (count, t) (subst (λ (k : ℕ). is_past limits.negatives k ≡ false) (next (count_by is_negative list.bids)) below))
        | inr f ↦ (let few = m.negatives in rw (count, f) (subst (λ (k : ℕ). is_past limits.negatives k ≡ false) (same (count_by is_negative list.bids)) few))
      ];
      cells = room.cells;
    }
  where
    next : (k : ℕ) → suc k ≡ k + 1
    next k = omega arith

    same : (k : ℕ) → k ≡ k + 0
    same k = omega arith

-- the bids of a name, where one more bid has come
under_more : (limits : Limits) (n : ℕ) (before : List NamedBid) (b : NamedBid) (m : List ℕ) → HasRoom limits (list_under n b.name before) b.bid → BidsMeet limits (list_under n m before)
    → BidsMeet limits (list_under n m (before ++ (b ∷ [])))
under_more limits n before b m room h = rw (bids_under_snoc m before b) (elim (cases_Bool (bytes_eq m b.name)) [
  | inl t ↦ (
      let same = same_bytes m b.name t in
      rw t (bid_more limits (list_under n m before) b.bid (subst (λ (x : List ℕ). HasRoom limits (list_under n x before) b.bid) (sym same) room) h))
  | inr f ↦ rw (f, append-nil (bids_under m before)) h
])

names_more : (limits : Limits) (before : List NamedBid) (b : NamedBid) → (is_among b.name (names_of before) ≡ false → length (different (names_of before)) < limits.bidders) → length (different (names_of before)) ≤ limits.bidders
    → length (different (names_of (before ++ (b ∷ [])))) ≤ limits.bidders
names_more limits before b new h = rw (map-append (λ (a : NamedBid). a.name) before (b ∷ []), different_snoc (names_of before) b.name) (elim (cases_Bool (is_among b.name (names_of before))) [
  | inl t ↦ rw t h
  | inr f ↦ (let l = new f in rw (f, length-append (different (names_of before)) (b.name ∷ [])) (omega arith))
])

few_more : (limits : Limits) (n : ℕ) (before : List NamedBid) (b : NamedBid) → IsNamedBid n b → limit_of limits n before b ≡ None → AreFew limits n before → AreFew limits n (before ++ (b ∷ []))
few_more limits n before b is none a =
    let l = no_limit limits n before b none in
    record {
      each = All-push (IsNamedBid n) before b a.each is;
      names = names_more limits before b l.0 a.names;
      under = λ m. under_more limits n before b m l.1 (a.under m);
    }

bids_ok : (format : ℕ) (limits : Limits) (n : ℕ) (before : List NamedBid) (rows : List RowText) (read : List NamedBid × List RowText) → bids_from format limits n before rows ≡ Ok read → AreFew limits n before
    → AreFew limits n read.0
unfolding bids_from
bids_ok format limits n before [] read e a = let same : (before, []) ≡ read = cc e in subst (λ (z : List NamedBid × List RowText). AreFew limits n z.0) same a
bids_ok format limits n before (row ∷ rest) read e a = elim (cases_Bool (ends_bids format row.fields)) [
  | inl t ↦ (
      let q = rw t at e in
      let same : (before, row ∷ rest) ≡ read = cc q in
      subst (λ (z : List NamedBid × List RowText). AreFew limits n z.0) same a)
  | inr f ↦ (
      let q = rw f at e in
      let b = then_ok (placed row.number (bid_row_of n row.fields)) (λ b. unless_past row.number (limit_of limits n before b) >>= λ _. bids_from format limits n (before ++ (b ∷ [])) rest) read q in
      let l = then_ok (unless_past row.number (limit_of limits n before b.0)) (λ _. bids_from format limits n (before ++ (b.0 ∷ [])) rest) read b.2 in
      let none = within_limit row.number (limit_of limits n before b.0) l.0 l.1 in
      let is = bid_row_ok n row.fields b.0 (placed_ok row.number (bid_row_of n row.fields) b.0 b.1) in
      bids_ok format limits n (before ++ (b.0 ∷ [])) rest read l.2 (few_more limits n before b.0 is none a))
]

-- no bids pass no limit
pub no_bids : (limits : Limits) (n : ℕ) → BidsMeet limits (record { goods = n; bids = [] })
no_bids limits n = record { bids = omega arith; negatives = none_past limits.negatives; cells = rw (cells_none n) (none_past limits.cells) }

none_yet : (limits : Limits) (n : ℕ) → AreFew limits n []
none_yet limits n = record { each = All-nil (IsNamedBid n); names = omega arith; under = λ m. no_bids limits n }

-- ---- the bidders of these bids

passes_different : (names : List (List ℕ)) → AllPass is_name names → AllPass is_name (different names)
passes_different [] h = h
passes_different (y ∷ ys) h =
    All-cons (λ x. is_name x ≡ true) y _ (All-head (λ x. is_name x ≡ true) y ys h) (All-filter (unlike y) (λ x. is_name x ≡ true) (different ys) (passes_different ys (All-tail (λ x. is_name x ≡ true) y ys h)))

-- what holds of each name that is among some holds of each of them
each_among : (P : List ℕ → Type 0) (names all : List (List ℕ)) → ((m : List ℕ) → is_among m names ≡ true → is_among m all ≡ true) → ((m : List ℕ) → is_among m all ≡ true → P m) → All P names
each_among P [] all sub h = All-nil P
each_among P (y ∷ ys) all sub h =
    All-cons P y ys (h y (sub y (rw (bytes_eq_refl y) refl))) (each_among P ys all (λ m a. sub m (or_true (bytes_eq m y) (is_among m ys) a)) h)
  where
    or_true : (a b : Bool) → b ≡ true → (a || b) ≡ true
    or_true true b e = refl
    or_true false b e = e

names_same : (n : ℕ) (bids : List NamedBid) → map (λ (bidder : List ℕ × Book). bidder.0) (bidders_of n bids) ≡ different (names_of bids)
names_same n bids = go (different (names_of bids))
  where
    go : (names : List (List ℕ)) → map (λ (bidder : List ℕ × Book). bidder.0) (map (λ name. (name, list_under n name bids)) names) ≡ names
    go [] = refl
    go (y ∷ ys) = ap (λ rest. y ∷ rest) (go ys)

bids_of_name : (n : ℕ) (m : List ℕ) (bids : List NamedBid) → All (IsNamedBid n) bids → AreBids n (bids_under m bids)
bids_of_name n m bids h =
    All-map (IsBid n) (λ (b : NamedBid). b.bid) (filter (λ b. bytes_eq m b.name) bids) (All-weaker (IsNamedBid n) (λ b. IsBid n b.bid) (λ b i. i.bid) _ (All-filter (λ b. bytes_eq m b.name) (IsNamedBid n) bids h))

-- a row of amounts that is read
amounts_at : (rows : List RowText) (k : ℕ) (word : List ℕ) (n : ℕ) (xs : List ℤ) → read_at rows k (numbers_of word n (pos 0) (pos 1000000)) ≡ Ok xs → AreAmounts n xs
amounts_at rows k word n xs e =
    let r = then_ok (row_at rows k) (λ row. placed row.number (numbers_of word n (pos 0) (pos 1000000) row.fields)) xs e in
    numbers_ok (pos 0) (pos 1000000) word n r.0.fields xs (placed_ok r.0.number (numbers_of word n (pos 0) (pos 1000000) r.0.fields) xs r.2)

-- the bidders of these bids: as many as their different names
bidders_length : (n : ℕ) (bids : List NamedBid) → length (bidders_of n bids) ≡ length (different (names_of bids))
bidders_length n bids = length-map (different (names_of bids)) (λ name. (name, list_under n name bids))

-- what holds of the bids of each name that is there holds of each bidder's list
each_list : (n : ℕ) (bids : List NamedBid) (P : Book → Type 0) → ((m : List ℕ) → is_among m (names_of bids) ≡ true → P (list_under n m bids)) → All (λ (bidder : List ℕ × Book). P bidder.1) (bidders_of n bids)
each_list n bids P h =
    All-map (λ (bidder : List ℕ × Book). P bidder.1) (λ (name : List ℕ). (name, list_under n name bids)) (different (names_of bids))
    (each_among (λ name. P (list_under n name bids)) (different (names_of bids)) (names_of bids) (λ m a. sym (among_different m (names_of bids)) ∙ a) h)

-- the bidders of few bids have lists within the limits
books_ok : (limits : Limits) (n : ℕ) (bids : List NamedBid) → AreLimits limits → AreFew limits n bids → All (λ (bidder : List ℕ × Book). IsBook n bidder.1) (bidders_of n bids)
books_ok limits n bids are few = each_list n bids (IsBook n) (λ m a. record {
  goods = refl;
  some = bids_under_some m bids a;
  few = let h = (few.under m).bids in let most = are.bids in omega arith;
  bids = bids_of_name n m bids few.each;
})

-- so have those of bids that are read
pub books_read : (format : ℕ) (limits : Limits) (n : ℕ) (rows : List RowText) (bidders : List (List ℕ × Book)) (place : ℕ) → AreLimits limits → ReadsBids format limits n rows bidders place
    → All (λ (bidder : List ℕ × Book). IsBook n bidder.1) bidders
books_read format limits n rows bidders place are read =
    let few = bids_ok format limits n [] (drop 4 rows) (read.bids, drop place rows) read.read (none_yet limits n) in
    subst (λ (z : List (List ℕ × Book)). All (λ bidder. IsBook n bidder.1) z) (sym read.gathered) (books_ok limits n read.bids are few)

-- the bidders of few bids make an auction with goods and amounts
pub made : (format : ℕ) (limits : Limits) (goods : List (List ℕ)) (supply reserve : List ℤ) (bids : List NamedBid) (caps : List (Option ℤ)) (order : List ℕ) → IsFormat format → AreLimits limits
    → AreGoods limits goods → AreAmounts (length goods) supply → AreAmounts (length goods) reserve → AreFew limits (length goods) bids
    → AreCaps (bidders_of (length goods) bids) caps → (format ≤ 2 → caps ≡ no_caps (length (bidders_of (length goods) bids)))
    → IsTieOrder (length (bidders_of (length goods) bids)) order → (format ≡ 1 → order ≡ places (length (bidders_of (length goods) bids)))
    → IsAuction (record { format = format; goods = goods; supply = supply; reserve = reserve; bidders = bidders_of (length goods) bids; caps = caps; order = order })
made format limits goods supply reserve bids caps order is are g s r few capped uncapped ordered first =
    let n = length goods in
    let names = names_same n bids in
    record {
      format = is;
      some_goods = g.some;
      few_goods = let f = g.few in let most = are.goods in omega arith;
      goods = g.names;
      supply = s;
      reserve = r;
      names = rw names (record {
        form = passes_different (names_of bids) (All-map (λ x. is_name x ≡ true) (λ (b : NamedBid). b.name) bids (All-weaker (IsNamedBid n) (λ b. is_name b.name ≡ true) (λ b i. i.name) bids few.each));
        unlike = different_same (different (names_of bids)) (different_unlike (names_of bids));
      });
      few_bidders = let h = few.names in let l = bidders_length n bids in let most = are.bidders in omega arith;
      books = books_ok limits n bids are few;
      caps = capped;
      order = ordered;
      first_format = first;
      uncapped = uncapped;
    }

-- the format that is read is one
format_ok : (field : List ℕ) (format : ℕ) → format_of field ≡ Ok format → IsFormat format
format_ok field format e = elim (cases_Bool (bytes_eq field (codes "1"))) [
  | inl t ↦ (let q = rw t at e in let one : 1 ≡ format = cc q in (omega arith, omega arith))
  | inr f ↦ (let q = rw f at e in elim (cases_Bool (bytes_eq field (codes "2"))) [
    | inl u ↦ (let p = rw u at q in let two : 2 ≡ format = cc p in (omega arith, omega arith))
    | inr g ↦ (let p = rw g at q in elim (cases_Bool (bytes_eq field (codes "3"))) [
      | inl v ↦ (let o = rw v at p in let three : 3 ≡ format = cc o in (omega arith, omega arith))
      | inr w ↦ absurd (let o = rw w at p in cc o)
    ])
  ])
]

header_ok : (fields : List (List ℕ)) (format : ℕ) → header_of fields ≡ Ok format → IsFormat format
unfolding header_of
header_ok fields format e =
    let r = then_ok (holds (begins fields (codes "mix") && (length fields == 2)) code.Header) (λ _. format_of (field_at fields 1)) format e in
    format_ok (field_at fields 1) format r.2

first_ok : (rows : List RowText) (format : ℕ) → read_at rows 0 header_of ≡ Ok format → IsFormat format
first_ok rows format e =
    let r = then_ok (row_at rows 0) (λ row. placed row.number (header_of row.fields)) format e in
    header_ok r.0.fields format (placed_ok r.0.number (header_of r.0.fields) format r.2)

-- an auction that is read is one
pub auction_ok : (rows : List RowText) (format : ℕ) (limits : Limits) (n : ℕ) (goods : List (List ℕ)) (supply reserve : List ℤ) (bidders : List (List ℕ × Book)) (caps : List (Option ℤ)) (order : List ℕ) (place : ℕ)
    → AreLimits limits
    → n ≡ length goods
    → read_at rows 0 header_of ≡ Ok format
    → (row_at rows 1 >>= goods_at limits) ≡ Ok goods
    → read_at rows 2 (numbers_of (codes "supply") n (pos 0) (pos 1000000)) ≡ Ok supply
    → read_at rows 3 (numbers_of (codes "reserve") n (pos 0) (pos 1000000)) ≡ Ok reserve
    → ReadsBids format limits n rows bidders place
    → AreCaps bidders caps
    → (format ≤ 2 → caps ≡ no_caps (length bidders))
    → IsTieOrder (length bidders) order
    → (format ≡ 1 → order ≡ places (length bidders))
    → IsAuction (record { format = format; goods = goods; supply = supply; reserve = reserve; bidders = bidders; caps = caps; order = order })
auction_ok rows format limits n goods supply reserve bidders caps order place are count a b c d e capped uncapped ordered first =
    let r = then_ok (row_at rows 1) (goods_at limits) goods b in
    let few = bids_ok format limits n [] (drop 4 rows) (e.bids, drop place rows) e.read (none_yet limits n) in
    let R : List (List ℕ × Book) → Type 0 = λ z. AreCaps z caps → (format ≤ 2 → caps ≡ no_caps (length z)) → IsTieOrder (length z) order → (format ≡ 1 → order ≡ places (length z))
    → IsAuction (record { format = format; goods = goods; supply = supply; reserve = reserve; bidders = z; caps = caps; order = order }) in
    let P : ℕ → Type 0 = λ m. R (bidders_of m e.bids) in
    let at_length = made format limits goods supply reserve e.bids caps order (first_ok rows format a) are (goods_ok limits r.0 goods r.2) (subst (λ (m : ℕ). AreAmounts m supply) count (amounts_at rows 2 (codes "supply") n supply c))
    (subst (λ (m : ℕ). AreAmounts m reserve) count (amounts_at rows 3 (codes "reserve") n reserve d)) (subst (λ (m : ℕ). AreFew limits m e.bids) count few) in
    subst R (sym e.gathered) (subst P (sym count) at_length) capped uncapped ordered first

-- ---- limits

-- few bids: their bidders keep to the limits
bids_meet : (format : ℕ) (goods : List (List ℕ)) (supply reserve : List ℤ) (n : ℕ) (bids : List NamedBid) (caps : List (Option ℤ)) (order : List ℕ) → AreGoods (limits_of format) goods → AreFew (limits_of format) n bids
    → MeetsLimits (record { format = format; goods = goods; supply = supply; reserve = reserve; bidders = bidders_of n bids; caps = caps; order = order })
bids_meet format goods supply reserve n bids caps order g few = record {
  goods = g.few;
  bidders = let h = few.names in let l = bidders_length n bids in omega arith;
  lists = each_list n bids (BidsMeet (limits_of format)) (λ m a. few.under m);
}

meet_when_read : (a : AuctionText) (rest : RestText) (read : AuctionText × RestText) → ◌≡◌ {A = Result (AuctionText × RestText) TextError} (Ok (a, rest)) (Ok read) → MeetsLimits a → MeetsLimits read.0
meet_when_read a rest read e h = let same : a ≡ read.0 = cc e in subst MeetsLimits same h

-- the auction that is read keeps to the limits of its format
pub meets_limits : (rows : List RowText) (read : AuctionText × RestText) → reading_of rows ≡ Ok read → MeetsLimits read.0
unfolding reading_of
meets_limits rows read e =
    let header = then_ok (read_at rows 0 header_of) _ read e in
    let limits = limits_of header.0 in
    let goods = then_ok (row_at rows 1 >>= goods_at limits) _ read header.2 in
    let n = length goods.0 in
    let supply = then_ok (read_at rows 2 (numbers_of (codes "supply") n (pos 0) (pos 1000000))) _ read goods.2 in
    let reserve = then_ok (read_at rows 3 (numbers_of (codes "reserve") n (pos 0) (pos 1000000))) _ read supply.2 in
    let bids = then_ok (bids_from header.0 limits n [] (drop 4 rows)) _ read reserve.2 in
    let capped = then_ok (caps_from header.0 (bidders_of n bids.0.0) (no_caps (length (bidders_of n bids.0.0))) bids.0.1) _ read bids.2 in
    let served = then_ok (order_from header.0 (bidders_of n bids.0.0) capped.0.1) _ read capped.2 in
    let last = then_ok (end_from (length rows + 1) served.0.1) _ read served.2 in
    let row = then_ok (row_at rows 1) (goods_at limits) goods.0 goods.1 in
    let few = bids_ok header.0 limits n [] (drop 4 rows) bids.0 bids.1 (none_yet limits n) in
    meet_when_read _ _ read last.2 (bids_meet header.0 goods.0 supply.0 reserve.0 n bids.0.0 _ _ (goods_ok limits row.0 goods.0 row.2) few)
