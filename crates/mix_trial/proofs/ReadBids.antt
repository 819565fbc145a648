-- The rows of bids that pass no limit are read as these bids.
use Rattle.std.proofs.Common.{◌≡◌, ◌∙◌, sym, ap, ap₂, refl, ◌<◌, ◌≤◌, ◌+◌, ◌&&◌, ◌||◌, Bool, true, false, not, cond, inl, inr, ℕ, suc, List, [], ◌∷◌, ◌++◌, map, filter, length, append_assoc, append-nil, arith, All, Option, None, Some, Ok, true≢false}
use Rattle.std.specs.Prelude.{nat_le, count_by}
use Rattle.std.specs.Str.{bytes_eq}
use Rattle.std.proofs.lemmas.Bool.{cases_Bool}
use Rattle.std.proofs.lemmas.Bool.Decides.{nat_tests}
use Rattle.std.proofs.lemmas.List.{length-append, map-append}
use Rattle.std.proofs.lemmas.List.Elements.{All-head, All-tail, filter-append}
use Rattle.std.proofs.lemmas.List.Sums.{sum_by-append, sum_by_push}
use Rattle.mix_bids.specs.Bids.{Book}
use Rattle.mix_bids.specs.Cells.{cells}
use Rattle.mix_bids.specs.declared.bid.Bid.{Bid}
use Rattle.mix_bids.proofs.CellPushes.{cells_rise}
use Rattle.mix_text.specs.Bidders.{with_bid}
use Rattle.mix_text.specs.Formats.{has_caps, has_order, is_past}
use Rattle.mix_text.specs.Limits.{BidsMeet}
use Rattle.mix_text.specs.Names.{different, is_among}
use Rattle.mix_text.specs.Reading.{NamedBid, bids_from, bids_under, ends_bids, is_negative, limit_of, list_limit_of, list_under, names_of}
use Rattle.mix_text.specs.Rows.{numbered}
use Rattle.mix_text.specs.declared.faults.What.{What}
use Rattle.mix_text.specs.declared.faults.What.TheVariants as what
use Rattle.mix_text.specs.declared.formats.Limits.{Limits}
use Rattle.mix_text.proofs.FormatLimits.{fewer_past}
use Rattle.mix_text.proofs.Gathering.{bids_under_snoc, bytes_eq_refl, different_snoc}
use Rattle.mix_text.proofs.Sound.{IsNamedBid}
use Rattle.mix_text.proofs.Steps.{bid_more, ends}
use Rattle.mix_trial.specs.Printing.{bid_row}
use Rattle.mix_trial.proofs.ReadFields.{bid_read}

-- the row of a bid under its name
abbrev pub named_row : NamedBid → List (List ℕ)
named_row b = bid_row b.name b.bid

-- bids over n goods that keep to the limits of bidders, and of the list of each name
pub record AreFew (limits : Limits) (n : ℕ) (bids : List NamedBid) : Type 0 where
  pub names : length (different (names_of bids)) ≤ limits.bidders
  pub under : (m : List ℕ) → BidsMeet limits (list_under n m bids)

-- ---- fewer bids pass no limit either

pub bids_under-append : (m : List ℕ) (a b : List NamedBid) → bids_under m (a ++ b) ≡ bids_under m a ++ bids_under m b
bids_under-append m a b =
    ap (map (λ (x : NamedBid). x.bid)) (filter-append (λ x. bytes_eq m x.name) a b) ∙ map-append (λ (x : NamedBid). x.bid) (filter (λ x. bytes_eq m x.name) a) (filter (λ x. bytes_eq m x.name) b)

one_more_name : (a : List NamedBid) (x : NamedBid) → length (different (names_of a)) ≤ length (different (names_of (a ++ (x ∷ []))))
one_more_name a x = rw (map-append (λ (y : NamedBid). y.name) a (x ∷ []), different_snoc (names_of a) x.name) (elim (cases_Bool (is_among x.name (names_of a))) [
  | inl t ↦ rw t (omega arith)
  | inr f ↦ rw (f, length-append (different (names_of a)) (x.name ∷ [])) (omega arith)
])

fewer_names : (a b : List NamedBid) → length (different (names_of a)) ≤ length (different (names_of (a ++ b)))
fewer_names a [] = rw (append-nil a) (omega arith)
fewer_names a (x ∷ b) =
    let one = one_more_name a x in
    let rest = fewer_names (a ++ (x ∷ [])) b in
    let same : length (different (names_of ((a ++ (x ∷ [])) ++ b))) ≡ length (different (names_of (a ++ (x ∷ b)))) = ap (λ (z : List NamedBid). length (different (names_of z))) (append_assoc a (x ∷ []) b) in
    omega arith

fewer_cells : (n : ℕ) (xs ys : List Bid) → cells (record { goods = n; bids = xs }) ≤ cells (record { goods = n; bids = xs ++ ys })
fewer_cells n xs [] = rw (append-nil xs) (omega arith)
fewer_cells n xs (y ∷ ys) =
    let one = cells_rise (record { goods = n; bids = xs }) y in
    let rest = fewer_cells n (xs ++ (y ∷ [])) ys in
    let same = ap (λ (z : List Bid). cells (record { goods = n; bids = z })) (append_assoc xs (y ∷ []) ys) in
    omega arith

-- a list without its last bids
fewer_meet : (limits : Limits) (n : ℕ) (xs ys : List Bid) → BidsMeet limits (record { goods = n; bids = xs ++ ys }) → BidsMeet limits (record { goods = n; bids = xs })
fewer_meet limits n xs ys h =
    let bids = h.bids in
    let count = sum_by-append (λ b. cond (is_negative b) 1 0) xs ys in
    record {
      bids = omega (arith, length-append xs ys);
      negatives = fewer_past limits.negatives (count_by is_negative xs) (count_by is_negative (xs ++ ys)) (omega arith) h.negatives;
      cells = fewer_past limits.cells _ _ (fewer_cells n xs ys) h.cells;
    }

fewer : (limits : Limits) (n : ℕ) (a b : List NamedBid) → AreFew limits n (a ++ b) → AreFew limits n a
fewer limits n a b h =
    let names = h.names in
    record {
      names = omega (arith, fewer_names a b);
      under = λ m. (let e = bids_under-append m a b in let u = h.under m in fewer_meet limits n (bids_under m a) (bids_under m b) (rw e at u));
    }

-- ---- a bid after those before it

tests_fail : (long negative full many : Bool) (v u w : What) → long ≡ false → (negative ≡ true → full ≡ false) → many ≡ false
    → cond long (Some v) (cond (negative && full) (Some u) (cond many (Some w) None)) ≡ None
tests_fail long true full many v u w b c d = let f = c refl in rw (b, f, d) refl
tests_fail long false full many v u w b c d = rw (b, d) refl

not_past : (a b : ℕ) → b < a → nat_le a b ≡ false
not_past a b h = grind (arith, nat_tests)

-- a list that meets the limits with one more bid passes none of them by it
list_within : (limits : Limits) (list : Book) (bid : Bid) → BidsMeet limits (with_bid list bid) → list_limit_of limits list bid ≡ None
unfolding list_limit_of
list_within limits list bid meets =
    let bids = meets.bids in
    tests_fail (nat_le limits.bids (length list.bids)) (is_negative bid) (is_past limits.negatives (suc (count_by is_negative list.bids))) (is_past limits.cells (cells (with_bid list bid)))
    what.Bids what.Negatives what.Cells
    (not_past limits.bids (length list.bids) (omega (arith, length-append list.bids (bid ∷ []))))
    (λ t. (let count = sum_by_push (λ x. cond (is_negative x) 1 0) list.bids bid in
    fewer_past limits.negatives (suc (count_by is_negative list.bids)) (count_by is_negative (list.bids ++ (bid ∷ []))) (more (is_negative bid) (count_by is_negative list.bids) _ t count) meets.negatives))
    meets.cells
  where
    more : (t : Bool) (k m : ℕ) → t ≡ true → m ≡ k + cond t 1 0 → suc k ≤ m
    more true k m e h = omega arith
    more false k m e h = absurd (true≢false (sym e))

-- where all of them are few, the last passes no limit after those before it
no_limit : (limits : Limits) (n : ℕ) (before : List NamedBid) (b : NamedBid) → AreFew limits n (before ++ (b ∷ [])) → limit_of limits n before b ≡ None
unfolding limit_of
no_limit limits n before b few =
    let names = few.names in
    let under = few.under b.name in
    let same : bids_under b.name (before ++ (b ∷ [])) ≡ bids_under b.name before ++ (b.bid ∷ []) =
    bids_under_snoc b.name before b ∙ ap (λ t. bids_under b.name before ++ cond t (b.bid ∷ []) []) (bytes_eq_refl b.name) in
    test_fails (is_among b.name (names_of before)) (nat_le limits.bidders (length (different (names_of before)))) what.Bidders (list_limit_of limits (list_under n b.name before) b.bid)
    (λ f. not_past limits.bidders (length (different (names_of before))) (new f names))
    (list_within limits (list_under n b.name before) b.bid (rw same at under))
  where
    test_fails : (there many : Bool) (w : What) (rest : Option What) → (there ≡ false → many ≡ false) → rest ≡ None → cond (not there && many) (Some w) rest ≡ None
    test_fails true many w rest a e = e
    test_fails false many w rest a e = let m = a refl in rw m e

    new : is_among b.name (names_of before) ≡ false → length (different (names_of (before ++ (b ∷ [])))) ≤ limits.bidders → length (different (names_of before)) < limits.bidders
    new f h =
        let all = ap different (map-append (λ (y : NamedBid). y.name) before (b ∷ [])) ∙ different_snoc (names_of before) b.name in
        let more : different (names_of (before ++ (b ∷ []))) ≡ different (names_of before) ++ (b.name ∷ []) = all ∙ rw f refl in
        let size = ap (λ (z : List (List ℕ)). length z) more in
        omega (arith, length-append (different (names_of before)) (b.name ∷ []))

-- ---- the rows

-- the row of a bid doesn't end the bids
no_end : (format : ℕ) (b : NamedBid) → ends_bids format (named_row b) ≡ false
no_end format b = other_words (has_order format) (has_caps format)
  where
    other_words : (t u : Bool) → ((t && false) || (u && false)) ≡ false
    other_words true true = refl
    other_words true false = refl
    other_words false true = refl
    other_words false false = refl

-- the rows of bids and a row that ends them, after bids that were read before: these bids, and the rows from that row on
pub bids_read : (format : ℕ) (limits : Limits) (n k : ℕ) (before bids : List NamedBid) (end : List (List ℕ)) (rest : List (List (List ℕ))) → ends_bids format end ≡ true → All (IsNamedBid n) bids → AreFew limits n (before ++ bids)
    → bids_from format limits n before (numbered k (map named_row bids ++ (end ∷ rest))) ≡ Ok (before ++ bids, numbered (k + length bids) (end ∷ rest))
bids_read format limits n k before [] end rest stops are few =
    ends format limits n before (record { number = k; fields = end }) (numbered (k + 1) rest) (sym stops)
    ∙ ap₂ (λ (z : List NamedBid) (i : ℕ). Ok (z, numbered i (end ∷ rest))) (sym (append-nil before)) (at k)
  where
    at : (k : ℕ) → k ≡ k + 0
    at k = omega arith
bids_read format limits n k before (b ∷ bids) end rest stops are few =
    let is = All-head (IsNamedBid n) b bids are in
    let regroup = append_assoc before (b ∷ []) bids in
    let few_now = rw (← regroup) at few in
    let none = no_limit limits n before b (fewer limits n (before ++ (b ∷ [])) bids few_now) in
    bid_more format limits n before (record { number = k; fields = named_row b }) (numbered (k + 1) (map named_row bids ++ (end ∷ rest))) b (sym (no_end format b)) (bid_read n b.name b.bid is.name is.bid) (sym none)
    ∙ bids_read format limits n (k + 1) (before ++ (b ∷ [])) bids end rest stops (All-tail (IsNamedBid n) b bids are) few_now
    ∙ ap₂ (λ (z : List NamedBid) (i : ℕ). Ok (z, numbered i (end ∷ rest))) regroup (at k (length bids))
  where
    at : (k m : ℕ) → k + 1 + m ≡ k + suc m
    at k m = omega arith
