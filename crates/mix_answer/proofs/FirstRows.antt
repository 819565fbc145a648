-- Rows read in turn: what comes of those that are left, given what came of those before.
use Rattle.std.proofs.Common.{◌≡◌, ◌<◌, ◌≤◌, ◌+◌, ℕ, List, [], ◌∷◌, ◌++◌, length, drop, get_or, refl, sym, ap, ◌∙◌, append_assoc, arith, inl, inr, Ok, Err, Result, append-nil}
use Rattle.std.proofs.lemmas.List.{drop_all, drop_more, get_or-map, get_or_default, length-map}
use Rattle.mix_bids.specs.Bids.{Book}
use Rattle.mix_num.specs.declared.pair.Tight.{Tight}
use Rattle.mix_text.specs.Bidders.{Named, bidder_at, name_at}
use Rattle.mix_text.specs.Reading.{◌>>=◌}
use Rattle.mix_text.specs.Rows.{RowText}
use Rattle.mix_text.specs.declared.faults.Code.{Code}
use Rattle.mix_answer.specs.Outcomes.{BidderGood, bidders_goods, with_each}
use Rattle.mix_answer.specs.Readings.{IsFromRows, first_row, first_rows, following, share_of, tight_of}
use Rattle.mix_answer.specs.declared.faults.OutcomeError.{OutcomeError}
use Rattle.mix_answer.specs.declared.share.Share.{Share}

-- ---- any rows

-- no row is wanted
pub none_wanted : {W X : Type 0} (next : ℕ) (read : W → List (List ℕ) → Result X Code) (before : List X) (rows : List RowText) → following before (first_rows next read [] rows) ≡ Ok (before, rows)
unfolding first_rows
none_wanted next read before rows = ap (λ xs. Ok (xs, rows)) (append-nil before)

-- one row more is read
one_read : {W X : Type 0} (next : ℕ) (read : W → List (List ℕ) → Result X Code) (before : List X) (wanted : W) (others : List W) (rows left : List RowText) (x : X) → first_row next (read wanted) rows ≡ Ok (x, left)
    → following before (first_rows next read (wanted ∷ others) rows) ≡ following (before ++ (x ∷ [])) (first_rows next read others left)
unfolding first_rows
one_read {X = X} next read before wanted others rows left x e = rw e (at (first_rows next read others left))
  where
    at : (r : Result (List X × List RowText) OutcomeError) → following before (r >>= λ later. Ok (x ∷ later.0, later.1)) ≡ following (before ++ (x ∷ [])) r
    at (Ok (xs, rows)) = ap (λ all. Ok (all, rows)) (sym (append_assoc before (x ∷ []) xs))
    at (Err e) = refl

-- one row more is wrong
one_wrong : {W X : Type 0} (next : ℕ) (read : W → List (List ℕ) → Result X Code) (before : List X) (wanted : W) (others : List W) (rows : List RowText) (e : OutcomeError) → first_row next (read wanted) rows ≡ Err e
    → following before (first_rows next read (wanted ∷ others) rows) ≡ Err e
unfolding first_rows
one_wrong next read before wanted others rows e w = rw w refl

-- rows for some, and then for others
abbrev part_by_part : {W X : Type 0} → ℕ → (W → List (List ℕ) → Result X Code) → List X → List W → List W → List RowText → Type 0
part_by_part next read before wanted others rows =
    following before (first_rows next read (wanted ++ others) rows) ≡ (following before (first_rows next read wanted rows) >>= λ here. following here.0 (first_rows next read others here.1))

one_more_part : {W X : Type 0} (next : ℕ) (read : W → List (List ℕ) → Result X Code) (before : List X) (here : W) (wanted others : List W) (rows : List RowText) (r : Result (X × List RowText) OutcomeError)
    → first_row next (read here) rows ≡ r → ((x : X) (left : List RowText) → part_by_part next read (before ++ (x ∷ [])) wanted others left) → part_by_part next read before (here ∷ wanted) others rows
one_more_part {X = X} next read before here wanted others rows (Ok p) e later =
    one_read next read before here (wanted ++ others) rows p.1 p.0 e
    ∙ later p.0 p.1
    ∙ ap (λ (r : Result (List X × List RowText) OutcomeError). r >>= λ all. following all.0 (first_rows next read others all.1)) (sym (one_read next read before here wanted rows p.1 p.0 e))
one_more_part {X = X} next read before here wanted others rows (Err w) e later =
    one_wrong next read before here (wanted ++ others) rows w e
    ∙ ap (λ (r : Result (List X × List RowText) OutcomeError). r >>= λ all. following all.0 (first_rows next read others all.1)) (sym (one_wrong next read before here wanted rows w e))

first_rows-append : {W X : Type 0} (next : ℕ) (read : W → List (List ℕ) → Result X Code) (before : List X) (wanted others : List W) (rows : List RowText) → part_by_part next read before wanted others rows
unfolding first_rows
first_rows-append next read before [] others rows = ap (λ xs. following xs (first_rows next read others rows)) (sym (append-nil before))
first_rows-append next read before (here ∷ wanted) others rows =
    one_more_part next read before here wanted others rows (first_row next (read here) rows) refl (λ x left. first_rows-append next read (before ++ (x ∷ [])) wanted others left)

-- what is wrong is so whatever came before
pub wrong_alone : {X : Type 0} (before : List X) (read : Result (List X × List RowText) OutcomeError) (e : OutcomeError) → following before read ≡ Err e → read ≡ Err e
wrong_alone before (Ok p) e h = cc h
wrong_alone before (Err w) e h = h

-- ---- a loop's turns, of all that is wanted from a place on

-- at last all came
pub turn_last : {W X : Type 0} (next : ℕ) (read : W → List (List ℕ) → Result X Code) (before : List X) (all : List W) (rows : List RowText) (first k : ℕ) (told : Result (List X × List RowText) OutcomeError) → k ≡ length all
    → following before (first_rows next read (drop k all) (drop (first + k) rows)) ≡ told → told ≡ Ok (before, drop (first + length all) rows)
turn_last next read before all rows first k told end so_far =
    let none = drop_all k all (omega arith) in
    sym so_far ∙ rw (none, end) (none_wanted next read before (drop (first + length all) rows))

-- one more
pub turn_more : {W X : Type 0} (next : ℕ) (read : W → List (List ℕ) → Result X Code) (before : List X) (all : List W) (rows : List RowText) (first k : ℕ) (told : Result (List X × List RowText) OutcomeError) (wanted : W) (x : X)
    → k < length all → get_or all k wanted ≡ wanted → first_row next (read wanted) (drop (first + k) rows) ≡ Ok (x, drop (first + k + 1) rows)
    → following before (first_rows next read (drop k all) (drop (first + k) rows)) ≡ told
    → following (before ++ (x ∷ [])) (first_rows next read (drop (k + 1) all) (drop (first + (k + 1)) rows)) ≡ told
turn_more {X = X} next read before all rows first k told wanted x here is e so_far =
    let place : first + (k + 1) ≡ first + k + 1 = omega arith in
    let from : drop k all ≡ wanted ∷ drop (k + 1) all = drop_more all k wanted here ∙ ap (λ w. w ∷ drop (k + 1) all) is in
    ap (λ (i : ℕ). following (before ++ (x ∷ [])) (first_rows next read (drop (k + 1) all) (drop i rows))) place
    ∙ sym (one_read next read before wanted (drop (k + 1) all) (drop (first + k) rows) (drop (first + k + 1) rows) x e)
    ∙ ap (λ left. following before (first_rows next read left (drop (first + k) rows))) (sym from) ∙ so_far

-- one that is wrong
pub turn_wrong : {W X : Type 0} (next : ℕ) (read : W → List (List ℕ) → Result X Code) (before : List X) (all : List W) (rows : List RowText) (first k : ℕ) (told : Result (List X × List RowText) OutcomeError) (wanted : W) (e : OutcomeError)
    → k < length all → get_or all k wanted ≡ wanted → first_row next (read wanted) (drop (first + k) rows) ≡ Err e
    → following before (first_rows next read (drop k all) (drop (first + k) rows)) ≡ told → told ≡ Err e
turn_wrong next read before all rows first k told wanted e here is w so_far =
    let from : drop k all ≡ wanted ∷ drop (k + 1) all = drop_more all k wanted here ∙ ap (λ left. left ∷ drop (k + 1) all) is in
    sym so_far ∙ ap (λ left. following before (first_rows next read left (drop (first + k) rows))) from ∙ one_wrong next read before wanted (drop (k + 1) all) (drop (first + k) rows) e w

-- ---- shares

-- what is read of bidders
abbrev pub shares_read : ℕ → List ℕ × Book → List (List ℕ) → Result Share Code
shares_read n bidder = share_of n bidder.0

pub share_more : (next n : ℕ) (before : List Share) (bidders : Named) (rows : List RowText) (first k : ℕ) (told : Result (List Share × List RowText) OutcomeError) (share : Share) → k < length bidders
    → first_row next (share_of n (name_at bidders k)) (drop (first + k) rows) ≡ Ok (share, drop (first + k + 1) rows)
    → following before (first_rows next (shares_read n) (drop k bidders) (drop (first + k) rows)) ≡ told
    → following (before ++ (share ∷ [])) (first_rows next (shares_read n) (drop (k + 1) bidders) (drop (first + (k + 1)) rows)) ≡ told
share_more next n before bidders rows first k told share here e so_far =
    turn_more next (shares_read n) before bidders rows first k told (bidder_at bidders k) share here (get_or_default bidders k (bidder_at bidders k) ([], record { goods = 0; bids = [] }) here) e so_far

pub share_wrong : (next n : ℕ) (before : List Share) (bidders : Named) (rows : List RowText) (first k : ℕ) (told : Result (List Share × List RowText) OutcomeError) (e : OutcomeError) → k < length bidders
    → first_row next (share_of n (name_at bidders k)) (drop (first + k) rows) ≡ Err e
    → following before (first_rows next (shares_read n) (drop k bidders) (drop (first + k) rows)) ≡ told → told ≡ Err e
share_wrong next n before bidders rows first k told e here w so_far =
    turn_wrong next (shares_read n) before bidders rows first k told (bidder_at bidders k) e here (get_or_default bidders k (bidder_at bidders k) ([], record { goods = 0; bids = [] }) here) w so_far

-- ---- the pairs of one bidder

-- the names of the pair of a good
pair_at : (goods : List (List ℕ)) (bidder : List ℕ) (j : ℕ) → j < length goods
    → (j < length (with_each goods bidder)) × (get_or (with_each goods bidder) j (record { bidder = bidder; good = get_or goods j [] }) ≡ record { bidder = bidder; good = get_or goods j [] })
pair_at goods bidder j here =
    let named : List ℕ → BidderGood = λ good. record { bidder = bidder; good = good } in
    let size = length-map goods named in
    (omega (arith, size), get_or-map named goods j [] (named (get_or goods j [])) here)

pub pair_more : (next n : ℕ) (goods : List (List ℕ)) (bidder : List ℕ) (before : List Tight) (rows : List RowText) (first j : ℕ) (told : Result (List Tight × List RowText) OutcomeError) (tight : Tight) → j < length goods
    → first_row next (tight_of n (record { bidder = bidder; good = get_or goods j [] })) (drop (first + j) rows) ≡ Ok (tight, drop (first + j + 1) rows)
    → following before (first_rows next (tight_of n) (drop j (with_each goods bidder)) (drop (first + j) rows)) ≡ told
    → following (before ++ (tight ∷ [])) (first_rows next (tight_of n) (drop (j + 1) (with_each goods bidder)) (drop (first + (j + 1)) rows)) ≡ told
pair_more next n goods bidder before rows first j told tight here e so_far =
    let there = pair_at goods bidder j here in
    turn_more next (tight_of n) before (with_each goods bidder) rows first j told (record { bidder = bidder; good = get_or goods j [] }) tight there.0 there.1 e so_far

pub pair_wrong : (next n : ℕ) (goods : List (List ℕ)) (bidder : List ℕ) (before : List Tight) (rows : List RowText) (first j : ℕ) (told : Result (List Tight × List RowText) OutcomeError) (e : OutcomeError) → j < length goods
    → first_row next (tight_of n (record { bidder = bidder; good = get_or goods j [] })) (drop (first + j) rows) ≡ Err e
    → following before (first_rows next (tight_of n) (drop j (with_each goods bidder)) (drop (first + j) rows)) ≡ told → told ≡ Err e
pair_wrong next n goods bidder before rows first j told e here w so_far =
    let there = pair_at goods bidder j here in
    turn_wrong next (tight_of n) before (with_each goods bidder) rows first j told (record { bidder = bidder; good = get_or goods j [] }) e there.0 there.1 w so_far

pub pairs_last : (next n : ℕ) (goods : List (List ℕ)) (bidder : List ℕ) (before : List Tight) (rows : List RowText) (first j : ℕ) (told : Result (List Tight × List RowText) OutcomeError) → j ≡ length goods
    → following before (first_rows next (tight_of n) (drop j (with_each goods bidder)) (drop (first + j) rows)) ≡ told → told ≡ Ok (before, drop (first + length goods) rows)
pairs_last next n goods bidder before rows first j told end so_far =
    let size : length (with_each goods bidder) ≡ length goods = length-map goods (λ (good : List ℕ). record { bidder = bidder; good = good }) in
    turn_last next (tight_of n) before (with_each goods bidder) rows first j told (omega (arith, size)) so_far ∙ ap (λ (i : ℕ). Ok (before, drop (first + i) rows)) size

-- ---- the pairs of each bidder, bidder by bidder

-- those of the bidders from a place on are this one's, and those of the later ones
pairs_from : (goods : List (List ℕ)) (bidders : Named) (k : ℕ) → k < length bidders → bidders_goods goods (drop k bidders) ≡ with_each goods (name_at bidders k) ++ bidders_goods goods (drop (k + 1) bidders)
pairs_from goods bidders k here = ap (bidders_goods goods) (drop_more bidders k ([], record { goods = 0; bids = [] }) here)

-- a bidder's more
pub bidder_more : (next : ℕ) (goods : List (List ℕ)) (bidders : Named) (before now : List Tight) (rows left : List RowText) (k : ℕ) (told : Result (List Tight × List RowText) OutcomeError) → k < length bidders
    → following before (first_rows next (tight_of (length goods)) (with_each goods (name_at bidders k)) rows) ≡ Ok (now, left)
    → following before (first_rows next (tight_of (length goods)) (bidders_goods goods (drop k bidders)) rows) ≡ told
    → following now (first_rows next (tight_of (length goods)) (bidders_goods goods (drop (k + 1) bidders)) left) ≡ told
bidder_more next goods bidders before now rows left k told here own so_far =
    let read = tight_of (length goods) in
    let later : List BidderGood = bidders_goods goods (drop (k + 1) bidders) in
    ap (λ (r : Result (List Tight × List RowText) OutcomeError). r >>= λ p. following p.0 (first_rows next read later p.1)) (sym own)
    ∙ sym (first_rows-append next read before (with_each goods (name_at bidders k)) later rows)
    ∙ ap (λ (wanted : List BidderGood). following before (first_rows next read wanted rows)) (sym (pairs_from goods bidders k here)) ∙ so_far

-- a bidder's that are wrong
pub bidder_wrong : (next : ℕ) (goods : List (List ℕ)) (bidders : Named) (before : List Tight) (rows : List RowText) (k : ℕ) (told : Result (List Tight × List RowText) OutcomeError) (e : OutcomeError) → k < length bidders
    → IsFromRows (first_rows next (tight_of (length goods)) (with_each goods (name_at bidders k)) rows) e
    → following before (first_rows next (tight_of (length goods)) (bidders_goods goods (drop k bidders)) rows) ≡ told → IsFromRows told e
bidder_wrong next goods bidders before rows k told e here (inl memory) so_far = inl memory
bidder_wrong next goods bidders before rows k told e here (inr w) so_far =
    let read = tight_of (length goods) in
    let later : List BidderGood = bidders_goods goods (drop (k + 1) bidders) in
    inr (
    sym so_far ∙ ap (λ (wanted : List BidderGood). following before (first_rows next read wanted rows)) (pairs_from goods bidders k here)
    ∙ first_rows-append next read before (with_each goods (name_at bidders k)) later rows
    ∙ ap (λ (r : Result (List Tight × List RowText) OutcomeError). following before r >>= λ p. following p.0 (first_rows next read later p.1)) w
    )

-- no bidder more
pub bidders_last : (next : ℕ) (goods : List (List ℕ)) (bidders : Named) (before : List Tight) (rows : List RowText) (k : ℕ) (told : Result (List Tight × List RowText) OutcomeError) → length bidders ≤ k
    → following before (first_rows next (tight_of (length goods)) (bidders_goods goods (drop k bidders)) rows) ≡ told → told ≡ Ok (before, rows)
bidders_last next goods bidders before rows k told end so_far =
    sym so_far ∙ ap (λ (left : Named). following before (first_rows next (tight_of (length goods)) (bidders_goods goods left) rows)) (drop_all k bidders end)
    ∙ none_wanted next (tight_of (length goods)) before rows
