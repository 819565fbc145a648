-- The bids of bidders, one after the other, are gathered into these bidders again.
use Rattle.std.proofs.Common.{◌≡◌, ◌∙◌, sym, ap, ap₂, refl, ◌≤◌, true, false, inl, inr, ℕ, List, [], ◌∷◌, ◌++◌, map, filter, length, append-nil, arith, All, subst, true≢false}
use Rattle.std.specs.Str.{bytes_eq}
use Rattle.std.proofs.lemmas.Bool.{cases_Bool}
use Rattle.std.proofs.lemmas.List.{map-append}
use Rattle.std.proofs.lemmas.List.Elements.{All-append, All-cons, All-head, All-nil, All-tail}
use Rattle.mix_bids.specs.Bids.{AreBids, Book, IsBid}
use Rattle.mix_bids.specs.declared.bid.Bid.{Bid}
use Rattle.mix_text.specs.Auctions.{IsBook}
use Rattle.mix_text.specs.Limits.{BidsMeet}
use Rattle.mix_text.specs.Bidders.{Named}
use Rattle.mix_text.specs.Names.{different, is_among}
use Rattle.mix_text.specs.Reading.{NamedBid, bidders_of, bids_under, list_under, names_of}
use Rattle.mix_text.specs.Spelling.{is_name}
use Rattle.mix_text.specs.declared.formats.Limits.{Limits}
use Rattle.mix_text.proofs.Gathering.{Unlike, bids_under_none, bytes_eq_refl, keeps_all, map_other, same_bytes, unlike}
use Rattle.mix_text.proofs.Sound.{IsNamedBid}
use Rattle.mix_text.proofs.SoundAuctions.{no_bids, turned}
use Rattle.mix_trial.specs.Printing.{bid_row, bidder_rows}
use Rattle.mix_trial.proofs.ReadBids.{bids_under-append, named_row}

-- bids under one name
abbrev pub under_name : List ℕ → List Bid → List NamedBid
under_name name bids = map (λ bid. record { name = name; bid = bid }) bids

-- the bids of all bidders, those of each together
abbrev pub bids_of : Named → List NamedBid
bids_of [] = []
bids_of (bidder ∷ rest) = under_name bidder.0 bidder.1.bids ++ bids_of rest

abbrev pub names : Named → List (List ℕ)
names bidders = map (λ bidder. bidder.0) bidders

-- ---- the rows

one_rows : (name : List ℕ) (bids : List Bid) → map named_row (under_name name bids) ≡ map (bid_row name) bids
one_rows name [] = refl
one_rows name (b ∷ bids) = ap (λ (z : List (List (List ℕ))). bid_row name b ∷ z) (one_rows name bids)

pub rows_same : (bidders : Named) → map named_row (bids_of bidders) ≡ bidder_rows bidders
rows_same [] = refl
rows_same (b ∷ rest) =
    map-append named_row (under_name b.0 b.1.bids) (bids_of rest) ∙ ap₂ (λ (x y : List (List (List ℕ))). x ++ y) (one_rows b.0 b.1.bids) (rows_same rest)

-- ---- the names

twice : (y : List ℕ) (ns : List (List ℕ)) → filter (unlike y) (filter (unlike y) ns) ≡ filter (unlike y) ns
twice y [] = refl
twice y (z ∷ zs) = elim (cases_Bool (bytes_eq y z)) [
  | inl t ↦ rw t (twice y zs)
  | inr f ↦ rw f (rw f (ap (λ (r : List (List ℕ)). z ∷ r) (twice y zs)))
]

-- a name that comes again and again first goes once
again : (name : List ℕ) (bids : List Bid) (rest : List (List ℕ)) → filter (unlike name) (different (names_of (under_name name bids) ++ rest)) ≡ filter (unlike name) (different rest)
again name [] rest = refl
again name (b ∷ bids) rest =
    let same = bytes_eq_refl name in
    rw same (twice name (different (names_of (under_name name bids) ++ rest)) ∙ again name bids rest)

first_once : (name : List ℕ) (bids : List Bid) (rest : List (List ℕ)) → 1 ≤ length bids → different (names_of (under_name name bids) ++ rest) ≡ name ∷ filter (unlike name) (different rest)
first_once name [] rest some = absurd (omega arith)
first_once name (b ∷ bids) rest some = ap (λ (r : List (List ℕ)). name ∷ r) (again name bids rest)

pub names_same : (n : ℕ) (bidders : Named) → All (λ bidder. IsBook n bidder.1) bidders → Unlike (names bidders) → different (names_of (bids_of bidders)) ≡ names bidders
names_same n [] books apart = refl
names_same n (b ∷ rest) books apart =
    let P : List ℕ × Book → Type 0 = λ bidder. IsBook n bidder.1 in
    let book = All-head P b rest books in
    let others = names_same n rest (All-tail P b rest books) apart.1 in
    ap different (map-append (λ (x : NamedBid). x.name) (under_name b.0 b.1.bids) (bids_of rest))
    ∙ first_once b.0 b.1.bids (names_of (bids_of rest)) book.some
    ∙ ap (λ (r : List (List ℕ)). b.0 ∷ filter (unlike b.0) r) others
    ∙ ap (λ (r : List (List ℕ)). b.0 ∷ r) (keeps_all b.0 (names rest) apart.0)

-- ---- the bids of each

own : (name : List ℕ) (bids : List Bid) → bids_under name (under_name name bids) ≡ bids
own name [] = refl
own name (b ∷ bids) = let same = bytes_eq_refl name in rw same (ap (λ (r : List Bid). b ∷ r) (own name bids))

not_own : (m name : List ℕ) (bids : List Bid) → bytes_eq m name ≡ false → bids_under m (under_name name bids) ≡ []
not_own m name [] h = refl
not_own m name (b ∷ bids) h = rw h (not_own m name bids h)

-- a name of no bidder is the name of no bid
among_append : (m : List ℕ) (xs ys : List (List ℕ)) → is_among m xs ≡ false → is_among m ys ≡ false → is_among m (xs ++ ys) ≡ false
among_append m [] ys h k = k
among_append m (x ∷ xs) ys h k = elim (cases_Bool (bytes_eq m x)) [
  | inl t ↦ absurd (let q = rw t at h in true≢false q)
  | inr f ↦ (let q = rw f at h in rw f (among_append m xs ys q k))
]

none_alike : (m name : List ℕ) (bids : List Bid) → bytes_eq m name ≡ false → is_among m (names_of (under_name name bids)) ≡ false
none_alike m name [] h = refl
none_alike m name (b ∷ bids) h = rw h (none_alike m name bids h)

nowhere : (m : List ℕ) (bidders : Named) → is_among m (names bidders) ≡ false → is_among m (names_of (bids_of bidders)) ≡ false
nowhere m [] h = refl
nowhere m (b ∷ rest) h = elim (cases_Bool (bytes_eq m b.0)) [
  | inl t ↦ absurd (let q = rw t at h in true≢false q)
  | inr f ↦ (
      let q = rw f at h in
      let e = map-append (λ (x : NamedBid). x.name) (under_name b.0 b.1.bids) (bids_of rest) in
      rw e (among_append m (names_of (under_name b.0 b.1.bids)) (names_of (bids_of rest)) (none_alike m b.0 b.1.bids f) (nowhere m rest q)))
]

-- a bidder of some bids over n goods
abbrev entry : ℕ → List NamedBid → List ℕ → List ℕ × Book
entry n bids name = (name, record { goods = n; bids = bids_under name bids })

-- each bidder has its own bids
each_entry : (n : ℕ) (bidders : Named) → All (λ bidder. IsBook n bidder.1) bidders → Unlike (names bidders) → map (entry n (bids_of bidders)) (names bidders) ≡ bidders
each_entry n [] books apart = refl
each_entry n (b ∷ rest) books apart =
    let P : List ℕ × Book → Type 0 = λ bidder. IsBook n bidder.1 in
    let book = All-head P b rest books in
    let goods = book.goods in
    let mine : bids_under b.0 (bids_of (b ∷ rest)) ≡ b.1.bids =
    bids_under-append b.0 (under_name b.0 b.1.bids) (bids_of rest)
    ∙ ap₂ (λ (x y : List Bid). x ++ y) (own b.0 b.1.bids) (bids_under_none b.0 (bids_of rest) (nowhere b.0 rest apart.0))
    ∙ append-nil b.1.bids in
    let first : entry n (bids_of (b ∷ rest)) b.0 ≡ b = ap₂ (λ (g : ℕ) (x : List Bid). (b.0, record { goods = g; bids = x })) (sym goods) mine in
    let other : (m : List ℕ) → bytes_eq b.0 m ≡ false → entry n (bids_of (b ∷ rest)) m ≡ entry n (bids_of rest) m = λ m h.
    ap (λ (x : List Bid). (m, record { goods = n; bids = x })) (bids_under-append m (under_name b.0 b.1.bids) (bids_of rest) ∙ ap (λ (x : List Bid). x ++ bids_under m (bids_of rest)) (not_own m b.0 b.1.bids (turned b.0 m h))) in
    ap₂ (λ (x : List ℕ × Book) (xs : Named). x ∷ xs) first
    (map_other (entry n (bids_of rest)) (entry n (bids_of (b ∷ rest))) b.0 (names rest) apart.0 other ∙ each_entry n rest (All-tail P b rest books) apart.1)

pub gathered : (n : ℕ) (bidders : Named) → All (λ bidder. IsBook n bidder.1) bidders → Unlike (names bidders) → bidders_of n (bids_of bidders) ≡ bidders
gathered n bidders books apart = ap (map (entry n (bids_of bidders))) (names_same n bidders books apart) ∙ each_entry n bidders books apart

-- each of the bids is one, under a name
one_named : (n : ℕ) (name : List ℕ) (bids : List Bid) → is_name name ≡ true → AreBids n bids → All (IsNamedBid n) (under_name name bids)
one_named n name [] h are = All-nil (IsNamedBid n)
one_named n name (b ∷ bids) h are =
    All-cons (IsNamedBid n) (record { name = name; bid = b }) (under_name name bids) (record { name = h; bid = All-head (IsBid n) b bids are }) (one_named n name bids h (All-tail (IsBid n) b bids are))

pub all_named : (n : ℕ) (bidders : Named) → All (λ bidder. is_name bidder.0 ≡ true) bidders → All (λ bidder. IsBook n bidder.1) bidders → All (IsNamedBid n) (bids_of bidders)
all_named n [] names books = All-nil (IsNamedBid n)
all_named n (b ∷ rest) names books =
    let N : List ℕ × Book → Type 0 = λ bidder. is_name bidder.0 ≡ true in
    let B : List ℕ × Book → Type 0 = λ bidder. IsBook n bidder.1 in
    let book = All-head B b rest books in
    All-append (IsNamedBid n) (under_name b.0 b.1.bids) (bids_of rest) (one_named n b.0 b.1.bids (All-head N b rest names) book.bids) (all_named n rest (All-tail N b rest names) (All-tail B b rest books))

-- the list of a name keeps to the limits where the list of each bidder does
pub under_meets : (limits : Limits) (n : ℕ) (bidders : Named) → All (λ bidder. IsBook n bidder.1) bidders → Unlike (names bidders) → All (λ bidder. BidsMeet limits bidder.1) bidders
    → (m : List ℕ) → BidsMeet limits (list_under n m (bids_of bidders))
under_meets limits n [] books apart meet m = no_bids limits n
under_meets limits n (b ∷ rest) books apart meet m =
    let B : List ℕ × Book → Type 0 = λ bidder. IsBook n bidder.1 in
    let P : List ℕ × Book → Type 0 = λ bidder. BidsMeet limits bidder.1 in
    let parts = bids_under-append m (under_name b.0 b.1.bids) (bids_of rest) in
    rw parts (elim (cases_Bool (bytes_eq m b.0)) [
      | inl t ↦ (
          let same = same_bytes m b.0 t in
          let goods = (All-head B b rest books).goods in
          let none : bids_under m (bids_of rest) ≡ [] = bids_under_none m (bids_of rest) (nowhere m rest (ap (λ (x : List ℕ). is_among x (names rest)) same ∙ apart.0)) in
          let mine : bids_under m (under_name b.0 b.1.bids) ≡ b.1.bids = ap (λ (x : List ℕ). bids_under x (under_name b.0 b.1.bids)) same ∙ own b.0 b.1.bids in
          rw (none, mine, append-nil b.1.bids) (subst (λ (g : ℕ). BidsMeet limits (record { goods = g; bids = b.1.bids })) goods (All-head P b rest meet)))
      | inr f ↦ (let other = not_own m b.0 b.1.bids f in rw other (under_meets limits n rest (All-tail B b rest books) apart.1 (All-tail P b rest meet) m))
    ])
