-- The bidders of the bids so far, and what one more bid makes of them.
use Rattle.std.proofs.Common.{◌≡◌, ◌<◌, ℕ, List, [], ◌∷◌, ◌++◌, length, map, get_or, set, refl, sym, ap, ap₂, ◌∙◌, arith, Some, None, Bool, true, false, not, cond, inl, inr, true≢false, nat_lt, append-nil}
use Rattle.std.specs.Prelude.{nat_le}
use Rattle.std.specs.List.{list_any, position, prefix_len}
use Rattle.std.specs.Str.{bytes_eq}
use Rattle.std.proofs.lemmas.Bool.{cases_Bool}
use Rattle.std.proofs.lemmas.Bool.Decides.{nat_tests}
use Rattle.std.proofs.lemmas.List.{length-map, map-append, get_or-map}
use Rattle.std.proofs.lemmas.List.Quantifiers.{position-Some}
use Rattle.mix_bids.specs.Bids.{Book}
use Rattle.mix_bids.specs.declared.bid.Bid.{Bid}
use Rattle.mix_text.specs.Bidders.{list_at, name_at, place_of, with_bid_at}
use Rattle.mix_text.specs.Names.{different, is_among}
use Rattle.mix_text.specs.Reading.{NamedBid, bidders_of, bids_under, limit_of, list_limit_of, list_under, names_of}
use Rattle.mix_text.specs.declared.faults.What.TheVariants as what
use Rattle.mix_text.specs.declared.formats.Limits.{Limits}
use Rattle.mix_text.proofs.Entries.{list_any-absent, position-map}
use Rattle.mix_text.proofs.Gathering.{among_different, bids_under_none, bids_under_snoc, bytes_eq_refl, different_snoc, different_unlike, map_at, map_other, same_bytes}

pub any_before_end : {X : Type 0} (p : X → Bool) (xs : List X) → list_any p xs ≡ nat_lt (prefix_len (λ x. not (p x)) xs) (length xs)
any_before_end p [] = refl
any_before_end p (x ∷ xs) = elim (cases_Bool (p x)) [
  | inl t ↦ rw t (grind (arith, nat_tests))
  | inr f ↦ (let h = any_before_end p xs in rw f (grind (arith, nat_tests, h)))
]

position_some : {X : Type 0} (p : X → Bool) (xs : List X) (k : ℕ) → position p xs ≡ Some k → list_any p xs ≡ true
position_some p xs k e = elim (cases_Bool (list_any p xs)) [
  | inl t ↦ t
  | inr f ↦ absurd (let q = rw (sym (any_before_end p xs) ∙ f) at e in cc)
]

-- a bidder of these bids over n goods
abbrev entry : ℕ → List NamedBid → List ℕ → List ℕ × Book
entry n bids name = (name, list_under n name bids)

-- the place of a name is its place among the different names
place_among : (n : ℕ) (bids : List NamedBid) (name : List ℕ) → place_of name (bidders_of n bids) ≡ position (bytes_eq name) (different (names_of bids))
place_among n bids name = position-map (entry n bids) (λ b. bytes_eq name b.0) (different (names_of bids))

absent : (n : ℕ) (bids : List NamedBid) (name : List ℕ) → place_of name (bidders_of n bids) ≡ None → is_among name (different (names_of bids)) ≡ false
absent n bids name e = list_any-absent (bytes_eq name) (different (names_of bids)) (sym (place_among n bids name) ∙ e)

present : (n : ℕ) (bids : List NamedBid) (name : List ℕ) (k : ℕ) → place_of name (bidders_of n bids) ≡ Some k → is_among name (names_of bids) ≡ true
present n bids name k e = sym (among_different name (names_of bids)) ∙ position_some (bytes_eq name) (different (names_of bids)) k (sym (place_among n bids name) ∙ e)

-- the bidders with one more bid, by the names that they had
names_snoc : (bids : List NamedBid) (b : NamedBid) → names_of (bids ++ (b ∷ [])) ≡ names_of bids ++ (b.name ∷ [])
names_snoc bids b = map-append (λ (a : NamedBid). a.name) bids (b ∷ [])

-- another name's bids are as they were
other_entry : (n : ℕ) (bids : List NamedBid) (b : NamedBid) (m : List ℕ) → bytes_eq b.name m ≡ false → entry n (bids ++ (b ∷ [])) m ≡ entry n bids m
other_entry n bids b m h = ap (λ (rest : List Bid). (m, record { goods = n; bids = rest })) (bids_under_snoc m bids b ∙ elim (cases_Bool (bytes_eq m b.name)) [
  | inl t ↦ absurd (true≢false (sym (bytes_eq_refl b.name) ∙ ap (bytes_eq b.name) (sym (same_bytes m b.name t)) ∙ h))
  | inr f ↦ rw f (append-nil (bids_under m bids))
])

-- a new name goes last, with its first bid
pub gathers_new : (n : ℕ) (bids : List NamedBid) (b : NamedBid) → place_of b.name (bidders_of n bids) ≡ None
    → bidders_of n (bids ++ (b ∷ [])) ≡ bidders_of n bids ++ ((b.name, record { goods = n; bids = b.bid ∷ [] }) ∷ [])
gathers_new n bids b e =
    let away = absent n bids b.name e in
    let gone = sym (among_different b.name (names_of bids)) ∙ away in
    let f = entry n bids in
    let g = entry n (bids ++ (b ∷ [])) in
    let first : bids_under b.name (bids ++ (b ∷ [])) ≡ b.bid ∷ [] = bids_under_snoc b.name bids b ∙ ap₂ (λ (xs : List Bid) (t : Bool). xs ++ cond t (b.bid ∷ []) []) (bids_under_none b.name bids gone) (bytes_eq_refl b.name) in
    let names : different (names_of (bids ++ (b ∷ []))) ≡ different (names_of bids) ++ (b.name ∷ []) = ap different (names_snoc bids b) ∙ different_snoc (names_of bids) b.name ∙ ap (λ t. cond t (different (names_of bids)) (different (names_of bids) ++ (b.name ∷ []))) gone in
    ap (map g) names ∙ map-append g (different (names_of bids)) (b.name ∷ [])
    ∙ ap₂ (λ (xs ys : List (List ℕ × Book)). xs ++ ys) (map_other f g b.name (different (names_of bids)) away (other_entry n bids b)) (ap (λ (xs : List Bid). (b.name, record { goods = n; bids = xs }) ∷ []) first)

-- a name that is there keeps its place
place_facts : (n : ℕ) (bids : List NamedBid) (name : List ℕ) (k : ℕ) → place_of name (bidders_of n bids) ≡ Some k
    → (k < length (different (names_of bids))) × (bytes_eq name (get_or (different (names_of bids)) k []) ≡ true) × ((j : ℕ) → j < k → bytes_eq name (get_or (different (names_of bids)) j []) ≡ false)
place_facts n bids name k e = position-Some (bytes_eq name) (different (names_of bids)) k [] (sym (place_among n bids name) ∙ e)

pub list_there : (n : ℕ) (bids : List NamedBid) (name : List ℕ) (k : ℕ) → place_of name (bidders_of n bids) ≡ Some k → list_at (bidders_of n bids) k ≡ list_under n name bids
list_there n bids name k e =
    let p = place_facts n bids name k e in
    ap (λ (z : List ℕ × Book). z.1) (get_or-map (entry n bids) (different (names_of bids)) k [] _ p.0)
    ∙ ap (λ (m : List ℕ). (entry n bids m).1) (sym (same_bytes name (get_or (different (names_of bids)) k []) p.1))

name_there : (n : ℕ) (bids : List NamedBid) (name : List ℕ) (k : ℕ) → place_of name (bidders_of n bids) ≡ Some k → name_at (bidders_of n bids) k ≡ name
name_there n bids name k e =
    let p = place_facts n bids name k e in
    ap (λ (z : List ℕ × Book). z.0) (get_or-map (entry n bids) (different (names_of bids)) k [] _ p.0) ∙ sym (same_bytes name (get_or (different (names_of bids)) k []) p.1)

pub gathers_more : (n : ℕ) (bids : List NamedBid) (b : NamedBid) (k : ℕ) → place_of b.name (bidders_of n bids) ≡ Some k → bidders_of n (bids ++ (b ∷ [])) ≡ with_bid_at (bidders_of n bids) k b.bid
gathers_more n bids b k e =
    let p = place_facts n bids b.name k e in
    let there = present n bids b.name k e in
    let f = entry n bids in
    let g = entry n (bids ++ (b ∷ [])) in
    let names : different (names_of (bids ++ (b ∷ []))) ≡ different (names_of bids) = ap different (names_snoc bids b) ∙ different_snoc (names_of bids) b.name ∙ ap (λ t. cond t (different (names_of bids)) (different (names_of bids) ++ (b.name ∷ []))) there in
    let more : bids_under b.name (bids ++ (b ∷ [])) ≡ bids_under b.name bids ++ (b.bid ∷ []) = bids_under_snoc b.name bids b ∙ ap (λ (t : Bool). bids_under b.name bids ++ cond t (b.bid ∷ []) []) (bytes_eq_refl b.name) in
    ap (map g) names ∙ map_at f g b.name (different (names_of bids)) k p.0 p.1 (different_unlike (names_of bids)) p.2 (other_entry n bids b)
    ∙ ap (set (bidders_of n bids) k) (
    ap (λ (xs : List Bid). (b.name, record { goods = n; bids = xs })) more
    ∙ ap₂ (λ (m : List ℕ) (l : Book). (m, record l { bids = l.bids ++ (b.bid ∷ []) })) (sym (name_there n bids b.name k e)) (sym (list_there n bids b.name k e)))

-- ---- the limits that one more bid passes

pub limit_more : (limits : Limits) (n : ℕ) (bids : List NamedBid) (b : NamedBid) (k : ℕ) → place_of b.name (bidders_of n bids) ≡ Some k
    → limit_of limits n bids b ≡ list_limit_of limits (list_at (bidders_of n bids) k) b.bid
unfolding limit_of
limit_more limits n bids b k e = rw (present n bids b.name k e, list_there n bids b.name k e) refl

pub limit_new : (limits : Limits) (n : ℕ) (bids : List NamedBid) (b : NamedBid) → place_of b.name (bidders_of n bids) ≡ None
    → limit_of limits n bids b ≡ cond (nat_le limits.bidders (length (bidders_of n bids))) (Some what.Bidders) (list_limit_of limits (record { goods = n; bids = [] }) b.bid)
unfolding limit_of
limit_new limits n bids b e =
    let gone = sym (among_different b.name (names_of bids)) ∙ absent n bids b.name e in
    rw (gone, bids_under_none b.name bids gone, length-map (different (names_of bids)) (entry n bids)) refl
