-- A bid of positive weight more, of a bidder without a cap: no less is wanted.
use Rattle.std.proofs.Common.{◌≡◌, ◌≢◌, ℕ, suc, ◌+◌, ◌≤◌, ◌<◌, ◌⊎◌, inl, inr, ℤ, pos, ◌+ℤ◌, ◌*ℤ◌, ◌≤ℤ◌, List, [], ◌∷◌, ◌++◌, length, get_or, refl, sym, ap, ap₂, subst, ◌∙◌, arith, Option, Some, None}
use Rattle.std.proofs.lemmas.Int.{ints}
use Rattle.std.proofs.lemmas.List.{get_or-set_other, get_or-set_same, get_or_append_left, length-append, length-set}
use Rattle.std.proofs.Math.Seq.{get_or-append_seam}
use Rattle.mix_num.specs.Vectors.{Vector}
use Rattle.mix_num.proofs.Products.{product_grows}
use Rattle.mix_bids.specs.Bids.{Book, IsBid, utility}
use Rattle.mix_bids.specs.Offers.{Offers, gain}
use Rattle.mix_bids.specs.declared.bid.Bid.{Bid}
use Rattle.mix_bids.proofs.Gains.{gain_is, offered_within}
use Rattle.mix_market.specs.Lyapunov.{IsBelow, sum_of}
use Rattle.mix_text.specs.Auctions.{AuctionText, IsAuction}
use Rattle.mix_text.specs.Bidders.{list_at, name_at, place_of, with_bid}
use Rattle.mix_text.specs.Caps.{cap_at}
use Rattle.mix_text.specs.Changes.{cap_of_name, cap_under, one_bid, with_added, with_bid_under}
use Rattle.mix_text.proofs.ChangedAuctions.{found_below}
use Rattle.mix_answer.specs.Refusals.{AreConvex}
use Rattle.mix_answer.specs.Utilities.{entrant_at, entrant_utility, utilities_of}
use Rattle.mix_bids.specs.Caps.{utility_under}
use Rattle.mix_answer.proofs.Entrants.{length-utilities, utility-there}
use Rattle.mix_answer.proofs.TrueRefusals.{list_at_ok}
use Rattle.mix_cap.proofs.UnderCaps.{under_keeps_laws}
use Rattle.mix_law.specs.Clearings.{bidder_utility}
use Rattle.mix_clearing.specs.Utilities.{KeepLaws}
use Rattle.mix_law.specs.Members.{KeepsLaws}
use Rattle.mix_clearing.specs.Scarcity.{WantsNoLess}
use Rattle.mix_scarcity.specs.Changes.{IsScarcerAuction}
use Rattle.mix_scarcity.proofs.EachWants.{all_want}

abbrev nobody : List ℕ × Book
nobody = ([], record { goods = 0; bids = [] })

-- what a bid gains never rises with prices
pub gain-falls : (n : ℕ) (vs : Offers) (x y : Vector) → length vs ≤ n → IsBelow n x y → gain vs y ≤ℤ gain vs x
gain-falls n vs x y few h =
    let r = gain_is vs y in
    let w = offered_within vs r.place r.value r.offered in
    let u = (gain_is vs x).upper r.place r.value r.offered in
    let b = h r.place (omega arith) in
    let e = r.reached in
    omega (arith, ints)

bid-falls : (n : ℕ) (bid : Bid) → IsBid n bid → pos 0 ≤ℤ bid.weight → (x y : Vector) → IsBelow n x y → (bid.weight *ℤ gain bid.values.items y) ≤ℤ (bid.weight *ℤ gain bid.values.items x)
bid-falls n bid is some x y h =
    let size = is.offers.size in
    product_grows bid.weight (gain bid.values.items y) (gain bid.values.items x) some (gain-falls n bid.values.items x y (omega arith) h)

-- the utility of a list with one bid more
utility-more : (bs : List Bid) (bid : Bid) (x : Vector) → utility (bs ++ bid ∷ []) x ≡ utility bs x +ℤ (bid.weight *ℤ gain bid.values.items x)
utility-more [] bid x = omega (arith, ints)
utility-more (b ∷ bs) bid x = let a = utility-more bs bid x in omega (arith, ints)

pub same_wants : (n : ℕ) (f g : Vector → ℤ) → f ≡ g → WantsNoLess n f g
same_wants n f g e x y h = let a = ap (λ (u : Vector → ℤ). u x) e in let b = ap (λ (u : Vector → ℤ). u y) e in omega (arith, ints)

pub same_entrant : (a b : AuctionText) (j : ℕ) → list_at b.bidders j ≡ list_at a.bidders j → cap_at b.caps j ≡ cap_at a.caps j → entrant_at b j ≡ entrant_at a j
same_entrant a b j list cap = ap₂ (λ (l : Book) (c : Option ℤ). record { list = l; cap = c }) list cap

module _ (a : AuctionText) (sound : IsAuction a) (bid : Bid) (is : IsBid (length a.goods) bid) where
  abbrev n : ℕ
  n = length a.goods

  -- a bidder who is there
  module _ (name : List ℕ) (k : ℕ) (below : k < length a.bidders) (open_ended : cap_at a.caps k ≡ None) where
    abbrev b : AuctionText
    b = with_bid_under a name bid (Some k)

    abbrev entry : List ℕ × Book
    entry = (name_at a.bidders k, with_bid (list_at a.bidders k) bid)

    pub size : length b.bidders ≡ length a.bidders
    size = length-set a.bidders k entry

    pub own_utility : (x : Vector) → entrant_utility (entrant_at b k) x ≡ entrant_utility (entrant_at a k) x +ℤ (bid.weight *ℤ gain bid.values.items x)
    own_utility x =
        let list = ap (λ (e : List ℕ × Book). e.1.bids) (get_or-set_same a.bidders k entry nobody below) in
        let now = ap₂ (λ (c : Option ℤ) (bs : List Bid). utility_under c bs x) open_ended list in
        let old = ap (λ (c : Option ℤ). utility_under c (list_at a.bidders k).bids x) open_ended in
        let more = utility-more (list_at a.bidders k).bids bid x in
        omega (arith, ints)

    -- every other bidder's utility stays
    pub other_utility : (j : ℕ) → j < length a.bidders → j ≢ k → bidder_utility (utilities_of a) j ≡ bidder_utility (utilities_of b) j
    other_utility j l other =
        let same = same_entrant a b j (ap (λ (e : List ℕ × Book). e.1) (get_or-set_other a.bidders k j entry nobody other)) refl in
        utility-there a j l ∙ ap entrant_utility (sym same) ∙ sym (utility-there b j (omega (arith, l, size)))

    wants_there : pos 0 ≤ℤ bid.weight → (j : ℕ) → j < length a.bidders → (j ≡ k) ⊎ (j ≢ k) → WantsNoLess n (bidder_utility (utilities_of a) j) (bidder_utility (utilities_of b) j)
    wants_there some j l (inr other) x y h = same_wants n (bidder_utility (utilities_of a) j) (bidder_utility (utilities_of b) j) (other_utility j l other) x y h
    wants_there some j l (inl e) x y h =
        let P : ℕ → Vector → Type 0 = λ i z. entrant_utility (entrant_at b i) z ≡ entrant_utility (entrant_at a i) z +ℤ (bid.weight *ℤ gain bid.values.items z) in
        let p = subst (λ (i : ℕ). P i x) (sym e) (own_utility x) in
        let q = subst (λ (i : ℕ). P i y) (sym e) (own_utility y) in
        let r = bid-falls n bid is some x y h in
        let f = utility-there a j l in
        let g = utility-there b j (omega (arith, l, size)) in
        let fx = ap (λ (u : Vector → ℤ). u x) f in
        let fy = ap (λ (u : Vector → ℤ). u y) f in
        let gx = ap (λ (u : Vector → ℤ). u x) g in
        let gy = ap (λ (u : Vector → ℤ). u y) g in
        omega (arith, ints)

    pub same_or_other : (j : ℕ) → (j ≡ k) ⊎ (j ≢ k)
    same_or_other j = grind arith

    pub all_want_there : pos 0 ≤ℤ bid.weight → WantsNoLess n (sum_of (utilities_of a)) (sum_of (utilities_of b))
    all_want_there some =
        let m = length-utilities a in
        let l = length-utilities b in
        all_want n (utilities_of a) (utilities_of b) (omega (arith, m, l, size))
        (λ j h. wants_there some j (omega (arith, h, m)) (same_or_other j)) (λ j h i. absurd (omega (arith, h, i, m, l, size)))

  -- a new bidder
  module _ (name : List ℕ) where
    abbrev c : AuctionText
    c = with_bid_under a name bid None

    abbrev newcomer : List ℕ × Book
    newcomer = (name, one_bid (length a.goods) bid)

    longer : length c.bidders ≡ suc (length a.bidders)
    longer = length-append a.bidders (newcomer ∷ []) ∙ (let e : length a.bidders + 1 ≡ suc (length a.bidders) = omega arith in e)

    caps-count : length a.caps ≡ length a.bidders
    caps-count = sound.caps.size

    wants_before : (j : ℕ) → j < length a.bidders → WantsNoLess n (bidder_utility (utilities_of a) j) (bidder_utility (utilities_of c) j)
    wants_before j l =
        let same = same_entrant a c j (ap (λ (e : List ℕ × Book). e.1) (get_or_append_left a.bidders (newcomer ∷ []) nobody j l))
        (get_or_append_left a.caps (None ∷ []) None j (omega (arith, l, caps-count))) in
        same_wants n (bidder_utility (utilities_of a) j) (bidder_utility (utilities_of c) j) (utility-there a j l ∙ ap entrant_utility (sym same) ∙ sym (utility-there c j (omega (arith, l, longer))))

    last_utility : (j : ℕ) → j ≡ length a.bidders → (x : Vector) → entrant_utility (entrant_at c j) x ≡ bid.weight *ℤ gain bid.values.items x
    last_utility j e x =
        let there : get_or c.bidders j nobody ≡ newcomer = ap (λ (i : ℕ). get_or c.bidders i nobody) e ∙ get_or-append_seam a.bidders newcomer [] nobody in
        let cap : cap_at c.caps j ≡ None = ap (λ (i : ℕ). get_or c.caps i None) (e ∙ sym caps-count) ∙ get_or-append_seam a.caps None [] None in
        let list = ap (λ (b : List ℕ × Book). b.1.bids) there in
        let now = ap₂ (λ (o : Option ℤ) (bs : List Bid). utility_under o bs x) cap list in
        omega (arith, ints)

    falls_last : pos 0 ≤ℤ bid.weight → (j : ℕ) → j ≡ length a.bidders → (x y : Vector) → IsBelow n x y → bidder_utility (utilities_of c) j y ≤ℤ bidder_utility (utilities_of c) j x
    falls_last some j e x y h =
        let g = utility-there c j (omega (arith, e, longer)) in
        let gx = ap (λ (u : Vector → ℤ). u x) g in
        let gy = ap (λ (u : Vector → ℤ). u y) g in
        let p = last_utility j e x in
        let q = last_utility j e y in
        let r = bid-falls n bid is some x y h in
        omega (arith, ints)

    pub all_want_new : pos 0 ≤ℤ bid.weight → WantsNoLess n (sum_of (utilities_of a)) (sum_of (utilities_of c))
    all_want_new some =
        let m = length-utilities a in
        let l = length-utilities c in
        all_want n (utilities_of a) (utilities_of c) (omega (arith, m, l, longer))
        (λ j h. wants_before j (omega (arith, h, m))) (λ j h i. falls_last some j (omega (arith, h, i, m, l, longer)))

-- so where a bid of positive weight is added to a list without a cap, or as that of a new bidder, no less is wanted
pub added_wants : (a : AuctionText) (name : List ℕ) (bid : Bid) → IsAuction a → IsBid (length a.goods) bid → pos 0 ≤ℤ bid.weight → cap_of_name a name ≡ None
    → WantsNoLess (length a.goods) (sum_of (utilities_of a)) (sum_of (utilities_of (with_added a name bid)))
added_wants a name bid sound is some open_ended = at (place_of name a.bidders) refl open_ended
  where
    at : (place : Option ℕ) → place_of name a.bidders ≡ place → cap_under a place ≡ None → WantsNoLess (length a.goods) (sum_of (utilities_of a)) (sum_of (utilities_of (with_bid_under a name bid place)))
    at None e o = all_want_new a sound bid is name some
    at (Some k) e o = all_want_there a sound bid is name k (found_below name a.bidders k e) o some

-- the utilities of convex bidders keep the laws
pub auction_laws : (a : AuctionText) → IsAuction a → AreConvex a → KeepLaws (length a.supply) (utilities_of a)
auction_laws a sound convex k l =
    let n = length-utilities a in
    let below : k < length a.bidders = omega (arith, n, l) in
    let book = list_at_ok a k sound below in
    subst (λ (m : ℕ). KeepsLaws m (bidder_utility (utilities_of a) k)) (sym sound.supply.0)
    (subst (λ (f : Vector → ℤ). KeepsLaws (length a.goods) f) (sym (utility-there a k below))
    (under_keeps_laws (length a.goods) (cap_at a.caps k) (list_at a.bidders k).bids book.bids book.few (λ c e. (sound.caps.range k c e, sound.caps.positive k c e)) (convex k below)).laws)

-- so the auction with it is scarcer
pub added_scarcer : (a : AuctionText) (name : List ℕ) (bid : Bid) → IsAuction a → IsBid (length a.goods) bid → pos 0 ≤ℤ bid.weight → cap_of_name a name ≡ None → IsScarcerAuction a (with_added a name bid)
added_scarcer a name bid sound is some open_ended = at (place_of name a.bidders) (wider (utilities_of (with_added a name bid)) (added_wants a name bid sound is some open_ended))
  where
    wider : (others : List (Vector → ℤ)) → WantsNoLess (length a.goods) (sum_of (utilities_of a)) (sum_of others) → WantsNoLess (length a.supply) (sum_of (utilities_of a)) (sum_of others)
    wider others w = subst (λ (m : ℕ). WantsNoLess m (sum_of (utilities_of a)) (sum_of others)) (sym sound.supply.0) w

    at : (place : Option ℕ) → WantsNoLess (length a.supply) (sum_of (utilities_of a)) (sum_of (utilities_of (with_bid_under a name bid place))) → IsScarcerAuction a (with_bid_under a name bid place)
    at None w = record { goods = refl; wanted = w; less = λ i h. omega (arith, ints); higher = λ i h. omega (arith, ints) }
    at (Some k) w = record { goods = refl; wanted = w; less = λ i h. omega (arith, ints); higher = λ i h. omega (arith, ints) }
