-- An auction to which a bid is added, or which a bidder leaves, is an auction.
use Rattle.std.proofs.Common.{◌≡◌, ◌<◌, ◌≤◌, ◌+◌, ℕ, suc, ℤ, List, [], ◌∷◌, ◌++◌, length, map, sym, ◌∙◌, ap, arith, refl, subst, Bool, true, false, cond, Option, Some, None}
use Rattle.std.specs.Prelude.{nat_le, remove}
use Rattle.std.specs.Str.{bytes_eq}
use Rattle.std.proofs.Math.Seq.{map-set_same}
use Rattle.std.proofs.lemmas.List.{get_or-set_same, length-append, length-map, length-set, map-append, replicate-append-replicate}
use Rattle.std.proofs.lemmas.List.Edits.{length-remove}
use Rattle.std.proofs.lemmas.List.Elements.{All-cons, All-nil, All-push, All-set}
use Rattle.std.proofs.lemmas.List.Quantifiers.{position-Some}
use Rattle.indexmap.proofs.SetLemmas.{map-remove}
use Rattle.mix_num.specs.Orders.{places}
use Rattle.mix_bids.specs.Bids.{Book, IsBid}
use Rattle.mix_bids.specs.declared.bid.Bid.{Bid}
use Rattle.mix_text.specs.Auctions.{AuctionText, IsAuction, IsBook}
use Rattle.mix_text.specs.Bidders.{Named, list_at, name_at, place_of, with_bid}
use Rattle.mix_text.specs.Caps.{cap_at, no_caps}
use Rattle.mix_text.specs.Changes.{cap_of_name, cap_under, limit_of_added, limit_under, no_bids, one_bid, order_without, with_added, with_bid_under, without_at}
use Rattle.mix_text.specs.Formats.{limits_of}
use Rattle.mix_text.specs.Names.{AreNames, is_among}
use Rattle.mix_text.specs.Orders.{IsTieOrder}
use Rattle.mix_text.specs.Reading.{is_negative, list_limit_of}
use Rattle.mix_text.specs.Spelling.{is_name}
use Rattle.mix_text.specs.declared.faults.What.{What}
use Rattle.mix_text.specs.declared.faults.What.TheVariants as what
use Rattle.mix_text.proofs.BiddersWithout.{all_left, caps_left, names_left, no_caps_left}
use Rattle.mix_text.proofs.CapsOfMore.{caps_of_more, caps_with_one}
use Rattle.mix_text.proofs.Entries.{list_any-absent, position-map}
use Rattle.mix_text.proofs.FormatLimits.{limits_are}
use Rattle.mix_text.proofs.Gathering.{different_same}
use Rattle.mix_text.proofs.OrdersWithOne.{served_last}
use Rattle.mix_text.proofs.OrdersWithout.{order_left, places_without}
use Rattle.mix_text.proofs.OwnPlaces.{unlike_names}
use Rattle.mix_text.proofs.SoundAuctions.{has_room, not_at, unlike_snoc}
use Rattle.mix_text.proofs.TieOrders.{places_more}

abbrev nobody : List ℕ × Book
nobody = ([], record { goods = 0; bids = [] })

-- where a name is found there is a bidder
pub found_below : (name : List ℕ) (bidders : Named) (k : ℕ) → place_of name bidders ≡ Some k → k < length bidders
found_below name bidders k e = (position-Some (λ (b : List ℕ × Book). bytes_eq name b.0) bidders k nobody e).0

-- ---- a bidder leaves

without_one : (a : AuctionText) (k m : ℕ) → IsAuction a → k ≤ m → length a.bidders ≡ suc m → length (remove a.bidders k) ≡ m → IsAuction (without_at a k)
without_one a k m s h size left =
    let below : k < length a.bidders = omega (arith, h, size) in
    let count = length-map a.bidders (λ (bidder : List ℕ × Book). bidder.0) in
    record {
      format = s.format;
      some_goods = s.some_goods;
      few_goods = s.few_goods;
      goods = s.goods;
      supply = s.supply;
      reserve = s.reserve;
      names = subst AreNames (sym (map-remove (λ (bidder : List ℕ × Book). bidder.0) a.bidders k)) (names_left (map (λ (bidder : List ℕ × Book). bidder.0) a.bidders) k (omega (arith, count, below)) s.names);
      few_bidders = let few = s.few_bidders in omega (arith, few, size, left);
      books = all_left (λ (bidder : List ℕ × Book). IsBook (length a.goods) bidder.1) a.bidders k below s.books;
      caps = caps_left a.bidders a.caps k below s.caps;
      order = subst (λ (n : ℕ). IsTieOrder n (order_without k a.order)) (sym left) (order_left k m a.order h (subst (λ (n : ℕ). IsTieOrder n a.order) size s.order));
      first_format = λ e. ap (order_without k) (s.first_format e ∙ ap places size) ∙ places_without k m h ∙ ap places (sym left);
      uncapped = λ e. ap (λ (caps : List (Option ℤ)). remove caps k) (s.uncapped e ∙ ap no_caps size) ∙ no_caps_left m k h ∙ ap no_caps (sym left);
    }

pub without_auction : (a : AuctionText) (k : ℕ) → IsAuction a → k < length a.bidders → IsAuction (without_at a k)
without_auction a k s h = let size = length-remove a.bidders k h in without_one a k (length (remove a.bidders k)) s (omega (arith, h, size)) (omega (arith, size)) refl

-- ---- a bid is added

-- a list that may have one bid more has room for it
pub list_has_room : (a : AuctionText) (name : List ℕ) (bid : Bid) (k : ℕ) → place_of name a.bidders ≡ Some k → IsAuction (with_added a name bid) → length (list_at a.bidders k).bids < 400
list_has_room a name bid k e s =
    let below = found_below name a.bidders k e in
    let longer = with_bid (list_at a.bidders k) bid in
    let there : IsAuction (with_bid_under a name bid (Some k)) = subst (λ (place : Option ℕ). IsAuction (with_bid_under a name bid place)) e s in
    let size = length-set a.bidders k (name_at a.bidders k, longer) in
    let book : IsBook (length a.goods) longer = subst (λ (bidder : List ℕ × Book). IsBook (length a.goods) bidder.1) (get_or-set_same a.bidders k (name_at a.bidders k, longer) nobody below) (there.books k nobody (omega (arith, size, below))) in
    let few = book.few in
    let count = length-append (list_at a.bidders k).bids (bid ∷ []) in
    omega (arith, few, count)

-- a bid more of a bidder who is there
more_there : (a : AuctionText) (name : List ℕ) (bid : Bid) (k : ℕ) → IsAuction a → IsBid (length a.goods) bid → k < length a.bidders → (is_negative bid ≡ true → cap_at a.caps k ≡ None)
    → length (list_at a.bidders k).bids < 400 → IsAuction (with_bid_under a name bid (Some k))
more_there a name bid k s is below apart room =
    let entry : List ℕ × Book = (name_at a.bidders k, with_bid (list_at a.bidders k) bid) in
    let size = length-set a.bidders k entry in
    let book = s.books k nobody below in
    let count = length-append (list_at a.bidders k).bids (bid ∷ []) in
    record {
      format = s.format;
      some_goods = s.some_goods;
      few_goods = s.few_goods;
      goods = s.goods;
      supply = s.supply;
      reserve = s.reserve;
      names = subst AreNames (sym (map-set_same (λ (bidder : List ℕ × Book). bidder.0) a.bidders k entry nobody refl)) s.names;
      few_bidders = let few = s.few_bidders in omega (arith, few, size);
      books = All-set (λ (bidder : List ℕ × Book). IsBook (length a.goods) bidder.1) a.bidders k entry
          (record { goods = book.goods; some = omega (arith, count); few = omega (arith, count, room); bids = All-push (IsBid (length a.goods)) (list_at a.bidders k).bids bid book.bids is }) s.books;
      caps = caps_of_more (length a.goods) a.bidders a.caps bid k below is apart s.caps;
      order = subst (λ (n : ℕ). IsTieOrder n a.order) (sym size) s.order;
      first_format = λ e. s.first_format e ∙ ap places (sym size);
      uncapped = λ e. s.uncapped e ∙ ap no_caps (sym size);
    }

-- the first bid of a new bidder
more_new : (a : AuctionText) (name : List ℕ) (bid : Bid) → IsAuction a → is_name name ≡ true → IsBid (length a.goods) bid → place_of name a.bidders ≡ None → length a.bidders < 256
    → IsAuction (with_bid_under a name bid None)
more_new a name bid s form is absent room =
    let entry : List ℕ × Book = (name, one_bid (length a.goods) bid) in
    let m = length a.bidders in
    let size : length (a.bidders ++ entry ∷ []) ≡ m + 1 = length-append a.bidders (entry ∷ []) in
    let names = map (λ (bidder : List ℕ × Book). bidder.0) a.bidders in
    let new : is_among name names ≡ false = list_any-absent (bytes_eq name) names (position-map (λ (bidder : List ℕ × Book). bidder.0) (bytes_eq name) a.bidders ∙ absent) in
    record {
      format = s.format;
      some_goods = s.some_goods;
      few_goods = s.few_goods;
      goods = s.goods;
      supply = s.supply;
      reserve = s.reserve;
      names = subst AreNames (sym (map-append (λ (bidder : List ℕ × Book). bidder.0) a.bidders (entry ∷ [])))
          (record { form = All-push (λ x. is_name x ≡ true) names name s.names.form form; unlike = different_same (names ++ name ∷ []) (unlike_snoc names name (unlike_names names s.names) new) });
      few_bidders = omega (arith, size, room);
      books = All-push (λ (bidder : List ℕ × Book). IsBook (length a.goods) bidder.1) a.bidders entry s.books
          (record { goods = refl; some = omega arith; few = omega arith; bids = All-cons (IsBid (length a.goods)) bid [] is (All-nil (IsBid (length a.goods))) });
      caps = caps_with_one a.bidders a.caps entry s.caps;
      order = subst (λ (n : ℕ). IsTieOrder n (a.order ++ m ∷ [])) (sym size) (served_last m a.order s.order);
      first_format = λ e. ap (λ (z : List ℕ). z ++ m ∷ []) (s.first_format e) ∙ sym (places_more m) ∙ ap places (sym size);
      uncapped = λ e. ap (λ (z : List (Option ℤ)). z ++ None ∷ []) (s.uncapped e) ∙ replicate-append-replicate m 1 None ∙ ap no_caps (sym size);
    }

-- a limit that isn't passed first
not_first : (t : Bool) (w : What) (rest : Option What) → cond t (Some w) rest ≡ None → (t ≡ false) × (rest ≡ None)
not_first true w rest e = cc e
not_first false w rest e = (refl, e)

pub added_auction : (a : AuctionText) (name : List ℕ) (bid : Bid) → IsAuction a → is_name name ≡ true → IsBid (length a.goods) bid → (is_negative bid ≡ true → cap_of_name a name ≡ None) → limit_of_added a name bid ≡ None
    → IsAuction (with_added a name bid)
added_auction a name bid s form is apart limit = at (place_of name a.bidders) refl apart limit
  where
    at : (place : Option ℕ) → place_of name a.bidders ≡ place → (is_negative bid ≡ true → cap_under a place ≡ None) → limit_under (limits_of a.format) a bid place ≡ None → IsAuction (with_bid_under a name bid place)
    at (Some k) e apart limit =
        let room = has_room (limits_of a.format) (list_at a.bidders k) bid limit in
        let short = room.bids in
        let are = limits_are a.format in
        let most = are.bids in
        more_there a name bid k s is (found_below name a.bidders k e) apart (omega (arith, short, most))
    at None e apart limit =
        let tests = not_first (nat_le (limits_of a.format).bidders (length a.bidders)) what.Bidders (list_limit_of (limits_of a.format) (no_bids (length a.goods)) bid) limit in
        let few = not_at (limits_of a.format).bidders (length a.bidders) tests.0 in
        let are = limits_are a.format in
        let most = are.bidders in
        more_new a name bid s form is e (omega (arith, few, most))
