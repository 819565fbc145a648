use Rattle.std.proofs.Common.{◌≡◌, ◌∙◌, sym, ap, subst, ◌<◌, ◌≤◌, ℕ, List, [], Some, None, length, cond, true, false, Bool, arith}
use Rattle.std.specs.Prelude.{nat_le}
use Rattle.std.proofs.lemmas.Bool.Decides.{nat_tests}
use Rattle.std.proofs.lemmas.Result.{IfOk-weaker}
use Rattle.mix_bids.specs.Bids.{Book, IsBid}
use Rattle.mix_text.specs.Bidders.{Named, list_at, place_of, with_bid_at}
use Rattle.mix_text.specs.Reading.{NamedBid, bidders_of, limit_of, list_limit_of}
use Rattle.mix_text.specs.declared.faults.What.TheVariants as what
use Rattle.mix_text.specs.declared.formats.Limits.{Limits}
use Rattle.mix_text.proofs.Bids.{gathers_more, limit_more, limit_new, list_there}
use Rattle.mix_text.proofs.reading.add_bid.Goals as goal

-- the limit of a first bid, where bidders are too many, and where they aren't
first_past : (limits : Limits) (n : ℕ) (bids : List NamedBid) (b : NamedBid) → place_of b.name (bidders_of n bids) ≡ None → limits.bidders ≤ length (bidders_of n bids)
    → Some what.Bidders ≡ limit_of limits n bids b
first_past limits n bids b e h =
    let t : nat_le limits.bidders (length (bidders_of n bids)) ≡ true = grind (arith, nat_tests) in
    sym (limit_new limits n bids b e ∙ ap (λ (u : Bool). cond u (Some what.Bidders) (list_limit_of limits (record { goods = n; bids = [] }) b.bid)) t)

first_within : (limits : Limits) (n : ℕ) (bids : List NamedBid) (b : NamedBid) → place_of b.name (bidders_of n bids) ≡ None → length (bidders_of n bids) < limits.bidders
    → list_limit_of limits (record { goods = n; bids = [] }) b.bid ≡ limit_of limits n bids b
first_within limits n bids b e h =
    let f : nat_le limits.bidders (length (bidders_of n bids)) ≡ false = grind (arith, nat_tests) in
    sym (limit_new limits n bids b e ∙ ap (λ (u : Bool). cond u (Some what.Bidders) (list_limit_of limits (record { goods = n; bids = [] }) b.bid)) f)

pub push_within-requires-clause-bid : goal.push_within-requires-clause-bid
push_within-requires-clause-bid c =
    let before = c.requires.gathered.0 in
    let same = c.requires.gathered.1 in
    let place : place_of c.args.name.bytes (bidders_of c.args.goods before) ≡ Some c.in-Some.k = ap (place_of c.args.name.bytes) (sym same) ∙ sym c.find.ensures.place ∙ c.in-Some.is in
    let list = ap (λ (z : Named). list_at z c.in-Some.k) same ∙ list_there c.args.goods before c.args.name.bytes c.in-Some.k place in
    subst (λ (n : ℕ). IsBid n c.args.bid) (sym (ap (λ (b : Book). b.goods) list)) c.requires.bid

pub returns-in-Some-clause-limit : goal.returns-in-Some-clause-limit
returns-in-Some-clause-limit c =
    IfOk-weaker c.push_within.result (λ limit. limit ≡ list_limit_of c.args.limits.now (list_at c.args.bidders.now c.in-Some.k) c.args.bid) _ (λ limit passed before same.
    (let b : NamedBid = record { name = c.args.name.bytes; bid = c.args.bid } in
    let place : place_of c.args.name.bytes (bidders_of c.args.goods before) ≡ Some c.in-Some.k = ap (place_of c.args.name.bytes) (sym same) ∙ sym c.find.ensures.place ∙ c.in-Some.is in
    passed ∙ ap (λ (z : Named). list_limit_of c.args.limits.now (list_at z c.in-Some.k) c.args.bid) same ∙ sym (limit_more c.args.limits.now c.args.goods before b c.in-Some.k place))) c.push_within.ensures.limit

pub returns-in-Some-clause-added : goal.returns-in-Some-clause-added
returns-in-Some-clause-added c =
    IfOk-weaker c.push_within.result (λ limit. limit ≡ None → c.push_within.new.self ≡ with_bid_at c.args.bidders.now c.in-Some.k c.args.bid) _ (λ limit added before same none.
    (let b : NamedBid = record { name = c.args.name.bytes; bid = c.args.bid } in
    let place : place_of c.args.name.bytes (bidders_of c.args.goods before) ≡ Some c.in-Some.k = ap (place_of c.args.name.bytes) (sym same) ∙ sym c.find.ensures.place ∙ c.in-Some.is in
    added none ∙ ap (λ (z : Named). with_bid_at z c.in-Some.k c.args.bid) same ∙ sym (gathers_more c.args.goods before b c.in-Some.k place))) c.push_within.ensures.added

pub returns-then-count-limits-clause-limit : goal.returns-then-count-limits-clause-limit
returns-then-count-limits-clause-limit c = λ before same.
    let b : NamedBid = record { name = c.args.name.bytes; bid = c.args.bid } in
    let place : place_of c.args.name.bytes (bidders_of c.args.goods before) ≡ None = ap (place_of c.args.name.bytes) (sym same) ∙ sym c.find.ensures.place ∙ c.in-None.is in
    first_past c.args.limits.now c.args.goods before b place (omega (arith, c.count.ensures, ap (λ (z : Named). length z) same))

pub returns-else-count-limits-clause-limit : goal.returns-else-count-limits-clause-limit
returns-else-count-limits-clause-limit c =
    IfOk-weaker c.add_bidder.result (λ limit. limit ≡ list_limit_of c.args.limits.now (record { goods = c.args.goods; bids = [] }) c.args.bid) _ (λ limit passed before same.
    (let b : NamedBid = record { name = c.args.name.bytes; bid = c.args.bid } in
    let place : place_of c.args.name.bytes (bidders_of c.args.goods before) ≡ None = ap (place_of c.args.name.bytes) (sym same) ∙ sym c.find.ensures.place ∙ c.in-None.is in
    let room : length (bidders_of c.args.goods before) < c.args.limits.now.bidders = let count = ap (λ (z : Named). length z) same in omega (arith, c.count.ensures) in
    passed ∙ first_within c.args.limits.now c.args.goods before b place room)) c.add_bidder.ensures.limit
