use Rattle.std.proofs.Common.{◌≡◌, ◌<◌, ◌∙◌, sym, ap, subst, None, IfOk, ℕ, List, [], length, set, arith}
use Rattle.std.proofs.lemmas.List.{length-map}
use Rattle.std.proofs.lemmas.Result.{IfOk-weaker}
use Rattle.mix_bids.specs.Bids.{Book, IsBid}
use Rattle.mix_text.specs.Bidders.{Named, list_at, name_at, with_bid}
use Rattle.mix_text.specs.Reading.{list_limit_of}
use Rattle.mix_text.proofs.Entries.{map-set_value, value-at}
use Rattle.mix_text.proofs.bidders.Bidders.push_within.Goals as goal
use Rattle.mix_text.proofs.bidders.Bidders.push_within.Goals.{After-index_mut}

-- the list that is borrowed is the one at the place
borrowed : (c : After-index_mut) → c.index_mut.result.now ≡ list_at c.args.self.now c.args.k
borrowed c =
    sym (value-at (λ n. n.bytes) c.self.inside.named.entries c.args.k c.index_mut.result.now ([], record { goods = 0; bids = [] }) c.index_mut.ensures.value)
    ∙ ap (λ (bs : Named). list_at bs c.args.k) c.self.view_is

pub push_within-requires-clause-bid : goal.push_within-requires-clause-bid
push_within-requires-clause-bid c = subst (λ (l : Book). IsBid l.goods c.args.bid) (sym (borrowed c)) c.requires.bid

pub returns-clause-limit : goal.returns-clause-limit
returns-clause-limit c =
    let list : c.index_mut.result.now ≡ list_at c.args.self.now c.args.k =
    sym (value-at (λ n. n.bytes) c.self.inside.named.entries c.args.k c.index_mut.result.now ([], record { goods = 0; bids = [] }) c.index_mut.ensures.value)
    ∙ ap (λ (bs : Named). list_at bs c.args.k) c.self.view_is in
    subst (λ (l : Book). IfOk c.push_within.result (λ limit. limit ≡ list_limit_of c.args.limits.now l c.args.bid)) list c.push_within.ensures.limit

pub returns-clause-added : goal.returns-clause-added
returns-clause-added c =
    let es = c.self.inside.named.entries in
    let k = c.args.k in
    let in_list : k < length es = omega (arith, length-map {B = List ℕ × Book} es (λ e. (e.0.bytes, e.1)), ap length c.self.view_is) in
    let list : c.index_mut.result.now ≡ list_at c.args.self.now k =
    sym (value-at (λ n. n.bytes) es k c.index_mut.result.now ([], record { goods = 0; bids = [] }) c.index_mut.ensures.value) ∙ ap (λ (bs : Named). list_at bs k) c.self.view_is in
    IfOk-weaker c.push_within.result (λ limit. limit ≡ None → c.push_within.new.list ≡ with_bid c.index_mut.result.now c.args.bid) _ (λ limit added none.
    map-set_value (λ n. n.bytes) es k c.push_within.new.list ([], record { goods = 0; bids = [] }) in_list
    ∙ ap (λ (bs : Named). set bs k (name_at bs k, c.push_within.new.list)) c.self.view_is
    ∙ ap (λ (l : Book). set c.args.self.now k (name_at c.args.self.now k, l)) (added none ∙ ap (λ (l : Book). with_bid l c.args.bid) list)) c.push_within.ensures.added
