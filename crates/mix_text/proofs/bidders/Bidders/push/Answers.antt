use Rattle.std.proofs.Common.{◌≡◌, ◌<◌, ◌∙◌, sym, ap, subst, ℕ, List, [], length, map, set, arith}
use Rattle.std.proofs.lemmas.List.{length-map}
use Rattle.std.proofs.lemmas.Result.{on_err_weaker, on_ok_weaker}
use Rattle.mix_bids.specs.Bids.{Book, IsBid}
use Rattle.indexmap.specs.IndexMap.{set_value_at}
use Rattle.mix_text.specs.Bidders.{Named, list_at, name_at, with_bid}
use Rattle.mix_text.proofs.Entries.{map-set_value, set_value-same, value-at}
use Rattle.mix_text.proofs.bidders.Bidders.push.Goals as goal
use Rattle.mix_text.proofs.bidders.Bidders.push.Goals.{After-index_mut}

-- the list that is borrowed is the one at the place
borrowed : (c : After-index_mut) → c.index_mut.result.now ≡ list_at c.args.self.now c.args.k
borrowed c =
    sym (value-at (λ n. n.bytes) c.self.inside.named.entries c.args.k c.index_mut.result.now ([], record { goods = 0; bids = [] }) c.index_mut.ensures.value)
    ∙ ap (λ (bs : Named). list_at bs c.args.k) c.self.view_is

pub push-requires-clause-bid : goal.push-requires-clause-bid
push-requires-clause-bid c = subst (λ (l : Book). IsBid l.goods c.args.bid) (sym (borrowed c)) c.requires.bid

pub push-requires-clause-room : goal.push-requires-clause-room
push-requires-clause-room c = subst (λ (l : Book). length l.bids < 400) (sym (borrowed c)) c.requires.room

pub returns-clause-ok : goal.returns-clause-ok
returns-clause-ok c =
    let es = c.self.inside.named.entries in
    let k = c.args.k in
    let in_list : k < length es = omega (arith, length-map {B = List ℕ × Book} es (λ e. (e.0.bytes, e.1)), ap length c.self.view_is) in
    let list : c.index_mut.result.now ≡ list_at c.args.self.now k =
    sym (value-at (λ n. n.bytes) es k c.index_mut.result.now ([], record { goods = 0; bids = [] }) c.index_mut.ensures.value) ∙ ap (λ (bs : Named). list_at bs k) c.self.view_is in
    on_ok_weaker c.push.result (λ added.
    map-set_value (λ n. n.bytes) es k c.push.new.self ([], record { goods = 0; bids = [] }) in_list
    ∙ ap (λ (bs : Named). set bs k (name_at bs k, c.push.new.self)) c.self.view_is
    ∙ ap (λ (l : Book). set c.args.self.now k (name_at c.args.self.now k, l)) (added ∙ ap (λ (l : Book). with_bid l c.args.bid) list)) c.push.ensures.ok

pub returns-clause-err : goal.returns-clause-err
returns-clause-err c =
    let es = c.self.inside.named.entries in
    on_err_weaker c.push.result (λ same.
    ap (λ list. map (λ e. (e.0.bytes, e.1)) (set_value_at es c.args.k list)) same ∙ ap (map (λ e. (e.0.bytes, e.1))) (set_value-same es c.args.k c.index_mut.result.now c.index_mut.ensures.value)
    ∙ c.self.view_is) c.push.ensures.err
