use Rattle.std.proofs.Common.{◌≡◌, ◌∙◌, ℕ, suc, ◌<◌, List, ℤ, [], length, map, get_or, sym, ap, subst, arith}
use Rattle.std.proofs.lemmas.List.{length-map}
use Rattle.mix_num.specs.Orders.{IsOrder, place_at}
use Rattle.mix_num.specs.Sellers.{seller_gain}
use Rattle.mix_num.specs.Tables.{IsProper}
use Rattle.mix_num.specs.Vectors.{Vector}
use Rattle.mix_law.specs.Demands.{IsTableOf}
use Rattle.mix_text.proofs.TieOrders.{is_order}
use Rattle.mix_seller.specs.declared.seller.Seller.{Seller}
use Rattle.mix_seller.specs.Sellers.{reserve_of, supply_of}
use Rattle.mix_market.specs.Markets.{goods_of, members_of, seller_of}
use Rattle.mix_law.specs.Clearings.{bidder_utility}
use Rattle.mix_clearing.proofs.MarketUtilities.{member_utility}
use Rattle.mix_serve.proofs.FilledRows.{one_more_row, rows-tables}
use Rattle.mix_serve.proofs.filling.tables_of.Given.{Over}
use Rattle.mix_serve.proofs.filling.tables_of.Goals as goal

pub loop-turn-preserved : goal.loop-turn-preserved
loop-turn-preserved g c =
    let f = g.D.Convex.function in
    let market = c.args.market.now in
    let order = c.args.order.now in
    let n = goods_of market in
    let turn = c.loop-turn.turn in
    let row = get_or c.fill.new.self.rows turn [] in
    let invariant = c.loop-turn.invariant in
    let inside : c.place.result < length (members_of market) =
    let w = c.requires.order.within turn (let s = c.requires.order.size in omega arith) in omega (arith, c.place.ensures, w) in
    let here = ap (λ (xs : List g.row.D.Denot). get_or xs c.place.result c.index-members-place.result) c.members-members.ensures in
    let own = member_utility f (members_of market) c.place.result c.index-members-place.result inside (c.index-members-place.is ∙ here)
    ∙ ap (λ (k : ℕ). bidder_utility (map f (members_of market)) k) c.place.ensures in
    let table = subst (λ (u : Vector → ℤ). IsTableOf n u c.args.prices.now.items row) own (subst (λ (k : ℕ). IsTableOf k (f c.index-members-place.result) c.args.prices.now.items row) invariant.goods c.fill.ensures.table) in
    let proper = subst (λ (k : ℕ). IsProper k row) invariant.goods c.fill.ensures.proper in
    record {
      goods = c.fill.ensures.goods ∙ invariant.goods;
      count = c.fill.ensures.members ∙ invariant.count;
      tables = one_more_row (λ j row. IsTableOf n (bidder_utility (map f (members_of market)) (place_at order j)) c.args.prices.now.items row) c.loop-turn.tables.rows c.fill.new.self.rows turn invariant.tables table c.fill.ensures.others;
      proper = one_more_row (λ j row. IsProper n row) c.loop-turn.tables.rows c.fill.new.self.rows turn invariant.proper proper c.fill.ensures.others;
    }

-- all members have had their turn
end : (g : Over) (c : goal.After-fill-2 g) → c.loop-turn.turn ≡ length (members_of c.args.market.now)
end g c =
    let size = c.requires.order.size in
    let turn-end = c.loop-turn.auto.turn-end in
    let out = c.loop-turn-test.false in
    omega (arith, c.count-turn-end.ensures)

last : (g : Over) (c : goal.After-fill-2 g) → length c.members-members.result.now ≡ length (members_of c.args.market.now)
last g c = ap (λ (xs : List g.row.D.Denot). length xs) c.members-members.ensures

seller-same : (g : Over) (c : goal.After-fill-2 g) → seller_gain (supply_of c.seller-2.result.now) (reserve_of c.seller-2.result.now) ≡ seller_gain (supply_of (seller_of c.args.market.now)) (reserve_of (seller_of c.args.market.now))
seller-same g c = ap (λ (s : Seller). seller_gain (supply_of s) (reserve_of s)) c.seller-2.ensures

pub returns-clause-tables : goal.returns-clause-tables
returns-clause-tables g c =
    let f = g.D.Convex.function in
    let market = c.args.market.now in
    let order = c.args.order.now in
    let n : ℕ = goods_of market in
    let fs = map f (members_of market) in
    let m : ℕ = length order in
    let p = c.args.prices.now.items in
    let seller = seller_gain (supply_of (seller_of market)) (reserve_of (seller_of market)) in
    let invariant = c.loop-turn.invariant in
    let stop = end g c in
    let size : m ≡ length (members_of market) = c.requires.order.size in
    let at : length c.members-members.result.now ≡ m = last g c ∙ sym size in
    let before : (j : ℕ) → j < m → IsTableOf n (bidder_utility fs (place_at order j)) p (get_or c.fill-2.new.self.rows j []) =
    λ j h. subst (λ (row : List ℤ). IsTableOf n (bidder_utility fs (place_at order j)) p row) (sym (c.fill-2.ensures.others j (omega arith))) (invariant.tables j (omega arith)) in
    let row = get_or c.fill-2.new.self.rows m [] in
    let own = subst (λ (i : ℕ). IsTableOf c.loop-turn.tables.goods (seller_gain (supply_of c.seller-2.result.now) (reserve_of c.seller-2.result.now)) p (get_or c.fill-2.new.self.rows i [])) at c.fill-2.ensures.table in
    let own2 = subst (λ (u : Vector → ℤ). IsTableOf c.loop-turn.tables.goods u p row) (seller-same g c) own in
    let own3 = subst (λ (i : ℕ). IsTableOf i seller p row) invariant.goods own2 in
    let ordered = subst (λ (k : ℕ). IsOrder k order) (sym (length-map (members_of market) f)) (is_order (length (members_of market)) order c.requires.order) in
    rows-tables fs (supply_of (seller_of market)) (reserve_of (seller_of market)) p order c.fill-2.new.self.rows ordered (c.fill-2.ensures.members ∙ invariant.count ∙ ap suc (sym size)) before own3

pub returns-clause-proper : goal.returns-clause-proper
returns-clause-proper g c =
    let n : ℕ = goods_of c.args.market.now in
    let m : ℕ = length (members_of c.args.market.now) in
    let invariant = c.loop-turn.invariant in
    let at = last g c in
    let stop = end g c in
    let own = subst (λ (i : ℕ). IsProper c.loop-turn.tables.goods (get_or c.fill-2.new.self.rows i [])) at c.fill-2.ensures.proper in
    let here = subst (λ (i : ℕ). IsProper i (get_or c.fill-2.new.self.rows m [])) invariant.goods own in
    let count : length c.fill-2.new.self.rows ≡ suc m = c.fill-2.ensures.members ∙ invariant.count in
    λ j h. one_more_row (λ i r. IsProper n r) c.loop-turn.tables.rows c.fill-2.new.self.rows m (λ i l. invariant.proper i (omega arith)) here
    (λ i ne. c.fill-2.ensures.others i (λ e. ne (e ∙ at))) j (omega arith)
