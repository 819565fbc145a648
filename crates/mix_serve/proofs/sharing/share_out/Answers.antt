use Rattle.std.proofs.Common.{◌≡◌, ◌∙◌, ℕ, suc, List, ◌+◌, ◌-◌, ◌*◌, ◌<◌, get_or, [], ◌∷◌, ◌++◌, length, map, take, drop, sym, ap, ap₂, subst, arith}
use Rattle.std.proofs.lemmas.List.{length-map, map-append}
use Rattle.std.proofs.Math.Seq.{take-append_seam}
use Rattle.std.specs.Option.{option_to_list}
use Rattle.mix_num.specs.Orders.{place_at}
use Rattle.mix_num.specs.declared.pair.Tight.{Tight}
use Rattle.mix_seller.specs.Sellers.{reserve_of, supply_of}
use Rattle.mix_market.specs.Markets.{members_of, seller_of}
use Rattle.mix_law.specs.Clearings.{IsSolution}
use Rattle.mix_serve.specs.Answers.{AreFirstPairs}
use Rattle.mix_serve.proofs.MarketShares.{ArePutBack, market-lies, market-solution}
use Rattle.mix_serve.proofs.sharing.share_out.Given.{Over}
use Rattle.mix_serve.proofs.sharing.share_out.Goals as goal

pub share-requires-clause-lies : goal.share-requires-clause-lies
share-requires-clause-lies g c =
    let ready = c.in_ok-tables.ensures in
    market-lies c.args.market.now c.args.order.now c.args.prices.now.items c.requires.order c.requires.range.0 c.requires.least c.in_ok-tables.tables.goods c.in_ok-tables.tables.rows c.supply-supply.result.now.items ready.goods ready.tables (c.supply-supply.ensures.value ∙ ap supply_of c.seller.ensures)

pub share-requires-clause-places : goal.share-requires-clause-places
share-requires-clause-places g c =
    let count = ap (λ xs. length xs) c.members-members.ensures in
    let ready = c.in_ok-tables.ensures.members in
    let count_shared = c.in_ok-shared.ensures.count in
    let now = ap (λ xs. length xs) c.deref_mut.ensures.value in
    omega arith

-- a pair for each member and each good
pairs_count : (members rows len goods room : ℕ) → rows ≡ suc members → len ≡ goods → room ≡ members * len → room ≡ (rows - 1) * goods
pairs_count members rows len goods room r l e = e ∙ ap₂ (λ (m n : ℕ). m * n) (let h : members ≡ rows - 1 = omega arith in h) l

pub share-requires-clause-tight_places : goal.share-requires-clause-tight_places
share-requires-clause-tight_places g c =
    let ready = c.in_ok-tables.ensures in
    let supply = c.supply-supply.ensures.value ∙ ap supply_of c.seller.ensures in
    ap (λ xs. length xs) c.deref_mut-2.ensures.value
    ∙ pairs_count (length c.members-members.result.now) (length c.in_ok-tables.tables.rows) c.len.result c.in_ok-tables.tables.goods (length c.in_ok-pairs.pairs.items)
    (ready.members ∙ ap suc (sym (ap (λ xs. length xs) c.members-members.ensures)))
    (c.len.ensures.value ∙ ap (λ xs. length xs) supply ∙ sym ready.goods)
    c.in_ok-pairs.ensures.count

-- what was shared in tie order is put back at the members' places
put_back : (g : Over) (c : goal.After-drop-tables-inside-6 g)
    → ArePutBack c.args.market.now c.args.order.now c.args.prices.now.items c.requires.order c.requires.range.0 c.requires.least c.in_ok-tables.tables.goods
    (map (λ b. b.items) c.pop.new.self.items) (map (λ b. b.items) c.in_ok-bundles.bundles.items) c.share.new.tights c.in_ok-tights.tights.items
put_back g c =
    let supply = c.supply-supply.ensures.value ∙ ap supply_of c.seller.ensures in
    let goods : c.len-2.result ≡ c.in_ok-tables.tables.goods = c.len-2.ensures.value ∙ ap (λ xs. length xs) supply ∙ sym c.in_ok-tables.ensures.goods in
    let new = c.share.new.tights in
    let old = c.in_ok-pairs.pairs.items in
    let long : c.in_ok-pairs.pairs.len ≡ length new = sym c.deref_mut-2.ensures.len ∙ sym c.share.auto.tights in
    let written : take c.in_ok-pairs.pairs.len (new ++ drop (length new) old) ≡ new = ap (λ (k : ℕ). take k (new ++ drop (length new) old)) long ∙ take-append_seam new (drop (length new) old) in
    let same = c.deref-2.ensures.value ∙ written in
    let Placed : ℕ → List Tight → Type 0 = λ n pairs. (k j : ℕ) → k < length c.args.order.now → j < n
    → get_or c.in_ok-tights.tights.items (place_at c.args.order.now k * n + j) (record { upper = 0; lower = 0 }) ≡ get_or pairs (k * n + j) (record { upper = 0; lower = 0 }) in
    record {
      count = length-map c.in_ok-bundles.bundles.items (λ b. b.items) ∙ c.in_ok-bundles.ensures.count ∙ ap (λ bs. length bs) c.deref.ensures.value ∙ sym (length-map c.pop.new.self.items (λ b. b.items));
      bundles_placed = c.in_ok-bundles.ensures.placed ∙ ap (λ bs. map (λ b. b.items) bs) c.deref.ensures.value;
      pairs_count = c.in_ok-tights.ensures.count ∙ ap (λ (pairs : List Tight). length pairs) same;
      pairs_placed = subst (λ (pairs : List Tight). Placed c.in_ok-tables.tables.goods pairs) same (subst (λ (n : ℕ). Placed n c.deref-2.result.now) goods c.in_ok-tights.ensures.placed);
    }

-- what was shared, as it is handed out
shared : (g : Over) (c : goal.After-drop-tables-inside-6 g)
    → IsSolution (map g.D.Convex.function (members_of c.args.market.now)) (supply_of (seller_of c.args.market.now)) (reserve_of (seller_of c.args.market.now))
    c.args.order.now c.args.prices.now.items (map (λ b. b.items) c.in_ok-bundles.bundles.items) c.unwrap-returns.result.items
    × AreFirstPairs (map g.D.Convex.function (members_of c.args.market.now)) (supply_of (seller_of c.args.market.now)) (reserve_of (seller_of c.args.market.now))
    c.args.order.now c.args.prices.now.items (map (λ b. b.items) c.in_ok-bundles.bundles.items) c.in_ok-tights.tights.items
shared g c =
    let ready = c.in_ok-tables.ensures in
    let supply = c.supply-supply.ensures.value ∙ ap supply_of c.seller.ensures in
    let new = c.share.new.bundles in
    let old = c.in_ok-shared.shared.items in
    let long : c.in_ok-shared.shared.len ≡ length new = sym c.deref_mut.ensures.len ∙ sym c.share.auto.bundles in
    let written = ap (λ (k : ℕ). take k (new ++ drop (length new) old)) long ∙ take-append_seam new (drop (length new) old) in
    let split : new ≡ c.pop.new.self.items ++ c.unwrap-returns.result ∷ [] =
    sym written ∙ c.pop.ensures.items ∙ ap (λ r. c.pop.new.self.items ++ option_to_list r) c.unwrap-returns.ensures in
    let all = ap (λ bs. map (λ b. b.items) bs) split ∙ map-append (λ b. b.items) c.pop.new.self.items (c.unwrap-returns.result ∷ []) in
    let count =
    c.share.auto.tights
    ∙ ap (λ xs. length xs) c.deref_mut-2.ensures.value
    ∙ pairs_count (length c.members-members.result.now) (length c.in_ok-tables.tables.rows) c.len.result c.in_ok-tables.tables.goods (length c.in_ok-pairs.pairs.items)
    (ready.members ∙ ap suc (sym (ap (λ xs. length xs) c.members-members.ensures)))
    (c.len.ensures.value ∙ ap (λ xs. length xs) supply ∙ sym ready.goods)
    c.in_ok-pairs.ensures.count in
    market-solution c.args.market.now c.args.order.now c.args.prices.now.items c.requires.order c.requires.range.0 c.requires.least c.in_ok-tables.tables.goods c.in_ok-tables.tables.rows c.supply-supply.result.now.items
    (map (λ b. b.items) new) (map (λ b. b.items) c.pop.new.self.items) (map (λ b. b.items) c.in_ok-bundles.bundles.items) c.unwrap-returns.result.items c.share.new.tights c.in_ok-tights.tights.items
    ready.goods ready.tables supply all c.share.ensures.shares c.share.ensures.tights count (put_back g c)

pub returns-clause-solution : goal.returns-clause-solution
returns-clause-solution g c = (shared g c).0

pub returns-clause-tights : goal.returns-clause-tights
returns-clause-tights g c = (shared g c).1
