-- At a market's least point the supply lies in the sum of the tables, and what is shared there in tie order, and put back at the members' places, is
-- a solution of the market.
use Rattle.std.proofs.Common.{◌≡◌, ℕ, suc, ◌+◌, ◌-◌, ◌*◌, ◌<◌, List, ℤ, [], ◌∷◌, ◌++◌, length, get_or, map, refl, sym, ap, ap₂, ◌∙◌, subst, arith}
use Rattle.std.proofs.lemmas.List.{length-append, length-map}
use Rattle.mix_num.specs.Vectors.{Vector, with_null}
use Rattle.mix_num.specs.Orders.{IsOrder, in_order, place_at}
use Rattle.mix_num.proofs.Orders.{length-order}
use Rattle.mix_text.specs.Orders.{IsTieOrder}
use Rattle.mix_text.proofs.TieOrders.{is_order}
use Rattle.mix_num.specs.Pairs.{IsFirstTightOf}
use Rattle.mix_num.specs.Sellers.{seller_gain}
use Rattle.mix_num.specs.Shares.{AreShares}
use Rattle.mix_num.specs.declared.pair.Tight.{Tight}
use Rattle.mix_law.specs.Demands.{table_of}
use Rattle.mix_law.specs.declared.convex.Convex.{Ghosts}
use Rattle.mix_seller.specs.Sellers.{for_sale, reserve_of, supply_of}
use Rattle.mix_market.specs.Lyapunov.{IsLeastPoint}
use Rattle.mix_market.specs.Markets.{goods_of, lyapunov_of, members_of, seller_of}
use Rattle.mix_market.specs.declared.market.Market.{Market}
use Rattle.mix_ties.specs.Shares.{LiesInSum}
use Rattle.mix_ties.specs.Tights.{AreFirstTights}
use Rattle.mix_law.specs.Certificates.{tables_at}
use Rattle.mix_law.specs.Clearings.{IsSolution}
use Rattle.mix_clearing.proofs.MarketUtilities.{market_lawful}
use Rattle.mix_clearing.proofs.Solutions.{first_tights-where_shared, solution-where_shared, supply-within_tables}
use Rattle.mix_serve.specs.Answers.{AreFirstPairs}

module _ {D : Type 0} {g : Ghosts D} (market : Market D g) (order : List ℕ) (prices : List ℤ) (members : IsTieOrder (length (members_of market)) order) (long : length prices ≡ goods_of market)
    (least : IsLeastPoint (goods_of market) (lyapunov_of market) (with_null (reserve_of (seller_of market))) (with_null prices)) where
  abbrev fs : List (Vector → ℤ)
  fs = map g.function (members_of market)

  abbrev t : List ℤ
  t = supply_of (seller_of market)

  abbrev r : List ℤ
  r = reserve_of (seller_of market)

  ordered : IsOrder (length fs) order
  ordered = subst (λ (m : ℕ). IsOrder m order) (sym (length-map (members_of market) g.function)) (is_order (length (members_of market)) order members)

  -- the tables of the members in tie order, the seller's last
  abbrev tables : List (List ℤ)
  tables = tables_at fs t r prices order

  tables-count : length tables ≡ suc (length fs)
  tables-count =
      let rows = map (λ f. table_of (length t) f prices) fs in
      let size = length-map order (λ k. get_or rows k []) in
      length-append (in_order order rows) (table_of (length t) (seller_gain t r) prices ∷ [])
      ∙ (let e : length (in_order order rows) + 1 ≡ suc (length fs) = omega (arith, size, length-order (length fs) order ordered) in e)

  pub market-lies : (goods : ℕ) (rows : List (List ℤ)) (supply : List ℤ) → goods ≡ goods_of market → rows ≡ tables → supply ≡ t → LiesInSum goods rows supply
  market-lies goods rows supply same filled is =
      let within = supply-within_tables fs t r prices order (market_lawful market) (for_sale (seller_of market)) ordered long least in
      subst (λ (n : ℕ). LiesInSum n rows supply) (sym same)
      (subst (λ (rs : List (List ℤ)). LiesInSum (goods_of market) rs supply) (sym filled)
      (subst (λ (s : List ℤ). LiesInSum (goods_of market) tables s) (sym is) (record { size = refl; within = within })))

  -- what shares the supply, with the first tight pairs
  record AreShared (pairs : List Tight) (n : ℕ) (rows : List (List ℤ)) (supply : List ℤ) (bundles : List (List ℤ)) : Type 0 where
    shares : AreShares n rows bundles supply
    tights : AreFirstTights n rows supply bundles pairs

  -- bundles and pairs at the members' places, from those that were shared in tie order
  module _ (in_turn bundles : List (List ℤ)) (returns : List ℤ) (shared_pairs pairs : List Tight) (shared : AreShared shared_pairs (goods_of market) tables t (in_turn ++ returns ∷ []))
      (size : length bundles ≡ length in_turn) (placed : in_order order bundles ≡ in_turn)
      (pairs_placed : (k j : ℕ) → k < length order → j < length t → get_or pairs (place_at order k * length t + j) (record { upper = 0; lower = 0 }) ≡ get_or shared_pairs (k * length t + j) (record { upper = 0; lower = 0 })) where
    count : length bundles ≡ length fs
    count = let a = shared.shares.count in omega (arith, a, size, tables-count, length-append in_turn (returns ∷ []))

    again : AreShared shared_pairs (goods_of market) tables t (in_order order bundles ++ returns ∷ [])
    again = subst (λ (xs : List (List ℤ)). AreShared shared_pairs (goods_of market) tables t (xs ++ returns ∷ [])) (sym placed) shared

    abbrev none : Tight
    none = record { upper = 0; lower = 0 }

    abbrev pair_at : ℕ → ℕ → Tight
    pair_at k j = get_or pairs (place_at order k * length t + j) none

    firsts : (k j : ℕ) → k < length fs → j < length t → IsFirstTightOf (length t) tables t (in_order order bundles ++ returns ∷ []) k j (pair_at k j).upper (pair_at k j).lower
    firsts k j h l =
        subst (λ (pair : Tight). IsFirstTightOf (length t) tables t (in_order order bundles ++ returns ∷ []) k j pair.upper pair.lower)
        (sym (pairs_placed k j (omega (arith, h, length-order (length fs) order ordered)) l)) (again.tights k j none (omega (arith, h, tables-count)) l)

    solved : IsSolution fs t r order prices bundles returns
    solved = solution-where_shared fs t r prices order (market_lawful market) (for_sale (seller_of market)) ordered long least bundles returns count again.shares
        (λ k j. (pair_at k j).upper) (λ k j. (pair_at k j).lower) firsts

    first_pairs : length pairs ≡ length fs * length t → AreFirstPairs fs t r order prices bundles pairs
    first_pairs size = record {
      count = size;
      first = first_tights-where_shared fs t r prices order (market_lawful market) (for_sale (seller_of market)) ordered long least bundles returns count again.shares
          (λ k j. (pair_at k j).upper) (λ k j. (pair_at k j).lower) firsts;
    }

  -- what is put back at the members' places, from what was shared in tie order
  pub record ArePutBack (goods : ℕ) (in_turn bundles : List (List ℤ)) (shared_pairs pairs : List Tight) : Type 0 where
    pub count : length bundles ≡ length in_turn
    pub bundles_placed : in_order order bundles ≡ in_turn
    pub pairs_count : length pairs ≡ length shared_pairs
    pub pairs_placed : (k j : ℕ) → k < length order → j < goods → get_or pairs (place_at order k * goods + j) (record { upper = 0; lower = 0 }) ≡ get_or shared_pairs (k * goods + j) (record { upper = 0; lower = 0 })

  pub market-solution : (goods : ℕ) (rows : List (List ℤ)) (supply : List ℤ) (shared in_turn bundles : List (List ℤ)) (returns : List ℤ) (shared_pairs pairs : List Tight)
      → goods ≡ goods_of market → rows ≡ tables → supply ≡ t → shared ≡ in_turn ++ returns ∷ []
      → AreShares goods rows shared supply → AreFirstTights goods rows supply shared shared_pairs → length shared_pairs ≡ (length rows - 1) * goods
      → ArePutBack goods in_turn bundles shared_pairs pairs
      → IsSolution fs t r order prices bundles returns × AreFirstPairs fs t r order prices bundles pairs
  market-solution goods rows supply shared in_turn bundles returns shared_pairs pairs same filled is split shares tights size back =
      let one : AreShared shared_pairs goods rows supply shared = record { shares = shares; tights = tights } in
      let two = subst (λ (n : ℕ). AreShared shared_pairs n rows supply shared) same one in
      let three = subst (λ (rs : List (List ℤ)). AreShared shared_pairs (goods_of market) rs supply shared) filled two in
      let four = subst (λ (s : List ℤ). AreShared shared_pairs (goods_of market) tables s shared) is three in
      let five = subst (λ (xs : List (List ℤ)). AreShared shared_pairs (goods_of market) tables t xs) split four in
      let many : length rows - 1 ≡ length fs = let a = ap (λ (rs : List (List ℤ)). length rs) filled in omega (arith, a, tables-count) in
      let put = subst (λ (n : ℕ). ArePutBack n in_turn bundles shared_pairs pairs) same back in (
        solved in_turn bundles returns shared_pairs pairs five put.count put.bundles_placed put.pairs_placed,
        first_pairs in_turn bundles returns shared_pairs pairs five put.count put.bundles_placed put.pairs_placed (put.pairs_count ∙ size ∙ ap₂ (λ (m n : ℕ). m * n) many same),
      )
