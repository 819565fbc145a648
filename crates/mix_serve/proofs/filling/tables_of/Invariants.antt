use Rattle.std.proofs.Common.{◌≡◌, ℕ, suc, ◌<◌, [], length, get_or, map}
use Rattle.mix_num.specs.Orders.{place_at}
use Rattle.mix_num.specs.Tables.{IsProper}
use Rattle.mix_law.specs.Demands.{IsTableOf}
use Rattle.mix_market.specs.Markets.{goods_of, members_of}
use Rattle.mix_law.specs.Clearings.{bidder_utility}
use Rattle.mix_serve.proofs.filling.tables_of.Given as goal

-- the rows so far are the tables of the members of the turns so far
abbrev pub invariant-loop-turn : goal.invariant-loop-turn
invariant-loop-turn g l = record {
  goods : l.tables.goods ≡ goods_of l.fn.market;
  count : length l.tables.rows ≡ suc (length (members_of l.fn.market));
  tables : (j : ℕ) → j < l.turn
      → IsTableOf (goods_of l.fn.market) (bidder_utility (map g.D.Convex.function (members_of l.fn.market)) (place_at l.fn.order j)) l.fn.prices.items (get_or l.tables.rows j []);
  proper : (j : ℕ) → j < l.turn → IsProper (goods_of l.fn.market) (get_or l.tables.rows j []);
}
