use Rattle.std.proofs.Common.{◌≡◌, ◌∷◌, ◌+◌, ◌*◌, ◌<◌, ℕ, suc, ◌++◌, length, take, drop, map, get_or}
use Rattle.mix_num.specs.Sums.{sum_in}
use Rattle.mix_num.specs.Shares.{supply_null}
use Rattle.mix_num.specs.Pairs.{IsFirstTightOf, left_at}
use Rattle.mix_num.specs.declared.pair.Tight.{Tight}
use Rattle.mix_ties.proofs.PeeledRows.{shares}
use Rattle.mix_ties.proofs.TieRules.{bundles_of, tables}
use Rattle.mix_ties.specs.Numbered.{amounts_of}
use Rattle.mix_ties.specs.Turns.{IsTurn}
use Rattle.mix_ties.proofs.turn.share_in_turn.Given as goal

abbrev pub invariant-loop-k : goal.invariant-loop-k
invariant-loop-k l = record {
  turn : IsTurn (length l.fn.supply.items) (drop l.k l.rows) l.later l.left.items;
  later_size : length l.later ≡ length l.fn.later;
  floor_size : length l.floor ≡ length l.fn.floor;
  upper_size : length l.upper ≡ length l.fn.upper;
  lower_size : length l.lower ≡ length l.fn.lower;
  value : bundles_of (length l.fn.supply.items) (shares (suc (length l.fn.supply.items)) (tables (length l.fn.supply.items) l.rows) (amounts_of (length l.fn.supply.items) (supply_null (length l.fn.supply.items) l.rows l.fn.supply.items) l.fn.supply.items))
      ≡ map (λ b. b.items) (take l.k l.bundles) ++ bundles_of (length l.fn.supply.items) (shares (suc (length l.fn.supply.items)) (tables (length l.fn.supply.items) (drop l.k l.rows)) (amounts_of (length l.fn.supply.items) (supply_null (length l.fn.supply.items) (drop l.k l.rows) l.left.items) l.left.items));
  left_is : (set : ℕ) → sum_in (supply_null (length l.fn.supply.items) (drop l.k l.rows) l.left.items ∷ l.left.items) set
      ≡ left_at (length l.fn.supply.items) l.rows l.fn.supply.items (map (λ b. b.items) (take l.k l.bundles)) l.k set;
  tights : (i j : ℕ) (d : Tight) → i < l.k → suc i < length l.rows → j < length l.fn.supply.items
      → IsFirstTightOf (length l.fn.supply.items) l.rows l.fn.supply.items (map (λ b. b.items) (take l.k l.bundles)) i j
      (get_or l.tights (i * length l.fn.supply.items + j) d).upper (get_or l.tights (i * length l.fn.supply.items + j) d).lower;
}
