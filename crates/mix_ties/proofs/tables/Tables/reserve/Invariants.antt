use Rattle.std.proofs.Common.{◌≡◌, ◌^◌, suc, pos, replicate, All, length}
use Rattle.mix_ties.proofs.tables.Tables.reserve.Given as goal

abbrev pub invariant-loop : goal.invariant-loop
invariant-loop l = record { count : length l.rows.items ≡ l.counter; sizes : All (λ row. length row ≡ 2 ^ suc l.goods) l.rows.items; zeros : All (λ row. row ≡ replicate (2 ^ suc l.goods) (pos 0)) l.rows.items }
