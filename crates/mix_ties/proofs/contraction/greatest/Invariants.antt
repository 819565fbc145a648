use Rattle.std.proofs.Common.{◌≡◌, suc, ◌+◌, ◌^◌, ◌++◌, length}
use Rattle.mix_ties.specs.Numbered.{LieWithin, goods_part, room, table_over}
use Rattle.mix_ties.specs.Peeled.{greedy}
use Rattle.mix_ties.proofs.contraction.greatest.Given as goal

abbrev pub invariant-loop-left : goal.invariant-loop-left
invariant-loop-left l = record {
  count : length l.amounts.items + l.left ≡ l.fn.goods;
  upper_size : length l.upper ≡ length l.fn.upper;
  lower_size : length l.lower ≡ length l.fn.lower;
  upper_room : LieWithin (2 ^ suc l.left) (room l.left) l.upper;
  lower_room : LieWithin (2 ^ suc l.left) (room l.left) l.lower;
  value : goods_part l.fn.goods (greedy (suc l.fn.goods) (table_over l.fn.goods l.fn.upper) (table_over l.fn.goods l.fn.lower))
      ≡ l.amounts.items ++ goods_part l.left (greedy (suc l.left) (table_over l.left l.upper) (table_over l.left l.lower));
}

abbrev pub decreases-loop-left : goal.decreases-loop-left
decreases-loop-left l = l.left
