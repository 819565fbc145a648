use Rattle.std.proofs.Common.{◌≡◌, ℕ, suc, ◌^◌, length, arith, ap, ◌∙◌, w64, to_z, of_z}
use Rattle.std.proofs.lemmas.Int.{ints}
use Rattle.mix_ties.proofs.Contractions.{LieWithin-mono, room-large}
use Rattle.mix_ties.proofs.Gifts.{copy-floor, copy-room, floor-is, give-is}
use Rattle.mix_ties.specs.Numbered.{LieWithin, null_left}
use Rattle.mix_ties.proofs.turn.give_row.Goals as goal

pub greatest-requires-clause-upper_range : goal.greatest-requires-clause-upper_range
greatest-requires-clause-upper_range c =
    let g = c.len-goods.ensures.value in
    let e = c.sets_of-size.ensures.value in
    let h : LieWithin (2 ^ suc c.len-goods.result) (2 ^ 30) c.copy_row.new.copy = copy-room (2 ^ suc c.len-goods.result) (2 ^ 30) c.args.row.now c.copy_row.new.copy (rw e at c.copy_row.ensures.value) (rw g c.requires.row_range) in
    LieWithin-mono _ _ _ _ c.copy_row.new.copy (omega arith) (omega (arith, room-large c.len-goods.result)) h

pub greatest-requires-clause-lower_range : goal.greatest-requires-clause-lower_range
greatest-requires-clause-lower_range c =
    let e = c.sets_of-size.ensures.value in
    let h : LieWithin (2 ^ suc c.len-goods.result) (2 ^ 41) c.copy_row-2.new.copy = copy-room (2 ^ suc c.len-goods.result) (2 ^ 41) c.fill_floor.new.floor c.copy_row-2.new.copy (rw e at c.copy_row-2.ensures.value) (rw e at c.fill_floor.ensures.range) in
    LieWithin-mono _ _ _ _ c.copy_row-2.new.copy (omega arith) (omega (arith, room-large c.len-goods.result)) h

pub returns-clause-bundle : goal.returns-clause-bundle
returns-clause-bundle c =
    let null : to_z w64 (of_z w64 c.null_of-null.result) ≡ null_left (length c.args.left.now.items) c.args.later.now c.args.left.now.items = omega (arith, ints, c.null_of-null.ensures.value, c.null_of-null.ensures.range) in
    give-is c.len-goods.result (length c.args.left.now.items) c.sets_of-size.result c.args.row.now c.copy_row.new.copy c.copy_row-2.new.copy c.args.left.now.items c.subtract_row.new.sum
    c.greatest.result.items (to_z w64 (of_z w64 c.null_of-null.result)) (null_left (length c.args.left.now.items) c.args.later.now c.args.left.now.items)
    c.len-goods.ensures.value c.sets_of-size.ensures.value c.copy_row.ensures.value
    (copy-floor c.sets_of-size.result (to_z w64 (of_z w64 c.null_of-null.result)) c.args.left.now.items c.subtract_row.new.sum c.fill_floor.new.floor c.copy_row-2.new.copy c.copy_row-2.ensures.value c.fill_floor.ensures.value)
    null c.greatest.ensures

pub returns-clause-floor : goal.returns-clause-floor
returns-clause-floor c =
    let e : c.sets_of-size.result ≡ 2 ^ suc (length c.args.left.now.items) = c.sets_of-size.ensures.value ∙ ap (λ (k : ℕ). 2 ^ suc k) c.len-goods.ensures.value in
    let null : to_z w64 (of_z w64 c.null_of-null.result) ≡ null_left (length c.args.left.now.items) c.args.later.now c.args.left.now.items = omega (arith, ints, c.null_of-null.ensures.value, c.null_of-null.ensures.range) in
    floor-is (length c.args.left.now.items) c.sets_of-size.result (to_z w64 (of_z w64 c.null_of-null.result)) (null_left (length c.args.left.now.items) c.args.later.now c.args.left.now.items) c.args.left.now.items c.subtract_row.new.sum
    c.fill_floor.new.floor e null c.fill_floor.ensures.value
