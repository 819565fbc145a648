use Rattle.std.proofs.Common.{◌<◌, arith, length}
use Rattle.mix_session.proofs.MovedMembers.{one_more_moved, others_left, still_taken_in}
use Rattle.mix_session.proofs.members.move_out.Goals as goal

pub moved_out-member-requires : goal.moved_out-member-requires
moved_out-member-requires c =
    let within : c.loop-k.k < length c.args.standings.now = omega arith in
    still_taken_in c.args.standings.now c.loop-k.standings c.loop-k.k c.index-standings-k.result c.requires within c.loop-k.invariant.left

pub loop-k-preserved : goal.loop-k-preserved
loop-k-preserved c =
    let within : c.loop-k.k < length c.args.standings.now = omega arith in
    record {
      moved = one_more_moved c.args.standings.now c.loop-k.standings c.loop-k.k c.index-standings-k.result c.loop-k.members.items c.push_into_room.new.members.items c.moved_out-member.result within c.loop-k.invariant.left
          c.moved_out-member.ensures c.push_into_room.ensures.items c.loop-k.invariant.moved;
      left = others_left c.args.standings.now c.loop-k.standings c.loop-k.k c.moved_out-member.new.standing c.loop-k.invariant.left;
      count = omega arith;
      room = omega arith;
    }
