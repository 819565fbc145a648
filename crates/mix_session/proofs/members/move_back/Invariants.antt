use Rattle.std.proofs.Common.{◌≡◌, ◌++◌, length, map, take}
use Rattle.mix_session.specs.declared.standing.Standing.TheVariants.{Convex}
use Rattle.mix_session.proofs.members.move_back.Given as goal

-- the members so far are back
abbrev pub invariant-loop-member : goal.invariant-loop-member
invariant-loop-member l = record {
  parts : l.yielded ++ l.member-iterator.rest.items ≡ l.fn.members.items;
  count : length l.yielded ≡ l.k;
  back : take l.k l.standings ≡ map Convex l.yielded;
}
