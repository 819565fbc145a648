use Rattle.std.proofs.Common.{◌≡◌, ◌≤◌, drop, length, map, take, vec_len, vec_capacity}
use Rattle.mix_session.specs.declared.standing.Standing.TheVariants.{Convex}
use Rattle.mix_session.proofs.members.move_out.Given as goal

-- the members of the bidders before this place are moved out, those from here on are where they were, and there is room for them
abbrev pub invariant-loop-k : goal.invariant-loop-k
invariant-loop-k l = record {
  moved : take l.k l.initial.standings ≡ map Convex l.members.items;
  left : drop l.k l.standings ≡ drop l.k l.initial.standings;
  count : vec_len l.members ≡ l.k;
  room : length l.initial.standings ≤ vec_capacity l.members;
}
