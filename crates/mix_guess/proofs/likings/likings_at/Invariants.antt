use Rattle.std.proofs.Common.{◌≡◌, length}
use Rattle.mix_guess.proofs.likings.likings_at.Given as goal

-- one for each bid so far
abbrev pub invariant-loop-bid : goal.invariant-loop-bid
invariant-loop-bid l = record { count : length l.likings.items ≡ l.bid-index }
