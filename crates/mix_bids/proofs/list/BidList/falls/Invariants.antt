use Rattle.std.proofs.Common.{◌≡◌, ℕ, ◌<◌, ◌≤◌, ◌+ℤ◌, ◌-ℤ◌}
use Rattle.mix_num.specs.Vectors.{members, plus, with_null}
use Rattle.mix_num.specs.Tables.{number_of}
use Rattle.mix_bids.specs.Bids.{utility}
use Rattle.mix_bids.proofs.list.BidList.falls.Given as goal

abbrev pub invariant-loop-bits : goal.invariant-loop-bits
invariant-loop-bits l = record {
  done : (set : ℕ) → set < l.bits → number_of l.out set ≡ number_of l.initial.out set +ℤ (utility l.self.bids (with_null l.prices.items) -ℤ utility l.self.bids (plus (with_null l.prices.items) (members set)));
  left : (set : ℕ) → l.bits ≤ set → number_of l.out set ≡ number_of l.initial.out set;
}
