use Rattle.std.proofs.Common.{◌≤◌, length, take}
use Rattle.mix_bids.specs.Shared.{negatives, AreAgreements}
use Rattle.mix_bids.proofs.agreements.agreements.Given as goal

abbrev pub invariant-loop-earlier : goal.invariant-loop-earlier
invariant-loop-earlier l = record {
  each : AreAgreements (negatives (take l.earlier-index l.bids)) l.bid l.found.items;
  few : length l.found.items ≤ l.earlier-index;
}
