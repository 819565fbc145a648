use Rattle.mix_bids.specs.Shared.{agreeing, agreement_in, IsLast, IsShared}
use Rattle.mix_bids.proofs.agreements.shared_at.Given as goal

abbrev pub invariant-loop-place : goal.invariant-loop-place
invariant-loop-place l = record {
  last : IsLast (λ p. agreeing (agreement_in l.agreements p) l.second l.first) l.place l.shared.last;
  choices : IsShared l.agreements l.first l.second l.place l.shared.choices;
}
