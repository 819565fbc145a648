use Rattle.mix_text.specs.AuctionTexts.{auction_text}
use Rattle.mix_session.specs.Standings.{AreStandings, AreTakenInBefore}
use Rattle.mix_session.proofs.standing.first_refusal.Given as goal

-- the bidders before this place are known to be convex
abbrev pub invariant-loop-k : goal.invariant-loop-k
invariant-loop-k l = record {
  stand : AreStandings (auction_text l.auction) l.standings;
  taken : AreTakenInBefore l.standings l.k;
}
