use Rattle.std.proofs.Common.{◌≡◌, map}
use Rattle.mix_num.specs.Orders.{places}
use Rattle.mix_text.specs.AuctionTexts.{auction_text}
use Rattle.mix_answer.specs.Refusals.{AreConvexBefore}
use Rattle.mix_answer.specs.Utilities.{entrant_at}
use Rattle.mix_serve.specs.Admissions.{entrant_of}
use Rattle.mix_serve.proofs.admission.members.Given as goal

-- the members so far are the bidders before this place, and these are convex
abbrev pub invariant-loop-k : goal.invariant-loop-k
invariant-loop-k l = record {
  members : map entrant_of l.members.items ≡ map (entrant_at (auction_text l.auction)) (places l.k);
  convex : AreConvexBefore (auction_text l.auction) l.k;
}
