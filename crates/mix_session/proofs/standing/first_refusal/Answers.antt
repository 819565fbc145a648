use Rattle.std.proofs.Common.{◌<◌, length, arith}
use Rattle.mix_text.specs.AuctionTexts.{auction_text}
use Rattle.mix_serve.specs.declared.admission.Stopped.TheVariants.{Refused}
use Rattle.mix_serve.proofs.MembersInOrder.{refused_first}
use Rattle.mix_session.proofs.KnownBidders.{convex_before}
use Rattle.mix_session.proofs.standing.first_refusal.Goals as goal

pub returns-in-Some-clause-found : goal.returns-in-Some-clause-found
returns-in-Some-clause-found c =
    let a = auction_text c.args.auction.now in
    let within : c.loop-k.k < length a.bidders = omega arith in
    refused_first a c.loop-k.k (Refused c.in-Some.refusal) within (convex_before a c.loop-k.standings c.loop-k.k c.loop-k.invariant.stand (omega arith) c.loop-k.invariant.taken) c.in-Some.ensures
