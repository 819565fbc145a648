use Rattle.std.proofs.Common.{◌∙◌, ℕ, replicate, ap, arith, sym, subst}
use Rattle.std.proofs.lemmas.Int.{ints}
use Rattle.mix_text.specs.AuctionTexts.{auction_text}
use Rattle.mix_session.specs.Sessions.{AreReached}
use Rattle.mix_session.specs.declared.standing.Standing.TheVariants.{Open}
use Rattle.mix_session.proofs.KnownBidders.{nothing_stands}
use Rattle.mix_session.proofs.session.Session.begin.Goals as goal

pub invariant_of-result : goal.invariant_of-result
invariant_of-result c =
    let a = auction_text c.args.auction in
    let own : AreReached a a.reserve = record { amounts = c.args.auction.sound.reserve; above = λ k h. omega (arith, ints) } in
    record {
      reached = subst (AreReached a) (sym c.copy-last.ensures) own;
      known = nothing_stands a c.in_ok-standings.standings.items (c.in_ok-standings.ensures ∙ ap (λ (n : ℕ). replicate n Open) c.count.ensures.value);
    }
