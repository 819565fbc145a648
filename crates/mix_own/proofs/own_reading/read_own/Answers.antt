use Rattle.std.proofs.Common.{◌≡◌, Bool, true, false, get_or, not, refl, sym}
use Rattle.mix_text.specs.AuctionTexts.{auction_text}
use Rattle.mix_text.proofs.Sound.{holds_ok}
use Rattle.mix_own.specs.Readings.{SoFar}
use Rattle.mix_own.proofs.OwnedSoFar.{row_more}
use Rattle.mix_own.proofs.own_reading.read_own.Goals as goal

unset : (t : Bool) → not t ≡ true → t ≡ false
unset true h = cc h
unset false h = refl

pub returns-clause-sound : goal.returns-clause-sound
returns-clause-sound c =
    let k = c.in_ok-k.k in
    let so_far : SoFar = record { owned = c.args.owned.now; told = c.args.told.now } in
    let new : get_or c.args.told.now k false ≡ false = unset _ (holds_ok _ _ _ (sym c.in_ok-unless-2.ensures)) in
    let more = row_more (auction_text c.args.auction.now) so_far k c.in_ok-bundle.bundle.items c.requires c.in_ok-k.ensures.within new c.in_ok-bundle.ensures.fit in
    rw c.set.ensures more
