use Rattle.std.proofs.Common.{◌<◌, ◌∙◌, ap₂, arith, length}
use Rattle.mix_text.specs.Bidders.{place_of}
use Rattle.mix_text.proofs.NamesSoFar.{new_bidder}
use Rattle.mix_text.proofs.bidders.Bidders.copy.Goals as goal

pub add-requires : goal.add-requires
add-requires c =
    let here : c.loop-k.k < length c.args.self.now = omega arith in
    ap₂ place_of c.bidder.ensures.name c.loop-k.invariant ∙ new_bidder c.args.self.now c.loop-k.k c.requires here
