use Rattle.std.proofs.Common.{◌<◌, ◌∙◌, ap₂, arith, length}
use Rattle.mix_text.specs.Names.{is_among}
use Rattle.mix_text.proofs.NamesSoFar.{new_name}
use Rattle.mix_text.proofs.names.Names.copy.Goals as goal

pub push-requires : goal.push-requires
push-requires c =
    let here : c.loop-k.k < length c.args.self.now = omega arith in
    ap₂ is_among c.get.ensures c.loop-k.invariant ∙ new_name c.args.self.now c.loop-k.k c.requires here
