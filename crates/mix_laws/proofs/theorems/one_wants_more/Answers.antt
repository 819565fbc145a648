use Rattle.mix_laws.proofs.MoreWanted.{one_adds, one_wants}
use Rattle.mix_laws.proofs.theorems.one_wants_more.Goals as goal

pub returns : goal.returns
returns c = record {
  less = λ before after old new supply reserve laws wants. one_wants before after old new supply reserve laws wants;
  added = λ before after old more supply reserve laws law. one_adds before after old more supply reserve laws law;
}
