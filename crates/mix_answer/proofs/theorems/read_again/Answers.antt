use Rattle.mix_answer.proofs.PrintableOutcomes.{text_read}
use Rattle.mix_answer.proofs.theorems.read_again.Goals as goal

pub returns : goal.returns
returns c = text_read
