use Rattle.mix_answer.proofs.PrintableOutcomes.{same_texts}
use Rattle.mix_answer.proofs.theorems.texts_differ.Goals as goal

pub returns : goal.returns
returns c = same_texts
