use Rattle.mix_text.proofs.SoundAuctions.{meets_limits}
use Rattle.mix_text.proofs.reading.read_auction.Goals as goal

pub returns-clause-limits : goal.returns-clause-limits
returns-clause-limits c = meets_limits _ _ c.in_ok-read.ensures.read
