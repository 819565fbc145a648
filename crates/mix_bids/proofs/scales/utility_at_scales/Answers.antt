use Rattle.mix_bids.proofs.Multiples.{utility-times, utility_once}
use Rattle.mix_bids.proofs.scales.utility_at_scales.Goals as goal

pub returns : goal.returns
returns c = record { whole = utility_once c.args.list.now.bids; same = λ e d. utility-times e d c.args.list.now.bids }
