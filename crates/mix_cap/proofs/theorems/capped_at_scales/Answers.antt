use Rattle.mix_bids.proofs.Lengths.{over_of}
use Rattle.mix_cap.specs.Cappeds.{units_cap}
use Rattle.mix_cap.proofs.CapsAtScales.{capped-times, capped_is_convex, capped_keeps_scales, capped_once}
use Rattle.mix_cap.proofs.theorems.capped_at_scales.Goals as goal

pub returns-clause-whole : goal.returns-clause-whole
returns-clause-whole c = let s = c.args.capped.now in capped_once (units_cap s) s.list.bids

pub returns-clause-same : goal.returns-clause-same
returns-clause-same c = λ e d x. let s = c.args.capped.now in capped-times s.list.goods e d (units_cap s) s.list.bids x (over_of s.list.goods s.list.bids s.proper)

pub returns-clause-convex : goal.returns-clause-convex
returns-clause-convex c = let s = c.args.capped.now in capped_is_convex s.list.goods (units_cap s) s.list.bids (over_of s.list.goods s.list.bids s.proper) s.positive

pub returns-clause-steps : goal.returns-clause-steps
returns-clause-steps c = let s = c.args.capped.now in capped_keeps_scales s.list.goods (units_cap s) s.list.bids (over_of s.list.goods s.list.bids s.proper) s.positive
