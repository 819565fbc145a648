use Rattle.std.proofs.Common.{subst}
use Rattle.mix_facets.specs.Grids.{IsRising}
use Rattle.mix_facets.proofs.CandidateLists.{candidates_are}
use Rattle.mix_facets.proofs.candidates.candidates_of.Goals as goal

pub returns : goal.returns
returns c =
    let o = c.in_ok-numbers.ensures in
    let s = c.in_ok-insert.ensures in
    candidates_are c.args.list.now c.args.level.now c.args.choice c.lowest_of_good.result c.in_ok-numbers.numbers c.insert.new.self o.members c.lowest_of_good.ensures.value s.added (subst IsRising c.numbers.view_is c.numbers.invariant) o.few s.longer o.near c.lowest_of_good.ensures.near o.null
