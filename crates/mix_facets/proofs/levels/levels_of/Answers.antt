use Rattle.std.proofs.Common.{◌≡◌, arith, ap, ◌∙◌, map, take}
use Rattle.std.proofs.lemmas.List.{take_all}
use Rattle.mix_facets.specs.Levels.{level_at, AreLevelsOf}
use Rattle.mix_facets.proofs.LevelLists.{levels_at, levels_negative}
use Rattle.mix_facets.proofs.levels.levels_of.Goals as goal
use Rattle.mix_facets.proofs.levels.levels_of.Goals.{After-drop-differences-inside-2}

are_levels : (c : After-drop-differences-inside-2) → AreLevelsOf c.args.list.now c.args.first c.args.second c.loop-place.levels.items
are_levels c =
    let f = level_at c.args.list.now c.args.first c.args.second in
    let d = c.in_ok-differences.differences in
    let e : take c.loop-place.place c.differences.inside.numbers.items ≡ d =
    ap (take c.loop-place.place) c.differences.view_is ∙ take_all c.loop-place.place d (omega (arith, c.len-place-end.ensures.value)) in
    levels_at c.args.list.now c.args.first c.args.second d c.loop-place.levels.items c.requires.order c.requires.within c.len-place-end.ensures.rising c.in_ok-differences.ensures.members (c.loop-place.invariant ∙ ap (map f) e)

pub returns-clause-levels : goal.returns-clause-levels
returns-clause-levels c = are_levels c

pub returns-clause-negative : goal.returns-clause-negative
returns-clause-negative c = λ x h. levels_negative c.args.list.now c.args.first c.args.second c.loop-place.levels.items x c.differences_of.ensures.proper c.requires.order c.requires.within (are_levels c) h
