use Rattle.std.proofs.Common.{◌≡◌, ◌++◌, ap, sym, subst, ◌∙◌}
use Rattle.std.proofs.lemmas.List.{append-nil, drop_all}
use Rattle.mix_facets.specs.Grids.{point_at, IsOn}
use Rattle.mix_facets.proofs.Numberings.{point_on}
use Rattle.mix_facets.proofs.grid.Grid.point.Goals as goal

pub returns-clause-on : goal.returns-clause-on
returns-clause-on c =
    let us = c.loop-numbers.point.items in
    let grid = c.deref-numbers-items.result.now in
    let l = c.loop-numbers-test.false in
    let e : us ≡ point_at grid c.args.number =
    sym (append-nil us) ∙ ap (λ z. us ++ point_at z c.loop-numbers.rest) (sym (drop_all c.loop-numbers.numbers-index grid l)) ∙ c.loop-numbers.invariant.so_far in
    let f : us ≡ point_at c.args.self.now c.args.number = e ∙ ap (λ z. point_at z c.args.number) (c.deref-numbers-items.ensures.value ∙ c.self.view_is) in
    subst (IsOn c.args.self.now) (sym f) (point_on c.args.self.now c.args.number c.requires)
