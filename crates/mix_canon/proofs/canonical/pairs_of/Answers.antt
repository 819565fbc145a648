use Rattle.std.proofs.Common.{rules, ◌∙◌, ◌++◌, ap, subst, sym}
use Rattle.std.specs.BTreeMap.{keys}
use Rattle.std.specs.List.Sorted.{IsStrictlySortedBy}
use Rattle.std.proofs.lemmas.List.{append-nil}
use Rattle.mix_canon.specs.Canons.{ArePairsOf}
use Rattle.mix_canon.specs.Maps.{weight_at}
use Rattle.mix_canon.proofs.Entries.{key_order, pairs_in, pairs_of_map}
use Rattle.mix_canon.proofs.canonical.pairs_of.Goals as goal

pub returns : goal.returns
returns c =
    let sorted : IsStrictlySortedBy key_order (keys c.args.weights.now) = search rules in
    let ended = ap (λ es. c.loop-values.terms ++ pairs_in es) c.in-None.ensures.steps.0 in
    subst (ArePairsOf (weight_at c.args.weights.now)) (sym c.loop-values.invariant ∙ ended ∙ append-nil c.loop-values.terms) (pairs_of_map c.args.weights.now sorted)
