use Rattle.std.proofs.Common.{◌∙◌, ℕ, ◌<◌, [], length, map, set, sym, ap, arith}
use Rattle.std.proofs.Math.ListN.{length-set}
use Rattle.std.proofs.lemmas.List.{get_or-map, length-map, map-set}
use Rattle.mix_serve.proofs.PutBack.{all_back, one_more_bundle}
use Rattle.mix_serve.proofs.places.bundles_in_place.Goals as goal

pub loop-turn-preserved : goal.loop-turn-preserved
loop-turn-preserved c =
    let order = c.args.order.now in
    let turn = c.loop-turn.turn in
    let shared = c.args.shared.now in
    let old = c.loop-turn.bundles.items in
    let invariant = c.loop-turn.invariant in
    let here : turn < length shared = omega arith in
    let is = c.copy.ensures ∙ ap (λ b. b.items) c.index-shared-turn.is ∙ sym (get_or-map (λ b. b.items) shared turn c.index-shared-turn.result [] here) in
    record {
      count = length-set old c.place.result c.copy.result ∙ invariant.count;
      placed = one_more_bundle (length shared) order (map (λ b. b.items) shared) (map (λ b. b.items) old) (map (λ b. b.items) (set old c.place.result c.copy.result)) [] c.copy.result.items turn c.requires
          here (length-map old (λ b. b.items) ∙ invariant.count) is
          (map-set (λ b. b.items) old c.place.result c.copy.result ∙ ap (λ (i : ℕ). set (map (λ b. b.items) old) i c.copy.result.items) c.place.ensures) invariant.placed;
    }

pub returns-clause-placed : goal.returns-clause-placed
returns-clause-placed c =
    let shared = c.args.shared.now in
    all_back (length shared) c.args.order.now (map (λ b. b.items) shared) (map (λ b. b.items) c.loop-turn.bundles.items) c.requires (length-map shared (λ b. b.items))
    (λ k l. c.loop-turn.invariant.placed k (omega arith))
