use Rattle.std.proofs.Common.{◌≡◌, ◌∙◌, ◌==◌, ap, rules, filter, length, map, not, sym}
use Rattle.std.proofs.lemmas.Fn.{filter_same}
use Rattle.mix_text.specs.Changes.{place_without}
use Rattle.mix_text.proofs.ChangedInPlace.{written_back}
use Rattle.mix_text.proofs.order.Order.remove.Goals as goal

pub returns : goal.returns
returns c =
    let left = c.retain.new.self.items in
    let lower = place_without c.args.place in
    let others : left ≡ filter (λ j. not (j == c.args.place)) c.self.inside.places.items = filter_same _ _ _ (λ x b f' k. search rules) _ _ c.retain.ensures.filtered in
    written_back lower c.close_gap.new.places left c.retain.new.self.len (c.close_gap.ensures ∙ ap (map lower) c.deref_mut.ensures.value) (ap length (sym c.deref_mut.ensures.value) ∙ c.deref_mut.ensures.len)
    ∙ ap (map lower) (others ∙ ap (filter (λ j. not (j == c.args.place))) c.self.view_is)
