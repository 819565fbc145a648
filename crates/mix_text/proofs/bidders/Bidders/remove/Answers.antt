use Rattle.std.proofs.Common.{◌∙◌, ap}
use Rattle.std.specs.Prelude.{map, remove}
use Rattle.indexmap.proofs.SetLemmas.{map-remove}
use Rattle.mix_text.specs.Bidders.{Named}
use Rattle.mix_text.proofs.bidders.Bidders.remove.Goals as goal

pub returns : goal.returns
returns c =
    ap (map (λ e. (e.0.bytes, e.1))) c.shift_remove_index.ensures.entries ∙ map-remove (λ e. (e.0.bytes, e.1)) c.self.inside.named.entries c.args.k
    ∙ ap (λ (bidders : Named). remove bidders c.args.k) c.self.view_is
