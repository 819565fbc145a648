use Rattle.std.proofs.Common.{◌∙◌, set, ap}
use Rattle.std.proofs.lemmas.List.{map-set}
use Rattle.mix_own.proofs.owned.Owned.set.Goals as goal

pub returns : goal.returns
returns c = map-set (λ bundle. bundle.items) c.self.inside.bundles.items c.args.k c.args.bundle ∙ ap (λ z. set z c.args.k c.args.bundle.items) c.self.view_is
