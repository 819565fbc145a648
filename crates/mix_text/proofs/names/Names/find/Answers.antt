use Rattle.std.proofs.Common.{◌∙◌, sym, ap}
use Rattle.std.specs.List.{position}
use Rattle.std.specs.Str.{bytes_eq}
use Rattle.mix_text.proofs.Entries.{position-map}
use Rattle.mix_text.proofs.names.Names.find.Goals as goal

pub returns-clause-place : goal.returns-clause-place
returns-clause-place c =
    c.get_index_of.ensures.index ∙ sym (position-map (λ name. name.bytes) (bytes_eq c.args.name.now.bytes) c.self.inside.names.keys)
    ∙ ap (position (bytes_eq c.args.name.now.bytes)) c.self.view_is
