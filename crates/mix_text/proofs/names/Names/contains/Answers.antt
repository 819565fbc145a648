use Rattle.std.proofs.Common.{◌∙◌, sym, ap}
use Rattle.std.specs.Str.{bytes_eq}
use Rattle.mix_text.specs.Names.{is_among}
use Rattle.mix_text.proofs.Entries.{list_any-map}
use Rattle.mix_text.proofs.names.Names.contains.Goals as goal

pub returns : goal.returns
returns c = c.contains.ensures ∙ sym (list_any-map (λ name. name.bytes) (bytes_eq c.args.name.now.bytes) c.self.inside.names.keys) ∙ ap (is_among c.args.name.now.bytes) c.self.view_is
