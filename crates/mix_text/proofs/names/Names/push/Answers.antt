use Rattle.std.proofs.Common.{refl}
use Rattle.std.specs.Str.{bytes_eq}
use Rattle.arrayvec.specs.ArrayString.{ArrayString}
use Rattle.mix_text.proofs.Keys.{new_key}
use Rattle.mix_text.proofs.names.Names.push.Goals as goal

pub returns-clause-ok : goal.returns-clause-ok
returns-clause-ok c =
    let same = λ (k other : ArrayString). bytes_eq k.bytes other.bytes in
    rw (c.in-Ok.ensures.keys, ← c.self.view_is) (new_key same (λ name. name.bytes) (bytes_eq c.args.name.bytes) c.args.name c.self.inside.names.keys (λ other. refl) (rw (← c.self.view_is) at c.requires))
