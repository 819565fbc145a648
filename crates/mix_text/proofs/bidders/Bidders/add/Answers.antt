use Rattle.std.proofs.Common.{refl, ℕ, List}
use Rattle.std.specs.Str.{bytes_eq}
use Rattle.mix_bids.specs.Bids.{Book}
use Rattle.mix_text.proofs.Entries.{map-insert_new}
use Rattle.mix_text.proofs.bidders.Bidders.add.Goals as goal

pub returns-clause-ok : goal.returns-clause-ok
returns-clause-ok c =
    let test : List ℕ × Book → _ = λ b. bytes_eq c.args.name.bytes b.0 in
    rw (c.in-Ok.ensures.entries, ← c.self.view_is) (map-insert_new _ (λ n. n.bytes) test c.args.name c.args.list c.self.inside.named.entries (λ e. refl) (rw (← c.self.view_is) at c.requires))
