use Rattle.std.proofs.Common.{◌∙◌, sym, ap, ℕ, List}
use Rattle.std.specs.List.{position}
use Rattle.std.specs.Str.{bytes_eq}
use Rattle.mix_bids.specs.Bids.{Book}
use Rattle.mix_text.proofs.Entries.{position-map}
use Rattle.mix_text.proofs.bidders.Bidders.find.Goals as goal

pub returns-clause-place : goal.returns-clause-place
returns-clause-place c =
    let test : List ℕ × Book → _ = λ b. bytes_eq c.args.name.now.bytes b.0 in
    c.get_index_of.ensures.index ∙ position-map (λ e. e.0) _ c.self.inside.named.entries
    ∙ sym (position-map (λ e. (e.0.bytes, e.1)) test c.self.inside.named.entries) ∙ ap (position test) c.self.view_is
