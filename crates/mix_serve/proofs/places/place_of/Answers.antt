use Rattle.std.proofs.Common.{◌*◌, ◌+◌, ◌<◌, ◌%◌, ℕ, length, sym, subst}
use Rattle.mix_serve.proofs.PutBack.{entry_place-below}
use Rattle.mix_serve.proofs.places.place_of.Goals as goal

pub returns-clause-inside : goal.returns-clause-inside
returns-clause-inside c =
    let order = c.args.order.now in
    let n = c.args.goods in
    subst (λ (row : ℕ). row * n + c.args.place % n < length order * n) (sym c.place.ensures) (entry_place-below (length order) n c.args.place order c.requires.order c.requires.inside)
