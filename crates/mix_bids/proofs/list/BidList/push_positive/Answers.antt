use Rattle.std.proofs.Common.{arith, ℕ, length, ap, subst, sym, ◌∙◌, List, ◌∷◌, [], min, length-append}
use Rattle.std.proofs.lemmas.List.Elements.{All-push, All-same}
use Rattle.mix_bids.specs.Bids.{IsBid}
use Rattle.mix_bids.specs.Cells.{cells}
use Rattle.mix_bids.specs.Counted.{AreKept}
use Rattle.mix_bids.specs.declared.bid.Bid.{Bid}
use Rattle.mix_bids.proofs.CellPushes.{cells_stay}
use Rattle.mix_bids.proofs.NegativeBids.{kept_same}
use Rattle.mix_bids.proofs.list.BidList.push_positive.Goals as goal

pub invariant_of-self-2 : goal.invariant_of-self-2
invariant_of-self-2 c =
    let i = c.self.invariant in
    let e = c.in_ok-push.ensures.items in
    let v = c.self.view_is in
    let r = c.requires.room in
    let n = c.self.inside.goods in
    let bs = c.self.inside.bids.items in (
      i.0,
      i.1,
      omega (arith, ap length e, length-append bs (c.args.bid ∷ []), ap (λ z. length z.bids) v),
      All-same (IsBid n) _ _ e (All-push (IsBid n) _ _ i.3 (subst (λ (g : ℕ). IsBid g c.args.bid) (sym (ap (λ z. z.goods) v)) c.requires.bid)),
      subst (λ (xs : List Bid). AreKept n xs c.self.inside.kept.items) (sym e) (kept_same n bs c.args.bid _ c.requires.positive i.4),
      i.5 ∙ ap (λ (z : ℕ). min z 4194305) (sym (cells_stay n bs c.args.bid c.requires.positive)) ∙ ap (λ (xs : List Bid). min (cells (record { goods = n; bids = xs })) 4194305) (sym e),
    )
