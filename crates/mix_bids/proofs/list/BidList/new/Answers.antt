use Rattle.std.proofs.Common.{arith, sym, ap, ◌∙◌, ℕ, List, [], length, min, subst}
use Rattle.mix_bids.specs.Cells.{cells}
use Rattle.mix_bids.specs.Counted.{AreKept}
use Rattle.mix_bids.specs.declared.bid.Bid.{Bid}
use Rattle.mix_bids.proofs.CellPushes.{cells_none}
use Rattle.mix_bids.proofs.NegativeBids.{kept_none}
use Rattle.mix_bids.proofs.list.BidList.new.Goals as goal

pub invariant_of-result : goal.invariant_of-result
invariant_of-result c =
    let e = c.new.ensures.items in
    let f = c.new-2.ensures.items in
    let size = ap length e in (
      c.requires.0,
      c.requires.1,
      omega (arith, size),
      λ k d h. absurd (omega (arith, size)),
      subst (λ (bs : List Bid). AreKept c.args.goods bs c.new-2.result.items) (sym e) (subst (AreKept c.args.goods []) (sym f) (kept_none c.args.goods)),
      sym (ap (λ (bs : List Bid). min (cells (record { goods = c.args.goods; bids = bs })) 4194305) e ∙ ap (λ (z : ℕ). min z 4194305) (cells_none c.args.goods)),
    )
