use Rattle.std.proofs.Common.{arith, ℕ, length, ap, subst, sym, ◌∙◌, List, ◌∷◌, [], ◌++◌, min, length-append}
use Rattle.std.proofs.lemmas.List.Elements.{All-push, All-same}
use Rattle.mix_bids.specs.Bids.{IsBid}
use Rattle.mix_bids.specs.Cells.{cells}
use Rattle.mix_bids.specs.Counted.{AreKept, IsCounted}
use Rattle.mix_bids.specs.declared.bid.Bid.{Bid}
use Rattle.mix_bids.proofs.NegativeBids.{kept_push}
use Rattle.mix_bids.proofs.list.BidList.push_negative.Goals as goal

pub invariant_of-self-2 : goal.invariant_of-self-2
invariant_of-self-2 c =
    let i = c.self.invariant in
    let e = c.in-Ok.ensures.items in
    let f = c.in_ok-push.ensures.items in
    let v = c.self.view_is in
    let r = c.requires.room in
    let n = c.self.inside.goods in
    let bs = c.self.inside.bids.items in
    let ks = c.self.inside.kept.items in
    let q : IsCounted n (bs ++ c.args.bid ∷ []) c.args.bid c.tally_with-tally.result.counts = subst (λ (xs : List Bid). IsCounted n (xs ++ c.args.bid ∷ []) c.args.bid c.tally_with-tally.result.counts) c.deref.ensures.value c.tally_with-tally.ensures.counts in (
      i.0,
      i.1,
      omega (arith, ap length e, length-append bs (c.args.bid ∷ []), ap (λ z. length z.bids) v),
      All-same (IsBid n) _ _ e (All-push (IsBid n) _ _ i.3 (subst (λ (g : ℕ). IsBid g c.args.bid) (sym (ap (λ z. z.goods) v)) c.requires.bid)),
      subst (λ (xs : List Bid). AreKept n xs c.push.new.self.items) (sym e) (subst (AreKept n (bs ++ c.args.bid ∷ [])) (sym f) (kept_push n bs c.args.bid ks _ c.requires.negative i.4 q)),
      c.tally_with-tally.ensures.cells ∙ ap (λ (xs : List Bid). min (cells (record { goods = n; bids = xs })) 4194305) (ap (λ xs. xs ++ c.args.bid ∷ []) c.deref.ensures.value ∙ sym e),
    )
