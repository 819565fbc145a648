use Rattle.std.proofs.Common.{◌+◌, ◌∙◌, ◌∷◌, ◌++◌, [], ap, arith, length, length-append, subst, sym, take}
use Rattle.mix_bids.specs.Shared.{negatives, AreAgreements}
use Rattle.mix_bids.proofs.NegativeBids.{agreements_push, negatives_push, negatives_same, taken}
use Rattle.mix_bids.proofs.agreements.agreements.Goals as goal
use Rattle.mix_bids.proofs.agreements.agreements.Goals.{then-is_negative, else-is_negative}

pub loop-earlier-preserved : goal.loop-earlier-preserved
loop-earlier-preserved c =
    let bs = c.args.bids.now in
    let k = c.loop-earlier.earlier-index in
    let e = c.earlier-item.result in
    let f = c.loop-earlier.invariant.few in
    let t = taken bs k e c.loop-earlier-test.true c.earlier-item.is in
    elim c.if-is_negative.branch [
      | then-is_negative w ↦
          let q = ap (λ z. z.items) w.found-is ∙ w.push.ensures.items in
          record {
            each = subst (AreAgreements (negatives (take (k + 1) bs)) c.args.bid.now) (sym q)
                (subst (λ z. AreAgreements z c.args.bid.now (c.loop-earlier.found.items ++ w.agreement_of.result ∷ [])) (sym (ap negatives t ∙ negatives_push (take k bs) e (sym c.is_negative.ensures ∙ w.if-is_negative.true)))
                (agreements_push (negatives (take k bs)) c.args.bid.now e _ _ c.loop-earlier.invariant.each w.agreement_of.ensures));
            few = let s = ap length q ∙ length-append c.loop-earlier.found.items _ in omega (arith, s);
          }
      | else-is_negative w ↦
          let q = ap (λ z. z.items) w.found-is in
          record {
            each = subst (AreAgreements (negatives (take (k + 1) bs)) c.args.bid.now) (sym q)
                (subst (λ z. AreAgreements z c.args.bid.now c.loop-earlier.found.items) (sym (ap negatives t ∙ negatives_same (take k bs) e (sym c.is_negative.ensures ∙ w.if-is_negative.false))) c.loop-earlier.invariant.each);
            few = let s = ap length q in omega (arith, s);
          }
    ]
