use Rattle.std.proofs.Common.{◌≡◌, ◌∙◌, ◌<◌, ◌+◌, ◌++◌, ◌∷◌, [], ℕ, suc, add-one, ap, arith, eq-or-lt_of_le, min, subst, sym, ⊎_elim}
use Rattle.mix_bids.specs.Cells.{cells, sum_below}
use Rattle.mix_bids.specs.Counted.{growth, leads_at, triangle, AreLeads, IsKnown}
use Rattle.mix_bids.specs.Shared.{negatives, AreAgreements}
use Rattle.mix_bids.proofs.CellPushes.{cells_grow}
use Rattle.mix_bids.proofs.LevelTurns.{capped_sum, sum_none, sum_turn}
use Rattle.mix_bids.proofs.Triangles.{triangle_within}
use Rattle.mix_bids.proofs.counts.tally_with.Goals as goal

pub loop-second-init : goal.loop-second-init
loop-second-init c =
    let a = c.args in
    let e = sum_none (λ j. sum_below j (λ i. growth a.goods a.bids.now a.bid.now i j)) in
    let l = c.requires.cells in
    record {
      range = omega arith;
      size = omega arith;
      start = omega arith;
      sum = omega (arith, e, l);
      counts = λ i j l m. absurd (omega arith);
    }

pub overflow_add-start : goal.overflow_add-start
overflow_add-start c = let r = triangle_within c.loop-second.second (omega arith) in let s = c.loop-second.invariant.start in omega (arith, r, s)

pub loop-second-preserved : goal.loop-second-preserved
loop-second-preserved c =
    let a = c.args in
    let bs = a.bids.now in
    let b = a.bid.now in
    let v = c.loop-second.invariant in
    let known : IsKnown a.goods bs b c.offers.result a.kept.now c.as_slice.result.now = record {
      least = c.requires.goods.0;
      most = c.requires.goods.1;
      few = c.requires.few;
      bids = c.requires.bids;
      bid = c.requires.bid;
      negative = c.requires.negative;
      offers = c.offers.ensures;
      counts = c.requires.kept;
      agreements = subst (AreAgreements (negatives bs) b) (sym c.as_slice.ensures.value) c.agreements-agreements.ensures;
    } in
    let before = cells (record { goods = a.goods; bids = bs }) in
    let f : ℕ → ℕ = λ j. sum_below j (λ i. growth a.goods bs b i j) in
    let k = c.loop-second.second in
    let e : (before + sum_below k f) + f k ≡ before + sum_below (k + 1) f = let s = sum_turn k f in omega (arith, s) in
    let w = c.with_pairs_below-tally in
    record {
      range = w.ensures.range;
      size = w.ensures.size;
      start = ap (λ z. z + k) v.start ∙ sym (ap triangle (add-one k));
      sum = w.ensures.sum bs b known ∙ ap (λ z. min (z + f k) 4194305) v.sum ∙ capped_sum (before + sum_below k f) (f k) ∙ ap (λ z. min z 4194305) e;
      counts = λ i j l m. ⊎_elim
          (λ (q : j ≡ k). subst (λ z. AreLeads a.goods (bs ++ b ∷ []) b i z (leads_at w.result.counts i z)) (sym q) (w.ensures.counts bs b known i (omega arith)))
          (λ (q : j < k). subst (AreLeads a.goods (bs ++ b ∷ []) b i j) (sym (w.ensures.others i j l q)) (v.counts i j l q))
          (eq-or-lt_of_le (omega arith));
    }

pub returns-clause-cells : goal.returns-clause-cells
returns-clause-cells c =
    let a = c.args in
    let before = cells (record { goods = a.goods; bids = a.bids.now }) in
    let f : ℕ → ℕ = λ j. sum_below j (λ i. growth a.goods a.bids.now a.bid.now i j) in
    let e : c.loop-second.second ≡ suc a.goods = omega arith in
    c.loop-second.invariant.sum ∙ ap (λ m. min (before + sum_below m f) 4194305) e ∙ ap (λ z. min z 4194305) (sym (cells_grow a.goods a.bids.now a.bid.now))
