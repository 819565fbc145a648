use Rattle.std.proofs.Common.{◌≡◌, ◌≢◌, ◌∙◌, ◌+◌, ◌++◌, ◌∷◌, [], ℕ, ap, arith, below_more, get_or, get_or-set_other, get_or-set_same, length-set, min, refl, set, subst, sym}
use Rattle.mix_bids.specs.Cells.{sum_below}
use Rattle.mix_bids.specs.Counted.{growth, triangle, AreLeads}
use Rattle.mix_bids.proofs.LevelTurns.{capped_sum, sum_none, sum_turn}
use Rattle.mix_bids.proofs.Triangles.{pair_before, pair_within}
use Rattle.mix_bids.proofs.counts.with_pairs_below.Goals as goal

pub loop-first-init : goal.loop-first-init
loop-first-init c = record {
  range = c.requires.cells;
  size = c.requires.size;
  sum = λ bs b k. let e = sum_none (λ i. growth c.args.known.now.goods bs b i c.args.second) in let l = c.requires.cells in omega (arith, e);
  counts = λ bs b k i l. absurd (omega arith);
  others = λ i j l m. refl;
}

pub overflow_add-start : goal.overflow_add-start
overflow_add-start c = let k = c.requires.known.2 in let m = k.most in let p = pair_within c.loop-first.first c.args.second (omega arith) (omega arith) in omega (arith, p)

pub overflow_add-leads : goal.overflow_add-leads
overflow_add-leads c = let k = c.requires.known.2 in let m = k.most in let p = pair_within c.loop-first.first c.args.second (omega arith) (omega arith) in omega (arith, p)

pub offset_bounds-tally-start : goal.offset_bounds-tally-start
offset_bounds-tally-start c = let k = c.requires.known.2 in let m = k.most in let p = pair_within c.loop-first.first c.args.second (omega arith) (omega arith) in omega (arith, p)

pub bounds-tally-start : goal.bounds-tally-start
bounds-tally-start c = let k = c.requires.known.2 in let m = k.most in let p = pair_within c.loop-first.first c.args.second (omega arith) (omega arith) in omega (arith, p)

pub loop-first-preserved : goal.loop-first-preserved
loop-first-preserved c =
    let v = c.loop-first.invariant in
    let n = c.args.known.now.goods in
    let j = c.args.second in
    let m = c.loop-first.first in
    let xs = c.loop-first.tally.counts.levels in
    let ys = c.pair_growth-growth.result.leads in
    let place = c.args.start + m in
    let size = v.size in
    let known = c.requires.known.2 in
    let most = known.most in
    let p = pair_within m j (omega arith) (omega arith) in
    record {
      range = let e = c.capped.ensures in omega (arith, e);
      size = length-set xs place ys ∙ size;
      sum = λ bs b k.
          let f : ℕ → ℕ = λ i. growth n bs b i j in
          let e : (c.args.before.cells + sum_below m f) + c.pair_growth-growth.result.cells ≡ c.args.before.cells + sum_below (m + 1) f = let s = sum_turn m f in let z = c.pair_growth-growth.ensures.cells bs b k in omega (arith, s, z) in
          c.capped.ensures ∙ ap (λ z. min (z + c.pair_growth-growth.result.cells) 4194305) (v.sum bs b k) ∙ capped_sum (c.args.before.cells + sum_below m f) c.pair_growth-growth.result.cells ∙ ap (λ z. min z 4194305) e;
      counts = λ bs b k. below_more (λ i. AreLeads n (bs ++ b ∷ []) b i j (get_or (set xs place ys) (triangle j + i) [])) m
          (λ i l. subst (AreLeads n (bs ++ b ∷ []) b i j) (sym (get_or-set_other xs place (triangle j + i) ys [] (let ne : triangle j + i ≢ place = omega arith in ne))) (v.counts bs b k i l))
          (subst (AreLeads n (bs ++ b ∷ []) b m j) (sym (ap (λ (q : ℕ). get_or (set xs place ys) q []) (let e : triangle j + m ≡ place = omega arith in e) ∙ get_or-set_same xs place ys [] (omega arith))) (c.pair_growth-growth.ensures.leads bs b k));
      others = λ i l a d.
          let q = pair_before i l j a d in
          get_or-set_other xs place (triangle l + i) ys [] (let ne : triangle l + i ≢ place = omega arith in ne) ∙ v.others i l a d;
    }

pub returns-clause-sum : goal.returns-clause-sum
returns-clause-sum c = λ bs b k.
    let e : c.loop-first.first ≡ c.args.second = omega arith in
    c.loop-first.invariant.sum bs b k ∙ ap (λ m. min (c.args.before.cells + sum_below m (λ i. growth c.args.known.now.goods bs b i c.args.second)) 4194305) e
