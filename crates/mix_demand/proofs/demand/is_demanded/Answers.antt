use Rattle.std.proofs.Common.{rules, ◌≡◌, ℕ, ◌<◌, List, ◌∷◌, length, get_or, ℤ, pos, ◌<ℤ◌, arith, ap, ap₂, sym, ◌∙◌, subst, w64, SFits, to_z, of_z, below_more}
use Rattle.std.proofs.lemmas.Int.{ints}
use Rattle.mix_num.specs.Sums.{sum_in}
use Rattle.mix_num.specs.Tables.{number_of, null_share, share_in}
use Rattle.mix_demand.proofs.demand.is_demanded.Goals as goal

pub loop-k-preserved : goal.loop-k-preserved
loop-k-preserved c =
    let null : to_z w64 (of_z w64 c.null_of-null.result) ≡ null_share (length c.args.bundle.now.items) c.args.rho.now c.args.bundle.now.items = omega (arith, ints, c.null_of-null.ensures.value, c.null_of-null.ensures.range) in
    let sum : c.sum_over.result ≡ share_in (length c.args.bundle.now.items) c.args.rho.now c.args.bundle.now.items c.loop-k.k =
    c.sum_over.ensures.value ∙ ap₂ (λ (a : ℤ) (set : ℕ). sum_in (a ∷ c.args.bundle.now.items) set) null c.from_bits-set.ensures in
    let number = ap (λ (xs : List ℤ). get_or xs c.loop-k.k (pos 0)) c.numbers-number-items.ensures.value in
    let f : SFits w64 (get_or c.numbers-number-items.result.now c.loop-k.k (pos 0)) = search rules in
    below_more _ _ c.loop-k.invariant (omega (arith, ints, sum, number, f, c.if-sum_over-number.false, c.sum_over.ensures.range))

more : (c : goal.Then-sum_over-number) → number_of c.args.rho.now c.loop-k.k <ℤ share_in (length c.args.bundle.now.items) c.args.rho.now c.args.bundle.now.items c.loop-k.k
more c =
    let null : to_z w64 (of_z w64 c.null_of-null.result) ≡ null_share (length c.args.bundle.now.items) c.args.rho.now c.args.bundle.now.items = omega (arith, ints, c.null_of-null.ensures.value, c.null_of-null.ensures.range) in
    let sum : c.sum_over.result ≡ share_in (length c.args.bundle.now.items) c.args.rho.now c.args.bundle.now.items c.loop-k.k =
    c.sum_over.ensures.value ∙ ap₂ (λ (a : ℤ) (set : ℕ). sum_in (a ∷ c.args.bundle.now.items) set) null c.from_bits-set.ensures in
    let number = ap (λ (xs : List ℤ). get_or xs c.loop-k.k (pos 0)) c.numbers-number-items.ensures.value in
    let f : SFits w64 (get_or c.numbers-number-items.result.now c.loop-k.k (pos 0)) = search rules in
    omega (arith, ints, sum, number, f, c.if-sum_over-number.true, c.sum_over.ensures.range)

pub returns-then-sum_over-number-clause-fits : goal.returns-then-sum_over-number-clause-fits
returns-then-sum_over-number-clause-fits c = (
  (λ e. cc),
  (λ fit.
      let lt : c.loop-k.k < length c.args.rho.now = subst (λ (xs : List ℤ). c.loop-k.k < length xs) c.numbers-number-items.ensures.value c.loop-k-test.true in
      let size = c.requires.goods in
      let h = fit.within c.loop-k.k (omega (arith, lt, size)) in
      absurd (omega (arith, ints, h, more c))),
)

pub returns-then-sum_over-number-clause-more : goal.returns-then-sum_over-number-clause-more
returns-then-sum_over-number-clause-more c =
    subst (λ (set : ℕ). number_of c.args.rho.now set <ℤ share_in (length c.args.bundle.now.items) c.args.rho.now c.args.bundle.now.items set) (sym c.from_bits-set.ensures) (more c)

pub returns-then-sum_over-number-clause-first : goal.returns-then-sum_over-number-clause-first
returns-then-sum_over-number-clause-first c = λ k h. c.loop-k.invariant k (let e = c.from_bits-set.ensures in omega arith)
