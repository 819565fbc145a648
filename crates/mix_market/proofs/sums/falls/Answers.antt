use Rattle.std.proofs.Common.{Bool, true, false, ltb, refl, pos, ◌≤ℤ◌, ◌+◌, drop, map, ◌≡◌, ◌∙◌, ◌^◌, ◌<◌, ◌≤◌, ℕ, suc, length, arith, sym, subst}
use Rattle.std.proofs.lemmas.Int.{ints}
use Rattle.std.proofs.lemmas.Bool.{ltb-true, ltb-false}
use Rattle.mix_num.specs.Vectors.{members, with_null}
use Rattle.mix_num.specs.Ranges.{HaveRoom}
use Rattle.mix_num.specs.Tables.{number_of}
use Rattle.mix_num.specs.Subsets.{subset_sum}
use Rattle.mix_law.specs.Members.{fall_of}
use Rattle.mix_law.proofs.Ranges.{fall_range}
use Rattle.mix_law.proofs.NewTables.{zero_number}
use Rattle.mix_market.specs.Lyapunov.{sum_of}
use Rattle.mix_market.proofs.MemberSums.{total_at, fall_next, one_of}
use Rattle.mix_market.proofs.SlopeTables.{no_parts, no_sizes, sum_lies, sum_next}
use Rattle.mix_market.proofs.sums.falls.Goals as goal

pub loop-buyer-init : goal.loop-buyer-init
loop-buyer-init g c =
    let zero = λ (set : ℕ). zero_number c.new-falls.result set c.new-falls.ensures in
    let none = λ (set : ℕ). zero_number c.new-parts.result set c.new-parts.ensures in
    record {
      value = λ set h. let z = zero set in let y = no_parts c.new-parts.result set none in omega (arith, ints);
      others = λ set h. zero set;
      low = λ set. let z = zero set in omega (arith, ints);
      high = λ set. let z = zero set in omega (arith, ints);
      range = λ set h. let z = zero set in let y = no_parts c.new-parts.result set none in (omega (arith, ints), omega (arith, ints));
      small = let z = no_sizes c.new-parts.result none in omega (arith, ints);
    }

pub add_falls-requires-clause-some : goal.add_falls-requires-clause-some
add_falls-requires-clause-some g c =
    let n = length c.args.prices.now.items in
    let y = c.buyer-item.result in
    let same : g.D.Convex.goods y ≡ n = one_of (λ member. g.D.Convex.goods member ≡ n) c.args.buyers.now c.loop-buyer.buyer-index y c.requires.buyers.same_goods c.loop-buyer-test.true c.buyer-item.is in
    let some = c.requires.some in
    omega arith

pub add_falls-requires-clause-prices : goal.add_falls-requires-clause-prices
add_falls-requires-clause-prices g c =
    let n = length c.args.prices.now.items in
    let y = c.buyer-item.result in
    let same : g.D.Convex.goods y ≡ n = one_of (λ member. g.D.Convex.goods member ≡ n) c.args.buyers.now c.loop-buyer.buyer-index y c.requires.buyers.same_goods c.loop-buyer-test.true c.buyer-item.is in
    subst (λ (m : ℕ). HaveRoom m c.args.prices.now.items) (sym same) c.requires.prices

pub add_falls-requires-clause-range : goal.add_falls-requires-clause-range
add_falls-requires-clause-range g c = λ set h.
    let n = length c.args.prices.now.items in
    let y = c.buyer-item.result in
    let x = with_null c.args.prices.now.items in
    let same : g.D.Convex.goods y ≡ n = one_of (λ member. g.D.Convex.goods member ≡ n) c.args.buyers.now c.loop-buyer.buyer-index y c.requires.buyers.same_goods c.loop-buyer-test.true c.buyer-item.is in
    let some = c.requires.some in
    let few = c.requires.buyers.few in
    let total = total_at c.requires.buyers c.loop-buyer.buyer-index y c.loop-buyer-test.true c.buyer-item.is in
    sum_lies (number_of c.loop-buyer.falls set) (fall_of (g.D.Convex.function y) x (members set)) (g.D.Convex.total y) c.loop-buyer.buyer-index (omega arith) (c.loop-buyer.invariant.low set) (c.loop-buyer.invariant.high set) (fall_range (omega arith) (g.D.Convex.l_natural y) x (members set)) total.1

pub add_falls-requires-clause-small : goal.add_falls-requires-clause-small
add_falls-requires-clause-small g c = let few = c.requires.buyers.few in let h = c.loop-buyer-test.true in let s = c.loop-buyer.invariant.small in omega (arith, ints)

pub loop-buyer-preserved : goal.loop-buyer-preserved
loop-buyer-preserved g c =
    let n = length c.args.prices.now.items in
    let y = c.buyer-item.result in
    let x = with_null c.args.prices.now.items in
    let i = c.loop-buyer.buyer-index in
    let same : g.D.Convex.goods y ≡ n = one_of (λ member. g.D.Convex.goods member ≡ n) c.args.buyers.now i y c.requires.buyers.same_goods c.loop-buyer-test.true c.buyer-item.is in
    let total = total_at c.requires.buyers i y c.loop-buyer-test.true c.buyer-item.is in
    let e = c.add_falls.ensures in
    record {
      value = λ set h.
          let sum = e.sums set (subst (λ (m : ℕ). set < 2 ^ suc m) (sym same) h) in
          let next = fall_next g.D.Convex.function c.args.buyers.now i y x (members set) c.loop-buyer-test.true c.buyer-item.is in
          sum_next (number_of c.loop-buyer.falls set) (subset_sum c.loop-buyer.parts set) (number_of c.add_falls.new.falls set) (subset_sum c.add_falls.new.parts set) (fall_of (g.D.Convex.function y) x (members set))
          (fall_of (sum_of (map g.D.Convex.function (drop (i + 1) c.args.buyers.now))) x (members set))
          (fall_of (sum_of (map g.D.Convex.function (drop i c.args.buyers.now))) x (members set))
          (fall_of (sum_of (map g.D.Convex.function c.args.buyers.now)) x (members set)) sum next (c.loop-buyer.invariant.value set h);
      others = λ set h. e.others set (subst (λ (m : ℕ). 2 ^ suc m ≤ set) (sym same) h) ∙ c.loop-buyer.invariant.others set h;
      low = λ set. let a = e.low set in let b = c.loop-buyer.invariant.low set in omega (arith, ints);
      high = λ set. let a = e.high set in let b = c.loop-buyer.invariant.high set in omega (arith, ints, total.1);
      range = λ set h.
          let sum = e.sums set (subst (λ (m : ℕ). set < 2 ^ suc m) (sym same) h) in
          let own = fall_range (omega (arith, c.requires.some)) (g.D.Convex.l_natural y) x (members set) in
          let b = c.loop-buyer.invariant.range set h in
          (omega (arith, ints, own.0, b.0), omega (arith, ints, own.1, b.1, total.1));
      small = let a = e.small in let b = c.loop-buyer.invariant.small in omega (arith, ints);
    }

pub add_parts-requires-clause-range : goal.add_parts-requires-clause-range
add_parts-requires-clause-range g c = λ set h.
    let few = c.requires.buyers.few in
    let end = c.loop-buyer.auto.buyer-index-end in
    let b = c.loop-buyer.invariant.range set (subst (λ (m : ℕ). set < 2 ^ suc m) c.len.ensures.value h) in
    (omega (arith, ints, b.0), omega (arith, ints, b.1))

pub returns-clause-range : goal.returns-clause-range
returns-clause-range g c = λ set. at set (ltb set (2 ^ suc c.len.result)) refl
  where
    at : (set : ℕ) (b : Bool) → ltb set (2 ^ suc c.len.result) ≡ b → (pos 0 ≤ℤ number_of c.add_parts.new.falls set) × (number_of c.add_parts.new.falls set ≤ℤ pos 2048000000)
    at set true e =
        let h = ltb-true set (2 ^ suc c.len.result) e in
        let b = c.loop-buyer.invariant.range set (subst (λ (m : ℕ). set < 2 ^ suc m) c.len.ensures.value h) in
        let s = c.add_parts.ensures.sums set h in
        (omega (arith, ints, b.0), omega (arith, ints, b.1, c.requires.buyers.few, c.loop-buyer.auto.buyer-index-end))
    at set false e =
        let h = ltb-false set (2 ^ suc c.len.result) e in
        let s = c.add_parts.ensures.others set h in
        let z = c.loop-buyer.invariant.others set (subst (λ (m : ℕ). 2 ^ suc m ≤ set) c.len.ensures.value h) in
        (omega (arith, ints), omega (arith, ints))
