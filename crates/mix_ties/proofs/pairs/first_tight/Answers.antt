use Rattle.std.proofs.Common.{◌≡◌, ◌≢◌, ℕ, suc, ◌/◌, ◌^◌, ◌<◌, refl, arith, sym, ap, ◌∙◌, subst, below_more, pow-suc, w64, to_z, of_z}
use Rattle.std.proofs.lemmas.Int.{ints, to_z-of_z}
use Rattle.std.proofs.Math.Nat.{pow-le-pow_right}
use Rattle.mix_num.specs.Tables.{number_of}
use Rattle.mix_ties.specs.Levels.{IsFirstLevel}
use Rattle.mix_ties.proofs.FirstLevels.{first_level, gap_at, no_level}
use Rattle.mix_ties.proofs.PairNumbers.{lower_at, pair_at, upper_at, upper_below}
use Rattle.mix_ties.proofs.pairs.first_tight.Goals as goal

-- the sets of the other choices are half of all
others_below : (goods others sets : ℕ) → sets ≡ 2 ^ suc goods → others < sets / 2 → others < 2 ^ goods
others_below goods others sets e l = let p = pow-suc 2 goods in omega arith

pub bounds-upper-set : goal.bounds-upper-set
bounds-upper-set c =
    let few = others_below c.args.goods c.loop-others.others c.sets_of-others-end.result c.sets_of-others-end.ensures.value c.loop-others-test.true in
    let b = upper_below c.args.goods c.args.good c.sets_of-own.result c.loop-others.others c.sets_of-own.ensures.value c.requires.good few in
    omega arith

pub overflow_sub-upper : goal.overflow_sub-upper
overflow_sub-upper c =
    let few = others_below c.args.goods c.loop-others.others c.sets_of-others-end.result c.sets_of-others-end.ensures.value c.loop-others-test.true in
    let b = upper_below c.args.goods c.args.good c.sets_of-own.result c.loop-others.others c.sets_of-own.ensures.value c.requires.good few in
    let r = c.requires.upper_range (upper_at c.sets_of-own.result c.loop-others.others) b in
    let a = c.requires.amount in
    omega (arith, ints, r, a)

pub first_at-requires : goal.first_at-requires
first_at-requires c = λ m h.
    let few = others_below c.args.goods c.loop-others.others c.sets_of-others-end.result c.sets_of-others-end.ensures.value c.loop-others-test.true in
    let p = pair_at c.args.goods c.args.good c.sets_of-own.result c.loop-others.others m c.sets_of-own.ensures.value c.requires.good few h in
    let l = p.lower_set in
    omega arith

pub from_bits-requires : goal.from_bits-requires
from_bits-requires c =
    let few = others_below c.args.goods c.loop-others.others c.sets_of-others-end.result c.sets_of-others-end.ensures.value c.loop-others-test.true in
    let b = upper_below c.args.goods c.args.good c.sets_of-own.result c.loop-others.others c.sets_of-own.ensures.value c.requires.good few in
    let m = pow-le-pow_right {n = 2} (omega arith) {i = suc c.args.goods} {j = 9} (omega arith) in
    omega arith

pub returns-in-Some : goal.returns-in-Some
returns-in-Some c =
    let own : ℕ = c.sets_of-own.result in
    let others : ℕ = c.loop-others.others in
    let few = others_below c.args.goods others c.sets_of-others-end.result c.sets_of-others-end.ensures.value c.loop-others-test.true in
    let b = upper_below c.args.goods c.args.good own others c.sets_of-own.ensures.value c.requires.good few in
    let r = c.requires.upper_range (upper_at own others) b in
    let a = c.requires.amount in
    let amount : to_z w64 (of_z w64 c.args.amount) ≡ c.args.amount = to_z-of_z w64 c.args.amount c.ranges.amount in
    let f = c.in-Some.ensures.found in
    let upper : c.from_bits.result ≡ upper_at own others = c.from_bits.ensures in
    let lower : c.from_bits-in-Some.result ≡ lower_at own others f.0 = c.from_bits-in-Some.ensures ∙ f.2 in
    let here = ap (number_of c.args.lower.now) f.2 in
    let number = f.3 in
    let first = first_level c.args.goods c.args.good own c.args.upper.now c.args.lower.now c.args.amount c.sets_of-own.ensures.value c.requires.good others f.0 few f.1
    (omega (arith, ints, here, number, r, a))
    (λ k i h l g. c.loop-others.invariant k i h l (g ∙ sym amount))
    (λ i h g. f.4 i h (omega (arith, ints, g, r, a))) in
    subst (λ (k : ℕ). IsFirstLevel c.args.goods c.args.good c.args.upper.now c.args.lower.now c.args.amount k c.from_bits-in-Some.result) (sym upper)
    (subst (λ (k : ℕ). IsFirstLevel c.args.goods c.args.good c.args.upper.now c.args.lower.now c.args.amount (upper_at own others) k) (sym lower) first)

pub loop-others-preserved : goal.loop-others-preserved
loop-others-preserved c =
    let own : ℕ = c.sets_of-own.result in
    let others : ℕ = c.loop-others.others in
    let few = others_below c.args.goods others c.sets_of-others-end.result c.sets_of-others-end.ensures.value c.loop-others-test.true in
    let b = upper_below c.args.goods c.args.good own others c.sets_of-own.ensures.value c.requires.good few in
    let r = c.requires.upper_range (upper_at own others) b in
    let a = c.requires.amount in
    let P : ℕ → Type 0 = λ k. (m : ℕ) → m < own / 2 → gap_at own c.args.upper.now c.args.lower.now k m ≢ to_z w64 (of_z w64 c.args.amount) in
    let here : P others = λ m l g. c.in_default.ensures.none refl m l (omega (arith, ints, g, r, a)) in
    λ k m h l. below_more P others (λ k h m l. c.loop-others.invariant k m h l) here k h m l

pub unreachable-requires : goal.unreachable-requires
unreachable-requires c =
    let amount : to_z w64 (of_z w64 c.args.amount) ≡ c.args.amount = to_z-of_z w64 c.args.amount c.ranges.amount in
    no_level c.args.goods c.args.good c.sets_of-own.result c.args.upper.now c.args.lower.now c.args.amount c.sets_of-own.ensures.value c.requires.good
    (λ k i h l g. c.loop-others.invariant k i (let e = c.sets_of-others-end.ensures.value in let p = pow-suc 2 c.args.goods in let t = c.loop-others-test.false in omega arith) l (g ∙ sym amount))
    c.requires.some.0 c.requires.some.1 c.requires.some.2
