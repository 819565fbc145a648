use Rattle.std.proofs.Common.{◌≡◌, ◌≢◌, ℕ, suc, ◌+◌, ◌-◌, ◌^◌, ◌<◌, length, arith, ap, ◌∙◌, w64, to_z, of_z, below_more, get_or-set_other, get_or-set_same}
use Rattle.std.proofs.lemmas.Int.{ints}
use Rattle.mix_num.specs.Tables.{number_of, whole}
use Rattle.mix_num.specs.Vectors.{with_null}
use Rattle.mix_law.proofs.NewTables.{gains_fit, zero_number}
use Rattle.mix_law.proofs.MemberTables.{table-written, table-proper, table-lies}
use Rattle.mix_demand.proofs.rho.write_numbers.Goals as goal

-- the table of zeros takes what the member gains
pub gains-requires-clause-range : goal.gains-requires-clause-range
gains-requires-clause-range g c = λ set h.
    gains_fit (let n = c.goods.ensures in omega arith) (g.D.Convex.l_natural c.args.member.now) (omega (arith, ints, c.total-total.ensures.value, c.total-total.ensures.range)) c.new-gains.result c.new-gains.ensures
    (with_null c.args.prices.now.items) set

pub loop-bits-preserved : goal.loop-bits-preserved
loop-bits-preserved g c =
    let n : ℕ = g.D.Convex.goods c.args.member.now in
    let m : ℕ = c.loop-bits.bits in
    let same : 2 ^ (c.goods.result + 1) ≡ 2 ^ suc n = ap (λ (k : ℕ). 2 ^ k) (let v = c.goods.ensures.value in let e : c.goods.result + 1 ≡ suc n = omega arith in e) in
    let last : c.bits-whole.result ≡ 2 ^ (c.goods.result + 1) - 1 = c.bits-whole.ensures.value ∙ c.whole.ensures in
    let lt : m < 2 ^ suc n = let l = c.loop-bits-test.true in omega arith in
    let sum = c.gains.ensures.sums m lt in
    let zero = zero_number c.new-gains.result m c.new-gains.ensures in
    let at = c.at.ensures.value ∙ ap (number_of c.gains.new.out) c.from_bits.ensures in
    let range = c.at.ensures.range in
    below_more _ _
    (λ k h. let ne : k ≢ m = omega arith in rw get_or-set_other (c.loop-bits.invariant k h))
    (let inside : m < length c.loop-bits.numbers = let a = c.loop-bits.auto.numbers in let r = c.requires.goods in omega arith in rw get_or-set_same (omega (arith, ints, sum, zero, at, range)))

pub returns-clause-table : goal.returns-clause-table
returns-clause-table g c =
    let n = c.goods.ensures.value in
    let last : c.bits-whole.result ≡ whole (g.D.Convex.goods c.args.member.now) =
    c.bits-whole.ensures.value ∙ c.whole.ensures ∙ ap (λ (k : ℕ). 2 ^ k - 1) (let e : c.goods.result + 1 ≡ suc (g.D.Convex.goods c.args.member.now) = omega arith in e) in
    let total : to_z w64 (of_z w64 c.total-total.result) ≡ g.D.Convex.total c.args.member.now = omega (arith, ints, c.total-total.ensures.value, c.total-total.ensures.range) in
    table-written (g.D.Convex.l_natural c.args.member.now) c.args.prices.now.items c.loop-bits.numbers c.bits-whole.result (to_z w64 (of_z w64 c.total-total.result))
    (c.loop-bits.auto.numbers ∙ c.requires.goods) last (λ a h. c.loop-bits.invariant a (omega arith)) total

pub returns-clause-proper : goal.returns-clause-proper
returns-clause-proper g c =
    table-proper (g.D.Convex.l_natural c.args.member.now) (let n = c.goods.ensures in omega arith) c.args.prices.now.items _
    (omega (arith, ints, c.total-total.ensures.value, c.total-total.ensures.range)) (returns-clause-table g c)

pub returns-clause-range : goal.returns-clause-range
returns-clause-range g c =
    table-lies (g.D.Convex.l_natural c.args.member.now) c.args.prices.now.items _
    (omega (arith, ints, c.total-total.ensures.value, c.total-total.ensures.range)) (let n = c.goods.ensures in omega arith) (returns-clause-table g c)
