use Rattle.std.proofs.Common.{◌≡◌, ℤ, ℕ, pos, arith, ap, List, get_or, to_z, of_z, w64, ◌+ℤ◌}
use Rattle.std.proofs.lemmas.Int.{ints}
use Rattle.std.proofs.lemmas.List.Elements.{All-set, All-get_or}
use Rattle.mix_num.specs.Ranges.{Lies}
use Rattle.mix_num.specs.Tables.{number_of}
use Rattle.mix_num.proofs.set_table.SetTable.add.Goals as goal

pub invariant_of-self : goal.invariant_of-self
invariant_of-self c =
    let old = get_or c.self.inside.numbers c.bits.result (pos 0) in
    let e = ap (λ (k : ℕ). get_or c.self.inside.numbers k (pos 0)) c.bits.ensures.value in
    let v = ap (λ (z : List ℤ). number_of z c.args.set) c.self.view_is in
    let r = All-get_or (Lies 4000000000) c.self.inside.numbers c.bits.result (pos 0) (omega arith) c.self.invariant in
    let number : to_z w64 (of_z w64 old) ≡ old = omega (arith, ints, r.0, r.1) in
    let by : to_z w64 (of_z w64 c.args.by) ≡ c.args.by = omega (arith, ints) in
    let sum : to_z w64 (of_z w64 (to_z w64 (of_z w64 old) +ℤ to_z w64 (of_z w64 c.args.by))) ≡ old +ℤ c.args.by = omega (arith, ints, c.requires.0, c.requires.1, e, v) in
    All-set (Lies 4000000000) c.self.inside.numbers c.bits.result _ (omega (arith, ints, c.requires.0, c.requires.1, sum, e, v), omega (arith, ints, c.requires.0, c.requires.1, sum, e, v)) c.self.invariant
