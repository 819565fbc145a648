use Rattle.std.proofs.Common.{◌*◌, ◌%◌, ◌^◌, ◌≤◌, List, length, All, ℤ, pos, arith, ap, sym, ◌∙◌, subst, pow_mono}
use Rattle.std.proofs.lemmas.Int.{ints}
use Rattle.std.proofs.lemmas.List.{length-replicate}
use Rattle.std.proofs.lemmas.List.Elements.{All-replicate}
use Rattle.mix_num.specs.Ranges.{Lies}
use Rattle.mix_demand.proofs.rho.Rho.zero.Goals as goal

pub invariant_of-result : goal.invariant_of-result
invariant_of-result c =
    let e = c.in_ok-numbers.ensures.items_if_clones_equal (λ y h. h) in
    let small : 2 ^ c.args.goods ≤ 2 ^ 8 = pow_mono c.requires in
    let size = ap (λ (xs : List ℤ). length xs) e ∙ length-replicate (2 * 2 ^ c.args.goods % 18446744073709551616) (pos 0) in
    record {
      few = omega (arith, size);
      range = subst (λ (xs : List ℤ). All (Lies 4000000000) xs) (sym e) (All-replicate (Lies 4000000000) (2 * 2 ^ c.args.goods % 18446744073709551616) (pos 0) (omega (arith, ints), omega (arith, ints)));
    }
