use Rattle.std.proofs.Common.{ℕ, List, ℤ, ◌≡◌, arith, subst, sym, inr}
use Rattle.mix_num.specs.Vectors.{Agree, members, minus, plus, with_null}
use Rattle.mix_bids.specs.Bids.{AreBids}
use Rattle.mix_canon.specs.Searches.{IsFirstBeside}
use Rattle.mix_canon.proofs.Likenesses.{matched, told_more}
use Rattle.mix_canon.proofs.NearPoints.{agree_moved, near_lowered, near_raised}
use Rattle.mix_canon.proofs.points.told_beside.Goals as goal

pub told_at-requires-clause-near : goal.told_at-requires-clause-near
told_at-requires-clause-near c = near_raised c.args.prices.now.items c.raise.result.items c.args.set c.requires.prices c.raise.ensures.goods c.raise.ensures.prices

pub told_at-requires-2-clause-near : goal.told_at-requires-2-clause-near
told_at-requires-2-clause-near c = near_lowered c.args.prices.now.items c.lower.result.items c.args.set c.requires.prices c.lower.ensures.goods c.lower.ensures.prices

pub returns : goal.returns
returns c =
    let n = c.args.first.now.goods in
    let x = with_null c.args.prices.now.items in
    let bare = subst (AreBids n) c.bids-bids.ensures.value c.bids-bids.ensures.proper in
    let more = subst (AreBids c.args.second.now.goods) c.bids-more.ensures.value c.bids-more.ensures.proper in
    let care = subst (λ (k : ℕ). AreBids k c.args.second.now.bids) (sym c.requires.goods) more in
    let up : Agree n (with_null c.raise.result.items) (plus x (members c.args.set)) = λ k l. c.raise.ensures.prices k (omega arith) in
    let down : Agree n (with_null c.lower.result.items) (minus x (members c.args.set)) = λ k l. c.lower.ensures.prices k (omega arith) in
    let agreed = agree_moved n _ _ bare care _ _ up c.in_default.ensures in
    matched c.told_at-2.result c.told_at-2.ensures (λ e. record {
      up = agreed;
      down = agree_moved n _ _ bare care _ _ down e;
    })
    (λ l t. told_more c.args.first.now c.args.second.now (λ p. p ≡ c.lower.result.items) (IsFirstBeside n c.args.first.now.bids c.args.second.now.bids x c.args.set) l
    (λ p e. inr (agreed, subst (λ (q : List ℤ). Agree n (with_null q) (minus x (members c.args.set))) (sym e) down)) t)
