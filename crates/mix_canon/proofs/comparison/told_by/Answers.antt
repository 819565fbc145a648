use Rattle.std.proofs.Common.{ℕ, subst, sym}
use Rattle.mix_bids.specs.Bids.{AreBids}
use Rattle.mix_canon.specs.Searches.{IsFirstAround, IsFirstRound}
use Rattle.mix_canon.proofs.FirstPairs.{first_offers, first_pair}
use Rattle.mix_canon.proofs.Likenesses.{matched, told_more}
use Rattle.mix_canon.proofs.Readings.{weight_told}
use Rattle.mix_canon.proofs.comparison.told_by.Goals as goal

pub told_round-requires-clause-values : goal.told_round-requires-clause-values
told_round-requires-clause-values c =
    let n = c.args.first.now.goods in
    let bare = subst (AreBids n) c.bids-bids.ensures.value c.bids-bids.ensures.proper in
    let more = subst (AreBids c.args.second.now.goods) c.bids-more.ensures.value c.bids-more.ensures.proper in
    let care = subst (λ (k : ℕ). AreBids k c.args.second.now.bids) (sym c.requires.goods) more in
    first_offers n _ _ _ bare care (first_pair _ _ c.args.differences.now c.in_ok-term.term.now c.in_ok-term.ensures.value c.requires.differences)

pub returns : goal.returns
returns c =
    let n = c.args.first.now.goods in
    let v = c.in_ok-term.term.now.values.items in
    let bare = subst (AreBids n) c.bids-bids.ensures.value c.bids-bids.ensures.proper in
    let more = subst (AreBids c.args.second.now.goods) c.bids-more.ensures.value c.bids-more.ensures.proper in
    let care = subst (λ (k : ℕ). AreBids k c.args.second.now.bids) (sym c.requires.goods) more in
    let is = first_pair _ _ c.args.differences.now c.in_ok-term.term.now c.in_ok-term.ensures.value c.requires.differences in
    matched c.told_round.result c.told_round.ensures
    (λ round. absurd (is.apart (weight_told n _ _ v bare care (first_offers n _ _ v bare care is) c.requires.low round)))
    (λ l told. told_more c.args.first.now c.args.second.now (IsFirstRound n _ _ v) (IsFirstAround n _ _) l (λ p around. (v, (is, around))) told)
