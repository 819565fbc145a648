-- Every true answer is fair.
use Rattle.std.proofs.Common.{ℕ, ◌<◌, ℤ, List, length, map, sym, ◌∙◌, subst, arith}
use Rattle.mix_num.specs.Vectors.{Vector}
use Rattle.mix_law.specs.Clearings.{AreLeastClearing, Clears}
use Rattle.mix_law.specs.Scales.{KeepsScales}
use Rattle.mix_cap.proofs.UnderCaps.{under_keeps_scales}
use Rattle.mix_clearing.specs.Fairness.{IsFair}
use Rattle.mix_clearing.specs.Scales.{KeepScales, at_scale}
use Rattle.mix_clearing.specs.Utilities.{KeepLaws}
use Rattle.mix_clearing.proofs.FairOutcomes.{costs-where_each, fair-where_solved}
use Rattle.mix_text.specs.Auctions.{AuctionText, IsAuction}
use Rattle.mix_text.specs.Bidders.{list_at}
use Rattle.mix_text.specs.Caps.{cap_at}
use Rattle.mix_answer.specs.Refusals.{AreConvex}
use Rattle.mix_answer.specs.Truths.{IsTrueAnswer, bundles_of}
use Rattle.mix_answer.specs.Utilities.{scaled_utilities_of}
use Rattle.mix_answer.specs.declared.outcome.Answer.{Answer}
use Rattle.mix_answer.proofs.Entrants.{length-scaled, scaled-there, utilities_once}
use Rattle.mix_answer.proofs.TrueRefusals.{list_at_ok}
use Rattle.mix_scarcity.proofs.AddedBids.{auction_laws}

scales-kept : (a : AuctionText) → IsAuction a → AreConvex a → KeepScales (length a.supply) (scaled_utilities_of a)
scales-kept a sound convex = subst (λ (n : ℕ). KeepScales n (scaled_utilities_of a)) (sym sound.supply.0) (λ k l.
    let m = length-scaled a in
    let there : k < length a.bidders = omega (arith, l, m) in
    subst (λ (f : ℕ → Vector → ℤ). KeepsScales (length a.goods) f) (sym (scaled-there a k there))
    (under_keeps_scales (length a.goods) (cap_at a.caps k) (list_at a.bidders k).bids (list_at_ok a k sound there).bids (sound.caps.positive k) (convex k there)))

module _ (a : AuctionText) (sound : IsAuction a) (answer : Answer) (is : IsTrueAnswer a answer) where
  abbrev scaled : List (ℕ → Vector → ℤ)
  scaled = scaled_utilities_of a

  laws : KeepLaws (length a.supply) (at_scale 1 scaled)
  laws = subst (KeepLaws (length a.supply)) (sym (utilities_once a)) (auction_laws a sound is.convex)

  least : AreLeastClearing (at_scale 1 scaled) a.supply a.reserve answer.prices.items
  least = subst (λ (us : List (Vector → ℤ)). AreLeastClearing us a.supply a.reserve answer.prices.items) (sym (utilities_once a)) is.solution.least

  clear : Clears (at_scale 1 scaled) a.supply a.reserve answer.prices.items (bundles_of answer) answer.returns.items
  clear = subst (λ (us : List (Vector → ℤ)). Clears us a.supply a.reserve answer.prices.items (bundles_of answer) answer.returns.items) (sym (utilities_once a)) is.solution.clear

  pub fair : IsFair scaled a.supply a.reserve answer.prices.items (bundles_of answer) (map (λ share. share.payment) answer.shares) answer.returns.items
  fair =
      let goods = sound.some_goods in
      let size = sound.supply.0 in
      fair-where_solved scaled a.supply a.reserve answer.prices.items (bundles_of answer) (map (λ share. share.payment) answer.shares) answer.returns.items
      (scales-kept a sound is.convex) laws (omega (arith, goods, size)) (sound.reserve.0 ∙ sym sound.supply.0) least clear
      (costs-where_each (λ share. share.payment) (λ share. share.bundle.items) answer.prices.items answer.shares is.payments)
