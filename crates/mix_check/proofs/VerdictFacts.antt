-- What a verdict tells of an outcome, and what follows where the outcome is true.
use Rattle.std.proofs.Common.{◌≡◌, ◌↔◌, ◌<◌, ℕ, ℤ, List, length, map, refl, arith, sym, ◌∙◌, subst, Result, IfOk}
use Rattle.std.proofs.lemmas.Result.{IfOk-weaker}
use Rattle.mix_num.specs.declared.Memory.{Memory}
use Rattle.mix_num.specs.Vectors.{Vector}
use Rattle.mix_law.specs.Clearings.{AreLeastClearing, Clears}
use Rattle.mix_law.specs.Scales.{KeepsScales}
use Rattle.mix_cap.proofs.UnderCaps.{under_keeps_scales}
use Rattle.mix_clearing.specs.Scales.{KeepScales}
use Rattle.mix_clearing.specs.Utilities.{KeepLaws}
use Rattle.mix_clearing.proofs.FairOutcomes.{costs-where_each, fair-where_solved}
use Rattle.mix_clearing.proofs.Fractions.{least_of_fractions-where_least_clearing}
use Rattle.mix_clearing.proofs.Worths.{worth_most-where_clears}
use Rattle.mix_text.specs.Auctions.{AuctionText, IsAuction}
use Rattle.mix_text.specs.Bidders.{list_at}
use Rattle.mix_text.specs.Caps.{cap_at}
use Rattle.mix_answer.specs.Refusals.{AreConvex}
use Rattle.mix_answer.specs.Truths.{IsTrueOutcome, bundles_of}
use Rattle.mix_answer.specs.Utilities.{scaled_utilities_of, utilities_of}
use Rattle.mix_answer.specs.declared.outcome.Outcome.{Outcome}
use Rattle.mix_answer.specs.declared.outcome.Outcome.TheVariants.{Cleared, Refused}
use Rattle.mix_answer.proofs.Entrants.{length-scaled, scaled-there, utilities_once}
use Rattle.mix_answer.proofs.TrueRefusals.{list_at_ok}
use Rattle.mix_check.proofs.AuctionFacts.{laws}
use Rattle.mix_check.specs.declared.reason.Verdict.{Verdict}
use Rattle.mix_check.specs.declared.reason.Verdict.TheVariants.{No, Yes}
use Rattle.mix_check.specs.Verdicts.{IsFairOutcome, IsLeastOfFractions, IsVerdict, IsWorthMost}

pub verdict_exact : (a : AuctionText) (outcome : Outcome) (verdict : Verdict) → IsVerdict a outcome verdict → (verdict ≡ Yes) ↔ IsTrueOutcome a outcome
verdict_exact a outcome Yes is = ((λ e. is), λ true. refl)
verdict_exact a outcome (No reason) is = ((λ e. cc), λ true. absurd (is.0 true))

-- a true answer is worth no less than any allocation
pub true_worth : (a : AuctionText) (outcome : Outcome) → IsAuction a → IsTrueOutcome a outcome → IsWorthMost a outcome
true_worth a (Refused r) sound true = tt
true_worth a (Cleared answer) sound true =
    worth_most-where_clears (utilities_of a) a.supply a.reserve answer.prices.items (bundles_of answer) answer.returns.items (sound.reserve.0 ∙ sym sound.supply.0) true.solution.clear

-- the utilities of convex bidders at all scales go together
scales-kept : (a : AuctionText) → IsAuction a → AreConvex a → KeepScales (length a.supply) (scaled_utilities_of a)
scales-kept a sound convex = subst (λ (n : ℕ). KeepScales n (scaled_utilities_of a)) (sym sound.supply.0) (λ k l.
    let there : k < length a.bidders = let m = length-scaled a in omega (arith, m, l) in
    subst (λ (f : ℕ → Vector → ℤ). KeepsScales (length a.goods) f) (sym (scaled-there a k there))
    (under_keeps_scales (length a.goods) (cap_at a.caps k) (list_at a.bidders k).bids (list_at_ok a k sound there).bids (sound.caps.positive k) (convex k there)))

-- and no prices with fractions clear below a true answer's
pub true_least : (a : AuctionText) (outcome : Outcome) → IsAuction a → IsTrueOutcome a outcome → IsLeastOfFractions a outcome
true_least a (Refused r) sound true = tt
true_least a (Cleared answer) sound true =
    least_of_fractions-where_least_clearing (scaled_utilities_of a) a.supply (scales-kept a sound true.convex) a.reserve answer.prices.items
    (subst (λ (fs : List (Vector → ℤ)). AreLeastClearing fs a.supply a.reserve answer.prices.items) (sym (utilities_once a)) true.solution.least)

-- and it is fair
pub true_fair : (a : AuctionText) (outcome : Outcome) → IsAuction a → IsTrueOutcome a outcome → IsFairOutcome a outcome
true_fair a (Refused r) sound true = tt
true_fair a (Cleared answer) sound true =
    let some = sound.some_goods in
    let goods = sound.supply.0 in
    let once = sym (utilities_once a) in
    fair-where_solved (scaled_utilities_of a) a.supply a.reserve answer.prices.items (bundles_of answer) (map (λ share. share.payment) answer.shares) answer.returns.items
    (scales-kept a sound true.convex) (subst (KeepLaws (length a.supply)) once (laws a sound true.convex)) (omega (arith, some, goods)) (sound.reserve.0 ∙ sym sound.supply.0)
    (subst (λ (fs : List (Vector → ℤ)). AreLeastClearing fs a.supply a.reserve answer.prices.items) once true.solution.least)
    (subst (λ (fs : List (Vector → ℤ)). Clears fs a.supply a.reserve answer.prices.items (bundles_of answer) answer.returns.items) once true.solution.clear)
    (costs-where_each (λ share. share.payment) (λ share. share.bundle.items) answer.prices.items answer.shares true.payments)

-- ---- the result of a call that gives the verdict on an outcome
module _ (a : AuctionText) (outcome same : Outcome) (result : Result Verdict Memory) (e : outcome ≡ same) (ok : IfOk result (IsVerdict a same)) where
  pub result_exact : IfOk result (λ verdict. (verdict ≡ Yes) ↔ IsTrueOutcome a outcome)
  result_exact =
      subst (λ (o : Outcome). IfOk result (λ verdict. (verdict ≡ Yes) ↔ IsTrueOutcome a o)) (sym e)
      (IfOk-weaker result (IsVerdict a same) (λ verdict. (verdict ≡ Yes) ↔ IsTrueOutcome a same) (λ verdict is. verdict_exact a same verdict is) ok)

  pub result_worth : IsAuction a → IfOk result (λ verdict. verdict ≡ Yes → IsWorthMost a outcome)
  result_worth sound =
      subst (λ (o : Outcome). IfOk result (λ verdict. verdict ≡ Yes → IsWorthMost a o)) (sym e)
      (IfOk-weaker result (IsVerdict a same) (λ verdict. verdict ≡ Yes → IsWorthMost a same) (λ verdict is yes. true_worth a same sound ((verdict_exact a same verdict is).0 yes)) ok)

  pub result_least : IsAuction a → IfOk result (λ verdict. verdict ≡ Yes → IsLeastOfFractions a outcome)
  result_least sound =
      subst (λ (o : Outcome). IfOk result (λ verdict. verdict ≡ Yes → IsLeastOfFractions a o)) (sym e)
      (IfOk-weaker result (IsVerdict a same) (λ verdict. verdict ≡ Yes → IsLeastOfFractions a same) (λ verdict is yes. true_least a same sound ((verdict_exact a same verdict is).0 yes)) ok)

  pub result_fair : IsAuction a → IfOk result (λ verdict. verdict ≡ Yes → IsFairOutcome a outcome)
  result_fair sound =
      subst (λ (o : Outcome). IfOk result (λ verdict. verdict ≡ Yes → IsFairOutcome a o)) (sym e)
      (IfOk-weaker result (IsVerdict a same) (λ verdict. verdict ≡ Yes → IsFairOutcome a same) (λ verdict is yes. true_fair a same sound ((verdict_exact a same verdict is).0 yes)) ok)
