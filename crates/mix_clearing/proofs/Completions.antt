-- Bundles that clear keep the tie rule exactly where each is the greatest that can be completed.
use Rattle.std.proofs.Common.{◌↔◌, ℕ, ℤ, List, refl, subst}
use Rattle.mix_num.specs.Vectors.{Vector}
use Rattle.mix_num.specs.Tables.{IsLexAtMost}
use Rattle.mix_num.specs.Orders.{place_at}
use Rattle.mix_law.specs.Clearings.{bidder_bundle, Clears, KeepsTieRule}
use Rattle.mix_clearing.specs.Completions.{AreGreatestCompletable}

pub greatest-exactly : (utilities : List (Vector → ℤ)) (supply reserve prices : List ℤ) (order : List ℕ) (bundles : List (List ℤ)) (returns : List ℤ) → Clears utilities supply reserve prices bundles returns
    → KeepsTieRule utilities supply reserve prices order bundles ↔ AreGreatestCompletable utilities supply reserve prices order bundles
greatest-exactly utilities supply reserve prices order bundles returns c = (
  (λ rule k h. (
    (bundles, returns, c, (λ i l. refl), refl),
    λ bundle can. subst (λ (x : List ℤ). IsLexAtMost x (bidder_bundle bundles (place_at order k))) can.4 (rule k h can.0 can.1 can.2 can.3),
  )),
  λ greatest k h others kept d same. (greatest k h).1 (bidder_bundle others (place_at order k)) (others, kept, d, same, refl),
)
