-- What bidders and the seller have at prices that clear.
use Rattle.std.proofs.Common.{◌≡◌, ℕ, zero, suc, ◌≤◌, ℤ, pos, ◌+ℤ◌, ◌*ℤ◌, ◌≤ℤ◌, ◌<ℤ◌, All, List, [], ◌∷◌, length, map, refl, ap, ap₂, ◌∙◌, arith}
use Rattle.std.proofs.lemmas.Int.{ints}
use Rattle.std.proofs.lemmas.List.Elements.{All-head, All-tail}
use Rattle.mix_num.specs.Vectors.{Vector, dot_to, with_null}
use Rattle.mix_num.specs.Sums.{dot_of, entries, total}
use Rattle.mix_num.proofs.Additions.{total-cons, total-none}
use Rattle.mix_num.proofs.Costs.{cost-of_supply, cost_of, dot-grows, dot-is}
use Rattle.mix_num.proofs.Products.{product_grows_left}
use Rattle.mix_law.specs.Clearings.{AreLeastClearing, Clears, bidder_bundle, bidder_utility}
use Rattle.mix_law.specs.Demands.{IsDemanded}
use Rattle.mix_clearing.specs.Fairness.{AreContent, IsContent, IsFair, IsPaid}
use Rattle.mix_clearing.specs.Scales.{KeepScales, at_scale}
use Rattle.mix_clearing.specs.Utilities.{KeepLaws}
use Rattle.mix_clearing.proofs.FallingUtilities.{best-of_fractions}
use Rattle.mix_clearing.proofs.Worths.{value-where_demanded}

-- whoever demands its bundle is content with it
pub content-where_demanded : (n : ℕ) (f : Vector → ℤ) (prices bundle : List ℤ) → length prices ≡ n → IsDemanded n f prices bundle → IsContent n f prices bundle
content-where_demanded n f prices bundle long demanded = record {
  value = f (with_null prices) +ℤ dot_of prices bundle;
  valued = value-where_demanded n f prices bundle long demanded;
  gain = omega (arith, ints);
  best = λ other worth has. let a = has.over prices long in omega (arith, ints);
}

pub content-where_clears : (utilities : List (Vector → ℤ)) (supply reserve prices : List ℤ) (bundles : List (List ℤ)) (returns : List ℤ)
    → Clears utilities supply reserve prices bundles returns → AreContent utilities (length supply) prices bundles
content-where_clears utilities supply reserve prices bundles returns c k h =
    content-where_demanded (length supply) (bidder_utility utilities k) prices (bidder_bundle bundles k) c.size (c.demanded k h)

-- ---- payments

-- each pays what its bundle costs
pub costs-where_each : {A : Type 0} (payment : A → ℤ) (bundle : A → List ℤ) (prices : List ℤ) (items : List A) → All (λ item. payment item ≡ dot_of prices (bundle item)) items
    → map payment items ≡ map (dot_of prices) (map bundle items)
costs-where_each payment bundle prices [] each = refl
costs-where_each {A} payment bundle prices (item ∷ items) each =
    let P : A → Type 0 = λ i. payment i ≡ dot_of prices (bundle i) in
    ap₂ (λ (a : ℤ) (rest : List ℤ). a ∷ rest) (All-head P item items each) (costs-where_each payment bundle prices items (All-tail P item items each))

-- together they pay what all bundles cost
total-costs : (prices : List ℤ) (bundles : List (List ℤ)) → total (map (dot_of prices) bundles) ≡ cost_of prices bundles
total-costs prices [] = total-none
total-costs prices (bundle ∷ bundles) =
    let a = total-cons (dot_of prices bundle) (map (dot_of prices) bundles) in
    let b = total-costs prices bundles in
    omega (arith, ints)

-- what is returned is worth as much at the prices as at the reserves
returned_at : (r p y : ℤ) → pos 0 ≤ℤ y → (pos 0 <ℤ y → p ≡ r) → (p *ℤ y) ≤ℤ (r *ℤ y)
returned_at r p (pos zero) s e = omega (arith, ints)
returned_at r p (pos (suc y)) s e = let i = e (omega (arith, ints)) in product_grows_left p r (pos (suc y)) (omega (arith, ints)) (omega (arith, ints))
returned_at r p y s e = absurd (omega (arith, ints))

module _ (utilities : List (Vector → ℤ)) (supply reserve prices : List ℤ) (bundles : List (List ℤ)) (payments returns : List ℤ)
    (c : Clears utilities supply reserve prices bundles returns) (long : length reserve ≡ length supply) (pay : payments ≡ map (dot_of prices) bundles) where
  abbrev n : ℕ
  n = length supply

  dot-over : (q x : List ℤ) → length q ≡ n → dot_of q x ≡ dot_to n (entries q) (entries x)
  dot-over q x e =
      let a = dot-is q x in
      let b = ap (λ (k : ℕ). dot_to k (entries q) (entries x)) e in
      omega (arith, ints)

  returns-same : dot_of prices returns ≡ dot_of reserve returns
  returns-same =
      let a = dot-over prices returns c.size in
      let b = dot-over reserve returns long in
      let down = dot-grows n (entries reserve) (entries prices) (entries returns) (λ i l. returned_at _ _ _ (c.lawful.some i l) (c.lawful.at_reserve i l)) in
      let up = dot-grows n (entries prices) (entries reserve) (entries returns) (λ i l. product_grows_left _ _ _ (c.lawful.some i l) (c.floor i l)) in
      omega (arith, ints)

  supply-more : dot_of reserve supply ≤ℤ dot_of prices supply
  supply-more =
      let a = dot-over prices supply c.size in
      let b = dot-over reserve supply long in
      let up = dot-grows n (entries prices) (entries reserve) (entries supply)
      (λ i l. product_grows_left _ _ _ (let e = c.lawful.some i l in let f = c.lawful.most i l in omega (arith, ints)) (c.floor i l)) in
      omega (arith, ints)

  pub paid-where_clears : IsPaid supply reserve prices payments returns
  paid-where_clears =
      let a = ap total pay ∙ total-costs prices bundles in
      let b = cost-of_supply prices supply bundles returns c.size c.sum in
      let d = returns-same in
      let e = supply-more in
      record { exact = omega (arith, ints); least = omega (arith, ints) }

-- the least clearing prices, with what clears there, are fair
pub fair-where_solved : (utilities : List (ℕ → Vector → ℤ)) (supply reserve prices : List ℤ) (bundles : List (List ℤ)) (payments returns : List ℤ) → KeepScales (length supply) utilities
    → KeepLaws (length supply) (at_scale 1 utilities) → 1 ≤ length supply → length reserve ≡ length supply → AreLeastClearing (at_scale 1 utilities) supply reserve prices
    → Clears (at_scale 1 utilities) supply reserve prices bundles returns → payments ≡ map (dot_of prices) bundles → IsFair utilities supply reserve prices bundles payments returns
fair-where_solved utilities supply reserve prices bundles payments returns scales laws goods long least clear pay = record {
  best = best-of_fractions utilities supply reserve prices scales laws goods least;
  content = content-where_clears (at_scale 1 utilities) supply reserve prices bundles returns clear;
  paid = paid-where_clears (at_scale 1 utilities) supply reserve prices bundles payments returns clear long pay;
}
