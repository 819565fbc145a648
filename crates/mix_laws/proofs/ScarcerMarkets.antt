-- In a scarcer market no clearing price is lower.
use Rattle.std.proofs.Common.{◌≡◌, ℕ, zero, suc, ◌<◌, ℤ, pos, ◌+ℤ◌, ◌-ℤ◌, ◌*ℤ◌, ◌≤ℤ◌, List, length, refl, sym, ap, ◌∙◌, arith}
use Rattle.std.proofs.lemmas.Int.{ints, clamps}
use Rattle.mix_num.specs.Vectors.{Vector, Agree, dot_to, with_null}
use Rattle.mix_num.proofs.Products.{*ℤ-difference, difference-*ℤ, product_nonnegative}
use Rattle.mix_law.specs.Members.{KeepsLocal}
use Rattle.mix_law.proofs.Lattice.{greater}
use Rattle.mix_market.specs.Lyapunov.{IsBelow, lyapunov, sum_of}
use Rattle.mix_market.proofs.MarketLaws.{lyapunov-is}
use Rattle.mix_clearing.specs.Ceilings.{AreAtMost, AreGreatestClearing, CanClearUnder}
use Rattle.mix_law.specs.Clearings.{AreLeastClearing, CanClear}
use Rattle.mix_clearing.specs.Utilities.{KeepLaws}
use Rattle.mix_clearing.proofs.ClearingPrices.{clear-where_alike}
use Rattle.mix_clearing.proofs.LeastClearing.{above-where_clear, least-of_vectors, least_point-where_least_clearing}
use Rattle.mix_clearing.proofs.LyapunovLaws.{keep_local, lyapunov_keeps_local}
use Rattle.mix_clearing.proofs.PriceLists.{below-where_floor, floor-where_below, length-price_list, price_list, with_null-price_list}
use Rattle.mix_clearing.specs.Scarcity.{IsScarcer, NoPriceIsLower, WantsNoLess}
use Rattle.mix_laws.proofs.SteeperFunctions.{greater_no_more, greater_null, greater_over, least_below, steeper_reads}

-- where prices rise, less costs no more besides
product-less : (s t x y : ℤ) → t ≤ℤ s → x ≤ℤ y → ((t *ℤ y) -ℤ (t *ℤ x)) ≤ℤ ((s *ℤ y) -ℤ (s *ℤ x))
product-less s t x y h k =
    let a = product_nonnegative (s -ℤ t) (y -ℤ x) (omega (arith, ints)) (omega (arith, ints)) in
    let b = difference-*ℤ s t (y -ℤ x) in
    let c = *ℤ-difference s y x in
    let d = *ℤ-difference t y x in
    omega (arith, ints)

dot-less : (m : ℕ) (s t x y : Vector) → ((k : ℕ) → k < m → t k ≤ℤ s k) → ((k : ℕ) → k < m → x k ≤ℤ y k) → (dot_to m t y -ℤ dot_to m t x) ≤ℤ (dot_to m s y -ℤ dot_to m s x)
dot-less zero s t x y h k = omega (arith, ints)
dot-less (suc m) s t x y h k =
    let a = dot-less m s t x y (λ i l. h i (omega arith)) (λ i l. k i (omega arith)) in
    let b = product-less (s m) (t m) (x m) (y m) (h m (omega arith)) (k m (omega arith)) in
    omega (arith, ints)

module _ (utilities : List (Vector → ℤ)) (supply reserve : List ℤ) (others : List (Vector → ℤ)) (offered floor : List ℤ) (laws : KeepLaws (length supply) utilities)
    (scarcer : IsScarcer utilities supply reserve others offered floor) where
  abbrev n : ℕ
  n = length supply

  abbrev l : Vector → ℤ
  l = lyapunov utilities supply

  abbrev m : Vector → ℤ
  m = lyapunov others offered

  keeps : (w : ℤ) × KeepsLocal n l w
  keeps = lyapunov_keeps_local utilities supply (keep_local n utilities laws)

  offered-cost : (x : Vector) → m x ≡ sum_of others x +ℤ dot_to (suc n) (with_null offered) x
  offered-cost x =
      let a = lyapunov-is others offered x in
      let b = ap (λ (k : ℕ). dot_to (suc k) (with_null offered) x) scarcer.goods in
      omega (arith, ints)

  steeper : WantsNoLess n l m
  steeper x y h =
      let a = lyapunov-is utilities supply x in
      let b = lyapunov-is utilities supply y in
      let c = offered-cost x in
      let d = offered-cost y in
      let under = below-where_floor n offered supply scarcer.less in
      let e = dot-less (suc n) (with_null supply) (with_null offered) x y (λ k i. under k (omega arith)) (λ k i. h k (omega arith)) in
      let f = scarcer.wanted x y h in
      omega (arith, ints)

  reads : (x y : Vector) → Agree n x y → m x ≡ m y
  reads = steeper_reads keeps.1 m steeper

  module _ (later : List ℤ) (can : CanClear others offered floor later) where
    over : IsBelow n (with_null floor) (with_null later)
    over k h = let e = scarcer.goods in above-where_clear others offered floor later can k (omega arith)

    least_later : (z : Vector) → z 0 ≡ pos 0 → IsBelow n (with_null floor) z → m (with_null later) ≤ℤ m z
    least_later z null h =
        let e = scarcer.goods in
        least-of_vectors others offered floor later (λ x y a. reads x y (λ k i. a k (omega arith))) can z null (λ k i. h k (omega arith))

    higher : IsBelow n (with_null reserve) (with_null floor)
    higher = below-where_floor n reserve floor scarcer.higher

    pub least_lower : (prices : List ℤ) → AreLeastClearing utilities supply reserve prices → AreAtMost n prices later
    least_lower prices are =
        let p = with_null prices in
        let q = with_null later in
        let above = above-where_clear utilities supply reserve prices are.clear in
        let low = least-of_vectors utilities supply reserve prices keeps.1.reads are.clear in
        let least = least_point-where_least_clearing utilities supply reserve prices keeps.1.reads are in
        let up = least_later (greater p q) (greater_null keeps.1 m steeper (with_null reserve) (with_null floor) p q refl refl higher above over low)
        (greater_over keeps.1 m steeper (with_null reserve) (with_null floor) p q refl refl higher above over low) in
        floor-where_below n prices later (least_below keeps.1 m steeper (with_null reserve) (with_null floor) p q refl refl higher above over low least up)

  pub greatest_lower : (ceiling top prices later : List ℤ) → AreAtMost n ceiling top → CanClearUnder utilities supply reserve ceiling prices
      → AreGreatestClearing others offered floor top later → AreAtMost n prices later
  greatest_lower ceiling top prices later under can are i h =
      let e = scarcer.goods in
      let p = with_null prices in
      let q = with_null later in
      let there = are.clear.0 in
      let high = higher later there in
      let above = above-where_clear utilities supply reserve prices can.0 in
      let low = least-of_vectors utilities supply reserve prices keeps.1.reads can.0 in
      let null = greater_null keeps.1 m steeper (with_null reserve) (with_null floor) p q refl refl high above (over later there) low in
      let upper = greater_over keeps.1 m steeper (with_null reserve) (with_null floor) p q refl refl high above (over later there) low in
      let no_more = greater_no_more keeps.1 m steeper (with_null reserve) (with_null floor) p q refl refl high above (over later there) low in
      let list : List ℤ = price_list n (greater p q) in
      let same : Agree n (with_null list) (greater p q) = with_null-price_list n (greater p q) null in
      let value = reads (with_null list) (greater p q) same in
      let long : length list ≡ length offered = length-price_list n (greater p q) ∙ sym e in
      let again = clear-where_alike others offered floor later there.0 there.1 there.2 list long
      (λ j k. let a = same (suc j) (omega arith) in let b = upper (suc j) (omega arith) in omega (arith, ints)) (omega (arith, ints)) in
      let top_above : AreAtMost (length offered) list top = λ j k.
      let a = same (suc j) (omega arith) in
      let b = can.1 j (omega arith) in
      let c = under j (omega arith) in
      let d = are.clear.1 j k in
      omega (arith, ints, clamps) in
      let last = are.greatest list ((there.0, there.1, again), top_above) i (omega arith) in
      let own = same (suc i) (omega arith) in
      omega (arith, ints, clamps)

  pub no_price_is_lower : NoPriceIsLower utilities supply reserve others offered floor
  no_price_is_lower = record { least = λ prices later are can. least_lower later can prices are; greatest = greatest_lower }
