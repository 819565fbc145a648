-- Of the steepest sets of goods the first by number lies within all others.
use Rattle.std.proofs.Common.{◌≡◌, ℕ, ◌+◌, ◌*◌, ◌^◌, ◌/◌, ◌<◌, Bool, true, false, cond, List, ℤ, pos, ◌+ℤ◌, ◌≤ℤ◌, ◌<ℤ◌, int_lt, refl, arith, sym, ap, ap₂, ◌∙◌, subst, bit_and, pow-suc, pow_pos, add-one, eq-or-lt_of_le, below_more, ⊎_elim}
use Rattle.std.proofs.lemmas.Int.{ints}
use Rattle.mix_num.specs.Vectors.{Vector, Choices, bit, plus, members, both, either}
use Rattle.mix_num.proofs.Masks.{mask_of, mask_below, mask_members, and_members, same_members}
use Rattle.mix_law.specs.Members.{KeepsLocal}
use Rattle.mix_law.proofs.Exchanges.{submodular_sets}
use Rattle.mix_market.specs.Steepest.{AreSlopes, IsMinimalSteepest, slope_of, IsGoods}
use Rattle.mix_num.specs.Moves.{IsSetOfGoods}
use Rattle.mix_num.specs.Tables.{number_of}
use Rattle.mix_market.proofs.MarketLaws.{slope-none}
use Rattle.mix_market.proofs.GoodsSets.{even_goods, even_null, even_of}
use Rattle.mix_step.specs.First.{IsFirst}
use Rattle.mix_step.specs.declared.step.Step.{Step}
use Rattle.std.proofs.lemmas.Nat.{and_le_l}

both_true : (a b : Bool) → a ≡ true → cond a b false ≡ true → b ≡ true
both_true true b e f = f
both_true false b e f = grind arith

-- the empty set alone
pub first_none : (n : ℕ) (slope_at : ℕ → ℤ) (set : ℕ) → slope_at 0 ≡ pos 0 → set ≡ 0 → IsFirst n slope_at 1 set (pos 0)
first_none n slope_at set none e =
    let power = pow_pos (n + 1) in
    record {
      small = omega arith;
      goods = ap (λ (v : ℕ). members v 0) e;
      is = sym (ap slope_at e ∙ none);
      least = λ k h. let same : 2 * k ≡ 0 = omega arith in let u = ap slope_at same in omega (arith, ints);
      first = λ k h. absurd (omega arith);
    }

-- one set more
pub first_next : (n : ℕ) (slope_at : ℕ → ℤ) (i : ℕ) (best next result : Step) → result ≡ cond (int_lt next.slope best.slope) next best → i < 2 ^ n → next.set ≡ 2 * i → next.slope ≡ slope_at next.set → IsFirst n slope_at i best.set best.slope → IsFirst n slope_at (i + 1) result.set result.slope
first_next n slope_at i best next result r below set is b = at (int_lt next.slope best.slope) refl r
  where
    at : (less : Bool) → int_lt next.slope best.slope ≡ less → result ≡ cond less next best → IsFirst n slope_at (i + 1) result.set result.slope
    at true less e =
        let power = ap (λ (k : ℕ). 2 ^ k) (add-one n) ∙ pow-suc 2 n in
        let steeper : next.slope <ℤ best.slope = grind (arith, ints) in
        let same = ap slope_at set in
        subst (λ (z : Step). IsFirst n slope_at (i + 1) z.set z.slope) (sym e) (record {
          small = omega arith;
          goods = ap (λ (v : ℕ). members v 0) set ∙ even_null i;
          is = is;
          least = below_more (λ k. next.slope ≤ℤ slope_at (2 * k)) i (λ k h. let u = b.least k h in omega (arith, ints)) (omega (arith, ints));
          first = λ k h. let u = b.least k (omega arith) in omega (arith, ints);
        })
    at false less e =
        let same = ap slope_at set in
        let flatter : best.slope ≤ℤ next.slope = grind (arith, ints) in
        subst (λ (z : Step). IsFirst n slope_at (i + 1) z.set z.slope) (sym e) (record {
          small = b.small;
          goods = b.goods;
          is = b.is;
          least = below_more (λ k. best.slope ≤ℤ slope_at (2 * k)) i b.least (omega (arith, ints));
          first = b.first;
        })

module _ {n : ℕ} {l : Vector → ℤ} {w : ℤ} (c : KeepsLocal n l w) (x : Vector) (best : ℕ) (slope : ℤ) (b : IsFirst n (λ k. slope_of l x (members k)) (2 ^ n) best slope) where
  -- no set of goods has a lesser slope
  steepest : (t : Choices) → IsGoods t → slope ≤ℤ slope_of l x t
  steepest t g =
      let k = mask_of (n + 1) t in
      let below = mask_below (n + 1) t in
      let power = ap (λ (i : ℕ). 2 ^ i) (add-one n) ∙ pow-suc 2 n in
      let even = even_of k (mask_members (n + 1) t 0 (omega arith) ∙ g) in
      let half : k / 2 < 2 ^ n = omega arith in
      let a = b.least (k / 2) half in
      let same = c.reads (plus x (members k)) (plus x t) (λ j h. ap (λ (b : Bool). x j +ℤ bit b) (mask_members (n + 1) t j (omega arith))) in
      let double = ap (λ (v : ℕ). l (plus x (members v))) even in
      omega (arith, ints)

  pub first_steepest : IsMinimalSteepest n l x (members best)
  first_steepest = record {
    goods = b.goods;
    steepest = λ t g. let a = steepest t g in let is = b.is in omega (arith, ints);
    minimal = λ t g e j h m.
        let k = mask_of (n + 1) t in
        let shared = bit_and best k in
        let up = submodular_sets c x (members best) t in
        let a = steepest (either (members best) t) (ap₂ (λ (u v : Bool). cond u true v) b.goods g) in
        let same = c.reads (plus x (members shared)) (plus x (both (members best) t)) (λ i q. ap (λ (b : Bool). x i +ℤ bit b) (and_members best k i ∙ ap (λ (u : Bool). cond (members best i) u false) (mask_members (n + 1) t i (omega arith)))) in
        let even = even_of shared (and_members best k 0 ∙ ap (λ (u : Bool). cond u (members k 0) false) b.goods) in
        let double = ap (λ (v : ℕ). l (plus x (members v))) even in
        let all : shared ≡ best = ⊎_elim (λ q. q) (λ q. absurd (let steep = b.first (shared / 2) (omega arith) in let is = b.is in omega (arith, ints))) (eq-or-lt_of_le (and_le_l best k)) in
        let inside : cond (members best j) (members k j) false ≡ true = sym (and_members best k j) ∙ ap (λ (v : ℕ). members v j) all ∙ m in
        sym (mask_members (n + 1) t j (omega arith)) ∙ both_true (members best j) (members k j) m inside;
  }

-- there is one such set
pub only_one : (n : ℕ) (l : Vector → ℤ) (x : Vector) (a b : ℕ) → a < 2 ^ (n + 1) → b < 2 ^ (n + 1) → IsMinimalSteepest n l x (members a) → IsMinimalSteepest n l x (members b) → a ≡ b
only_one n l x a b small_a small_b p q =
    let u = p.steepest (members b) q.goods in
    let v = q.steepest (members a) p.goods in
    let same : slope_of l x (members b) ≡ slope_of l x (members a) = omega (arith, ints) in
    same_members (n + 1) a b small_a small_b (λ k h. alike (members a k) (members b k) (p.minimal (members b) q.goods same k (omega arith)) (q.minimal (members a) p.goods (sym same) k (omega arith)))
  where
    alike : (a b : Bool) → (a ≡ true → b ≡ true) → (b ≡ true → a ≡ true) → a ≡ b
    alike true b h k = sym (h refl)
    alike false true h k = k refl
    alike false false h k = refl

-- what the first of a table of slopes is: the minimal steepest set of goods, and its slope
pub record IsLeastStep (n : ℕ) (l : Vector → ℤ) (x : Vector) (set : ℕ) (slope : ℤ) : Type 0 where
  pub minimal : IsMinimalSteepest n l x (members set)
  pub goods : IsSetOfGoods n set
  pub is : slope ≡ slope_of l x (members set)

pub least_of_slopes : {n : ℕ} {l : Vector → ℤ} {w : ℤ} → KeepsLocal n l w → (x : Vector) (table : List ℤ) (m set : ℕ) (slope : ℤ) → m ≡ n → AreSlopes n l x table → IsFirst m (number_of table) (2 ^ m) set slope → IsLeastStep n l x set slope
least_of_slopes {n} {l} keeps x table m set slope same told first = record {
  minimal = first_steepest keeps x set slope (record {
    small = b.small;
    goods = b.goods;
    is = is;
    least = λ k h. let e = told (2 * k) (even_goods n k h) in let u = b.least k h in omega (arith, ints);
    first = λ k h. let power = ap (λ (i : ℕ). 2 ^ i) (add-one n) ∙ pow-suc 2 n in let e = told (2 * k) (even_goods n k (omega (arith, b.small))) in let u = b.first k h in omega (arith, ints);
  });
  goods = goods;
  is = is;
}
  where
    b : IsFirst n (number_of table) (2 ^ n) set slope
    b = subst (λ (k : ℕ). IsFirst k (number_of table) (2 ^ k) set slope) same first

    goods : IsSetOfGoods n set
    goods = (b.small, b.goods)

    is : slope ≡ slope_of l x (members set)
    is = b.is ∙ told set goods

-- the empty set has the slope 0
pub no_slope : {n : ℕ} {l : Vector → ℤ} {w : ℤ} → KeepsLocal n l w → (x : Vector) (table : List ℤ) → AreSlopes n l x table → number_of table 0 ≡ pos 0
no_slope {n} keeps x table told = told 0 (even_goods n 0 (pow_pos n)) ∙ slope-none keeps x
