use Rattle.std.proofs.Common.{◌≡◌, ◌≢◌, ℕ, suc, ◌+◌, ◌<◌, ◌≤◌, Bool, false, true, cond, List, ℤ, pos, ◌-ℤ◌, length, set, arith, sym, ap, ◌∙◌, add-one, w64, to_z, of_z, below_more, get_or-set_other, get_or-set_same}
use Rattle.std.proofs.lemmas.Int.{ints, to_z-of_z}
use Rattle.mix_num.specs.Vectors.{members}
use Rattle.mix_num.specs.Tables.{number_of}
use Rattle.mix_ties.proofs.pairs.take_good.Goals as goal
use Rattle.mix_ties.proofs.pairs.take_good.Goals.{then-has, else-has}

-- the amount is taken from the sets below m that have good j, and from no others
abbrev Taken : ℕ → ℕ → ℤ → List ℤ → List ℤ → Type 0
Taken m j amount old now = ((k : ℕ) → k < m → number_of now k ≡ number_of old k -ℤ cond (members k (suc j)) amount (pos 0)) × ((k : ℕ) → m ≤ k → number_of now k ≡ number_of old k)

-- one set more, which has the good
with_good : (m j : ℕ) (amount number : ℤ) (old now new : List ℤ) → m < length now → members m (suc j) ≡ true → number ≡ number_of now m -ℤ amount
    → new ≡ set now m number → Taken m j amount old now → Taken (m + 1) j amount old new
with_good m j amount number old now new lt has v is t = (
  below_more _ _
      (λ k h. let ne : k ≢ m = omega arith in ap (λ (xs : List ℤ). number_of xs k) is ∙ get_or-set_other now m k number (pos 0) ne ∙ t.0 k h)
      (ap (λ (xs : List ℤ). number_of xs m) is ∙ get_or-set_same now m number (pos 0) lt
      ∙ (let e = t.1 m (omega arith) in let a = ap (λ (z : Bool). cond z amount (pos 0)) has in omega (arith, ints))),
  λ k h. let ne : k ≢ m = omega arith in ap (λ (xs : List ℤ). number_of xs k) is ∙ get_or-set_other now m k number (pos 0) ne ∙ t.1 k (omega arith),
)

-- and one that hasn't
without_good : (m j : ℕ) (amount : ℤ) (old now new : List ℤ) → members m (suc j) ≡ false → new ≡ now → Taken m j amount old now → Taken (m + 1) j amount old new
without_good m j amount old now new hasnt is t = (
  below_more _ _
      (λ k h. ap (λ (xs : List ℤ). number_of xs k) is ∙ t.0 k h)
      (ap (λ (xs : List ℤ). number_of xs m) is ∙ (let e = t.1 m (omega arith) in let a = ap (λ (z : Bool). cond z amount (pos 0)) hasnt in omega (arith, ints))),
  λ k h. ap (λ (xs : List ℤ). number_of xs k) is ∙ t.1 k (omega arith),
)

pub loop-set-preserved : goal.loop-set-preserved
loop-set-preserved c =
    let m : ℕ = c.loop-set.set in
    let j : ℕ = c.args.good in
    let lt = c.loop-set-test.true in
    let amount : to_z w64 (of_z w64 c.args.amount) ≡ c.args.amount = to_z-of_z w64 c.args.amount c.ranges.amount in
    let has : c.has.result ≡ members m (suc j) = c.has.ensures ∙ ap (λ (i : ℕ). members i (j + 1)) c.from_bits.ensures ∙ ap (members m) (add-one j) in
    let i = c.loop-set.invariant in
    let b = c.requires.amount in
    let up = c.requires.upper_range m lt in
    let low = c.requires.lower_range m lt in
    let e = i.upper_rest m (omega arith) in
    let f = i.lower_rest m (omega arith) in
    elim c.if-has.branch [
      | then-has w ↦
          let p = with_good m j (to_z w64 (of_z w64 c.args.amount)) _ c.args.upper.now c.loop-set.upper c.if-has.upper (omega arith) (sym has ∙ w.if-has.true) (omega (arith, ints)) w.upper-is (i.upper, i.upper_rest) in
          let q = with_good m j (to_z w64 (of_z w64 c.args.amount)) _ c.args.lower.now c.loop-set.lower c.if-has.lower (omega arith) (sym has ∙ w.if-has.true) (omega (arith, ints)) w.lower-is (i.lower, i.lower_rest) in
          record { upper = p.0; lower = q.0; upper_rest = p.1; lower_rest = q.1 }
      | else-has w ↦
          let p = without_good m j (to_z w64 (of_z w64 c.args.amount)) c.args.upper.now c.loop-set.upper c.if-has.upper (sym has ∙ w.if-has.false) w.upper-is (i.upper, i.upper_rest) in
          let q = without_good m j (to_z w64 (of_z w64 c.args.amount)) c.args.lower.now c.loop-set.lower c.if-has.lower (sym has ∙ w.if-has.false) w.lower-is (i.lower, i.lower_rest) in
          record { upper = p.0; lower = q.0; upper_rest = p.1; lower_rest = q.1 }
    ]
