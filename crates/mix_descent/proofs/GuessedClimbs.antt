-- One climb more from below a guess, and how many there can be.
use Rattle.std.proofs.Common.{◌≡◌, ◌∙◌, ℕ, zero, suc, ◌+◌, ◌<◌, ◌≤◌, ◌*◌, ◌^◌, List, [], ◌∷◌, ◌++◌, length, get_or, ℤ, pos, ◌*ℤ◌, ◌<ℤ◌, ⊎_elim, eq-or-lt_of_le, sym, ap, subst, arith, length-append}
use Rattle.std.specs.List.{sum_by}
use Rattle.std.specs.Int.{int_max}
use Rattle.std.proofs.Math.ListN.{get_or-append}
use Rattle.std.proofs.Math.Nat.{lt_of_not-le, one-le-pow, pow-le-pow_right}
use Rattle.std.proofs.Math.Seq.{get_or-append_seam}
use Rattle.std.proofs.lemmas.Grind.{pow_more}
use Rattle.std.proofs.lemmas.Int.{ints, clamps}
use Rattle.std.proofs.lemmas.List.Sums.{sum_by_push}
use Rattle.mix_num.specs.Vectors.{Vector, with_null}
use Rattle.mix_market.specs.Lowerings.{RisesWhereFallen}
use Rattle.mix_descent.specs.NearGuesses.{AreClimbs, IsClimb, margin_at}
use Rattle.mix_descent.specs.declared.long_step.LongStep.{LongStep}

-- the next margin
wider_margin : (m : ℕ) (margin : ℤ) → margin ≡ margin_at m → int_max (pos 8 *ℤ margin) (pos 1) ≡ margin_at (suc m)
wider_margin zero margin e = omega (arith, ints, clamps)
wider_margin (suc k) margin e =
    let more : 8 ^ (suc k) ≡ 8 ^ k * 8 = ap (λ (j : ℕ). 8 ^ j) (let s : suc k ≡ k + 1 = omega arith in s) ∙ pow_more 8 k in
    let some = one-le-pow k 8 (omega arith) in
    omega (arith, ints, clamps, more, some, e)

-- a margin below 2,000,000 is one of the first eight
early_margin : (m : ℕ) → margin_at m <ℤ pos 2000000 → m ≤ 7
early_margin zero h = omega arith
early_margin (suc k) h =
    let low : k < 7 = lt_of_not-le (λ (far : 7 ≤ k). let great = pow-le-pow_right {n = 8} (omega arith) far in omega (arith, ints, great, h)) in
    omega (arith, low)

-- what holds of each trail and its place, and of one more
one_more : (Q : ℕ → List LongStep → Type 0) (trails : List (List LongStep)) (trail : List LongStep) → ((k : ℕ) → k < length trails → Q k (get_or trails k [])) → Q (length trails) trail
    → (k : ℕ) → k < length (trails ++ trail ∷ []) → Q k (get_or (trails ++ trail ∷ []) k [])
one_more Q trails trail before here k h = ⊎_elim
    (λ e. subst (λ (j : ℕ). Q j (get_or (trails ++ trail ∷ []) j [])) (sym e) (subst (Q (length trails)) (sym (get_or-append_seam trails trail [] [])) here))
    (λ l. subst (Q k) (sym (get_or-append trails (trail ∷ []) [] k l)) (before k l))
    (eq-or-lt_of_le (let r : k ≤ length trails = omega (arith, h, length-append trails (trail ∷ [])) in r))

-- climbs so far, from whose ends prices could fall, and the next margin
pub record HaveFailed (n : ℕ) (l : Vector → ℤ) (guess reserve : List ℤ) (margin : ℤ) (old now : ℕ) : Type 0 where
  pub trails : List (List LongStep)
  pub few : length trails ≤ 8
  pub next : margin ≡ margin_at (length trails)
  pub each : (k : ℕ) → k < length trails → (end : Vector) × IsClimb n l guess reserve (margin_at k) (get_or trails k []) end × ¬ RisesWhereFallen n l (with_null reserve) end
  pub counted : now ≤ old + (sum_by (λ trail. length trail) trails + length trails)

module _ {n : ℕ} {l : Vector → ℤ} {guess reserve : List ℤ} {margin : ℤ} {old now : ℕ} (f : HaveFailed n l guess reserve margin old now)
    (trail : List LongStep) (end : Vector) (climb : IsClimb n l guess reserve margin trail end) (after : ℕ) (spent : after ≤ now + length trail + 1) where
  all : List (List LongStep)
  all = f.trails ++ trail ∷ []

  all-count : length all ≡ length f.trails + 1
  unfolding all
  all-count = omega (arith, length-append f.trails (trail ∷ []))

  all-counted : after ≤ old + (sum_by (λ t. length t) all + length all)
  unfolding all
  all-counted = omega (arith, all-count, f.counted, sum_by_push (λ (t : List LongStep). length t) f.trails trail)

  last : IsClimb n l guess reserve (margin_at (length f.trails)) trail end
  last = subst (λ (m : ℤ). IsClimb n l guess reserve m trail end) f.next climb

  pub one_more_failed : margin <ℤ pos 2000000 → ¬ RisesWhereFallen n l (with_null reserve) end → (next : ℤ) → next ≡ int_max (pos 8 *ℤ margin) (pos 1) → HaveFailed n l guess reserve next old after
  unfolding all
  one_more_failed small falls next e = record {
    trails = all;
    few = let m = early_margin (length f.trails) (subst (λ (m : ℤ). m <ℤ pos 2000000) f.next small) in omega (arith, m, all-count);
    next = e ∙ wider_margin (length f.trails) margin f.next ∙ ap margin_at (let c : suc (length f.trails) ≡ length all = omega (arith, all-count) in c);
    each = one_more (λ k t. (end : Vector) × IsClimb n l guess reserve (margin_at k) t end × ¬ RisesWhereFallen n l (with_null reserve) end) f.trails trail f.each (end, last, falls);
    counted = all-counted;
  }

  pub climbs_of_last : (trails : List (List LongStep)) × AreClimbs n l guess reserve trails × (after ≤ old + (sum_by (λ t. length t) trails + length trails))
  unfolding all
  climbs_of_last = (
    all,
    record {
      few = omega (arith, all-count, f.few);
      each = one_more (λ k t. (end : Vector) × IsClimb n l guess reserve (margin_at k) t end × (suc k < length all → ¬ RisesWhereFallen n l (with_null reserve) end)) f.trails trail
          (λ k h. let was = f.each k h in (was.0, was.1, λ more. was.2)) (end, last, λ more. absurd (omega (arith, more, all-count)));
    },
    all-counted,
  )
