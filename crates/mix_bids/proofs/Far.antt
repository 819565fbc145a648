-- Goods whose prices are so far above the null choice's that no bid values them that high: one of them may rise further and nothing
-- changes, and where all are that dear nothing is gained.
use Rattle.std.proofs.Common.{◌≡◌, ◌≢◌, ℕ, zero, suc, ◌≤◌, false, List, [], ◌∷◌, ℤ, pos, ◌+ℤ◌, ◌-ℤ◌, ◌*ℤ◌, ◌≤ℤ◌, refl, arith, sym, ap, ap₂, ◌∙◌, Option, Some, None, length}
use Rattle.std.proofs.lemmas.Int.{ints, clamps}
use Rattle.mix_num.specs.Vectors.{Vector, bit, plus, only}
use Rattle.mix_bids.specs.Offers.{Offers, offer, better, gain, best, within}
use Rattle.mix_bids.specs.Bids.{utility, top_value}
use Rattle.mix_bids.specs.declared.bid.Bid.{Bid}
use Rattle.mix_bids.proofs.Cases.{not_true}
use Rattle.mix_bids.proofs.Sets.{within-true}
use Rattle.mix_bids.proofs.Pairs.{only-true}
use Rattle.mix_bids.proofs.Gains.{gain_is, gain_one, offered_within}
use Rattle.mix_bids.proofs.BestChoices.{leaves_offer, leaves-true, some_best}
use Rattle.mix_bids.proofs.Falls.{gain_falls}
use Rattle.mix_bids.proofs.Lengths.{AreOver, first_over, rest_over}

-- no offer for the choice is above m
abbrev pub IsAtMost : Option ℤ → ℤ → Type 0
IsAtMost o m = (v : ℤ) → o ≡ Some v → v ≤ℤ m

not_alone : (n : ℕ) (vs : Offers) (x : Vector) (i : ℕ) → length vs ≤ n → i ≢ 0 → IsAtMost (offer vs i) (x i -ℤ x 0) → within (suc n) (best vs x) (only i) ≡ false
not_alone n vs x i l d h = not_true _ (λ t.
    let r = some_best vs x in
    let q = only-true i r.0 (within-true (suc n) (best vs x) (only i) t r.0 (omega (arith, r.1)) r.2) in
    let b = leaves-true (offer vs i) (x i) (gain vs x) (ap (best vs x) (sym q) ∙ r.2) in
    let a = h b.value b.offered in
    let e = b.leaves in
    let u = (gain_is vs x).upper 0 (pos 0) refl in
    let z = leaves_offer (Some (pos 0)) (x 0) (gain vs x) (pos 0) refl (omega (arith, ints)) in
    d (sym (only-true i 0 (within-true (suc n) (best vs x) (only i) t 0 (omega arith) z))))

pub gain_far : (n : ℕ) (vs : Offers) (x : Vector) (i : ℕ) → length vs ≤ n → i ≢ 0 → IsAtMost (offer vs i) (x i -ℤ x 0) → gain vs (plus x (only i)) ≡ gain vs x
gain_far n vs x i l d h = let a = gain_falls n vs x (only i) l in let b = ap bit (not_alone n vs x i l d h) in omega (arith, ints)

-- the greater of two numbers is above both
first_top : (o : Option ℤ) (g m : ℤ) → better o (pos 0) g ≤ℤ m → IsAtMost o m
first_top None g m h v e = absurd (cc)
first_top (Some u) g m h v e = let q : u ≡ v = cc in omega (arith, ints, clamps)

rest_top : (o : Option ℤ) (g m : ℤ) → better o (pos 0) g ≤ℤ m → g ≤ℤ m
rest_top None g m h = h
rest_top (Some u) g m h = omega (arith, ints, clamps)

pub utility_far : (n : ℕ) (bs : List Bid) (x : Vector) (i : ℕ) → AreOver n bs → i ≢ 0 → top_value bs i ≤ℤ (x i -ℤ x 0) → utility bs (plus x (only i)) ≡ utility bs x
utility_far n [] x i o d h = refl
utility_far n (b ∷ bs) x i o d h =
    let l : length b.values.items ≤ n = omega (arith, first_over n b bs o) in
    ap₂ (λ u v. (b.weight *ℤ u) +ℤ v) (gain_far n b.values.items x i l d (first_top (offer b.values.items i) (top_value bs i) _ h)) (utility_far n bs x i (rest_over n b bs o) d (rest_top (offer b.values.items i) (top_value bs i) _ h))

-- where no good is worth its price a bid gains what the null choice leaves
gain_none : (n : ℕ) (vs : Offers) (x : Vector) → length vs ≤ n → ((i : ℕ) → 1 ≤ i → i ≤ n → IsAtMost (offer vs i) (x i -ℤ x 0)) → gain vs x ≡ pos 0 -ℤ x 0
gain_none n vs x l h = gain_one vs x _ _ (gain_is vs x) (record { upper = upper; place = 0; value = pos 0; offered = refl; reached = refl })
  where
    upper : (k : ℕ) (v : ℤ) → offer vs k ≡ Some v → (v -ℤ x k) ≤ℤ (pos 0 -ℤ x 0)
    upper zero v o = let q : pos 0 ≡ v = cc in omega (arith, ints)
    upper (suc k) v o = let r = h (suc k) (omega arith) (omega (arith, offered_within vs (suc k) v o)) v o in omega (arith, ints)

pub utility_none : (n : ℕ) (bs : List Bid) (x : Vector) → AreOver n bs → x 0 ≡ pos 0 → ((i : ℕ) → 1 ≤ i → i ≤ n → top_value bs i ≤ℤ (x i -ℤ x 0)) → utility bs x ≡ pos 0
utility_none n [] x o z h = refl
utility_none n (b ∷ bs) x o z h =
    let l : length b.values.items ≤ n = omega (arith, first_over n b bs o) in
    let g = gain_none n b.values.items x l (λ i p q. first_top (offer b.values.items i) (top_value bs i) _ (h i p q)) in
    let e : gain b.values.items x ≡ pos 0 = omega (arith, ints) in
    let r = utility_none n bs x (rest_over n b bs o) z (λ i p q. rest_top (offer b.values.items i) (top_value bs i) _ (h i p q)) in
    let w = ap (λ u. b.weight *ℤ u) e in
    let a : b.weight *ℤ pos 0 ≡ pos 0 = omega (arith, ints) in
    omega (arith, ints)
