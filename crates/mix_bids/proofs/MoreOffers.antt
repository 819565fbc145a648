-- One more offer at the end of those that were looked at: what becomes of the gain, of the best set, and of the offers in a set.
use Rattle.std.proofs.Common.{◌≡◌, ◌≢◌, ℕ, zero, suc, ◌+◌, ◌≤◌, ◌<◌, Bool, true, false, cond, eqb, ◌++◌, List, [], ◌∷◌, ℤ, pos, ◌-ℤ◌, ◌≤ℤ◌, ⊎_elim, refl, arith, sym, ap, ap₂, ◌∙◌, Option, Some, None, get_or, int_eq, length, take}
use Rattle.std.proofs.Math.ListN.{get_or-append}
use Rattle.std.proofs.Math.Seq.{get_or-append_seam}
use Rattle.std.proofs.lemmas.Int.{ints, clamps}
use Rattle.std.proofs.lemmas.Bool.{cases_lt, eqb-true, eqb-false, false≢true}
use Rattle.std.proofs.lemmas.List.{get_or_past, length-append, length-take-le, take_more}
use Rattle.mix_num.specs.Vectors.{Vector, Choices, with_null}
use Rattle.mix_num.proofs.Equalities.{int_eq_is}
use Rattle.mix_bids.specs.Offers.{Offers, best, better, gain, gain_from, later, leaves, offer}
use Rattle.mix_bids.specs.Reaches.{gain_in, offers_in}
use Rattle.mix_bids.proofs.BestChoices.{best_beyond, leaves-true}
use Rattle.mix_bids.proofs.Cases.{by_test, not_true}
use Rattle.mix_bids.proofs.Gains.{gain_is}

-- the order of two offers doesn't matter
better_swap : (o p : Option ℤ) (c d g : ℤ) → better o c (better p d g) ≡ better p d (better o c g)
better_swap None p c d g = refl
better_swap (Some u) None c d g = refl
better_swap (Some u) (Some v) c d g = omega (arith, ints, clamps)

gain_from-more : (vs : Offers) (o : Option ℤ) (x : Vector) (g : ℤ) → gain_from (vs ++ o ∷ []) x g ≡ better o (x (length vs)) (gain_from vs x g)
gain_from-more [] o x g = refl
gain_from-more (p ∷ vs) o x g = ap (better p (x 0)) (gain_from-more vs o (later x) g) ∙ better_swap p o (x 0) (x (suc (length vs))) (gain_from vs (later x) g)

-- the gain is the better of what it was and of what the offer leaves
pub gain-more : (vs : Offers) (o : Option ℤ) (x : Vector) → gain (vs ++ o ∷ []) x ≡ better o (x (suc (length vs))) (gain vs x)
gain-more vs o x = gain_from-more vs o (later x) (pos 0 -ℤ x 0)

offer-last : (vs : Offers) (o : Option ℤ) → offer (vs ++ o ∷ []) (suc (length vs)) ≡ o
offer-last vs o = get_or-append_seam vs o [] None

offer-before : (vs : Offers) (o : Option ℤ) (k : ℕ) → k ≢ suc (length vs) → offer (vs ++ o ∷ []) k ≡ offer vs k
offer-before vs o zero d = refl
offer-before vs o (suc k) d = ⊎_elim
    (λ (h : k < length vs). get_or-append vs (o ∷ []) None k h)
    (λ (h : length vs ≤ k). get_or_past (vs ++ o ∷ []) k None (omega (arith, length-append vs (o ∷ []))) ∙ sym (get_or_past vs k None h))
    (cases_lt k (length vs))

not_less : (o : Option ℤ) (c g : ℤ) → g ≤ℤ better o c g
not_less None c g = omega (arith, ints)
not_less (Some v) c g = omega (arith, ints, clamps)

-- a choice that was looked at before stays best where the gain is what it was
best-before : (vs : Offers) (o : Option ℤ) (x : Vector) (k : ℕ) → k ≢ suc (length vs) → best (vs ++ o ∷ []) x k ≡ cond (int_eq (gain (vs ++ o ∷ []) x) (gain vs x)) (best vs x k) false
best-before vs o x k d =
    let g = gain vs x in
    let h = gain (vs ++ o ∷ []) x in
    let is = int_eq_is h g in
    ap (λ z. leaves z (x k) h) (offer-before vs o k d)
    ∙ by_test (int_eq h g)
    (λ e. ap (leaves (offer vs k) (x k)) (is.0 e) ∙ ap (λ z. cond z (best vs x k) false) (sym e))
    (λ e. not_true (leaves (offer vs k) (x k) h) (λ t.
    let b = leaves-true (offer vs k) (x k) h t in
    let u = (gain_is vs x).upper k b.value b.offered in
    let q = b.leaves in
    let m = gain-more vs o x in
    let n = not_less o (x (suc (length vs))) g in
    let same : h ≡ g = omega (arith, ints) in
    false≢true (sym e ∙ is.1 same))
    ∙ ap (λ z. cond z (best vs x k) false) (sym e))

-- the best set: the new choice where it leaves the gain, and the former ones where the gain is what it was
pub best-more : (vs : Offers) (o : Option ℤ) (x : Vector) (k : ℕ)
    → best (vs ++ o ∷ []) x k ≡ cond (cond (eqb k (suc (length vs))) (leaves o (x (suc (length vs))) (gain (vs ++ o ∷ []) x)) false) true (cond (int_eq (gain (vs ++ o ∷ []) x) (gain vs x)) (best vs x k) false)
best-more vs o x k = by_test (eqb k (suc (length vs)))
    (λ e. let q = eqb-true k (suc (length vs)) e in
    ap (best (vs ++ o ∷ []) x) q
    ∙ ap (λ z. leaves z (x (suc (length vs))) (gain (vs ++ o ∷ []) x)) (offer-last vs o)
    ∙ alone (leaves o (x (suc (length vs))) (gain (vs ++ o ∷ []) x)) (int_eq (gain (vs ++ o ∷ []) x) (gain vs x)) (best vs x k) (best_beyond vs x k (omega arith))
    ∙ ap (λ z. cond (cond z (leaves o (x (suc (length vs))) (gain (vs ++ o ∷ []) x)) false) true (cond (int_eq (gain (vs ++ o ∷ []) x) (gain vs x)) (best vs x k) false)) (sym e))
    (λ e. best-before vs o x k (eqb-false k (suc (length vs)) e)
    ∙ ap (λ z. cond (cond z (leaves o (x (suc (length vs))) (gain (vs ++ o ∷ []) x)) false) true (cond (int_eq (gain (vs ++ o ∷ []) x) (gain vs x)) (best vs x k) false)) (sym e))
  where
    alone : (t u b : Bool) → b ≡ false → t ≡ cond t true (cond u b false)
    alone true u b e = refl
    alone false true b e = sym e
    alone false false b e = refl

-- the offers in a set have one more, or a good that is left out
pub length-offers_in : (s : Choices) (vs : Offers) → length (offers_in s vs) ≡ length vs
length-offers_in s [] = refl
length-offers_in s (o ∷ vs) = ap suc (length-offers_in (λ k. s (suc k)) vs)

pub offers_in-more : (s : Choices) (vs : Offers) (o : Option ℤ) → offers_in s (vs ++ o ∷ []) ≡ offers_in s vs ++ cond (s (suc (length vs))) o None ∷ []
offers_in-more s [] o = refl
offers_in-more s (p ∷ vs) o = ap (λ z. cond (s 1) p None ∷ z) (offers_in-more (λ k. s (suc k)) vs o)

-- the offers looked at before the place i, and the one there
pub taken : (vs : Offers) (i : ℕ) → i < length vs → (take (i + 1) vs ≡ take i vs ++ get_or vs i None ∷ []) × (length (take i vs) ≡ i)
taken vs i h = (take_more vs i None h, length-take-le i vs (omega arith))

-- one turn over the offers and the prices of the goods: the gain of the offers looked at
pub gain_turn : (vs : Offers) (ps : List ℤ) (i : ℕ) (g h c : ℤ) → i < length vs → c ≡ get_or ps i (pos 0) → g ≡ gain (take i vs) (with_null ps) → h ≡ better (get_or vs i None) c g → h ≡ gain (take (i + 1) vs) (with_null ps)
gain_turn vs ps i g h c l a e f =
    let t = taken vs i l in
    f
    ∙ ap₂ (better (get_or vs i None)) (a ∙ ap (λ z. with_null ps (suc z)) (sym t.1)) e
    ∙ sym (gain-more (take i vs) (get_or vs i None) (with_null ps))
    ∙ ap (λ z. gain z (with_null ps)) (sym t.0)

-- and the best set
pub best_turn : (vs : Offers) (ps : List ℤ) (i k : ℕ) (g h c : ℤ) (b : Bool) → i < length vs → c ≡ get_or ps i (pos 0) → g ≡ gain (take i vs) (with_null ps) → h ≡ gain (take (i + 1) vs) (with_null ps) → b ≡ best (take i vs) (with_null ps) k
    → cond (cond (eqb k (i + 1)) (leaves (get_or vs i None) c h) false) true (cond (int_eq h g) b false) ≡ best (take (i + 1) vs) (with_null ps) k
best_turn vs ps i k g h c b l a e f q =
    let x = with_null ps in
    let o = get_or vs i None in
    let t = taken vs i l in
    let more : take i vs ++ o ∷ [] ≡ take (i + 1) vs = sym t.0 in
    let place : i + 1 ≡ suc (length (take i vs)) = omega (arith, t.1) in
    let now : h ≡ gain (take i vs ++ o ∷ []) x = f ∙ ap (λ z. gain z x) t.0 in
    let price : c ≡ x (suc (length (take i vs))) = a ∙ ap (λ z. x (suc z)) (sym t.1) in
    ap₂ (λ (u v : Bool). cond u true v)
    (ap₂ (λ (u v : Bool). cond u v false) (ap (eqb k) place) (ap₂ (leaves o) price now))
    (ap₂ (λ (u v : Bool). cond u v false) (ap₂ int_eq now e) q)
    ∙ sym (best-more (take i vs) o x k)
    ∙ ap (λ z. best z x k) more

-- and the greatest gain in a set
pub gain_in_turn : (s : Choices) (vs : Offers) (ps : List ℤ) (i : ℕ) (g h c : ℤ) (t : Bool) → i < length vs → c ≡ get_or ps i (pos 0) → t ≡ s (i + 1) → g ≡ gain_in s (take i vs) (with_null ps) → h ≡ better (cond t (get_or vs i None) None) c g → h ≡ gain_in s (take (i + 1) vs) (with_null ps)
gain_in_turn s vs ps i g h c t l a m e f =
    let x = with_null ps in
    let o = get_or vs i None in
    let k = taken vs i l in
    let now = offers_in s (take i vs) in
    let size : length now ≡ i = length-offers_in s (take i vs) ∙ k.1 in
    let place : i + 1 ≡ suc (length (take i vs)) = omega (arith, k.1) in
    f
    ∙ ap₂ (better (cond t o None)) (a ∙ ap (λ z. x (suc z)) (sym size)) e
    ∙ sym (gain-more now (cond t o None) x)
    ∙ ap (λ (z : Bool). gain (now ++ cond z o None ∷ []) x) (m ∙ ap s place)
    ∙ ap (λ z. gain z x) (sym (offers_in-more s (take i vs) o))
    ∙ ap (λ z. gain_in s z x) (sym k.0)
