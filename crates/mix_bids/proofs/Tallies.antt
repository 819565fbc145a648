-- The weights of the bids by best set: put together bid by bid, and summed over the subsets of a set.
use Rattle.std.proofs.Common.{◌≡◌, ◌≢◌, ◌∙◌, ℕ, zero, suc, ◌+◌, ◌^◌, ◌<◌, ◌≤◌, Bool, true, false, cond, not, eqb, ltb, List, [], ◌∷◌, ℤ, pos, ◌+ℤ◌, ◌-ℤ◌, ◌≤ℤ◌, refl, arith, sym, ap, ap₂, replicate, length}
use Rattle.std.proofs.Math.Nat.{pow-le-pow_right}
use Rattle.std.proofs.lemmas.Int.{ints, clamps}
use Rattle.std.proofs.lemmas.Bool.{eqb-true, eqb-false, ltb-true, ltb-false, false≢true}
use Rattle.std.specs.Int.{int_max}
use Rattle.mix_num.specs.Vectors.{Vector, Choices, members, outside, sum_to}
use Rattle.mix_num.specs.Ranges.{Lies}
use Rattle.mix_num.specs.Subsets.{lies_in, sizes, subset_sum}
use Rattle.mix_num.specs.Tables.{number_of}
use Rattle.mix_num.proofs.Additions.{sum_to-difference, sum_to-grows, sum_to-one, sum_to-same, sum_to-zero}
use Rattle.mix_num.proofs.Masks.{mask_below, mask_members, mask_of, same_members}
use Rattle.mix_bids.specs.Offers.{Offers, best, same_set, within}
use Rattle.mix_bids.specs.Bids.{best_weight, total_weight, weight_meeting, weight_where, weight_within}
use Rattle.mix_bids.specs.declared.bid.Bid.{Bid}
use Rattle.mix_bids.proofs.BestChoices.{best_beyond}
use Rattle.mix_bids.proofs.Cases.{same_bool}
use Rattle.mix_bids.proofs.Lengths.{AreOver, first_over, rest_over}
use Rattle.mix_bids.proofs.Sets.{same_set-intro, same_set-true, within-intro, within-true}

-- a set of the choices 0 to n is one of 512
pub few_sets : (n set : ℕ) → n ≤ 8 → set < 2 ^ (n + 1) → set < 512
few_sets n set h l = let p = pow-le-pow_right {n = 2} (omega arith) {i = n + 1} {j = 9} (omega arith) in omega arith

-- ---- a table of weights, bid by bid

pub zeros : (m k : ℕ) → number_of (replicate m (pos 0)) k ≡ pos 0
zeros zero k = refl
zeros (suc m) zero = refl
zeros (suc m) (suc k) = zeros m k

-- the number of a set where a weight is added to that of the best set
pub added : (old new : List ℤ) (own set : ℕ) (w : ℤ) → number_of new own ≡ number_of old own +ℤ w → ((k : ℕ) → k ≢ own → number_of new k ≡ number_of old k) → number_of new set ≡ number_of old set +ℤ cond (eqb own set) w (pos 0)
added old new own set w s o = at (eqb own set) refl
  where
    at : (b : Bool) → eqb own set ≡ b → number_of new set ≡ number_of old set +ℤ cond (eqb own set) w (pos 0)
    at true e =
        let is = eqb-true own set e in
        let a = ap (number_of new) is in
        let b = ap (number_of old) is in
        let c = ap (λ (z : Bool). cond z w (pos 0)) e in
        omega (arith, ints)
    at false e =
        let a = o set (λ q. eqb-false own set e (sym q)) in
        let c = ap (λ (z : Bool). cond z w (pos 0)) e in
        omega (arith, ints)

-- the size of a number
abbrev size_of : ℤ → ℤ
size_of v = int_max v (pos 0 -ℤ v)

pub sizes_none : (table : List ℤ) → ((k : ℕ) → number_of table k ≡ pos 0) → sizes table ≡ pos 0
unfolding sizes
sizes_none table h = sum_to-zero 512 (λ t. size_of (number_of table t)) (λ k _. let e = h k in omega (arith, ints, clamps))

-- one entry that is greater by at most v makes the sum greater by at most v
one_more : (m i : ℕ) (x y : Vector) (v : ℤ) → pos 0 ≤ℤ v → y i ≤ℤ (x i +ℤ v) → ((k : ℕ) → k ≢ i → y k ≤ℤ x k) → sum_to m y ≤ℤ (sum_to m x +ℤ v)
one_more zero i x y v p h o = omega (arith, ints)
one_more (suc m) i x y v p h o = at (eqb m i) refl (one_more m i x y v p h o)
  where
    at : (b : Bool) → eqb m i ≡ b → sum_to m y ≤ℤ (sum_to m x +ℤ v) → sum_to (suc m) y ≤ℤ (sum_to (suc m) x +ℤ v)
    at true e rest =
        let is = eqb-true m i e in
        let a = ap y is in
        let b = ap x is in
        let before = sum_to-grows m y x (λ k l. o k (λ q. omega arith)) in
        omega (arith, ints)
    at false e rest = let here = o m (eqb-false m i e) in omega (arith, ints)

pub sizes_more : (old new : List ℤ) (set : ℕ) (by : ℤ) (m : ℕ) → Lies m by → number_of new set ≡ number_of old set +ℤ by → ((k : ℕ) → k ≢ set → number_of new k ≡ number_of old k) → sizes new ≤ℤ (sizes old +ℤ pos m)
unfolding sizes
sizes_more old new set by m l h o = one_more 512 set (λ t. size_of (number_of old t)) (λ t. size_of (number_of new t)) (pos m) (omega (arith, ints)) (own (number_of old set) (number_of new set) by m l h) (λ k d. same (number_of old k) (number_of new k) (o k d))
  where
    own : (a b by : ℤ) (m : ℕ) → Lies m by → b ≡ a +ℤ by → size_of b ≤ℤ (size_of a +ℤ pos m)
    own a b by m l e = omega (arith, ints, clamps, l.0, l.1)

    same : (a b : ℤ) → b ≡ a → size_of b ≤ℤ size_of a
    same a b e = omega (arith, ints, clamps)

-- no number is greater than all sizes together
one_of : (m i : ℕ) (x : Vector) → i < m → ((k : ℕ) → pos 0 ≤ℤ x k) → x i ≤ℤ sum_to m x
one_of zero i x h p = absurd (omega arith)
one_of (suc m) i x h p = at (eqb i m) refl (λ l. one_of m i x l p)
  where
    none : (m : ℕ) → pos 0 ≤ℤ sum_to m x
    none zero = omega (arith, ints)
    none (suc m) = let a = none m in let b = p m in omega (arith, ints)

    at : (b : Bool) → eqb i m ≡ b → (i < m → x i ≤ℤ sum_to m x) → x i ≤ℤ sum_to (suc m) x
    at true e rest = let is = ap x (eqb-true i m e) in let a = none m in omega (arith, ints)
    at false e rest = let d = eqb-false i m e in let a = rest (omega arith) in let b = p m in omega (arith, ints)

pub number_small : (table : List ℤ) (set m : ℕ) → set < 512 → sizes table ≤ℤ pos m → Lies m (number_of table set)
unfolding sizes
number_small table set m h s = lies (number_of table set) (sum_to 512 (λ t. size_of (number_of table t))) m (one_of 512 set (λ t. size_of (number_of table t)) h (λ k. positive (number_of table k))) s
  where
    lies : (v sum : ℤ) (m : ℕ) → size_of v ≤ℤ sum → sum ≤ℤ pos m → Lies m v
    lies v sum m h s = (omega (arith, ints, clamps), omega (arith, ints, clamps))

    positive : (v : ℤ) → pos 0 ≤ℤ size_of v
    positive v = omega (arith, ints, clamps)

-- ---- sums over subsets

lies_is : (t s : ℕ) → lies_in t s ≡ within 9 (members t) (members s)
unfolding lies_in
lies_is t s = refl

-- each bid's weight is counted once: where its best set lies in the set
one_bid : (vs : Offers) (x : Vector) (n s : ℕ) (w : ℤ) → n ≤ 8 → length vs ≤ n
    → sum_to 512 (λ t. cond (lies_in t s) (cond (same_set 9 (best vs x) (members t)) w (pos 0)) (pos 0)) ≡ cond (within (suc n) (best vs x) (members s)) w (pos 0)
one_bid vs x n s w few l =
    let own = mask_of 9 (best vs x) in
    let below = mask_below 9 (best vs x) in
    let same : same_set 9 (best vs x) (members own) ≡ true = same_set-intro 9 (best vs x) (members own) (λ k i. sym (mask_members 9 (best vs x) k i)) in
    let inside : lies_in own s ≡ within (suc n) (best vs x) (members s) = lies_is own s ∙ same_bool (within 9 (members own) (members s)) (within (suc n) (best vs x) (members s))
    (λ h. within-intro (suc n) (best vs x) (members s) (λ k i e. within-true 9 (members own) (members s) h k (omega arith) (mask_members 9 (best vs x) k (omega arith) ∙ e)))
    (λ h. within-intro 9 (members own) (members s) (λ k i e. at h k i (sym (mask_members 9 (best vs x) k i) ∙ e) (ltb k (suc n)) refl)) in
    sum_to-one 512 own (λ t. cond (lies_in t s) (cond (same_set 9 (best vs x) (members t)) w (pos 0)) (pos 0)) below (λ t i d. other t (lies_in t s) (same_set 9 (best vs x) (members t)) refl i d)
    ∙ ap₂ (λ (a b : Bool). cond a (cond b w (pos 0)) (pos 0)) inside same
  where
    at : within (suc n) (best vs x) (members s) ≡ true → (k : ℕ) → k < 9 → best vs x k ≡ true → (b : Bool) → ltb k (suc n) ≡ b → members s k ≡ true
    at h k i e true q = within-true (suc n) (best vs x) (members s) h k (ltb-true k (suc n) q) e
    at h k i e false q = let r = ltb-false k (suc n) q in absurd (false≢true (sym (best_beyond vs x k (omega arith)) ∙ e))

    other : (t : ℕ) (a b : Bool) → same_set 9 (best vs x) (members t) ≡ b → t < 512 → t ≢ mask_of 9 (best vs x) → cond a (cond b w (pos 0)) (pos 0) ≡ pos 0
    other t true true e i d = absurd (d (same_members 9 t (mask_of 9 (best vs x)) i (mask_below 9 (best vs x)) (λ k j. sym (same_set-true 9 (best vs x) (members t) e k j) ∙ sym (mask_members 9 (best vs x) k j))))
    other t true false e i d = refl
    other t false b e i d = refl

two_sums : (m : ℕ) (x y : Vector) → sum_to m (λ k. x k +ℤ y k) ≡ sum_to m x +ℤ sum_to m y
two_sums m x y =
    let d = sum_to-difference m (λ k. x k +ℤ y k) y in
    let e = sum_to-same m (λ k. (x k +ℤ y k) -ℤ y k) x (λ k _. omega (arith, ints)) in
    omega (arith, ints)

apart : (b : Bool) (u v : ℤ) → cond b (u +ℤ v) (pos 0) ≡ cond b u (pos 0) +ℤ cond b v (pos 0)
apart true u v = refl
apart false u v = omega (arith, ints)

-- the sum over the subsets of a set is the weight of the bids whose best set lies in it
within_sum : (n s : ℕ) (bs : List Bid) (x : Vector) → n ≤ 8 → AreOver n bs → sum_to 512 (λ t. cond (lies_in t s) (best_weight bs x t) (pos 0)) ≡ weight_within n (members s) bs x
within_sum n s [] x few o = sum_to-zero 512 (λ t. cond (lies_in t s) (pos 0) (pos 0)) (λ t _. nothing (lies_in t s))
  where
    nothing : (b : Bool) → cond b (pos 0) (pos 0) ≡ pos 0
    nothing true = refl
    nothing false = refl
within_sum n s (b ∷ bs) x few o =
    let first = one_bid b.values.items x n s b.weight few (omega (arith, first_over n b bs o)) in
    let rest = within_sum n s bs x few (rest_over n b bs o) in
    sum_to-same 512 _ _ (λ t i. apart (lies_in t s) (cond (same_set 9 (best b.values.items x) (members t)) b.weight (pos 0)) (best_weight bs x t))
    ∙ two_sums 512 (λ t. cond (lies_in t s) (cond (same_set 9 (best b.values.items x) (members t)) b.weight (pos 0)) (pos 0)) (λ t. cond (lies_in t s) (best_weight bs x t) (pos 0))
    ∙ ap₂ (λ (u v : ℤ). u +ℤ v) first rest

-- in a table of best weights it is the sum of the numbers of the subsets
pub subset_within : (n s : ℕ) (bs : List Bid) (x : Vector) (table : List ℤ) → n ≤ 8 → AreOver n bs → ((t : ℕ) → t < 512 → number_of table t ≡ best_weight bs x t) → subset_sum table s ≡ weight_within n (members s) bs x
unfolding subset_sum
subset_within n s bs x table few o h = sum_to-same 512 _ _ (λ t i. ap (λ (v : ℤ). cond (lies_in t s) v (pos 0)) (h t i)) ∙ within_sum n s bs x few o

-- where the best weights are added to a table, that weight is added to the sum
pub subset_more : (n s : ℕ) (bs : List Bid) (x : Vector) (old new : List ℤ) → n ≤ 8 → AreOver n bs → ((t : ℕ) → t < 512 → number_of new t ≡ number_of old t +ℤ best_weight bs x t) → subset_sum new s ≡ subset_sum old s +ℤ weight_within n (members s) bs x
unfolding subset_sum
subset_more n s bs x old new few o h =
    sum_to-same 512 _ _ (λ t i. ap (λ (v : ℤ). cond (lies_in t s) v (pos 0)) (h t i) ∙ apart (lies_in t s) (number_of old t) (best_weight bs x t))
    ∙ two_sums 512 (λ t. cond (lies_in t s) (number_of old t) (pos 0)) (λ t. cond (lies_in t s) (best_weight bs x t) (pos 0))
    ∙ ap (λ (v : ℤ). sum_to 512 (λ t. cond (lies_in t s) (number_of old t) (pos 0)) +ℤ v) (within_sum n s bs x few o)

-- ---- the choices outside a set

weight_rest : (p : Bid → Bool) (bs : List Bid) → weight_where (λ b. not (p b)) bs ≡ total_weight bs -ℤ weight_where p bs
weight_rest p [] = omega (arith, ints)
weight_rest p (b ∷ bs) = let h = weight_rest p bs in let e = one (p b) b.weight in omega (arith, ints)
  where
    one : (t : Bool) (w : ℤ) → cond (not t) w (pos 0) ≡ w -ℤ cond t w (pos 0)
    one true w = omega (arith, ints)
    one false w = omega (arith, ints)

weight_same : (p q : Bid → Bool) (bs : List Bid) → ((b : Bid) → p b ≡ q b) → weight_where p bs ≡ weight_where q bs
weight_same p q [] h = refl
weight_same p q (b ∷ bs) h = ap₂ (λ (t : Bool) (r : ℤ). cond t b.weight (pos 0) +ℤ r) (h b) (weight_same p q bs h)

within_same : (m : ℕ) (s t u : Choices) → ((k : ℕ) → k < m → t k ≡ u k) → within m s t ≡ within m s u
within_same m s t u h = same_bool (within m s t) (within m s u)
    (λ e. within-intro m s u (λ k l q. sym (h k l) ∙ within-true m s t e k l q))
    (λ e. within-intro m s t (λ k l q. h k l ∙ within-true m s u e k l q))

-- the weight of the bids whose best set meets a set is the total less that of those whose best set lies outside it
pub meeting_is : (n : ℕ) (s : Choices) (rest : ℕ) (bs : List Bid) (x : Vector) → ((k : ℕ) → k < suc n → members rest k ≡ not (s k)) → weight_meeting n s bs x ≡ total_weight bs -ℤ weight_within n (members rest) bs x
meeting_is n s rest bs x h =
    weight_rest (λ b. within (suc n) (best b.values.items x) (outside s)) bs
    ∙ ap (λ (v : ℤ). total_weight bs -ℤ v) (weight_same (λ b. within (suc n) (best b.values.items x) (outside s)) (λ b. within (suc n) (best b.values.items x) (members rest)) bs (λ b. sym (within_same (suc n) (best b.values.items x) (members rest) (outside s) h)))

-- one turn over the sets: each before this one has its amount added, and now this one too
pub one_done : (old now next : List ℤ) (amount : ℕ → ℤ) (s own : ℕ) (by : ℤ) → own ≡ s → by ≡ amount s → number_of next own ≡ number_of now own +ℤ by → ((k : ℕ) → k ≢ own → number_of next k ≡ number_of now k)
    → ((t : ℕ) → t < s → number_of now t ≡ number_of old t +ℤ amount t) → ((t : ℕ) → s ≤ t → number_of now t ≡ number_of old t) → (t : ℕ) → t < s + 1 → number_of next t ≡ number_of old t +ℤ amount t
one_done old now next amount s own by e a sum others done left t h = at (eqb t s) refl
  where
    at : (b : Bool) → eqb t s ≡ b → number_of next t ≡ number_of old t +ℤ amount t
    at true q =
        let is = eqb-true t s q in
        let same : t ≡ own = is ∙ sym e in
        let u = ap (number_of next) same in
        let v = ap (number_of now) same in
        let w = left t (omega arith) in
        let x = ap amount is in
        omega (arith, ints)
    at false q =
        let d = eqb-false t s q in
        others t (λ r. d (r ∙ e)) ∙ done t (omega arith)
