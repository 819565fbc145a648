-- The bids that pass a test: what they weigh, by their best sets.
use Rattle.std.proofs.Common.{◌≡◌, ◌∙◌, ℕ, suc, ◌≤◌, ◌<◌, ◌&&◌, Bool, true, false, cond, eqb, List, [], ◌∷◌, ℤ, pos, ◌+◌, ◌*◌, ◌+ℤ◌, ◌≤ℤ◌, refl, arith, sym, ap, ap₂, length, get_or, drop}
use Rattle.std.proofs.lemmas.Int.{ints}
use Rattle.std.proofs.lemmas.List.Elements.{All-filter, All-head, All-tail}
use Rattle.std.specs.List.{filter}
use Rattle.mix_num.specs.Subsets.{subset_sum}
use Rattle.mix_num.specs.Tables.{number_of}
use Rattle.mix_num.specs.Vectors.{Vector, members}
use Rattle.mix_num.specs.Ranges.{Lies}
use Rattle.mix_bids.specs.Bids.{AreBids, IsBid, weight_where}
use Rattle.mix_bids.specs.Caps.{ArePositive, IsPositive}
use Rattle.mix_bids.proofs.Sets.{within-intro}
use Rattle.mix_bids.specs.Offers.{best, same_set, within}
use Rattle.mix_bids.specs.declared.bid.Bid.{Bid}
use Rattle.mix_num.proofs.Masks.{members_above}
use Rattle.mix_bids.proofs.Comparisons.{same_is}
use Rattle.mix_bids.proofs.Lengths.{AreOver}
use Rattle.mix_bids.proofs.Loops.{weight_step}
use Rattle.mix_bids.proofs.Tallies.{added, subset_within}

-- the weight of those that pass a second test too
pub both_tests : (p q : Bid → Bool) (bs : List Bid) → weight_where (λ b. p b && q b) bs ≡ weight_where q (filter p bs)
both_tests p q [] = refl
both_tests p q (b ∷ bs) = at (p b) (both_tests p q bs)
  where
    at : (t : Bool) → weight_where (λ c. p c && q c) bs ≡ weight_where q (filter p bs) → cond (t && q b) b.weight (pos 0) +ℤ weight_where (λ c. p c && q c) bs ≡ weight_where q (cond {A = List Bid} t (b ∷ filter p bs) (filter p bs))
    at true h = ap (λ (v : ℤ). cond (q b) b.weight (pos 0) +ℤ v) h
    at false h = omega (arith, ints)

-- a table of the weights that those that pass have at their best sets: the sum over the subsets of a set is the weight of those whose best set lies in it
pub chosen_within : (n s : ℕ) (p : Bid → Bool) (bs : List Bid) (x : Vector) (table : List ℤ) → n ≤ 8 → AreOver n bs
    → ((t : ℕ) → t < 512 → number_of table t ≡ weight_where (λ b. p b && same_set 9 (best b.values.items x) (members t)) bs)
    → subset_sum table s ≡ weight_where (λ b. p b && within (suc n) (best b.values.items x) (members s)) bs
chosen_within n s p bs x table few o h =
    subset_within n s (filter p bs) x table few (All-filter p (λ b. length b.values.items ≡ n) bs o) (λ t l. h t l ∙ both_tests p (λ b. same_set 9 (best b.values.items x) (members t)) bs)
    ∙ sym (both_tests p (λ b. within (suc n) (best b.values.items x) (members s)) bs)

-- where the weight is added to the number of the best set if the test is passed
pub added_where : (old new : List ℤ) (own set : ℕ) (w by : ℤ) (t : Bool) → by ≡ cond t w (pos 0) → number_of new own ≡ number_of old own +ℤ by → ((k : ℕ) → (k ≡ own → ⊥) → number_of new k ≡ number_of old k)
    → number_of new set ≡ number_of old set +ℤ cond (t && eqb own set) w (pos 0)
added_where old new own set w by t e s o = added old new own set by s o ∙ ap (λ (v : ℤ). number_of old set +ℤ v) (ap (λ (v : ℤ). cond (eqb own set) v (pos 0)) e ∙ swap t (eqb own set))
  where
    swap : (t e : Bool) → cond e (cond t w (pos 0)) (pos 0) ≡ cond (t && e) w (pos 0)
    swap true e = refl
    swap false true = refl
    swap false false = refl

-- one bid more
pub one_turn : (p : Bid → Bool) (x : Vector) (bs : List Bid) (k : ℕ) (b : Bid) (t : Bool) (by : ℤ) (old new : List ℤ) (own set : ℕ) → k < length bs → b ≡ get_or bs k b → own < 512 → set < 512
    → ((c : ℕ) → members own c ≡ best b.values.items x c) → t ≡ p b → by ≡ cond t b.weight (pos 0) → number_of new own ≡ number_of old own +ℤ by → ((c : ℕ) → (c ≡ own → ⊥) → number_of new c ≡ number_of old c)
    → number_of old set +ℤ weight_where (λ c. p c && same_set 9 (best c.values.items x) (members set)) (drop k bs) ≡ weight_where (λ c. p c && same_set 9 (best c.values.items x) (members set)) bs
    → number_of new set +ℤ weight_where (λ c. p c && same_set 9 (best c.values.items x) (members set)) (drop (k + 1) bs) ≡ weight_where (λ c. p c && same_set 9 (best c.values.items x) (members set)) bs
one_turn p x bs k b t by old new own set l q below small is e w s o h =
    weight_step (λ c. p c && same_set 9 (best c.values.items x) (members set)) bs k b (t && eqb own set) (number_of old set) (number_of new set) _ l q
    (ap₂ (λ (u v : Bool). u && v) e (same_is 9 own set (best b.values.items x) (members set) below is (λ c. refl) (λ c i. members_above set 9 c small i)))
    (added_where old new own set b.weight by t w s o) h

-- some of the bids weigh at most 10,000 each
pub weight_range : (n : ℕ) (p : Bid → Bool) (bs : List Bid) → AreBids n bs → ArePositive bs → (pos 0 ≤ℤ weight_where p bs) × (weight_where p bs ≤ℤ pos (10000 * length bs))
weight_range n p [] a s = (omega (arith, ints), omega (arith, ints))
weight_range n p (b ∷ bs) a s =
    let r = weight_range n p bs (All-tail (IsBid n) b bs a) (All-tail IsPositive b bs s) in
    let w = (All-head (IsBid n) b bs a).weight in
    let h = at (p b) (All-head IsPositive b bs s) w in
    (omega (arith, ints, r.0, h.0), omega (arith, ints, r.1, h.1))
  where
    at : (t : Bool) → pos 1 ≤ℤ b.weight → Lies 10000 b.weight → (pos 0 ≤ℤ cond t b.weight (pos 0)) × (cond t b.weight (pos 0) ≤ℤ pos 10000)
    at true h l = (omega (arith, ints, h), omega (arith, ints, l.1))
    at false h l = (omega (arith, ints), omega (arith, ints))

-- every bid's best set lies in the set of all choices
pub all_within : (n : ℕ) (p : Bid → Bool) (bs : List Bid) (x : Vector) (s : ℕ) → ((k : ℕ) → k < suc n → members s k ≡ true) → weight_where (λ b. p b && within (suc n) (best b.values.items x) (members s)) bs ≡ weight_where p bs
all_within n p [] x s h = refl
all_within n p (b ∷ bs) x s h =
    let e : within (suc n) (best b.values.items x) (members s) ≡ true = within-intro (suc n) (best b.values.items x) (members s) (λ k l _. h k l) in
    ap₂ (λ (t : Bool) (r : ℤ). cond t b.weight (pos 0) +ℤ r) (ap (λ (u : Bool). p b && u) e ∙ both (p b)) (all_within n p bs x s h)
  where
    both : (t : Bool) → t && true ≡ t
    both true = refl
    both false = refl
