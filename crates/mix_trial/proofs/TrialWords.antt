-- A trial auction takes at most 8,010 words.
use Rattle.std.proofs.Common.{◌≡◌, ap, ap₂, refl, ◌<◌, ◌≤◌, ◌+◌, ◌*◌, ◌%◌, ◌==◌, ◌++◌, inl, inr, ℕ, zero, suc, pos, List, [], ◌∷◌, Some, arith}
use Rattle.std.specs.Prelude.{slice_index}
use Rattle.std.proofs.lemmas.Bool.{cases_Bool}
use Rattle.rand_core.specs.Steps.{first_words}
use Rattle.rand_pcg.specs.Lcg.{Lcg}
use Rattle.rand_pcg.specs.Pcg.{pcg32}
use Rattle.mix_trial.specs.Draws.{Drawing, alone, for_each}
use Rattle.mix_trial.specs.Trials.{amount, auction, bidder, bids, block, single, trial_auction, trial_words, value}
use Rattle.mix_trial.specs.Words.{Words, generator_of, word_at, words_of}

-- the same first n words
abbrev Same : ℕ → Words → Words → Type 0
Same n s t = (k : ℕ) → k < n → s k ≡ t k

-- a drawing that takes at most c words: where these are the same, so is what it gives, and as many after them are the same as before
record Takes {X : Type 0} (c : ℕ) (draw : Drawing X) : Type 0 where
  gives : (n : ℕ) (s t : Words) → Same (c + n) s t → (draw s).0 ≡ (draw t).0
  leaves : (n : ℕ) (s t : Words) → Same (c + n) s t → Same n (draw s).1 (draw t).1

fewer : (n m : ℕ) (s t : Words) → n ≤ m → Same m s t → Same n s t
fewer n m s t h same k l = same k (omega arith)

takes_alone : {X : Type 0} (c : ℕ) (draw : Drawing X) → Takes c draw → Takes c (alone draw)
takes_alone {X = X} c draw t = record { gives = λ n s u h. ap (λ (x : X). x ∷ []) (t.gives n s u h); leaves = t.leaves }

takes_amount : (low m : ℕ) → Takes 1 (amount low m)
takes_amount low m = record {
  gives = λ n s t h. ap (λ (x : ℕ). pos (low + x % m)) (h 0 (omega arith));
  leaves = λ n s t h k l. h (suc k) (omega arith);
}

takes_value : Takes 2 value
unfolding value
takes_value = record {
  gives = λ n s t h. (let a = h 0 (omega arith) in let b = h 1 (omega arith) in
      elim (cases_Bool (t 0 % 3 == 0)) [
        | inl e ↦ rw (a, e) refl
        | inr e ↦ rw (a, e) (ap (λ (x : ℕ). Some (pos (x % 1000))) b)
      ]);
  leaves = λ n s t h k l. (let a = h 0 (omega arith) in let b = h (suc k) (omega arith) in let c = h (suc (suc k)) (omega arith) in
      elim (cases_Bool (t 0 % 3 == 0)) [
        | inl e ↦ rw (a, e) b
        | inr e ↦ rw (a, e) c
      ]);
}

takes_block : Takes 6 block
unfolding block
takes_block = record {
  gives = λ n s t h. (
      let e0 = h 0 (omega arith) in let e1 = h 1 (omega arith) in let e2 = h 2 (omega arith) in
      let e3 = h 3 (omega arith) in let e4 = h 4 (omega arith) in let e5 = h 5 (omega arith) in
      rw (e0, e1, e2, e3, e4, e5) refl);
  leaves = λ n s t h k l. h (suc (suc (suc (suc (suc (suc k)))))) (omega arith);
}

takes_each : {X : Type 0} (c : ℕ) (draw : ℕ → Drawing (List X)) → ((k : ℕ) → Takes c (draw k)) → (n k : ℕ) → Takes (n * c) (for_each n k draw)
unfolding for_each
takes_each c draw each zero k = record { gives = λ m s t h. refl; leaves = λ m s t h j l. h j (omega arith) }
takes_each {X = X} c draw each (suc n) k =
    let first = each k in
    let rest = takes_each c draw each n (suc k) in
    record {
      gives = λ m s t h. (let g = fewer (c + (n * c + m)) (suc n * c + m) s t (omega arith) h in ap₂ (λ (x y : List X). x ++ y) (first.gives (n * c + m) s t g) (rest.gives m (draw k s).1 (draw k t).1 (first.leaves (n * c + m) s t g)));
      leaves = λ m s t h. (let g = fewer (c + (n * c + m)) (suc n * c + m) s t (omega arith) h in rest.leaves m (draw k s).1 (draw k t).1 (first.leaves (n * c + m) s t g));
    }

takes_single : Takes 11 single
unfolding single
takes_single =
    let values = takes_each 2 (λ _. alone value) (λ _. takes_alone 2 value takes_value) 5 1 in
    record {
      gives = λ n s t h. (
          let first = h 0 (omega arith) in
          let left : Same (5 * 2 + n) (λ k. s (suc k)) (λ k. t (suc k)) = λ k l. h (suc k) (omega arith) in
          let same = values.gives n (λ k. s (suc k)) (λ k. t (suc k)) left in
          rw (first, same) refl);
      leaves = λ n s t h. values.leaves n (λ k. s (suc k)) (λ k. t (suc k)) (λ k l. h (suc k) (omega arith));
    }

takes_bids : Takes 200 bids
takes_bids =
    let blocks = takes_each 6 (λ _. block) (λ _. takes_block) 4 1 in
    let singles = takes_each 11 (λ _. alone single) (λ _. takes_alone 11 single takes_single) 16 1 in
    record {
      gives = λ n s t h. (
          let g = fewer (4 * 6 + (16 * 11 + n)) (200 + n) s t (omega arith) h in
          ap₂ (λ x y. x ++ y) (blocks.gives (16 * 11 + n) s t g) (singles.gives n _ _ (blocks.leaves (16 * 11 + n) s t g)));
      leaves = λ n s t h. singles.leaves n _ _ (blocks.leaves (16 * 11 + n) s t (fewer (4 * 6 + (16 * 11 + n)) (200 + n) s t (omega arith) h));
    }

takes_bidder : (k : ℕ) → Takes 200 (bidder k)
takes_bidder k = record { gives = λ n s t h. (let same = takes_bids.gives n s t h in rw same refl); leaves = takes_bids.leaves }

same_auction : (s t : Words) → Same 8010 s t → (auction s).0 ≡ (auction t).0
same_auction s t h =
    let supply = takes_each 1 (λ _. alone (amount 100 100)) (λ _. takes_alone 1 (amount 100 100) (takes_amount 100 100)) 5 1 in
    let reserve = takes_each 1 (λ _. alone (amount 0 100)) (λ _. takes_alone 1 (amount 0 100) (takes_amount 0 100)) 5 1 in
    let bidders = takes_each 200 bidder takes_bidder 40 1 in
    let s1 = (for_each 5 1 (λ _. alone (amount 100 100)) s).1 in
    let t1 = (for_each 5 1 (λ _. alone (amount 100 100)) t).1 in
    let s2 = (for_each 5 1 (λ _. alone (amount 0 100)) s1).1 in
    let t2 = (for_each 5 1 (λ _. alone (amount 0 100)) t1).1 in
    let all = fewer (5 * 1 + 8005) 8010 s t (omega arith) h in
    let a = supply.gives 8005 s t all in
    let after = fewer (5 * 1 + 8000) 8005 s1 t1 (omega arith) (supply.leaves 8005 s t all) in
    let b = reserve.gives 8000 s1 t1 after in
    let last = fewer (40 * 200 + 0) 8000 s2 t2 (omega arith) (reserve.leaves 8000 s1 t1 after) in
    let c = bidders.gives 0 s2 t2 last in
    rw (a, b, c) refl

-- the words in a list of a generator's first words
listed : (n : ℕ) (g : Lcg) (k : ℕ) → k < n → word_at k g ≡ slice_index (first_words pcg32 n g) k
unfolding first_words word_at
listed zero g k h = absurd (omega arith)
listed (suc n) g zero h = refl
listed (suc n) g (suc k) h = listed n (pcg32 g).1 k (omega arith)

-- the auction of a generator's words is that of its first 8,010
pub auction_listed : (seed : ℕ) → (auction (words_of (generator_of seed))).0 ≡ trial_auction (trial_words seed)
auction_listed seed = same_auction (words_of (generator_of seed)) (slice_index (trial_words seed)) (λ k h. listed 8010 (generator_of seed) k h)
