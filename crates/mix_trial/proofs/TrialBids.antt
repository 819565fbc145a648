-- The bids of a trial auction are bids over five goods.
use Rattle.std.proofs.Common.{◌≡◌, ◌≢◌, ◌∙◌, refl, ◌<◌, ◌≤◌, ◌+◌, ◌%◌, ◌==◌, true, false, inl, inr, ℕ, zero, suc, ℤ, pos, neg_ℤ, List, [], ◌∷◌, ◌++◌, length, replicate, set, arith, All, Some, None, Result, Ok, Err, OnOk, ap₂, append_assoc, rules}
use Rattle.std.proofs.lemmas.Bool.{cases_Bool}
use Rattle.std.proofs.lemmas.Bool.Decides.{nat_tests}
use Rattle.std.proofs.lemmas.Int.{ints}
use Rattle.std.proofs.lemmas.List.{length-set}
use Rattle.std.proofs.lemmas.List.Elements.{All-append, All-cons, All-nil, All-set}
use Rattle.mix_num.specs.Ranges.{Lies}
use Rattle.mix_num.specs.Sellers.{IsAmount}
use Rattle.mix_bids.specs.Bids.{AreBids, Book, IsBid}
use Rattle.mix_bids.specs.Offers.{AreOffers, IsOffer, Offers, offers_some}
use Rattle.mix_bids.specs.declared.bid.Bid.{Bid}
use Rattle.mix_trial.specs.Draws.{alone, drawn, for_each}
use Rattle.mix_trial.specs.Trials.{bid_of, bids, block, block_bids, offering, one_value, single, two_values, value}
use Rattle.mix_trial.specs.Words.{Words}
use Rattle.mix_trial.proofs.DrawnTurns.{for_each_keeps, for_each_length}

-- ---- offers

set_some : (vs : Offers) (q : ℕ) (v : ℤ) → q < length vs → offers_some (set vs q (Some v)) ≡ true
set_some [] q v h = absurd (omega arith)
set_some (o ∷ vs) zero v h = refl
set_some (None ∷ vs) (suc q) v h = set_some vs q v (omega arith)
set_some (Some u ∷ vs) (suc q) v h = refl

some_offer : (v : ℤ) → IsAmount v → IsOffer (Some v)
some_offer v h = λ u e. (let same : v ≡ u = cc e in rw (← same) h)

no_offer : IsOffer None
no_offer = λ u e. cc e

no_offers : All IsOffer (replicate 5 None)
no_offers = go 5
  where
    go : (n : ℕ) → All IsOffer (replicate n None)
    go zero = All-nil IsOffer
    go (suc n) = All-cons IsOffer None (replicate n None) no_offer (go n)

set_offers : (vs : Offers) (q : ℕ) (v : ℤ) → length vs ≡ 5 → All IsOffer vs → q < 5 → IsAmount v → AreOffers 5 (set vs q (Some v))
set_offers vs q v size each h is = record {
  size = length-set vs q (Some v) ∙ size;
  each = All-set IsOffer vs q (Some v) (some_offer v is) each;
  some = set_some vs q v (omega arith);
}

one_offers : (place : ℕ) (v : ℤ) → place < 5 → IsAmount v → AreOffers 5 (one_value place v)
one_offers place v h is = set_offers (replicate 5 None) place v refl no_offers h is

two_offers : (place : ℕ) (v : ℤ) (second : ℕ) (other : ℤ) → place < 5 → IsAmount v → second < 5 → IsAmount other → AreOffers 5 (two_values place v second other)
two_offers place v second other h is l also = let one = one_offers place v h is in set_offers (one_value place v) second other one.size one.each l also

-- ---- weights

-- a weight of a block or a single bid
pub record IsWeight (w : ℤ) : Type 0 where
  pub lies : Lies 10000 w
  pub some : w ≢ pos 0

pub weight_is : (x : ℕ) → x < 9 → IsWeight (pos (1 + x))
weight_is x h = record { lies = omega (arith, ints); some = λ e. absurd (omega (arith, ints)) }

pub taken_back : (x : ℕ) → x < 9 → IsWeight (neg_ℤ (pos (1 + x)))
taken_back x h = record { lies = omega (arith, ints); some = λ e. absurd (omega (arith, ints)) }

pub small : (x m : ℕ) → x < m → m ≤ 1000 → IsAmount (pos x)
small x m h l = omega (arith, ints)

pub one_is : (w : ℤ) (place : ℕ) (v : ℤ) → IsWeight w → place < 5 → IsAmount v → IsBid 5 (bid_of w (one_value place v))
one_is w place v is h a = record { offers = one_offers place v h a; weight = is.lies; some = is.some }

pub two_is : (w : ℤ) (place : ℕ) (v : ℤ) (second : ℕ) (other : ℤ) → IsWeight w → place < 5 → IsAmount v → second < 5 → IsAmount other → IsBid 5 (bid_of w (two_values place v second other))
two_is w place v second other is h a l b = record { offers = two_offers place v second other h a l b; weight = is.lies; some = is.some }

-- ---- drawn bids

-- the next word modulo m is less than m
below : (x m : ℕ) → 0 < m → x % m < m
below x m h = omega arith

four_bids : (b c d e : Bid) → IsBid 5 b → IsBid 5 c → IsBid 5 d → IsBid 5 e → AreBids 5 (b ∷ c ∷ d ∷ e ∷ [])
four_bids b c d e p q r s = All-cons (IsBid 5) b (c ∷ d ∷ e ∷ []) p (All-cons (IsBid 5) c (d ∷ e ∷ []) q (All-cons (IsBid 5) d (e ∷ []) r (All-cons (IsBid 5) e [] s (All-nil (IsBid 5)))))

pub block_are : (words : Words) → AreBids 5 (block words).0
unfolding block
block_are words =
    let i = below (words 0) 5 (omega arith) in
    let j = below (words 0 % 5 + (1 + words 1 % 4)) 5 (omega arith) in
    let w = below (words 2) 9 (omega arith) in
    let u = below (words 3) 800 (omega arith) in
    let v = below (words 4) 800 (omega arith) in
    let a = below (words 5) 200 (omega arith) in
    let plain = weight_is (words 2 % 9) w in
    let low = small (words 3 % 800) 800 u (omega arith) in
    let other = small (words 4 % 800) 800 v (omega arith) in
    let high = small (words 3 % 800 + words 5 % 200) 1000 (omega arith) (omega arith) in
    let top = small (words 4 % 800 + words 5 % 200) 1000 (omega arith) (omega arith) in
    four_bids _ _ _ _ (one_is _ _ _ plain i low) (one_is _ _ _ plain j other) (two_is _ _ _ _ _ plain i high j top) (two_is _ _ _ _ _ (taken_back (words 2 % 9) w) i low j other)

pub block_length : (words : Words) → length (block words).0 ≡ 4
unfolding block
block_length words = refl

value_is : (words : Words) → IsOffer (value words).0
unfolding value
value_is words = elim (cases_Bool (words 0 % 3 == 0)) [
  | inl t ↦ rw t no_offer
  | inr f ↦ rw f (some_offer (pos (words 1 % 1000)) (small (words 1 % 1000) 1000 (below (words 1) 1000 (omega arith)) (omega arith)))
]

values_are : (words : Words) → (length (for_each 5 1 (λ _. alone value) words).0 ≡ 5) × All IsOffer (for_each 5 1 (λ _. alone value) words).0
values_are words = (
  for_each_length (λ _. alone value) 1 (λ k w. refl) 5 1 words,
  for_each_keeps (All IsOffer) (λ _. alone value) (All-nil IsOffer) (All-append IsOffer) (λ k w. All-cons IsOffer (value w).0 [] (value_is w) (All-nil IsOffer)) 5 1 words,
)

offering_are : (vs : Offers) → length vs ≡ 5 → All IsOffer vs → AreOffers 5 (offering vs)
offering_are vs size each = elim (cases_Bool (offers_some vs)) [
  | inl t ↦ rw t (record { size = size; each = each; some = t })
  | inr f ↦ rw f (one_offers 0 (pos 500) (omega arith) (omega (arith, ints)))
]

pub single_is : (words : Words) → IsBid 5 (single words).0
unfolding single
single_is words =
    let w = weight_is (words 0 % 9) (below (words 0) 9 (omega arith)) in
    let vs = values_are (λ k. words (suc k)) in
    record { offers = offering_are (for_each 5 1 (λ _. alone value) (λ k. words (suc k))).0 vs.0 vs.1; weight = w.lies; some = w.some }

-- a bidder's bids
pub bids_are : (words : Words) → AreBids 5 (bids words).0
bids_are words =
    let P : List Bid → Type 0 = AreBids 5 in
    let blocks = for_each_keeps P (λ _. block) (All-nil (IsBid 5)) (All-append (IsBid 5)) (λ k w. block_are w) 4 1 words in
    let after = (for_each 4 1 (λ _. block) words).1 in
    let singles = for_each_keeps P (λ _. alone single) (All-nil (IsBid 5)) (All-append (IsBid 5)) (λ k w. All-cons (IsBid 5) (single w).0 [] (single_is w) (All-nil (IsBid 5))) 16 1 after in
    All-append (IsBid 5) (for_each 4 1 (λ _. block) words).0 (for_each 16 1 (λ _. alone single) after).0 blocks singles

-- ---- one value more

pub value_none : (words : Words) → (drawn 3 words).0 ≡ 0 → value words ≡ (None, (drawn 3 words).1)
unfolding value
value_none words e = rw e refl

pub value_some : (words after : Words) (c v : ℕ) → c ≡ (drawn 3 words).0 → c ≢ 0 → after ≡ (drawn 3 words).1 → v ≡ (drawn 1000 after).0 → Some (pos v) ≡ (value words).0
unfolding value
value_some words after c v e other rest same =
    let test : (words 0 % 3 == 0) ≡ false = grind (arith, nat_tests) in
    rw (same, rest, test) refl

pub value_rest : (words after : Words) (c : ℕ) → c ≡ (drawn 3 words).0 → c ≢ 0 → after ≡ (drawn 3 words).1 → (drawn 1000 after).1 ≡ (value words).1
unfolding value
value_rest words after c e other rest =
    let test : (words 0 % 3 == 0) ≡ false = grind (arith, nat_tests) in
    rw (rest, test) refl

-- values of which none is there
pub offering_none : (vs : Offers) → offers_some vs ≡ false → one_value 0 (pos 500) ≡ offering vs
offering_none vs e = rw e refl

-- ---- bids drawn and added

pub block_is : (w0 w1 w2 w3 w4 w5 w6 : Words) (i d w u v a : ℕ)
    → i ≡ (drawn 5 w0).0 → w1 ≡ (drawn 5 w0).1 → d ≡ (drawn 4 w1).0 → w2 ≡ (drawn 4 w1).1 → w ≡ (drawn 9 w2).0 → w3 ≡ (drawn 9 w2).1
    → u ≡ (drawn 800 w3).0 → w4 ≡ (drawn 800 w3).1 → v ≡ (drawn 800 w4).0 → w5 ≡ (drawn 800 w4).1 → a ≡ (drawn 200 w5).0 → w6 ≡ (drawn 200 w5).1
    → (block_bids i ((i + (1 + d)) % 5) (1 + w) u v a ≡ (block w0).0) × (w6 ≡ (block w0).1)
unfolding block
block_is w0 w1 w2 w3 w4 w5 w6 i d w u v a e0 f0 e1 f1 e2 f2 e3 f3 e4 f4 e5 f5 =
    let g5 : w6 ≡ (drawn 200 w5).1 = f5 in
    (rw (e5, e4, e3, e2, e1, e0, f4, f3, f2, f1, f0) refl, rw (f5, f4, f3, f2, f1, f0) refl)

-- a list that is four bids longer
pub four_more : (l0 l1 l2 l3 : Book) (b1 b2 b3 b4 : Bid) (bs : List Bid)
    → l1 ≡ record { goods = 5; bids = l0.bids ++ (b1 ∷ []) } → l2 ≡ record { goods = 5; bids = l1.bids ++ (b2 ∷ []) } → l3 ≡ record { goods = 5; bids = l2.bids ++ (b3 ∷ []) }
    → b1 ∷ b2 ∷ b3 ∷ b4 ∷ [] ≡ bs → l3.bids ++ (b4 ∷ []) ≡ l0.bids ++ bs
four_more l0 l1 l2 l3 b1 b2 b3 b4 bs e1 e2 e3 same = rw (e3, e2, e1, ← same) (simp append_assoc)

pub same_list : (l : Book) (n : ℕ) (bs : List Bid) → l.goods ≡ n → l.bids ≡ bs → l ≡ record { goods = n; bids = bs }
same_list l n bs p q = ap₂ (λ (g : ℕ) (b : List Bid). record { goods = g; bids = b }) p q

pub if_ok_then : {A E : Type 0} (P Q : Type 0) (r : Result A E) → (P → Q) → OnOk r P → OnOk r Q
if_ok_then P Q (Ok x) f h = f h
if_ok_then P Q (Err e) f h = search rules

pub whenever : {A E : Type 0} (P : Type 0) (r : Result A E) → P → OnOk r P
whenever P (Ok x) h = h
whenever P (Err e) h = search rules
