-- One turn of a loop over the bids of a list: what is gathered so far and what is still to come make up the whole.
use Rattle.std.proofs.Common.{◌≡◌, ℕ, zero, suc, ◌+◌, ◌-◌, ◌<◌, ◌≤◌, ◌≤ℤ◌, drop_of_length-le, Bool, cond, List, [], ◌∷◌, ℤ, pos, ◌+ℤ◌, ◌*ℤ◌, refl, arith, sym, ap, ap₂, ◌∙◌, subst, Option, Some, None, get_or, length, drop, drop-cons, add-one}
use Rattle.std.proofs.lemmas.Int.{ints, clamps}
use Rattle.std.proofs.lemmas.List.Elements.{All-same}
use Rattle.std.specs.Int.{int_max}
use Rattle.mix_num.specs.Vectors.{Vector}
use Rattle.mix_bids.specs.Offers.{Offers, offer, gain, better, IsOffer}
use Rattle.mix_bids.specs.Bids.{utility, top_value, total_weight, weight_where, IsBid, AreBids}
use Rattle.mix_bids.specs.declared.bid.Bid.{Bid}

-- the bid at place k is a bid over the list's goods
pub bid_at : (n : ℕ) (bs cs : List Bid) (k : ℕ) (b : Bid) → cs ≡ bs → k < length cs → b ≡ get_or cs k b → AreBids n bs → IsBid n b
bid_at n bs cs k b e l q a = subst (IsBid n) (sym q) (All-same (IsBid n) cs bs e a k b l)

-- the bid at place k, looked at
pub utility_step : (bs : List Bid) (x : Vector) (k : ℕ) (b : Bid) (s t total : ℤ) → k < length bs → b ≡ get_or bs k b → t ≡ s +ℤ (b.weight *ℤ gain b.values.items x) → s +ℤ utility (drop k bs) x ≡ total → t +ℤ utility (drop (k + 1) bs) x ≡ total
utility_step bs x k b s t total l q e h =
    let u : utility (drop k bs) x ≡ utility (get_or bs k b ∷ drop (suc k) bs) x = ap (λ z. utility z x) (drop-cons bs k b l) in
    let v = ap (λ z. z.weight *ℤ gain z.values.items x) q in
    let w = ap (λ z. utility (drop z bs) x) (add-one k) in
    omega (arith, ints)

pub weight_step : (p : Bid → Bool) (bs : List Bid) (k : ℕ) (b : Bid) (a : Bool) (s t total : ℤ) → k < length bs → b ≡ get_or bs k b → a ≡ p b → t ≡ s +ℤ cond a b.weight (pos 0) → s +ℤ weight_where p (drop k bs) ≡ total → t +ℤ weight_where p (drop (k + 1) bs) ≡ total
weight_step p bs k b a s t total l q w e h =
    let u : weight_where p (drop k bs) ≡ weight_where p (get_or bs k b ∷ drop (suc k) bs) = ap (weight_where p) (drop-cons bs k b l) in
    let v = ap (λ z. cond (p z) z.weight (pos 0)) q in
    let y = ap (λ z. weight_where p (drop z bs)) (add-one k) in
    let i = ap (λ z. cond z b.weight (pos 0)) w in
    omega (arith, ints)

pub total_step : (bs : List Bid) (k : ℕ) (b : Bid) (s t total : ℤ) → k < length bs → b ≡ get_or bs k b → t ≡ s +ℤ b.weight → s +ℤ total_weight (drop k bs) ≡ total → t +ℤ total_weight (drop (k + 1) bs) ≡ total
total_step bs k b s t total l q e h =
    let u : total_weight (drop k bs) ≡ total_weight (get_or bs k b ∷ drop (suc k) bs) = ap total_weight (drop-cons bs k b l) in
    let v = ap (λ z. z.weight) q in
    let y = ap (λ z. total_weight (drop z bs)) (add-one k) in
    omega (arith, ints)

-- the greatest value is not below 0
top_least : (bs : List Bid) (i : ℕ) → pos 0 ≤ℤ top_value bs i
top_least [] i = omega (arith, ints)
top_least (b ∷ bs) i = raised (offer b.values.items i) (top_value bs i) (top_least bs i)
  where
    raised : (o : Option ℤ) (g : ℤ) → pos 0 ≤ℤ g → pos 0 ≤ℤ better o (pos 0) g
    raised None g h = h
    raised (Some v) g h = omega (arith, ints, clamps)

pub top_start : (bs : List Bid) (i : ℕ) → int_max (pos 0) (top_value bs i) ≡ top_value bs i
top_start bs i = let h = top_least bs i in omega (arith, ints, clamps)

top_swap : (o : Option ℤ) (g t : ℤ) → int_max (better o (pos 0) g) t ≡ int_max g (better o (pos 0) t)
top_swap None g t = refl
top_swap (Some v) g t = omega (arith, ints, clamps)

pub top_step : (bs : List Bid) (i k : ℕ) (b : Bid) (g t total : ℤ) → k < length bs → b ≡ get_or bs k b → t ≡ better (offer b.values.items i) (pos 0) g → int_max g (top_value (drop k bs) i) ≡ total → int_max t (top_value (drop (k + 1) bs) i) ≡ total
top_step bs i k b g t total l q e h =
    let rest = top_value (drop (suc k) bs) i in
    let o = offer b.values.items i in
    let u : top_value (drop k bs) i ≡ top_value (get_or bs k b ∷ drop (suc k) bs) i = ap (λ z. top_value z i) (drop-cons bs k b l) in
    let v : top_value (get_or bs k b ∷ drop (suc k) bs) i ≡ better o (pos 0) rest = ap (λ (z : Bid). better (offer z.values.items i) (pos 0) rest) (sym q) in
    let y : top_value (drop (k + 1) bs) i ≡ rest = ap (λ z. top_value (drop z bs) i) (add-one k) in
    ap₂ int_max e y ∙ top_swap o g rest ∙ ap (int_max g) (sym v) ∙ ap (int_max g) (sym u) ∙ h

-- a value at price 0 stays a value
pub top_small : (o : Option ℤ) (g : ℤ) → IsOffer o → (pos 0 ≤ℤ g) × (g ≤ℤ pos 1000000) → (pos 0 ≤ℤ better o (pos 0) g) × (better o (pos 0) g ≤ℤ pos 1000000)
top_small None g i h = h
top_small (Some v) g i h = let r = i v refl in (omega (arith, ints, clamps), omega (arith, ints, clamps))

-- the offer for a good stands one place before its number
pub offer_of : (vs : Offers) (i : ℕ) → 1 ≤ i → offer vs i ≡ get_or vs (i - 1) None
offer_of vs zero h = absurd (omega arith)
offer_of vs (suc k) h = let e : k ≡ suc k - 1 = omega arith in ap (λ z. get_or vs z None) e

-- at the end nothing is still to come
pub weight_end : (p : Bid → Bool) (bs : List Bid) (k : ℕ) (s total : ℤ) → length bs ≤ k → s +ℤ weight_where p (drop k bs) ≡ total → s ≡ total
weight_end p bs k s total l h = let e = ap (weight_where p) (drop_of_length-le bs l) in omega (arith, ints)
