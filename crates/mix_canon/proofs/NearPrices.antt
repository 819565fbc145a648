-- The theorem on canonical lists: two lists have the same indirect utility at all whole prices exactly where their canonical lists are equal, and prices from
-- -2 to 1,000,001 are enough to tell.
use Rattle.std.proofs.Common.{◌≡◌, ◌↔◌, ℕ, zero, suc, ◌<◌, ◌⊎◌, inl, inr, List, [], ◌∷◌, ℤ, pos, negsuc, ◌≤ℤ◌, refl, arith, sym, ap, ◌∙◌, None, get_or, length, replicate, All}
use Rattle.std.proofs.lemmas.Int.{ints}
use Rattle.std.proofs.lemmas.List.{get_or-map, length-replicate}
use Rattle.std.proofs.lemmas.List.Elements.{All-cons, All-get_or, All-nil, All-replicate}
use Rattle.mix_num.specs.Vectors.{Agree, Vector, bit, members, minus, plus, with_null}
use Rattle.mix_bids.specs.Offers.{AreOffers, IsOffer, Offers, later}
use Rattle.mix_bids.specs.Bids.{AreBids, utility}
use Rattle.mix_bids.specs.declared.bid.Bid.{Bid}
use Rattle.mix_bids.proofs.Lengths.{over_of}
use Rattle.mix_bids.proofs.Weights.{utility_reads}
use Rattle.mix_canon.specs.declared.term.Term.{Term}
use Rattle.mix_canon.specs.Canons.{IsCanonOf, weight_of}
use Rattle.mix_canon.specs.Searches.{AgreeLow, AgreeRound, AreAlike, AreAlikeNear, IsNear, price_of, prices_of}
use Rattle.mix_canon.proofs.Readings.{offers_or_nothing, weight_told}
use Rattle.mix_canon.proofs.Canonicals.{regrouped, same_canon}
use Rattle.mix_canon.proofs.NearPoints.{near_up, near_down, own_value}

-- the entries of a vector at the goods, as a list
abbrev pub list_to : ℕ → Vector → List ℤ
list_to zero y = []
list_to (suc n) y = y 1 ∷ list_to n (later y)

length-list_to : (n : ℕ) (y : Vector) → length (list_to n y) ≡ n
length-list_to zero y = refl
length-list_to (suc n) y = let h = length-list_to n (later y) in omega arith

get-list_to : (n : ℕ) (y : Vector) (k : ℕ) → k < n → get_or (list_to n y) k (pos 0) ≡ y (suc k)
get-list_to zero y k l = absurd (omega arith)
get-list_to (suc n) y zero l = refl
get-list_to (suc n) y (suc k) l = get-list_to n (later y) k (omega arith)

near-list_to : (n : ℕ) (y : Vector) → ((k : ℕ) → k < n → IsNear (y (suc k))) → All IsNear (list_to n y)
near-list_to zero y h = All-nil IsNear
near-list_to (suc n) y h = All-cons IsNear (y 1) (list_to n (later y)) (h 0 (omega arith)) (near-list_to n (later y) (λ k l. h (suc k) (omega arith)))

agree-list_to : (n : ℕ) (y : Vector) → y 0 ≡ pos 0 → Agree n (with_null (list_to n y)) y
agree-list_to n y e zero l = sym e
agree-list_to n y e (suc k) l = get-list_to n y k (omega arith)

-- lists that are alike near are so at each vector of near prices
alike_at : (n : ℕ) (bs cs : List Bid) → AreBids n bs → AreBids n cs → AreAlikeNear n bs cs → (y : Vector) → y 0 ≡ pos 0 → ((k : ℕ) → k < n → IsNear (y (suc k))) → utility bs y ≡ utility cs y
alike_at n bs cs bare care alike y e h =
    let a = agree-list_to n y e in
    sym (utility_reads n bs _ _ (over_of n bs bare) a) ∙ alike (list_to n y) (length-list_to n y) (near-list_to n y h) ∙ utility_reads n cs _ _ (over_of n cs care) a

own_price : (n : ℕ) (v : Offers) → AreOffers n v → (k : ℕ) → k < n → (negsuc 0 ≤ℤ with_null (prices_of v) (suc k)) × (with_null (prices_of v) (suc k) ≤ℤ pos 1000000)
own_price n v are k l =
    let s : k < length v = let t = are.size in omega arith in
    let e = get_or-map price_of v k None (pos 0) s in
    let r = own_value (get_or v k None) (All-get_or IsOffer v k None s are.each) in
    (omega (arith, ints, r.0, e), omega (arith, ints, r.1, e))

agree_low : (n : ℕ) (bs cs : List Bid) → AreBids n bs → AreBids n cs → AreAlikeNear n bs cs → AgreeLow n bs cs
agree_low n bs cs bare care alike = record {
  one = alike (replicate n (negsuc 0)) (length-replicate n (negsuc 0)) (All-replicate IsNear n (negsuc 0) (omega (arith, ints), omega (arith, ints)));
  two = alike (replicate n (negsuc 1)) (length-replicate n (negsuc 1)) (All-replicate IsNear n (negsuc 1) (omega (arith, ints), omega (arith, ints)));
}

agree_round : (n : ℕ) (bs cs : List Bid) (v : Offers) → AreBids n bs → AreBids n cs → AreOffers n v → AreAlikeNear n bs cs → AgreeRound n bs cs v
agree_round n bs cs v bare care are alike = λ set is. record {
  up = alike_at n bs cs bare care alike (plus (with_null (prices_of v)) (members set)) (let e = ap bit is.1 in omega (arith, ints)) (λ k l. near_up (with_null (prices_of v) (suc k)) (members set (suc k)) (own_price n v are k l));
  down = alike_at n bs cs bare care alike (minus (with_null (prices_of v)) (members set)) (let e = ap bit is.1 in omega (arith, ints)) (λ k l. near_down (with_null (prices_of v) (suc k)) (members set (suc k)) (own_price n v are k l));
}

-- lists that agree low, and round each vector that a bid has, give each vector the same weight
pub weights_told : (n : ℕ) (bs cs : List Bid) → AreBids n bs → AreBids n cs → AgreeLow n bs cs → ((v : Offers) → AreOffers n v → AgreeRound n bs cs v) → (v : Offers) → weight_of v bs ≡ weight_of v cs
weights_told n bs cs bare care low round v = at (offers_or_nothing n v bs bare) (offers_or_nothing n v cs care)
  where
    at : AreOffers n v ⊎ (weight_of v bs ≡ pos 0) → AreOffers n v ⊎ (weight_of v cs ≡ pos 0) → weight_of v bs ≡ weight_of v cs
    at (inl a) d = weight_told n bs cs v bare care a low (round v a)
    at (inr e) (inl a) = weight_told n bs cs v bare care a low (round v a)
    at (inr e) (inr f) = e ∙ sym f

-- near prices tell whether each vector has the same weight
pub near_tells : (n : ℕ) (bs cs : List Bid) → AreBids n bs → AreBids n cs → AreAlikeNear n bs cs → (v : Offers) → weight_of v bs ≡ weight_of v cs
near_tells n bs cs bare care alike = weights_told n bs cs bare care (agree_low n bs cs bare care alike) (λ v a. agree_round n bs cs v bare care a alike)

-- ---- the theorem
-- two lists have the same indirect utility at all whole prices exactly where their canonical lists are equal
pub alike_where_same_canon : (n : ℕ) (bs cs : List Bid) (ts us : List Term) → AreBids n bs → AreBids n cs → IsCanonOf bs ts → IsCanonOf cs us → AreAlike n bs cs ↔ (ts ≡ us)
alike_where_same_canon n bs cs ts us bare care is also = (
  λ h. (same_canon bs cs ts us is also).0 (near_tells n bs cs bare care (λ p l a. h p l)),
  λ e p l. regrouped bs cs ((same_canon bs cs ts us is also).1 e) (with_null p),
)

-- and exactly where they are alike at the prices from -2 to 1,000,001
pub alike_where_near : (n : ℕ) (bs cs : List Bid) → AreBids n bs → AreBids n cs → AreAlike n bs cs ↔ AreAlikeNear n bs cs
alike_where_near n bs cs bare care = (
  λ h p l a. h p l,
  λ h p l. regrouped bs cs (near_tells n bs cs bare care h) (with_null p),
)
