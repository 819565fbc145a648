-- Sums over the lots of a list, and one turn of a loop over lots.
use Rattle.std.proofs.Common.{◌≡◌, ℕ, suc, ◌+◌, ◌≤◌, ◌<◌, Bool, false, cond, List, [], ◌∷◌, ◌++◌, ℤ, pos, ◌+ℤ◌, ◌*ℤ◌, ◌≤ℤ◌, refl, arith, sym, ap, ap₂, ◌∙◌, subst, length, int_lt, get_or, drop, drop-cons, add-one, take, All}
use Rattle.std.proofs.lemmas.Int.{ints}
use Rattle.std.proofs.lemmas.List.Elements.{All-head, All-same, All-tail}
use Rattle.std.proofs.lemmas.List.{map-append, take_more}
use Rattle.std.specs.Int.{int_max}
use Rattle.mix_num.specs.Vectors.{Vector}
use Rattle.mix_bids.specs.Bids.{IsBid, weight_where}
use Rattle.mix_bids.specs.Offers.{gain}
use Rattle.mix_bids.specs.Caps.{ArePositive, IsPositive}
use Rattle.mix_bids.specs.declared.bid.Bid.{Bid}
use Rattle.mix_bids.proofs.PositiveBids.{gain_of, weight_is}
use Rattle.mix_bids.proofs.Units.{lifted_sum}
use Rattle.mix_cap.specs.Lots.{IsLot, above, lifted, lot_of, lots_of, sum_over}
use Rattle.mix_cap.specs.declared.lots.Lot.{Lot}

-- the lots that pass a threshold are those of the bids that do
pub above_lots : (z : ℤ) (x : Vector) (bs : List Bid) → sum_over (above z) (lots_of x bs) ≡ weight_where (λ b. int_lt z (gain_of x b)) bs
above_lots z x [] = refl
above_lots z x (b ∷ bs) = ap (λ (k : ℤ). cond (int_lt z (gain_of x b)) b.weight (pos 0) +ℤ k) (above_lots z x bs)

pub lifted_lots : (z : ℤ) (x : Vector) (bs : List Bid) → ArePositive bs → sum_over (lifted z) (lots_of x bs) ≡ lifted_sum z (gain_of x) bs
lifted_lots z x [] p = refl
lifted_lots z x (b ∷ bs) p =
    let w = weight_is b.weight (All-head IsPositive b bs p) in
    ap₂ (λ (u v : ℤ). (u *ℤ int_max (gain_of x b) z) +ℤ v) (sym w) (lifted_lots z x bs (All-tail IsPositive b bs p))

-- one lot more
pub sum_step : (number : Lot → ℤ) (lots : List Lot) (k : ℕ) (d : Lot) (s t total : ℤ) → k < length lots → t ≡ s +ℤ number (get_or lots k d) → s +ℤ sum_over number (drop k lots) ≡ total → t +ℤ sum_over number (drop (k + 1) lots) ≡ total
sum_step number lots k d s t total l e h =
    let u : sum_over number (drop k lots) ≡ number (get_or lots k d) +ℤ sum_over number (drop (suc k) lots) = ap (sum_over number) (drop-cons lots k d l) in
    let y = ap (λ (z : ℕ). sum_over number (drop z lots)) (add-one k) in
    omega (arith, ints)

passes_not : (z g : ℤ) → g ≤ℤ z → int_lt z g ≡ false
passes_not z g h = grind (arith, ints)

-- no unit gains more than 5,000,000
pub none_above : (lots : List Lot) → All IsLot lots → sum_over (above (pos 5000000)) lots ≡ pos 0
none_above [] a = refl
none_above (lot ∷ lots) a =
    let is = All-head IsLot lot lots a in
    let e = ap (λ (b : Bool). cond b lot.units (pos 0)) (passes_not (pos 5000000) lot.gain is.gain.1) in
    let h = none_above lots (All-tail IsLot lot lots a) in
    omega (arith, ints)

-- ---- the lots of one bid more
pub lots_more : (x : Vector) (bs : List Bid) (k : ℕ) (b : Bid) (lots new : List Lot) (lot : Lot) → k < length bs → b ≡ get_or bs k b → lots ≡ lots_of x (take k bs) → new ≡ lots ++ lot ∷ [] → lot ≡ lot_of x b → new ≡ lots_of x (take (k + 1) bs)
lots_more x bs k b lots new lot l q h n e =
    n
    ∙ ap₂ (λ (us : List Lot) (u : Lot). us ++ u ∷ []) h (e ∙ ap (lot_of x) q)
    ∙ sym (map-append (lot_of x) (take k bs) (get_or bs k b ∷ []))
    ∙ ap (lots_of x) (sym (take_more bs k b l))

-- a bid of positive weight makes a lot
pub is_lot : (x : Vector) (n : ℕ) (bs cs : List Bid) (k : ℕ) (b : Bid) (lot : Lot) → cs ≡ bs → k < length cs → b ≡ get_or cs k b → IsBid n b → ArePositive bs → lot ≡ lot_of x b
    → (pos 0 ≤ℤ gain b.values.items x) × (gain b.values.items x ≤ℤ pos 5000000) → IsLot lot
is_lot x n bs cs k b lot e l q is p h g =
    let some = subst IsPositive (sym q) (All-same IsPositive cs bs e p k b l) in
    let w = is.weight in
    subst IsLot (sym h) (record { gain = g; units = (omega (arith, ints), omega (arith, ints, w)) })
