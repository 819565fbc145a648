-- Prices near a value vector's own numbers, as the code makes them.
use Rattle.std.proofs.Common.{◌≡◌, ℕ, suc, ◌+◌, ◌*◌, ◌/◌, ◌^◌, ◌<◌, List, ℤ, pos, ◌+ℤ◌, ◌-ℤ◌, Bool, true, false, cond, refl, arith, sym, ap, subst, ◌∙◌, get_or, length, All, Option, Some, None, pow-suc}
use Rattle.std.proofs.lemmas.Int.{ints}
use Rattle.std.proofs.lemmas.List.Elements.{All-from_get_or, All-get_or, All-map, All-weaker}
use Rattle.std.proofs.lemmas.Bool.{eqb-false, ne_eqb}
use Rattle.std.proofs.lemmas.Nat.Bits.{bit_at-lt, bit_at_lowest}
use Rattle.std.specs.Int.{bit_at}
use Rattle.mix_num.specs.Vectors.{Agree, Vector, members, with_null}
use Rattle.mix_num.specs.Moves.{IsSetOfGoods, lowered, raised}
use Rattle.mix_bids.specs.Bids.{AreBids, utility}
use Rattle.mix_bids.specs.declared.bid.Bid.{Bid}
use Rattle.mix_bids.proofs.Lengths.{over_of}
use Rattle.mix_bids.proofs.Weights.{utility_reads}
use Rattle.mix_bids.specs.Offers.{IsOffer, Offers}
use Rattle.mix_canon.specs.Searches.{IsNear, IsOwn, price_of, prices_of}

pub near_up : (a : ℤ) (b : Bool) → IsOwn a → IsNear (a +ℤ cond b (pos 1) (pos 0))
near_up a true i = (omega (arith, ints, i.0), omega (arith, ints, i.1))
near_up a false i = (omega (arith, ints, i.0), omega (arith, ints, i.1))

pub near_down : (a : ℤ) (b : Bool) → IsOwn a → IsNear (a -ℤ cond b (pos 1) (pos 0))
near_down a true i = (omega (arith, ints, i.0), omega (arith, ints, i.1))
near_down a false i = (omega (arith, ints, i.0), omega (arith, ints, i.1))

pub near_raised : (p q : List ℤ) (set : ℕ) → All IsOwn p → length q ≡ length p → Agree (length p) (with_null q) (raised (with_null p) (members set) (pos 1)) → All IsNear q
near_raised p q set own size a = All-from_get_or IsNear q (pos 0) (λ k l.
    let m : k < length p = omega arith in
    subst IsNear (sym (a (suc k) (omega arith))) (near_up (get_or p k (pos 0)) (members set (suc k)) (All-get_or IsOwn p k (pos 0) m own)))

pub near_lowered : (p q : List ℤ) (set : ℕ) → All IsOwn p → length q ≡ length p → Agree (length p) (with_null q) (lowered (with_null p) (members set) (pos 1)) → All IsNear q
near_lowered p q set own size a = All-from_get_or IsNear q (pos 0) (λ k l.
    let m : k < length p = omega arith in
    subst IsNear (sym (a (suc k) (omega arith))) (near_down (get_or p k (pos 0)) (members set (suc k)) (All-get_or IsOwn p k (pos 0) m own)))

-- lists that agree at prices agree at the same prices told otherwise
pub agree_moved : (n : ℕ) (bs cs : List Bid) → AreBids n bs → AreBids n cs → (x y : Vector) → Agree n x y → utility bs x ≡ utility cs x → utility bs y ≡ utility cs y
agree_moved n bs cs bare care x y a e = sym (utility_reads n bs x y (over_of n bs bare) a) ∙ e ∙ utility_reads n cs x y (over_of n cs care) a

-- a set of goods has an even number
pub even_of : (k : ℕ) → members k 0 ≡ false → k ≡ 2 * (k / 2)
even_of k h =
    let e = bit_at_lowest k in
    let n = eqb-false (bit_at k 0) 1 h in
    let l = bit_at-lt k 0 in
    omega arith

pub even_null : (i : ℕ) → members (2 * i) 0 ≡ false
even_null i = let e = bit_at_lowest (2 * i) in ne_eqb (bit_at (2 * i) 0) 1 (λ q. omega arith)

pub set_of_goods : (n i : ℕ) → i < 2 ^ n → IsSetOfGoods n (2 * i)
set_of_goods n i l = (let e = pow-suc 2 n in let f : n + 1 ≡ suc n = omega arith in let g = ap (λ (k : ℕ). 2 ^ k) f in omega arith, even_null i)

pub own_value : (o : Option ℤ) → IsOffer o → IsOwn (price_of o)
own_value None i = (omega (arith, ints), omega (arith, ints))
own_value (Some a) i = let r = i a refl in (omega (arith, ints, r.0, r.1), r.1)

pub own_prices_own : (v : Offers) → All IsOffer v → All IsOwn (prices_of v)
own_prices_own v a = All-map IsOwn price_of v (All-weaker IsOffer (λ o. IsOwn (price_of o)) own_value v a)
