-- The best choices of a bid: which ones they are, and that there is one.
use Rattle.std.proofs.Common.{◌≡◌, ℕ, ◌≤◌, ◌<◌, true, false, ℤ, ◌-ℤ◌, refl, arith, sym, ap, ◌∙◌, Option, Some, None, length}
use Rattle.std.proofs.lemmas.Bool.{false≢true}
use Rattle.mix_num.specs.Vectors.{Vector}
use Rattle.mix_num.proofs.Equalities.{int_eq_is}
use Rattle.mix_bids.specs.Offers.{Offers, offer, gain, leaves, best}
use Rattle.mix_bids.proofs.Cases.{not_true}
use Rattle.mix_bids.proofs.Gains.{gain_is, offered_within}

-- an offer that leaves the number passes the test
pub leaves_offer : (o : Option ℤ) (c g v : ℤ) → o ≡ Some v → v -ℤ c ≡ g → leaves o c g ≡ true
leaves_offer None c g v e h = absurd (cc)
leaves_offer (Some u) c g v e h = let q : u ≡ v = cc in (int_eq_is (u -ℤ c) g).1 (ap (λ z. z -ℤ c) q ∙ h)

-- an offer that fails the test leaves another number
pub leaves_not : (o : Option ℤ) (c g v : ℤ) → o ≡ Some v → leaves o c g ≡ false → v -ℤ c ≡ g → ⊥
leaves_not o c g v e f h = false≢true (sym f ∙ leaves_offer o c g v e h)

-- what a best choice offers
pub record OffersGain (o : Option ℤ) (c g : ℤ) : Type 0 where
  pub value : ℤ
  pub offered : o ≡ Some value
  pub leaves : value -ℤ c ≡ g

pub leaves-true : (o : Option ℤ) (c g : ℤ) → leaves o c g ≡ true → OffersGain o c g
leaves-true None c g h = absurd (false≢true h)
leaves-true (Some v) c g h = record { value = v; offered = refl; leaves = (int_eq_is (v -ℤ c) g).0 h }

-- some choice is best
pub some_best : (vs : Offers) (x : Vector) → (k : ℕ) × (k ≤ length vs) × (best vs x k ≡ true)
some_best vs x =
    let r = gain_is vs x in
    (r.place, offered_within vs r.place r.value r.offered, leaves_offer (offer vs r.place) (x r.place) (gain vs x) r.value r.offered r.reached)

-- no choice beyond the goods is best
pub best_beyond : (vs : Offers) (x : Vector) (k : ℕ) → length vs < k → best vs x k ≡ false
best_beyond vs x k l = not_true _ (λ h. let b = leaves-true (offer vs k) (x k) (gain vs x) h in let q = offered_within vs k b.value b.offered in absurd (omega arith))
