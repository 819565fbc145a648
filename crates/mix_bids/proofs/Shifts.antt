-- What an earlier bid shares with a new one: where its shift at two choices is the same, it has the new bid's lead there.
use Rattle.std.proofs.Common.{◌≡◌, ◌≢◌, ℕ, zero, suc, ◌+◌, true, false, ℤ, pos, ◌-ℤ◌, Option, Some, None, refl, arith, sym, ap, int_eq, length, ltb, subst}
use Rattle.std.proofs.lemmas.Bool.{false≢true, ltb-true, ltb-false}
use Rattle.std.proofs.lemmas.Int.{ints}
use Rattle.std.proofs.lemmas.List.{get_or_past}
use Rattle.mix_num.specs.Ranges.{Lies}
use Rattle.mix_num.proofs.Equalities.{int_eq_is}
use Rattle.mix_bids.specs.Leads.{lead}
use Rattle.mix_bids.specs.Levels.{is_lead}
use Rattle.mix_bids.specs.Offers.{AreOffers, IsOffer, Offers, offer}
use Rattle.mix_bids.specs.Shared.{is_shift, shift_number}
use Rattle.mix_bids.proofs.Cases.{by_test, not_true, same_bool}

-- the earlier offers o and p have the lead of the new ones u and v
pub shifts_are_leads : (o p u v : Option ℤ) (d : ℤ) → lead u v ≡ Some d → is_shift (lead p v) (lead o u) ≡ is_lead (lead o p) d
shifts_are_leads None None u v d e = refl
shifts_are_leads None (Some b) u v d e = below (lead (Some b) v)
  where
    below : (o : Option ℤ) → is_shift o None ≡ false
    below None = refl
    below (Some x) = refl
shifts_are_leads (Some a) None u v d e = refl
shifts_are_leads (Some a) (Some b) None v d e = cc
shifts_are_leads (Some a) (Some b) (Some x) None d e = cc
shifts_are_leads (Some a) (Some b) (Some x) (Some y) d e =
    let q : x -ℤ y ≡ d = cc in
    same_bool _ _
    (λ h. let t = (int_eq_is (a -ℤ x) (b -ℤ y)).0 h in (int_eq_is (a -ℤ b) d).1 (omega (arith, ints)))
    (λ h. let t = (int_eq_is (a -ℤ b) d).0 h in (int_eq_is (a -ℤ x) (b -ℤ y)).1 (omega (arith, ints)))

-- a shift that is the same as another one can take its place
pub same_shifts : (o p q : Option ℤ) → is_shift o p ≡ true → is_shift o q ≡ is_shift p q
same_shifts None p q h = absurd (false≢true h)
same_shifts (Some v) None q h = absurd (false≢true h)
same_shifts (Some v) (Some u) q h = ap (λ z. is_lead q z) (sym ((int_eq_is u v).0 h))

-- numbers of shifts are the same exactly where the shifts are, at two choices
pub same_numbers : (c k : ℕ) (o p : Option ℤ) → c ≢ k → ((v : ℤ) → o ≡ Some v → Lies 1000000 v) → ((v : ℤ) → p ≡ Some v → Lies 1000000 v) → int_eq (shift_number k p) (shift_number c o) ≡ is_shift o p
same_numbers c k None None d f g = not_true _ (λ h. let e : pos (10000000 + k) ≡ pos (10000000 + c) = (int_eq_is _ _).0 h in d (let q : 10000000 + k ≡ 10000000 + c = cc in omega arith))
same_numbers c k None (Some u) d f g = not_true _ (λ h. let e : u ≡ pos (10000000 + c) = (int_eq_is _ _).0 h in let r = g u refl in absurd (omega (arith, ints)))
same_numbers c k (Some v) None d f g = not_true _ (λ h. let e : pos (10000000 + k) ≡ v = (int_eq_is _ _).0 h in let r = f v refl in absurd (omega (arith, ints)))
same_numbers c k (Some v) (Some u) d f g = refl

-- a shift lies within the greatest value
pub shift_lies : (o p : Option ℤ) → IsOffer o → IsOffer p → (v : ℤ) → lead o p ≡ Some v → Lies 1000000 v
shift_lies None p h i v e = cc
shift_lies (Some a) None h i v e = cc
shift_lies (Some a) (Some b) h i v e =
    let r = h a refl in
    let s = i b refl in
    let q : a -ℤ b ≡ v = cc in
    (omega (arith, ints), omega (arith, ints))

-- what is offered for a choice is an offer
pub offer_is : (n : ℕ) (vs : Offers) → AreOffers n vs → (c : ℕ) → IsOffer (offer vs c)
offer_is n vs r zero = λ v e. let q : pos 0 ≡ v = cc in (omega (arith, ints), omega (arith, ints))
offer_is n vs r (suc c) = by_test (ltb c (length vs))
    (λ h. r.each c None (ltb-true c (length vs) h))
    (λ h. subst IsOffer (sym (get_or_past vs c None (ltb-false c (length vs) h))) (λ v e. cc))
