-- The order of value vectors: only equal vectors are level.
use Rattle.std.proofs.Common.{◌≡◌, [], ◌∷◌, ℤ, refl, sym, ap, ap₂, ◌∙◌, Option, Some, None, true, false}
use Rattle.std.specs.declared.cmp.Ordering.{Ordering}
use Rattle.std.specs.declared.cmp.Ordering.TheVariants.{Less, Equal, Greater}
use Rattle.std.specs.Ordering.{int_cmp, is_eq, ordering_reverse, ordering_then}
use Rattle.std.specs.Option.{option_cmp}
use Rattle.std.specs.Cmp.{IsTotalOrder}
use Rattle.std.specs.Cmp.Lexicographic.{options_total}
use Rattle.std.proofs.lemmas.Bool.{false≢true}
use Rattle.std.proofs.lemmas.Cmp.{int_cmp_total, lists_total, tied_itself}
use Rattle.std.proofs.lemmas.Map.Lookups.{exact_signed}
use Rattle.mix_bids.specs.Offers.{Offers}
use Rattle.mix_canon.specs.Canons.{value_order}

pub total_order : IsTotalOrder value_order
total_order = lists_total (options_total int_cmp_total)

exact_offer : (o p : Option ℤ) → option_cmp int_cmp o p ≡ Equal → o ≡ p
exact_offer None None h = refl
exact_offer None (Some b) h = absurd (cc)
exact_offer (Some a) None h = absurd (cc)
exact_offer (Some a) (Some b) h = ap Some (exact_signed a b h)

both_equal : (a b : Ordering) → ordering_then a b ≡ Equal → (a ≡ Equal) × (b ≡ Equal)
both_equal Less b h = absurd (cc)
both_equal Equal b h = (refl, h)
both_equal Greater b h = absurd (cc)

pub exact_values : (v w : Offers) → value_order v w ≡ Equal → v ≡ w
exact_values [] [] h = refl
exact_values [] (p ∷ w) h = absurd (cc)
exact_values (o ∷ v) [] h = absurd (cc)
exact_values (o ∷ v) (p ∷ w) h =
    let r = both_equal (option_cmp int_cmp o p) (value_order v w) h in
    ap₂ (λ (a : Option ℤ) (b : Offers). a ∷ b) (exact_offer o p r.0) (exact_values v w r.1)

pub level_itself : (v : Offers) → value_order v v ≡ Equal
level_itself v = tied_itself total_order v

is_eq-true : (o : Ordering) → is_eq o ≡ true → o ≡ Equal
is_eq-true Less h = absurd (false≢true h)
is_eq-true Equal h = refl
is_eq-true Greater h = absurd (false≢true h)

-- the test that two vectors are the same
pub same_values : (v w : Offers) → is_eq (value_order v w) ≡ true → v ≡ w
same_values v w h = exact_values v w (is_eq-true (value_order v w) h)

pub same_itself : (v w : Offers) → v ≡ w → is_eq (value_order v w) ≡ true
same_itself v w e = ap (λ (u : Offers). is_eq (value_order v u)) (sym e) ∙ ap is_eq (level_itself v)

-- one above another isn't level with it, seen from either
pub less_apart : (v w : Offers) → value_order v w ≡ Less → is_eq (value_order v w) ≡ false
less_apart v w h = ap is_eq h

pub greater_turned : (v w : Offers) → value_order v w ≡ Greater → value_order w v ≡ Less
greater_turned v w h = total_order.antisymm w v ∙ ap ordering_reverse h
