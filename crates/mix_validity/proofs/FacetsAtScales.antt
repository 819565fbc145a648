-- Facet weights at a scale: each is one of the list itself, at prices divided by the scale and rounded up, or none at all.
use Rattle.std.proofs.Common.{◌≡◌, ℕ, suc, ◌≤◌, List, [], ◌∷◌, pos, ◌+ℤ◌, ◌-ℤ◌, ◌*ℤ◌, cond, refl, arith, sym, ap, ap₂, subst, ◌∙◌, int_eq, length, map}
use Rattle.std.proofs.lemmas.Int.{ints}
use Rattle.std.proofs.lemmas.Bool.{false≢true}
use Rattle.mix_num.specs.Vectors.{Vector, with_null}
use Rattle.mix_num.proofs.Equalities.{int_eq_is}
use Rattle.mix_num.proofs.Products.{*ℤ-difference}
use Rattle.mix_num.proofs.Quotients.{below_ceiling, ceiling, ceiling_exact, ceiling_is}
use Rattle.mix_bids.specs.Offers.{Offers, best, pair, same_set}
use Rattle.mix_bids.specs.Bids.{NoneNegative, facet_weight, total_weight}
use Rattle.mix_bids.specs.Convexity.{bid_at, offers_at, utility_at}
use Rattle.mix_bids.specs.declared.bid.Bid.{Bid}
use Rattle.mix_bids.proofs.Cases.{by_test, not_true, same_bool}
use Rattle.mix_bids.proofs.Lengths.{AreOver, first_over, rest_over}
use Rattle.mix_bids.proofs.Multiples.{length-offers_at, offered_at, offered_once, over_at, total_at}
use Rattle.mix_facets.proofs.Exacts.{IsTorn, torn_of, torn_to}
use Rattle.mix_law.specs.Members.{KeepsLocal}
use Rattle.mix_validity.specs.Laws.{list_keeps, none_anywhere}

-- by how much each price lies above that of the choice i, divided by d and rounded up
abbrev pub divided : ℕ → ℕ → Vector → Vector
divided d i x = λ k. ceiling d (x k -ℤ x i)

-- the prices of i and j differ by a multiple of d
abbrev pub IsEven : ℕ → ℕ → ℕ → Vector → Type 0
IsEven d i j x = pos d *ℤ divided d i x j ≡ x j -ℤ x i

divided_first : (d i : ℕ) (x : Vector) → 1 ≤ d → divided d i x i ≡ pos 0
divided_first d i x some = ceiling_exact d (x i -ℤ x i) (divided d i x i) (pos 0) some (ceiling_is d (x i -ℤ x i) some) (omega (arith, ints))

-- a bid that is torn between two choices at a scale: so it is at the divided prices, and the prices of the two differ by a multiple
pub torn_once : (d : ℕ) (vs : Offers) (x : Vector) (i j : ℕ) → 1 ≤ d → IsTorn (offers_at d vs) x i j → IsTorn vs (divided d i x) i j × IsEven d i j x
torn_once d vs x i j some torn =
    let a = offered_once d vs i torn.first torn.offers_first in
    let b = offered_once d vs j torn.second torn.offers_second in
    let tie = torn.tie in
    let ai = a.is in
    let bi = b.is in
    let s = *ℤ-difference (pos d) b.value a.value in
    let xi = divided_first d i x some in
    let even : x j -ℤ x i ≡ pos d *ℤ (b.value -ℤ a.value) = omega (arith, ints) in
    let xj = ceiling_exact d (x j -ℤ x i) (divided d i x j) (b.value -ℤ a.value) some (ceiling_is d (x j -ℤ x i) some) even in (
      record {
        first = a.value;
        second = b.value;
        offers_first = a.offered;
        offers_second = b.offered;
        tie = omega (arith, ints);
        rest = λ k v o f g.
            let r = torn.rest k (pos d *ℤ v) (offered_at d vs k v o) f g in
            let u = *ℤ-difference (pos d) v a.value in
            let c = (below_ceiling d (x k -ℤ x i) (divided d i x k) (v -ℤ a.value) (ceiling_is d (x k -ℤ x i) some)).1 (omega (arith, ints)) in
            omega (arith, ints);
      },
      ap (λ z. pos d *ℤ z) xj ∙ sym even,
    )

-- and the other way
pub torn_at : (d : ℕ) (vs : Offers) (x : Vector) (i j : ℕ) → 1 ≤ d → IsEven d i j x → IsTorn vs (divided d i x) i j → IsTorn (offers_at d vs) x i j
torn_at d vs x i j some even torn =
    let tie = torn.tie in
    let xi = divided_first d i x some in
    let xj : divided d i x j ≡ torn.second -ℤ torn.first = omega (arith, ints) in
    let s = *ℤ-difference (pos d) torn.second torn.first in
    let q = ap (λ z. pos d *ℤ z) xj in
    record {
      first = pos d *ℤ torn.first;
      second = pos d *ℤ torn.second;
      offers_first = offered_at d vs i torn.first torn.offers_first;
      offers_second = offered_at d vs j torn.second torn.offers_second;
      tie = omega (arith, ints);
      rest = λ k w o f g.
          let v = offered_once d vs k w o in
          let r = torn.rest k v.value v.offered f g in
          let vi = v.is in
          let u = *ℤ-difference (pos d) v.value torn.first in
          let b = (below_ceiling d (x k -ℤ x i) (divided d i x k) (v.value -ℤ torn.first) (ceiling_is d (x k -ℤ x i) some)).0 (omega (arith, ints)) in
          omega (arith, ints);
    }

-- where the prices of i and j differ by a multiple, their facet weight is that of the list at the divided prices
facet_even : (n d : ℕ) (bs : List Bid) (x : Vector) (i j : ℕ) → AreOver n bs → i ≤ n → j ≤ n → 1 ≤ d → IsEven d i j x → facet_weight n i j (map (bid_at d) bs) x ≡ facet_weight n i j bs (divided d i x)
facet_even n d [] x i j o a b some even = refl
facet_even n d (c ∷ bs) x i j o a b some even =
    let vs = c.values.items in
    let l : length vs ≤ n = omega (arith, first_over n c bs o) in
    let m : length (offers_at d vs) ≤ n = omega (arith, first_over n c bs o, length-offers_at d vs) in
    let e = same_bool (same_set (suc n) (best (offers_at d vs) x) (pair i j)) (same_set (suc n) (best vs (divided d i x)) (pair i j))
    (λ t. torn_to n vs (divided d i x) i j (torn_once d vs x i j some (torn_of n (offers_at d vs) x i j m a b t)).0)
    (λ t. torn_to n (offers_at d vs) x i j (torn_at d vs x i j some even (torn_of n vs (divided d i x) i j l a b t))) in
    ap₂ (λ u v. cond u c.weight (pos 0) +ℤ v) e (facet_even n d bs x i j (rest_over n c bs o) a b some even)

-- where they don't, no bid is torn between the two
facet_odd : (n d : ℕ) (bs : List Bid) (x : Vector) (i j : ℕ) → AreOver n bs → i ≤ n → j ≤ n → 1 ≤ d → ¬ IsEven d i j x → facet_weight n i j (map (bid_at d) bs) x ≡ pos 0
facet_odd n d [] x i j o a b some odd = refl
facet_odd n d (c ∷ bs) x i j o a b some odd =
    let vs = c.values.items in
    let m : length (offers_at d vs) ≤ n = omega (arith, first_over n c bs o, length-offers_at d vs) in
    let e = not_true (same_set (suc n) (best (offers_at d vs) x) (pair i j)) (λ t. odd (torn_once d vs x i j some (torn_of n (offers_at d vs) x i j m a b t)).1) in
    ap₂ (λ u v. cond u c.weight (pos 0) +ℤ v) e (facet_odd n d bs x i j (rest_over n c bs o) a b some odd)

-- a list without negative facet weights has none at any scale
pub none_negative_at : (n d : ℕ) (bs : List Bid) → AreOver n bs → 1 ≤ d → NoneNegative n bs → NoneNegative n (map (bid_at d) bs)
none_negative_at n d bs o some none i j a b p _ =
    let x = with_null p in
    let l : i ≤ n = omega arith in
    let is = int_eq_is (pos d *ℤ divided d i x j) (x j -ℤ x i) in
    by_test (int_eq (pos d *ℤ divided d i x j) (x j -ℤ x i))
    (λ t. let q = facet_even n d bs x i j o l b some (is.0 t) in let r = none_anywhere n bs o none i j l b (omega arith) (divided d i x) in omega (arith, ints))
    (λ t. let q = facet_odd n d bs x i j o l b some (λ m. false≢true (sym t ∙ is.1 m)) in omega (arith, ints))

-- so at each scale its indirect utility keeps what most facts of members rest on
pub utility_keeps : (n d : ℕ) (bs : List Bid) → AreOver n bs → 1 ≤ d → NoneNegative n bs → KeepsLocal n (utility_at bs d) (total_weight bs)
utility_keeps n d bs o some none =
    subst (KeepsLocal n (utility_at bs d)) (total_at d bs) (list_keeps n (map (bid_at d) bs) (over_at n d bs o) (none_negative_at n d bs o some none))
