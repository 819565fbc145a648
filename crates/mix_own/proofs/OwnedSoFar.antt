-- What is owned so far: a number more, a row more, and what holds of it.
use Rattle.std.proofs.Common.{◌≡◌, ◌∙◌, sym, ap, refl, subst, ◌<◌, ◌+◌, ◌-◌, ◌||◌, ℕ, zero, suc, ℤ, pos, ◌+ℤ◌, ◌≤ℤ◌, ◌<ℤ◌, ◌⊎◌, true, false, List, [], ◌∷◌, ◌++◌, length, drop, get_or, set, replicate, arith, inl, inr, Ok, int_le, int_lt, nat_eq, ◌≢◌, true≢false}
use Rattle.std.specs.Ordering.{int_eq}
use Rattle.std.proofs.lemmas.Bool.{cases_Bool}
use Rattle.std.proofs.lemmas.Bool.Decides.{nat_tests}
use Rattle.std.proofs.lemmas.Int.{ints}
use Rattle.std.proofs.lemmas.List.{drop_more, get_or_append_left, get_or-append_right, length-append, length-set, length-replicate, get_or-set_same, get_or-set_other}
use Rattle.std.proofs.lemmas.List.Elements.{All-push, All-set, All-replicate}
use Rattle.mix_num.specs.Sellers.{AreAmounts, IsAmount}
use Rattle.mix_num.specs.Shares.{sum_at}
use Rattle.mix_text.specs.Auctions.{AuctionText, IsAuction}
use Rattle.mix_text.specs.Reading.{field_at, holds, number_in}
use Rattle.mix_text.specs.Spelling.{spelled_number}
use Rattle.mix_text.specs.declared.faults.Code.TheVariants as code
use Rattle.mix_text.proofs.Sound.{holds_ok, then_ok}
use Rattle.mix_text.proofs.Spellings.{between_range}
use Rattle.mix_own.specs.Readings.{FitsRoom, IsSoFar, SoFar, nothing_told, own_number_of, own_numbers_after, room_of}

-- ---- one number

-- a number that is read keeps to the limits
pub number_told : (reserve room : ℤ) (field : List ℕ) (x : ℤ) → own_number_of reserve room field ≡ Ok x → IsAmount x × (pos 0 <ℤ x → reserve ≡ pos 0) × (x ≤ℤ room)
unfolding own_number_of
number_told reserve room field x e =
    let a = then_ok (number_in (pos 0) (pos 1000000) field) _ x e in
    let b = then_ok (holds (int_le a.0 (pos 0) || int_eq reserve (pos 0)) code.Other) _ x a.2 in
    let c = then_ok (holds (int_le a.0 room) code.Range) _ x b.2 in
    let free = holds_ok (int_le a.0 (pos 0) || int_eq reserve (pos 0)) code.Other b.0 b.1 in
    let most = holds_ok (int_le a.0 room) code.Range c.0 c.1 in
    let same : a.0 ≡ x = cc c.2 in
    let range = between_range (pos 0) (pos 1000000) (spelled_number field) a.0 a.1 in
    subst (λ z. IsAmount z × (pos 0 <ℤ z → reserve ≡ pos 0) × (z ≤ℤ room)) same (range, some a.0 free, within a.0 room most)
  where
    some : (z : ℤ) → (int_le z (pos 0) || int_eq reserve (pos 0)) ≡ true → pos 0 <ℤ z → reserve ≡ pos 0
    some z h l = grind (arith, ints, h, l)

    within : (z r : ℤ) → int_le z r ≡ true → z ≤ℤ r
    within z r h = grind (arith, ints, h)

-- ---- the numbers of a row

-- a number more
pub numbers_more : (a : AuctionText) (owned : List (List ℤ)) (before : List ℤ) (fields : List (List ℕ)) (i : ℕ) (x : ℤ) → length before ≡ i → i + 2 < length fields
    → own_number_of (get_or a.reserve i (pos 0)) (room_of a owned i) (field_at fields (i + 2)) ≡ Ok x
    → own_numbers_after a owned before (drop (i + 2) fields) ≡ own_numbers_after a owned (before ++ x ∷ []) (drop (i + 1 + 2) fields)
numbers_more a owned before fields i x size l e =
    let next : i + 2 + 1 ≡ i + 1 + 2 = omega arith in
    rw (drop_more fields (i + 2) [] l, size, e, next) refl

-- the last of some numbers, or one before it
last_or_before : (P : ℕ → ℤ → Type 0) (xs : List ℤ) (x : ℤ) (m : ℕ) → length xs ≡ m → ((i : ℕ) → i < m → P i (get_or xs i (pos 0))) → P m x → (i : ℕ) → i < m + 1 → P i (get_or (xs ++ x ∷ []) i (pos 0))
last_or_before P xs x m size each last i l = elim (split i m l) [
  | inl below ↦ subst (P i) (sym (get_or_append_left xs (x ∷ []) (pos 0) i (omega (arith, below, size)))) (each i below)
  | inr end ↦ (
      let first : i - m ≡ 0 = omega (arith, end) in
      let at : get_or (xs ++ x ∷ []) i (pos 0) ≡ x = get_or-append_right xs (x ∷ []) m i (pos 0) size (omega (arith, end)) ∙ ap (λ (j : ℕ). get_or (x ∷ []) j (pos 0)) first in
      subst (P i) (sym at) (subst (λ j. P j x) (sym end) last))
]
  where
    split : (i m : ℕ) → i < m + 1 → (i < m) ⊎ (i ≡ m)
    split i m h = grind (arith, h)

-- a good more
pub fits_more : (a : AuctionText) (owned : List (List ℤ)) (m : ℕ) (units : List ℤ) (field : List ℕ) (x : ℤ) → FitsRoom a owned m units
    → own_number_of (get_or a.reserve m (pos 0)) (room_of a owned m) field ≡ Ok x → FitsRoom a owned (m + 1) (units ++ x ∷ [])
fits_more a owned m units field x fit e =
    let told = number_told _ _ field x e in
    let size = fit.amounts.0 in
    record {
      amounts = (let n = length-append units (x ∷ []) in omega (arith, n, size), All-push IsAmount units x fit.amounts.1 told.0);
      free = last_or_before (λ i z. pos 0 <ℤ z → get_or a.reserve i (pos 0) ≡ pos 0) units x m size fit.free told.1;
      most = last_or_before (λ i z. z ≤ℤ room_of a owned i) units x m size fit.most told.2;
    }

-- ---- a row

-- a bidder's units in place of those before, in the sum
sum_set : (owned : List (List ℤ)) (k i : ℕ) (units : List ℤ) → k < length owned → sum_at (set owned k units) i +ℤ get_or (get_or owned k []) i (pos 0) ≡ sum_at owned i +ℤ get_or units i (pos 0)
sum_set [] k i units l = absurd (omega (arith, l))
sum_set (bundle ∷ owned) zero i units l = omega (arith, ints)
sum_set (bundle ∷ owned) (suc k) i units l = let rest = sum_set owned k i units (omega (arith, l)) in omega (arith, ints, rest)

-- a sum that something is owned of, and a bidder more that may own of it
free_still : (x y z reserve : ℤ) → x ≡ y +ℤ z → (pos 0 <ℤ y → reserve ≡ pos 0) → (pos 0 <ℤ z → reserve ≡ pos 0) → pos 0 <ℤ x → reserve ≡ pos 0
free_still x y z reserve e first second l = elim (cases_Bool (int_lt (pos 0) y)) [
  | inl t ↦ first (some y t)
  | inr f ↦ second (let no = none y f in omega (arith, ints, e, l, no))
]
  where
    some : (y : ℤ) → int_lt (pos 0) y ≡ true → pos 0 <ℤ y
    some y h = grind (arith, ints, h)

    none : (y : ℤ) → int_lt (pos 0) y ≡ false → y ≤ℤ pos 0
    none y h = grind (arith, ints, h)

-- a bidder that had no row before, and that owns units for which there is room
pub row_more : (a : AuctionText) (so_far : SoFar) (k : ℕ) (units : List ℤ) → IsSoFar a so_far → k < length a.bidders → get_or so_far.told k false ≡ false → FitsRoom a so_far.owned (length a.goods) units
    → IsSoFar a (record { owned = set so_far.owned k units; told = set so_far.told k true })
row_more a so_far k units s l new fit =
    let long = s.owned.count in
    let inside : k < length so_far.owned = omega (arith, l, long) in
    let sum : (i : ℕ) → sum_at (set so_far.owned k units) i ≡ sum_at so_far.owned i +ℤ get_or units i (pos 0) = λ i. let none = s.untold k l new i in let e = sum_set so_far.owned k i units inside in omega (arith, ints, none, e) in
    record {
      owned = record {
        count = length-set so_far.owned k units ∙ long;
        each = All-set (AreAmounts (length a.goods)) so_far.owned k units fit.amounts s.owned.each;
        free = λ i within. free_still _ _ _ _ (sum i) (s.owned.free i within) (fit.free i within);
        most = λ i within. let e = sum i in let room = fit.most i within in omega (arith, ints, e, room);
      };
      count = length-set so_far.told k true ∙ s.count;
      untold = λ j within h. elim (cases_Bool (nat_eq j k)) [
        | inl t ↦ (
            let same : j ≡ k = grind (arith, nat_tests) in
            let at = get_or-set_same so_far.told k true false (omega (arith, l, s.count)) in
            absurd (true≢false (sym at ∙ ap (λ (n : ℕ). get_or (set so_far.told k true) n false) (sym same) ∙ h)))
        | inr f ↦ (
            let other : j ≢ k = grind (arith, nat_tests) in
            let before = sym (get_or-set_other so_far.told k j true false other) ∙ h in
            λ i. ap (λ (bundle : List ℤ). get_or bundle i (pos 0)) (get_or-set_other so_far.owned k j units [] other) ∙ s.untold j within before i)
      ];
    }

-- ---- no row yet

-- nothing of any good
nothing_of : (n i : ℕ) → get_or (replicate n (pos 0)) i (pos 0) ≡ pos 0
nothing_of zero i = refl
nothing_of (suc n) zero = refl
nothing_of (suc n) (suc i) = nothing_of n i

nothing_of_each : (n m k i : ℕ) → get_or (get_or (replicate m (replicate n (pos 0))) k []) i (pos 0) ≡ pos 0
nothing_of_each n zero k i = refl
nothing_of_each n (suc m) zero i = nothing_of n i
nothing_of_each n (suc m) (suc k) i = nothing_of_each n m k i

nothing_together : (n m i : ℕ) → sum_at (replicate m (replicate n (pos 0))) i ≡ pos 0
nothing_together n zero i = refl
nothing_together n (suc m) i = let rest = nothing_together n m i in let here = nothing_of n i in omega (arith, ints, rest, here)

no_amounts : (n : ℕ) → AreAmounts n (replicate n (pos 0))
no_amounts n = (length-replicate n (pos 0), All-replicate IsAmount n (pos 0) (omega (arith, ints), omega (arith, ints)))

pub row_none : (a : AuctionText) → IsAuction a → IsSoFar a (nothing_told a)
row_none a sound =
    let n = length a.goods in
    let m = length a.bidders in
    record {
      owned = record {
        count = length-replicate m (replicate n (pos 0));
        each = All-replicate (AreAmounts n) m (replicate n (pos 0)) (no_amounts n);
        free = λ i within some. absurd (let e = nothing_together n m i in omega (arith, ints, e, some));
        most = λ i within. let e = nothing_together n m i in let supply = sound.supply.1 i (pos 0) (omega (arith, within, sound.supply.0)) in omega (arith, ints, e, supply);
      };
      count = length-replicate m false;
      untold = λ k within h i. nothing_of_each n m k i;
    }
