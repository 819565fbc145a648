-- The points of a grid are numbered from 0 to its size, each once.
use Rattle.std.proofs.Common.{◌≡◌, ℕ, zero, suc, ◌+◌, ◌*◌, ◌/◌, ◌%◌, ◌<◌, List, [], ◌∷◌, ℤ, pos, refl, arith, sym, ap, ap₂, ◌∙◌, length, get_or, Contains}
use Rattle.std.proofs.lemmas.Int.{ints}
use Rattle.std.proofs.lemmas.List.{get_or_default}
use Rattle.std.proofs.lemmas.Nat.{div-add-mod', div_below, mod_below, mul-add-lt, div-mul-add, mod-mul-add}
use Rattle.mix_facets.specs.Grids.{size_of, point_at, IsRising, IsOn}
use Rattle.mix_facets.proofs.Risings.{rising_at}

-- where a number lies below a product, its rest lies below the first factor and its quotient below the second
pub record Digits (k m s : ℕ) : Type 0 where
  pub some : 0 < m
  pub rest : k % m < m
  pub quotient : k / m < s

pub digits_of : (k m s : ℕ) → k < m * s → Digits k m s
digits_of k m s h =
    let p : 0 < m = positive m h in
    record { some = p; rest = mod_below k m p; quotient = div_below k m s p (omega arith) }
  where
    positive : (m : ℕ) → k < m * s → 0 < m
    positive zero l = absurd (omega arith)
    positive (suc m) l = omega arith

-- the point of a number is on the grid
pub point_on : (grid : List (List ℤ)) (k : ℕ) → k < size_of grid → IsOn grid (point_at grid k)
point_on [] k h = record { size = refl; each = λ l p. absurd (omega arith) }
point_on (us ∷ grid) k h =
    let q = digits_of k (length us) (size_of grid) h in
    let r = point_on grid (k / length us) q.quotient in
    record { size = ap suc r.size; each = at q.rest r.each }
  where
    at : k % length us < length us → ((l : ℕ) → l < length grid → Contains (get_or grid l []) (get_or (point_at grid (k / length us)) l (pos 0))) → (l : ℕ) → l < suc (length grid) → Contains (get_or (us ∷ grid) l []) (get_or (point_at (us ∷ grid) k) l (pos 0))
    at m f zero p = (k % length us, m, get_or_default us (k % length us) _ _ m)
    at m f (suc l) p = f l (omega arith)

-- every point of the grid has a number
pub record Number (grid : List (List ℤ)) (point : List ℤ) : Type 0 where
  pub number : ℕ
  pub below : number < size_of grid
  pub is : point_at grid number ≡ point

pub numbered_on : (grid : List (List ℤ)) (point : List ℤ) → IsOn grid point → Number grid point
numbered_on [] [] h = record { number = 0; below = omega arith; is = refl }
numbered_on [] (u ∷ us) h = let e = h.size in absurd (omega arith)
numbered_on (us ∷ grid) [] h = let e = h.size in absurd (omega arith)
numbered_on (us ∷ grid) (u ∷ point) h =
    let r = numbered_on grid point (record { size = let e = h.size in omega arith; each = λ k l. h.each (suc k) (omega arith) }) in
    let f : Contains us u = h.each 0 (omega arith) in
    let l = r.below in
    let e : get_or us f.0 (pos 0) ≡ u = get_or_default us f.0 (pos 0) u f.1 ∙ f.2 in
    record {
      number = r.number * length us + f.0;
      below = mul-add-lt r.number (length us) f.0 (size_of grid) l f.1;
      is = ap₂ (λ m q. get_or us m (pos 0) ∷ point_at grid q) (mod-mul-add r.number (length us) f.0 f.1) (div-mul-add r.number (length us) f.0 f.1) ∙ ap₂ (λ v vs. v ∷ vs) e r.is;
    }

-- two places of the same number are the same
pub place_once : (us : List ℤ) (k l : ℕ) → IsRising us → k < length us → l < length us → get_or us k (pos 0) ≡ get_or us l (pos 0) → k ≡ l
place_once us k l d p q e = by_order (λ h. let r = rising_at us k l d h q in absurd (omega (arith, ints))) (λ h. let r = rising_at us l k d h p in absurd (omega (arith, ints)))
  where
    by_order : (k < l → k ≡ l) → (l < k → k ≡ l) → k ≡ l
    by_order f g = grind arith

-- two numbers of the same point are the same
pub number_once : (grid : List (List ℤ)) (k l : ℕ) → ((m : ℕ) → m < length grid → IsRising (get_or grid m [])) → k < size_of grid → l < size_of grid → point_at grid k ≡ point_at grid l → k ≡ l
number_once [] k l d p q e = omega arith
number_once (us ∷ grid) k l d p q e =
    let a = digits_of k (length us) (size_of grid) p in
    let b = digits_of l (length us) (size_of grid) q in
    let f : get_or us (k % length us) (pos 0) ≡ get_or us (l % length us) (pos 0) = cc in
    let g : point_at grid (k / length us) ≡ point_at grid (l / length us) = cc in
    let r = place_once us (k % length us) (l % length us) (d 0 (omega arith)) a.rest b.rest f in
    let s = number_once grid (k / length us) (l / length us) (λ m h. d (suc m) (omega arith)) a.quotient b.quotient g in
    sym (div-add-mod' k (length us)) ∙ ap₂ (λ m n. m * length us + n) s r ∙ div-add-mod' l (length us)
