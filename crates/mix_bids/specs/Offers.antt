-- What one bid offers and gains, and which choices it likes best.
use Rattle.std.specs.Prelude.{◌≡◌, ℕ, zero, suc, Bool, true, false, not, cond, eqb, List, [], ◌∷◌, ℤ, pos, ◌-ℤ◌, ◌≤ℤ◌, get_or, Option, Some, None, length, All}
use Rattle.std.specs.List.{list_any}
use Rattle.std.specs.Option.{is_some}
use Rattle.std.specs.Int.{int_max}
use Rattle.std.specs.Ordering.{int_eq}
use Rattle.mix_num.specs.Sellers.{IsAmount}
use Rattle.mix_num.specs.Vectors.{Vector, Choices, outside}

-- for each good its value, or none where the good is left out
abbrev pub Offers : Type 0
Offers = List (Option ℤ)

-- what is offered for a choice: 0 for the null choice
abbrev pub offer : Offers → ℕ → Option ℤ
offer vs k = get_or (Some (pos 0) ∷ vs) k None

-- the prices of the choices after the first
abbrev pub later : Vector → Vector
later x = λ k. x (suc k)

-- the greater of g and what an offer leaves at the price c
abbrev pub better : Option ℤ → ℤ → ℤ → ℤ
better None c g = g
better (Some v) c g = int_max g (v -ℤ c)

-- the greatest of g and of what the offers leave, the first of them at the price x 0
abbrev pub gain_from : Offers → Vector → ℤ → ℤ
gain_from [] x g = g
gain_from (o ∷ vs) x g = better o (x 0) (gain_from vs (later x) g)

-- the gain: the greatest value less its price, over the choices that are offered
abbrev pub gain : Offers → Vector → ℤ
gain vs x = gain_from vs (later x) (pos 0 -ℤ x 0)

-- whether an offer leaves g at the price c
abbrev pub leaves : Option ℤ → ℤ → ℤ → Bool
leaves None c g = false
leaves (Some v) c g = int_eq (v -ℤ c) g

-- the best set: the choices that leave the gain
abbrev pub best : Offers → Vector → Choices
best vs x = λ k. leaves (offer vs k) (x k) (gain vs x)

-- whether each number below m passes a test
abbrev pub all_to : ℕ → Choices → Bool
all_to zero p = true
all_to (suc m) p = cond (p m) (all_to m p) false

-- whether, among the choices below m, the set s lies in t
abbrev pub within : ℕ → Choices → Choices → Bool
within m s t = all_to m (λ k. cond (s k) (t k) true)

-- whether, among the choices below m, the two sets share a choice
abbrev pub meets : ℕ → Choices → Choices → Bool
meets m s t = not (within m s (outside t))

-- whether, among the choices below m, the two sets are the same
abbrev pub same_set : ℕ → Choices → Choices → Bool
same_set m s t = all_to m (λ k. cond (s k) (t k) (not (t k)))

-- the set of i and j
abbrev pub pair : ℕ → ℕ → Choices
pair i j = λ k. cond (eqb k i) true (eqb k j)

-- whether anything is offered
abbrev pub offers_some : Offers → Bool
offers_some vs = list_any is_some vs

-- nothing, or a value in its range
abbrev pub IsOffer : Option ℤ → Type 0
IsOffer o = (v : ℤ) → o ≡ Some v → IsAmount v

-- an offer for each of n goods, and some good is offered
pub record AreOffers (n : ℕ) (vs : Offers) : Type 0 where
  pub size : length vs ≡ n
  pub each : All IsOffer vs
  pub some : offers_some vs ≡ true
