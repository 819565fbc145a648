-- What a member of the market keeps: the laws of its function, and its table and its demand at a point.
use Rattle.std.specs.Prelude.{◌≡◌, ◌≢◌, ℕ, zero, suc, ◌≤◌, ◌↔◌, IsTrue, ℤ, pos, ◌+ℤ◌, ◌-ℤ◌, ◌*ℤ◌, ◌≤ℤ◌}
use Rattle.std.specs.Int.{int_max}
use Rattle.mix_num.specs.Vectors.{Vector, Choices, plus, minus, only, shifted, Agree, dot_to}

-- the greatest of 0 and of what the tops of the goods 1 to n leave at their prices
abbrev pub excess : ℕ → (ℕ → ℤ) → Vector → ℤ
excess zero top x = pos 0
excess (suc n) top x = int_max (excess n top x) (top (suc n) -ℤ x (suc n))

-- the laws of a member over n goods: its function, its total and the top of each good
pub record IsLNatural (n : ℕ) (f : Vector → ℤ) (total : ℤ) (top : ℕ → ℤ) : Type 0 where
  -- the function reads the choices 0 to n alone
  pub reads : (x y : Vector) → Agree n x y → f x ≡ f y
  -- raising every entry by k lowers it by k totals
  pub shift : (x : Vector) (k : ℤ) → f (shifted x k) ≡ f x -ℤ (k *ℤ total)
  -- raising one of two choices never makes it fall more where the other was raised before
  pub local : (x : Vector) (i j : ℕ) → i ≤ n → j ≤ n → i ≢ j → (f x +ℤ f (plus (plus x (only i)) (only j))) ≤ℤ (f (plus x (only i)) +ℤ f (plus x (only j)))
  -- a good whose price is at or above its top has no more to lose
  pub far : (x : Vector) (i : ℕ) → 1 ≤ i → i ≤ n → top i ≤ℤ (x i -ℤ x 0) → f (plus x (only i)) ≡ f x
  -- it is never negative, and at most the total times the excess
  pub size : (x : Vector) → x 0 ≡ pos 0 → (pos 0 ≤ℤ f x) × (f x ≤ℤ (total *ℤ excess n top x))

-- what most facts rest on: the choices that are read, the shift and the local law
pub record KeepsLocal (n : ℕ) (f : Vector → ℤ) (total : ℤ) : Type 0 where
  pub reads : (x y : Vector) → Agree n x y → f x ≡ f y
  pub shift : (x : Vector) (k : ℤ) → f (shifted x k) ≡ f x -ℤ (k *ℤ total)
  pub local : (x : Vector) (i j : ℕ) → i ≤ n → j ≤ n → i ≢ j → (f x +ℤ f (plus (plus x (only i)) (only j))) ≤ℤ (f (plus x (only i)) +ℤ f (plus x (only j)))

-- every member's function keeps them
pub keeps_local : {n : ℕ} {f : Vector → ℤ} {total : ℤ} {top : ℕ → ℤ} → IsLNatural n f total top → KeepsLocal n f total
keeps_local c = record { reads = c.reads; shift = c.shift; local = c.local }

-- a function that keeps the laws of a member over n goods, with some total and some tops
pub record KeepsLaws (n : ℕ) (f : Vector → ℤ) : Type 0 where
  pub total : ℤ
  pub top : ℕ → ℤ
  pub l_natural : IsLNatural n f total top

-- by how much a function falls when the members of a set are raised by one
abbrev pub fall_of : (Vector → ℤ) → Vector → Choices → ℤ
fall_of f x s = f x -ℤ f (plus x s)

-- the table of a function at a point: by how much it rises when the members of a set are lowered by one
abbrev pub rho : (Vector → ℤ) → Vector → Choices → ℤ
rho f x s = f (minus x s) -ℤ f x

-- S is the set of the choices 0 to n at which x - y is m, and m is the greatest such difference
pub record IsWhereGreatest (n : ℕ) (x y : Vector) (m : ℤ) (s : Choices) : Type 0 where
  pub bound : (k : ℕ) → k ≤ n → (x k -ℤ y k) ≤ℤ m
  pub members : (k : ℕ) → k ≤ n → IsTrue (s k) ↔ (x k -ℤ y k ≡ m)

-- no set betters x, raised or lowered
pub record IsLocallyLeast (f : Vector → ℤ) (x : Vector) : Type 0 where
  pub up : (s : Choices) → f x ≤ℤ f (plus x s)
  pub down : (s : Choices) → f x ≤ℤ f (minus x s)

-- f plus a linear function, over the choices 0 to n
abbrev pub tilted : ℕ → (Vector → ℤ) → Vector → Vector → ℤ
tilted n f q x = f x +ℤ dot_to (suc n) q x
