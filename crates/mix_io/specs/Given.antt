-- What a whole read and a whole write say of the bytes that are told.
use Rattle.std.specs.Prelude.{◌≡◌, ◌≤◌, ◌<◌, ℕ, List, length, take, Option, IfSome}
use Rattle.std.specs.Io.KnownBytes.{Appends}

-- where the bytes left are told, they are these
abbrev pub AreAll : Option (List ℕ) → List ℕ → Type 0
AreAll known bytes = IfSome known (λ xs. bytes ≡ xs)

-- where the bytes left are told, there are more of them than the limit
abbrev pub IsLonger : Option (List ℕ) → ℕ → Type 0
IsLonger known limit = IfSome known (λ xs. limit < length xs)

-- where the bytes taken are told, some at the front of these bytes were appended to them
abbrev pub AppendsPrefix : Option (List ℕ) → Option (List ℕ) → List ℕ → Type 0
AppendsPrefix old new bytes = (n : ℕ) × (n ≤ length bytes) × Appends old new (take n bytes)
