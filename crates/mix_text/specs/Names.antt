-- Names: which are different, in the order in which they first come.
use Rattle.std.specs.Prelude.{◌≡◌, Bool, ℕ, List, [], ◌∷◌, Option, filter, not, position}
use Rattle.std.specs.List.{list_any, AllPass}
use Rattle.std.specs.Str.{bytes_eq}
use Rattle.mix_text.specs.Spelling.{is_name}

-- whether a name is among these
abbrev pub is_among : List ℕ → List (List ℕ) → Bool
is_among name names = list_any (bytes_eq name) names

-- the place of the first name like this one
abbrev pub place_among : List ℕ → List (List ℕ) → Option ℕ
place_among name names = position (bytes_eq name) names

-- the different names, in order of first appearance
abbrev pub different : List (List ℕ) → List (List ℕ)
different [] = []
different (name ∷ rest) = name ∷ filter (λ other. not (bytes_eq name other)) (different rest)

-- names of the right form, no two alike
pub record AreNames (names : List (List ℕ)) : Type 0 where
  pub form : AllPass is_name names
  pub unlike : different names ≡ names
