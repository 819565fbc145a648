-- The levels of a list: for two choices, a difference at which bids of negative weight are torn between them, and the places of all bids that are.
use Rattle.std.specs.Prelude.{◌≡◌, ◌≢◌, ℕ, suc, ◌<◌, ◌≤◌, Bool, cond, List, [], ◌∷◌, ℤ, All, AllPairs, Any, Contains}
use Rattle.mix_bids.specs.Bids.{Book}
use Rattle.mix_bids.specs.declared.bid.Bid.{Bid}
use Rattle.mix_bids.specs.Levels.{differences, has_lead, level_bids}

-- the places of the bids that pass a test, where the first bid has the place k
abbrev pub places : (Bid → Bool) → ℕ → List Bid → List ℕ
places p k [] = []
places p k (b ∷ bs) = cond (p b) (k ∷ places p (suc k) bs) (places p (suc k) bs)

-- what contracts see of a level: two choices over some goods, their difference, and the places of its bids
pub record Level : Type 0 where
  pub goods : ℕ
  pub first : ℕ
  pub second : ℕ
  pub difference : ℤ
  pub places : List ℕ

-- a level of a list: some bid of negative weight has its difference, and its bids are all that have it
pub record IsLevelOf (book : Book) (level : Level) : Type 0 where
  pub goods : level.goods ≡ book.goods
  pub order : level.first < level.second
  pub within : level.second ≤ book.goods
  pub negative : Contains (differences level.first level.second book.bids) level.difference
  pub bids : level.places ≡ places (has_lead level.first level.second level.difference) 0 book.bids

-- the bids of a level of a list
abbrev pub bids_of : Book → Level → List Bid
bids_of book level = level_bids level.first level.second level.difference book.bids

-- the level of a list at a difference
abbrev pub level_at : Book → ℕ → ℕ → ℤ → Level
level_at book i j d = record { goods = book.goods; first = i; second = j; difference = d; places = places (has_lead i j d) 0 book.bids }

-- the levels of a list for i and j: one for each difference of a bid of negative weight, and no other
pub record AreLevelsOf (book : Book) (i j : ℕ) (levels : List Level) : Type 0 where
  pub each : All (λ level. IsLevelOf book level × (level.first ≡ i) × (level.second ≡ j)) levels
  pub all : (d : ℤ) → Contains (differences i j book.bids) d → Any (λ level. level.difference ≡ d) levels
  pub once : AllPairs (λ a b. a.difference ≢ b.difference) levels
