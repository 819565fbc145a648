-- The order of the reasons, and the first reason why an outcome isn't true.
use Rattle.std.specs.Prelude.{◌≡◌, ◌<◌, ◌⊎◌, ℕ, List, [], ◌∷◌}
use Rattle.mix_text.specs.Auctions.{AuctionText}
use Rattle.mix_answer.specs.declared.outcome.Outcome.{Outcome}
use Rattle.mix_check.specs.declared.reason.Reason.{Reason}
use Rattle.mix_check.specs.declared.reason.Reason.TheVariants.{Demand, Earlier, Facet, Floor, Invalid, Lower, Pair, Pay, Return, Sum, Tight}
use Rattle.mix_check.specs.Reasons.{Holds}

-- the numbers that place a reason: that of its test, then that of its bidder, good or set. The sets of a bidder and a good are tested first for
-- being a pair, then for its number.
abbrev pub place_of : Reason → List ℕ
place_of (Facet weight) = 0 ∷ []
place_of (Earlier k) = 1 ∷ k ∷ []
place_of (Invalid k) = 2 ∷ k ∷ []
place_of (Floor i) = 3 ∷ i ∷ []
place_of (Sum i sum) = 4 ∷ i ∷ []
place_of (Return i) = 5 ∷ i ∷ []
place_of (Demand k set) = 6 ∷ k ∷ []
place_of (Lower set) = 7 ∷ set ∷ []
place_of (Pay k amount) = 8 ∷ k ∷ []
place_of (Pair k j) = 9 ∷ k ∷ j ∷ 0 ∷ []
place_of (Tight k j bound) = 9 ∷ k ∷ j ∷ 1 ∷ []

-- the first number in which two places differ is smaller in the first
abbrev pub IsBefore : List ℕ → List ℕ → Type 0
IsBefore [] ys = ⊥
IsBefore (x ∷ xs) [] = ⊥
IsBefore (x ∷ xs) (y ∷ ys) = (x < y) ⊎ ((x ≡ y) × IsBefore xs ys)

-- no reason that comes before a place holds
abbrev pub NoneBefore : AuctionText → Outcome → List ℕ → Type 0
NoneBefore a outcome place = (other : Reason) → IsBefore (place_of other) place → ¬ Holds a outcome other

-- the reason holds, and none that comes before it does
pub record IsFirstReason (a : AuctionText) (outcome : Outcome) (reason : Reason) : Type 0 where
  pub holds : Holds a outcome reason
  pub first : NoneBefore a outcome (place_of reason)
