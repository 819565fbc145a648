-- The texts of the outcomes of a session, one after the other.
use Rattle.std.specs.Prelude.{◌≡◌, ℕ, List, [], ◌∷◌, ◌++◌, length, Result, Ok}
use Rattle.mix_text.specs.Auctions.{AuctionText}
use Rattle.mix_text.specs.declared.faults.TextError.{TextError}
use Rattle.mix_answer.specs.Outcomes.{outcome_text}
use Rattle.mix_answer.specs.declared.outcome.Outcome.{Outcome}
use Rattle.mix_serve.specs.Solved.{IsSolved}

-- the text of a true outcome of an auction, whose pairs are the first tight ones
pub record IsOutcomeText (a : AuctionText) (bytes : List ℕ) : Type 0 where
  pub outcome : Outcome
  pub solved : IsSolved a outcome
  pub text : bytes ≡ outcome_text a outcome

-- bytes, and after them such a text
pub record AddsOutcomeText (a : AuctionText) (before after : List ℕ) : Type 0 where
  pub bytes : List ℕ
  pub outcome : IsOutcomeText a bytes
  pub added : after ≡ before ++ bytes

-- such a text for each of these auctions, in their order, and nothing else
abbrev pub AreOutcomeTexts : List AuctionText → List ℕ → Type 0
AreOutcomeTexts [] bytes = bytes ≡ []
AreOutcomeTexts (a ∷ later) bytes = (first rest : List ℕ) × IsOutcomeText a first × AreOutcomeTexts later rest × (bytes ≡ first ++ rest)

-- what is read is auctions, and the bytes are such texts for them
pub record ArePlayed (read : Result (List AuctionText) TextError) (bytes : List ℕ) : Type 0 where
  pub auctions : List AuctionText
  pub reads : read ≡ Ok auctions
  pub texts : AreOutcomeTexts auctions bytes

-- ---- for proofs; no public clause rests on it

-- so many outcomes were asked for, and their texts are told
pub record HasPlayed (cleared : List AuctionText) (clears : ℕ) (texts : List ℕ) : Type 0 where
  pub count : clears ≡ length cleared
  pub told : AreOutcomeTexts cleared texts
