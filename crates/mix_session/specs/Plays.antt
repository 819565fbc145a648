-- What playing one row of a session makes of its reading. For proofs; no public clause rests on it.
use Rattle.std.specs.Prelude.{◌≡◌, ℕ, List, ◌∷◌, Result}
use Rattle.mix_text.specs.Auctions.{AuctionText}
use Rattle.mix_text.specs.Reading.{IsFromText}
use Rattle.mix_text.specs.Rows.{RowText}
use Rattle.mix_text.specs.declared.faults.TextError.{TextError}
use Rattle.mix_session.specs.OutcomeTexts.{HasPlayed}
use Rattle.mix_session.specs.Readings.{session_from}
use Rattle.mix_session.specs.declared.playing.Playing.{Playing}

-- what has been played so far are the outcomes of these auctions
abbrev pub HasCleared : Playing → List AuctionText → Type 0
HasCleared playing cleared = HasPlayed cleared playing.clears playing.texts.items

-- the reading goes on from what has been played now
pub record GoesOn (before after : Playing) (row : RowText) (cleared : List AuctionText) : Type 0 where
  pub later : List AuctionText
  pub played : HasCleared after later
  pub same : (next : ℕ) (rest : List RowText) → session_from before.session.auction cleared next (row ∷ rest) ≡ session_from after.session.auction later next rest

-- wherever it goes on, from whichever auctions were played
abbrev pub Plays : Playing → Playing → RowText → Type 0
Plays before after row = (cleared : List AuctionText) → HasCleared before cleared → GoesOn before after row cleared

-- the reading ends here with this error
abbrev pub Ends : Playing → RowText → TextError → Type 0
Ends playing row e = (cleared : List AuctionText) → HasCleared playing cleared → (next : ℕ) (rest : List RowText) → IsFromText (session_from playing.session.auction cleared next (row ∷ rest)) e

-- the outcomes of some auctions have been played, and the rows from here on are read as after them
pub record IsPlaying (all : Result (List AuctionText) TextError) (playing : Playing) (next : ℕ) (rows : List RowText) : Type 0 where
  pub cleared : List AuctionText
  pub has : HasCleared playing cleared
  pub same : all ≡ session_from playing.session.auction cleared next rows
