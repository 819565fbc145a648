-- What the command `session` gives.
use Rattle.std.specs.Prelude.{◌≡◌, ℕ, List, Result, Ok}
use Rattle.mix_text.specs.Auctions.{AuctionText}
use Rattle.mix_text.specs.Reading.{◌>>=◌, reading_of}
use Rattle.mix_text.specs.Rows.{rows_of}
use Rattle.mix_text.specs.declared.faults.TextError.{TextError}
use Rattle.mix_session.specs.OutcomeTexts.{AreOutcomeTexts}
use Rattle.mix_session.specs.Readings.{session_of}
use Rattle.mix_run.specs.Outputs.{Output}

-- the auction at each outcome that a text asks for, in order, or what is wrong first
unfoldable pub session_text : List ℕ → Result (List AuctionText) TextError
session_text text = reading_of (rows_of text) >>= λ read. session_of read.0 read.1

-- the output of `session` for these auctions: the texts of true outcomes of them, one after the other
abbrev pub IsSession : List AuctionText → Output → Type 0
IsSession auctions output = (bytes : List ℕ) × AreOutcomeTexts auctions bytes × (output ≡ record { status = 0; bytes = bytes })

-- the output of `session` for a text
abbrev pub IsSessionOf : List ℕ → Output → Type 0
IsSessionOf text output = (auctions : List AuctionText) × (session_text text ≡ Ok auctions) × IsSession auctions output

-- a text of an auction and a session
abbrev pub HasSession : List ℕ → Type 0
HasSession text = (auctions : List AuctionText) × (session_text text ≡ Ok auctions)
