-- What earlier bids of negative weight share with a new one: the choices at which their values are as much above its values. For proofs; no public clause rests on it.
use Rattle.std.specs.Prelude.{◌≡◌, ◌≢◌, ℕ, ◌+◌, ◌<◌, Bool, true, false, List, [], ℤ, pos, Option, Some, None, filter, get_or, int_lt, length}
use Rattle.mix_num.specs.Vectors.{Choices, members}
use Rattle.mix_bids.specs.Offers.{Offers, offer}
use Rattle.mix_bids.specs.Leads.{lead}
use Rattle.mix_bids.specs.Levels.{is_lead}
use Rattle.mix_bids.specs.declared.agreements.Agreement.{Agreement}
use Rattle.mix_bids.specs.declared.bid.Bid.{Bid}

-- the bids of negative weight
abbrev pub negatives : List Bid → List Bid
negatives bs = filter (λ b. int_lt b.weight (pos 0)) bs

-- the shift at a choice: by how much the earlier offer is greater than the new one, where both are made
abbrev pub shift : Offers → Offers → ℕ → Option ℤ
shift vs us c = lead (offer vs c) (offer us c)

-- whether both shifts are there and are the same
abbrev pub is_shift : Option ℤ → Option ℤ → Bool
is_shift None o = false
is_shift (Some v) o = is_lead o v

-- a shift as a number, where those that are lacking are out of reach and all different
abbrev pub shift_number : ℕ → Option ℤ → ℤ
shift_number c None = pos (10000000 + c)
shift_number c (Some v) = v

-- the choices with the same shift as a choice
abbrev pub agreeing : Agreement → ℕ → Choices
agreeing agreement c = members (get_or agreement.sets c 0)

-- an agreement of an earlier bid's offers with those of a new one: the choices with the same shift as each choice
pub record IsAgreement (vs us : Offers) (agreement : Agreement) : Type 0 where
  pub small : (c : ℕ) → get_or agreement.sets c 0 < 512
  pub same : (c k : ℕ) → c < 9 → k < 9 → c ≢ k → agreeing agreement c k ≡ is_shift (shift vs us c) (shift vs us k)

-- a bid and an agreement at a place of a list
abbrev pub bid_in : List Bid → ℕ → Bid
bid_in bs p = get_or bs p (record { weight = pos 0; values = record { items = [] } })

abbrev pub agreement_in : List Agreement → ℕ → Agreement
agreement_in rs p = get_or rs p (record { sets = [] })

-- the agreements of bids with a new one
pub record AreAgreements (bs : List Bid) (b : Bid) (rs : List Agreement) : Type 0 where
  pub size : length rs ≡ length bs
  pub each : (p : ℕ) → p < length bs → IsAgreement (bid_in bs p).values.items b.values.items (agreement_in rs p)

-- the last number below m that passes a test, if there is one
abbrev pub IsLast : Choices → ℕ → Option ℕ → Type 0
IsLast t m None = (p : ℕ) → p < m → t p ≡ false
IsLast t m (Some q) = (q < m) × (t q ≡ true) × ((p : ℕ) → q < p → p < m → t p ≡ false)

-- the choices that one of the first m agreements has with i at j
pub record IsShared (rs : List Agreement) (i j m : ℕ) (s : ℕ) : Type 0 where
  pub met : (c : ℕ) → members s c ≡ true → (p : ℕ) × (p < m) × (agreeing (agreement_in rs p) j i ≡ true) × (agreeing (agreement_in rs p) j c ≡ true)
  pub all : (c p : ℕ) → p < m → agreeing (agreement_in rs p) j i ≡ true → agreeing (agreement_in rs p) j c ≡ true → members s c ≡ true
