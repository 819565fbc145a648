-- What the answer of a call says of its cause, when each status comes, and what is written in a call in which no device failed.
use Rattle.std.proofs.Common.{◌≡◌, ◌≢◌, ◌<◌, ◌∙◌, sym, ap, inl, inr, arith, ℕ, List, [], ◌∷◌, length, Option, Some, None, Result, Ok, Err, zero, suc, refl, subst}
use Rattle.std.specs.Prelude.{codes, replicate}
use Rattle.std.proofs.lemmas.Fmt.{decimal_digit}
use Rattle.std.proofs.lemmas.List.{length-replicate}
use Rattle.mix_text.specs.declared.faults.Limit.{Limit}
use Rattle.mix_text.specs.declared.faults.TextError.{TextError}
use Rattle.mix_text.specs.declared.faults.TextError.TheVariants as error
use Rattle.mix_text.specs.Auctions.{AuctionText}
use Rattle.mix_answer.specs.Outcomes.{outcome_text}
use Rattle.mix_answer.specs.Refusals.{AreConvex}
use Rattle.mix_answer.specs.Truths.{IsTrueOutcome}
use Rattle.mix_answer.specs.declared.outcome.Outcome.{Outcome}
use Rattle.mix_answer.specs.declared.outcome.Outcome.TheVariants.{Cleared, Refused}
use Rattle.mix_io.specs.Given.{IsLonger}
use Rattle.mix_run.specs.Outputs.{Output, one_row, refusal, too_long}
use Rattle.mix_run.specs.Calls.{AreTold, IsAnswered, IsDone, IsOutput, IsWanted, IsWritten, IsWrong}
use Rattle.mix_run.specs.Causes.{Has, IsFaulty, IsMet, IsTooMuch, IsUnmet, Shows, Within}
use Rattle.mix_run.specs.command.Check.{auction_and_outcome}
use Rattle.mix_run.specs.command.Range.{HasConvexOwners, HasNonconvexOwner, RangeText, range_text}
use Rattle.mix_run.specs.Readings.{auction_alone}
use Rattle.mix_run.specs.command.Session.{session_text}
use Rattle.mix_run.specs.command.Solve.{outcome_status}
use Rattle.mix_run.specs.command.Upgrade.{upgradable}
use Rattle.mix_run.specs.command.Utility.{utility_text}
use Rattle.mix_run.specs.Refusals.{HasConvexBidders, HasNonconvexBidder, TellsRefusal}
use Rattle.mix_run.specs.declared.words.Command.{Command}
use Rattle.mix_run.specs.declared.words.Command.TheVariants.{Check, Compare, Prices, Range, Session, Solve, Trail, Upgrade, Utility, Validate}
use Rattle.mix_run.specs.declared.words.Task.{Task}
use Rattle.mix_run.specs.declared.words.Task.TheVariants.{OnText, Trial}

pub status_of : (a b : Output) → a ≡ b → a.status ≡ b.status
status_of a b e = ap (λ (o : Output). o.status) e

-- ---- what a text comes to where the command is done, by its status
-- the output of a command that needs convex lists: done with status 0, or a refusal with status 1
pub record IsEither (text : List ℕ) (output : Output) : Type 0 where
  pub met : output.status ≡ 0 → HasConvexBidders text
  pub unmet : output.status ≡ 1 → HasNonconvexBidder text
  pub one : output.status < 2

from_refusal : (text : List ℕ) (output : Output) (a : AuctionText) → auction_alone text ≡ Ok a → TellsRefusal a output → IsEither text output
from_refusal text output a is refused = record {
  met = λ s. absurd (omega (arith, s, status_of _ _ refused.2));
  unmet = λ s. (a, is, refused.0.bidder, refused.1.bidder, refused.1.refused);
  one = omega (arith, status_of _ _ refused.2);
}

from_convex : (text : List ℕ) (output : Output) (bytes : List ℕ) (a : AuctionText) → auction_alone text ≡ Ok a → AreConvex a → output ≡ record { status = 0; bytes = bytes } → IsEither text output
from_convex text output bytes a is convex e = record {
  met = λ s. (a, is, convex);
  unmet = λ s. absurd (omega (arith, s, status_of _ _ e));
  one = omega (arith, status_of _ _ e);
}

from_outcome : (text : List ℕ) (output : Output) (a : AuctionText) → auction_alone text ≡ Ok a → (outcome : Outcome) → IsTrueOutcome a outcome
    → output ≡ record { status = outcome_status outcome; bytes = outcome_text a outcome } → IsEither text output
from_outcome text output a is (Cleared answer) truth e = from_convex text output _ a is truth.convex e
from_outcome text output a is (Refused r) truth e = from_refusal text output a is (r, truth, e)

-- the status says what comes of what the command asks
pub record IsTold (command : Command) (text : List ℕ) (output : Output) : Type 0 where
  pub met : output.status ≡ 0 → IsMet command text
  pub unmet : output.status ≡ 1 → IsUnmet command text
  pub one : output.status < 2

told : (command : Command) (text : List ℕ) (output : Output) → IsDone command text output → IsTold command text output
told Utility text output done = record {
  met = λ s. (done.0, done.1);
  unmet = λ s. absurd (omega (arith, s, status_of _ _ done.2));
  one = omega (arith, status_of _ _ done.2);
}
told Validate text output done =
    let e : IsEither text output = elim done.2 [
      | inl valid ↦ from_convex text output _ done.0 done.1 valid.0 valid.1
      | inr refused ↦ from_refusal text output done.0 done.1 refused
    ] in
    record { met = e.met; unmet = e.unmet; one = e.one }
told Prices text output done =
    let e : IsEither text output = elim done.2 [
      | inl priced ↦ from_convex text output _ done.0 done.1 priced.1 priced.3
      | inr refused ↦ from_refusal text output done.0 done.1 refused
    ] in
    record { met = e.met; unmet = e.unmet; one = e.one }
told Trail text output done =
    let e : IsEither text output = elim done.2 [
      | inl trailed ↦ from_convex text output _ done.0 done.1 trailed.2 trailed.5
      | inr refused ↦ from_refusal text output done.0 done.1 refused
    ] in
    record { met = e.met; unmet = e.unmet; one = e.one }
told Solve text output done =
    let e = from_outcome text output done.0 done.1 done.2.0 done.2.1.0 done.2.2 in
    record { met = e.met; unmet = e.unmet; one = e.one }
told Check text output done = elim done.3 [
  | inl affirmed ↦ record {
    met = λ s. (done.0, done.1, done.2, affirmed.0);
    unmet = λ s. absurd (omega (arith, s, status_of _ _ affirmed.1));
    one = omega (arith, status_of _ _ affirmed.1);
  }
  | inr denied ↦ record {
    met = λ s. absurd (omega (arith, s, status_of _ _ denied.3));
    unmet = λ s. (done.0, done.1, done.2, denied.1);
    one = omega (arith, status_of _ _ denied.3);
  }
]
told Upgrade text output done = record {
  met = λ s. (done.0, done.1, done.2);
  unmet = λ s. absurd (omega (arith, s, status_of _ _ done.3));
  one = omega (arith, status_of _ _ done.3);
}
told Compare text output done = record {
  met = λ s. (done.0, done.1);
  unmet = λ s. absurd (omega (arith, s, status_of _ _ done.2.2));
  one = omega (arith, status_of _ _ done.2.2);
}
told Range text output done = elim done.3 [
  | inl ranged ↦ record {
    met = λ s. (done.0, done.1, ranged.1.truth.convex);
    unmet = λ s. absurd (omega (arith, s, status_of _ _ ranged.2));
    one = omega (arith, status_of _ _ ranged.2);
  }
  | inr refused ↦ record {
    met = λ s. absurd (omega (arith, s, status_of _ _ refused.2));
    unmet = λ s. (done.0, done.1, refused.0.bidder, refused.1.bidder, refused.1.refused);
    one = omega (arith, status_of _ _ refused.2);
  }
]
told Session text output done = record {
  met = λ s. (done.0, done.1);
  unmet = λ s. absurd (omega (arith, s, status_of _ _ done.2.2));
  one = omega (arith, status_of _ _ done.2.2);
}

-- ---- what is wrong with a text, by its status
pub refusal_low : (e : TextError) → 2 < (refusal e).status
refusal_low (error.Fault fault) = omega arith
refusal_low (error.Limit limit) = omega arith
refusal_low error.Memory = omega arith

wrong_three : (command : Command) (text : List ℕ) (e : TextError) → IsWrong command text e → (refusal e).status ≡ 3 → IsFaulty command text
wrong_three command text (error.Fault fault) wrong s = (fault, wrong)
wrong_three command text (error.Limit limit) wrong s = absurd (omega (arith, s))
wrong_three command text error.Memory wrong s = absurd (omega (arith, s))

wrong_four : (command : Command) (text : List ℕ) (e : TextError) → IsWrong command text e → (refusal e).status ≡ 4 → (limit : Limit) × IsWrong command text (error.Limit limit)
wrong_four command text (error.Fault fault) wrong s = absurd (omega (arith, s))
wrong_four command text (error.Limit limit) wrong s = (limit, wrong)
wrong_four command text error.Memory wrong s = absurd (omega (arith, s))

-- ---- the cause of each status, for a text
met_output : (command : Command) (text : List ℕ) (output : Output) → IsOutput command text output → output.status ≡ 0 → Within IsMet command text
met_output command text output is s = elim is [
  | inl long ↦ absurd (omega (arith, s, status_of _ _ long.1))
  | inr short ↦ elim short.1 [
    | inl refused ↦ absurd (let l = refusal_low refused.0 in omega (arith, s, l, status_of _ _ refused.2))
    | inr done ↦ (short.0, (told command text output done).met s)
  ]
]

unmet_output : (command : Command) (text : List ℕ) (output : Output) → IsOutput command text output → output.status ≡ 1 → Within IsUnmet command text
unmet_output command text output is s = elim is [
  | inl long ↦ absurd (omega (arith, s, status_of _ _ long.1))
  | inr short ↦ elim short.1 [
    | inl refused ↦ absurd (let l = refusal_low refused.0 in omega (arith, s, l, status_of _ _ refused.2))
    | inr done ↦ (short.0, (told command text output done).unmet s)
  ]
]

fault_output : (command : Command) (text : List ℕ) (output : Output) → IsOutput command text output → output.status ≡ 3 → Within IsFaulty command text
fault_output command text output is s = elim is [
  | inl long ↦ absurd (omega (arith, s, status_of _ _ long.1))
  | inr short ↦ elim short.1 [
    | inl refused ↦ (short.0, wrong_three command text refused.0 refused.1 (sym (status_of _ _ refused.2) ∙ s))
    | inr done ↦ absurd (let o = (told command text output done).one in omega (arith, s, o))
  ]
]

limit_output : (command : Command) (text : List ℕ) (output : Output) → IsOutput command text output → output.status ≡ 4 → IsTooMuch command text
limit_output command text output is s = elim is [
  | inl long ↦ inl long.0
  | inr short ↦ elim short.1 [
    | inl refused ↦ inr (short.0, (wrong_four command text refused.0 refused.1 (sym (status_of _ _ refused.2) ∙ s)).0, (wrong_four command text refused.0 refused.1 (sym (status_of _ _ refused.2) ∙ s)).1)
    | inr done ↦ absurd (let o = (told command text output done).one in omega (arith, s, o))
  ]
]

-- ---- for what is wanted of the words and the text
abbrev Cause : ℕ → (Command → List ℕ → Type 0) → Type 0
Cause n test = (command : Command) (text : List ℕ) (output : Output) → IsOutput command text output → output.status ≡ n → test command text

-- a trial auction has status 0
abbrev TrialCause : ℕ → Type 0 → Type 0
TrialCause n trial = 0 ≡ n → trial

cause_wanted : (n : ℕ) (test : Command → List ℕ → Type 0) (trial : Type 0) → n ≢ 2 → n ≢ 5 → Cause n test → TrialCause n trial
    → (task : Option Task) (text : Option (List ℕ)) (P : Type 0) (output : Output) → IsWanted task text P output → output.status ≡ n → Has test trial task text
cause_wanted n test trial two five cause alone None text P output w s = absurd (two (sym s ∙ status_of _ _ w.unknown))
cause_wanted n test trial two five cause alone (Some (OnText command)) None P output w s = tt
cause_wanted n test trial two five cause alone (Some (OnText command)) (Some text) P output w s = elim w.known [
  | inl unread ↦ absurd (five (sym s ∙ status_of _ _ unread.1))
  | inr is ↦ subst (test command) is.1 (cause command is.0 output is.2 s)
]
cause_wanted n test trial two five cause alone (Some (Trial number)) text P output w s = alone (sym (status_of _ _ w.known.3) ∙ s)

-- a status other than 6 is that of the output
whole_status : (output : Output) (P : Type 0) (taken now : Option (List ℕ)) (status : ℕ) → IsWritten output P taken now status → status ≢ 6 → output.status ≡ status
whole_status output P taken now status w h = sym (w.whole h).0

cause_answered : (n : ℕ) (test : Command → List ℕ → Type 0) (trial : Type 0) → n ≢ 2 → n ≢ 5 → n ≢ 6 → Cause n test → TrialCause n trial
    → (task : Option Task) (text : Option (List ℕ)) (P Q : Type 0) (taken now : Option (List ℕ)) (status : ℕ) → IsAnswered task text P Q taken now status → status ≡ n → Has test trial task text
cause_answered n test trial two five six cause alone task text P Q taken now status a h =
    cause_wanted n test trial two five cause alone task text P a.output a.wanted (whole_status a.output Q taken now status a.written (λ s. six (sym h ∙ s)) ∙ h)

pub met_cause : (task : Option Task) (text : Option (List ℕ)) (P Q : Type 0) (taken now : Option (List ℕ)) (status : ℕ) → IsAnswered task text P Q taken now status → status ≡ 0 → Has (Within IsMet) (Unit {0}) task text
met_cause = cause_answered 0 (Within IsMet) (Unit {0}) (λ s. omega (arith, s)) (λ s. omega (arith, s)) (λ s. omega (arith, s)) met_output (λ s. tt)

pub unmet_cause : (task : Option Task) (text : Option (List ℕ)) (P Q : Type 0) (taken now : Option (List ℕ)) (status : ℕ) → IsAnswered task text P Q taken now status → status ≡ 1 → Has (Within IsUnmet) ⊥ task text
unmet_cause = cause_answered 1 (Within IsUnmet) ⊥ (λ s. omega (arith, s)) (λ s. omega (arith, s)) (λ s. omega (arith, s)) unmet_output (λ s. omega (arith, s))

pub fault_cause : (task : Option Task) (text : Option (List ℕ)) (P Q : Type 0) (taken now : Option (List ℕ)) (status : ℕ) → IsAnswered task text P Q taken now status → status ≡ 3 → Has (Within IsFaulty) ⊥ task text
fault_cause = cause_answered 3 (Within IsFaulty) ⊥ (λ s. omega (arith, s)) (λ s. omega (arith, s)) (λ s. omega (arith, s)) fault_output (λ s. omega (arith, s))

pub limit_cause : (task : Option Task) (text : Option (List ℕ)) (P Q : Type 0) (taken now : Option (List ℕ)) (status : ℕ) → IsAnswered task text P Q taken now status → status ≡ 4 → Has IsTooMuch ⊥ task text
limit_cause = cause_answered 4 IsTooMuch ⊥ (λ s. omega (arith, s)) (λ s. omega (arith, s)) (λ s. omega (arith, s)) limit_output (λ s. omega (arith, s))

-- ---- when each status comes
-- a text is read in one way
clash : {X E : Type 0} (r : Result X E) (x : X) (e : E) → r ≡ Ok x → r ≡ Err e → ⊥
clash r x e p q = let both : Ok x ≡ Err e = sym p ∙ q in cc both

one_error : {X E : Type 0} (r : Result X E) (d e : E) → r ≡ Err d → r ≡ Err e → d ≡ e
one_error r d e p q = let both : Err d ≡ Err e = sym p ∙ q in cc both

one_value : {X E : Type 0} (r : Result X E) (x y : X) → r ≡ Ok x → r ≡ Ok y → x ≡ y
one_value r x y p q = let both : Ok x ≡ Ok y = sym p ∙ q in cc both

-- what is wrong first is one thing, and then nothing is done
one_wrong : (command : Command) (text : List ℕ) (d e : TextError) → IsWrong command text d → IsWrong command text e → d ≡ e
one_wrong Utility text d e p q = one_error (utility_text text) d e p q
one_wrong Validate text d e p q = one_error (auction_alone text) d e p q
one_wrong Prices text d e p q = one_error (auction_alone text) d e p q
one_wrong Trail text d e p q = one_error (auction_alone text) d e p q
one_wrong Solve text d e p q = one_error (auction_alone text) d e p q
one_wrong Check text d e p q = one_error (auction_and_outcome text) d e p q
one_wrong Upgrade text d e p q = one_error (upgradable text) d e p q
one_wrong Compare text d e p q = one_error (auction_alone text) d e p q
one_wrong Range text d e p q = one_error (range_text text) d e p q
one_wrong Session text d e p q = one_error (session_text text) d e p q

not_done : (command : Command) (text : List ℕ) (e : TextError) (output : Output) → IsWrong command text e → IsDone command text output → ⊥
not_done Utility text e output wrong done = clash (utility_text text) done.0 e done.1 wrong
not_done Validate text e output wrong done = clash (auction_alone text) done.0 e done.1 wrong
not_done Prices text e output wrong done = clash (auction_alone text) done.0 e done.1 wrong
not_done Trail text e output wrong done = clash (auction_alone text) done.0 e done.1 wrong
not_done Solve text e output wrong done = clash (auction_alone text) done.0 e done.1 wrong
not_done Check text e output wrong done = clash (auction_and_outcome text) (done.0, done.1) e done.2 wrong
not_done Upgrade text e output wrong done = clash (upgradable text) (done.0, done.1) e done.2 wrong
not_done Compare text e output wrong done = clash (auction_alone text) done.0 e done.1 wrong
not_done Range text e output wrong done = clash (range_text text) done.0 e done.1 wrong
not_done Session text e output wrong done = clash (session_text text) done.0 e done.1 wrong

-- nor is what the command asks met, nor not met
not_met : (command : Command) (text : List ℕ) (e : TextError) → IsWrong command text e → IsMet command text → ⊥
not_met Utility text e wrong met = clash (utility_text text) met.0 e met.1 wrong
not_met Validate text e wrong met = clash (auction_alone text) met.0 e met.1 wrong
not_met Prices text e wrong met = clash (auction_alone text) met.0 e met.1 wrong
not_met Trail text e wrong met = clash (auction_alone text) met.0 e met.1 wrong
not_met Solve text e wrong met = clash (auction_alone text) met.0 e met.1 wrong
not_met Check text e wrong met = clash (auction_and_outcome text) (met.0, met.1) e met.2 wrong
not_met Upgrade text e wrong met = clash (upgradable text) (met.0, met.1) e met.2 wrong
not_met Compare text e wrong met = clash (auction_alone text) met.0 e met.1 wrong
not_met Range text e wrong met = clash (range_text text) met.0 e met.1 wrong
not_met Session text e wrong met = clash (session_text text) met.0 e met.1 wrong

not_unmet : (command : Command) (text : List ℕ) (e : TextError) → IsWrong command text e → IsUnmet command text → ⊥
not_unmet Utility text e wrong unmet = unmet
not_unmet Validate text e wrong unmet = clash (auction_alone text) unmet.0 e unmet.1 wrong
not_unmet Prices text e wrong unmet = clash (auction_alone text) unmet.0 e unmet.1 wrong
not_unmet Trail text e wrong unmet = clash (auction_alone text) unmet.0 e unmet.1 wrong
not_unmet Solve text e wrong unmet = clash (auction_alone text) unmet.0 e unmet.1 wrong
not_unmet Check text e wrong unmet = clash (auction_and_outcome text) (unmet.0, unmet.1) e unmet.2 wrong
not_unmet Upgrade text e wrong unmet = unmet
not_unmet Compare text e wrong unmet = unmet
not_unmet Range text e wrong unmet = clash (range_text text) unmet.0 e unmet.1 wrong
not_unmet Session text e wrong unmet = unmet

-- and it isn't both
opposed_lists : (text : List ℕ) → HasConvexBidders text → HasNonconvexBidder text → ⊥
opposed_lists text c d =
    let convex : AreConvex d.0 = subst (λ (a : AuctionText). AreConvex a) (one_value (auction_alone text) c.0 d.0 c.1 d.1) c.2 in
    d.4 (convex d.2 d.3)

opposed_owners : (text : List ℕ) → HasConvexOwners text → HasNonconvexOwner text → ⊥
opposed_owners text c d =
    let convex : AreConvex d.0.auction = subst (λ (range : RangeText). AreConvex range.auction) (one_value (range_text text) c.0 d.0 c.1 d.1) c.2 in
    d.4 (convex d.2 d.3)

opposed : (command : Command) (text : List ℕ) → IsMet command text → IsUnmet command text → ⊥
opposed Utility text met unmet = unmet
opposed Validate text met unmet = opposed_lists text met unmet
opposed Prices text met unmet = opposed_lists text met unmet
opposed Trail text met unmet = opposed_lists text met unmet
opposed Solve text met unmet = opposed_lists text met unmet
opposed Upgrade text met unmet = unmet
opposed Check text met unmet =
    let same = one_value (auction_and_outcome text) (met.0, met.1) (unmet.0, unmet.1) met.2 unmet.2 in
    unmet.3 (subst (λ (p : AuctionText × Outcome). IsTrueOutcome p.0 p.1) same met.3)
opposed Compare text met unmet = unmet
opposed Range text met unmet = opposed_owners text met unmet
opposed Session text met unmet = unmet

-- so what a text has decides the status of the output
abbrev Decides : ℕ → (Command → List ℕ → Type 0) → Type 0
Decides n test = (command : Command) (text : List ℕ) (output : Output) → test command text → IsOutput command text output → output.status ≡ n

met_decides : Decides 0 (Within IsMet)
met_decides command text output h is = elim is [
  | inl long ↦ absurd (omega (arith, long.0, h.0))
  | inr short ↦ elim short.1 [
    | inl refused ↦ absurd (not_met command text refused.0 refused.1 h.1)
    | inr done ↦ at output.status refl (told command text output done)
  ]
]
  where
    at : (n : ℕ) → output.status ≡ n → IsTold command text output → output.status ≡ 0
    at zero e t = e
    at (suc n) e t = absurd (opposed command text h.1 (t.unmet (let o = t.one in omega (arith, e, o))))

unmet_decides : Decides 1 (Within IsUnmet)
unmet_decides command text output h is = elim is [
  | inl long ↦ absurd (omega (arith, long.0, h.0))
  | inr short ↦ elim short.1 [
    | inl refused ↦ absurd (not_unmet command text refused.0 refused.1 h.1)
    | inr done ↦ at output.status refl (told command text output done)
  ]
]
  where
    at : (n : ℕ) → output.status ≡ n → IsTold command text output → output.status ≡ 1
    at zero e t = absurd (opposed command text (t.met e) h.1)
    at (suc n) e t = let o = t.one in omega (arith, e, o)

fault_decides : Decides 3 (Within IsFaulty)
fault_decides command text output h is = elim is [
  | inl long ↦ absurd (omega (arith, long.0, h.0))
  | inr short ↦ elim short.1 [
    | inl refused ↦ status_of _ _ refused.2 ∙ ap (λ (e : TextError). (refusal e).status) (one_wrong command text refused.0 (error.Fault h.1.0) refused.1 h.1.1)
    | inr done ↦ absurd (not_done command text (error.Fault h.1.0) output h.1.1 done)
  ]
]

limit_decides : Decides 4 IsTooMuch
limit_decides command text output h is = elim is [
  | inl long ↦ status_of _ _ long.1
  | inr short ↦ elim h [
    | inl many ↦ absurd (omega (arith, many, short.0))
    | inr past ↦ elim short.1 [
      | inl refused ↦ status_of _ _ refused.2 ∙ ap (λ (e : TextError). (refusal e).status) (one_wrong command text refused.0 (error.Limit past.1) refused.1 past.2)
      | inr done ↦ absurd (not_done command text (error.Limit past.1) output past.2 done)
    ]
  ]
]

-- what is said of a trial auction gives the status 0
abbrev TrialDecides : ℕ → Type 0 → Type 0
TrialDecides n trial = trial → n ≡ 0

decided : (n : ℕ) (test : Command → List ℕ → Type 0) (trial : Type 0) → Decides n test → TrialDecides n trial
    → (task : Option Task) (text : Option (List ℕ)) (output : Output) → Shows test trial task text → IsWanted task text ⊥ output → output.status ≡ n
decided n test trial decides alone None text output shows w = absurd shows
decided n test trial decides alone (Some (OnText command)) None output shows w = absurd shows
decided n test trial decides alone (Some (OnText command)) (Some text) output shows w = elim w.known [
  | inl failed ↦ absurd failed.0
  | inr is ↦ decides command text output shows (subst (λ (bytes : List ℕ). IsOutput command bytes output) is.1 is.2)
]
decided n test trial decides alone (Some (Trial number)) text output shows w = status_of _ _ w.known.3 ∙ sym (alone shows)

-- ---- where no device failed
wanted_unless : (task : Option Task) (text : Option (List ℕ)) (P : Type 0) (output : Output) → ¬ P → IsWanted task text P output → IsWanted task text ⊥ output
wanted_unless None text P output none w = record { unknown = w.unknown; known = tt }
wanted_unless (Some (OnText command)) text P output none w = record {
  unknown = tt;
  known = elim w.known [ inl failed ↦ absurd (none failed.0) | inr is ↦ inr is ];
}
wanted_unless (Some (Trial number)) text P output none w = record { unknown = tt; known = w.known }

-- the whole output that the words and the text want was written
pub no_failure : (task : Option Task) (text : Option (List ℕ)) (P Q : Type 0) (taken now : Option (List ℕ)) (status : ℕ) → ¬ P → ¬ Q → IsAnswered task text P Q taken now status
    → IsAnswered task text ⊥ ⊥ taken now status
no_failure task text P Q taken now status read write a = record {
  output = a.output;
  wanted = wanted_unless task text P a.output read a.wanted;
  written = record { whole = a.written.whole; cut = λ six. absurd (write (a.written.cut six).0) };
}

-- and the text decides the status
shown : (n : ℕ) (test : Command → List ℕ → Type 0) (trial : Type 0) → Decides n test → TrialDecides n trial
    → (task : Option Task) (text : Option (List ℕ)) (P Q : Type 0) (taken now : Option (List ℕ)) (status : ℕ) → ¬ P → ¬ Q → IsAnswered task text P Q taken now status → Shows test trial task text → status ≡ n
shown n test trial decides alone task text P Q taken now status read write a shows =
    let w = a.written in
    let none : status ≢ 6 = λ six. write (w.cut six).0 in
    (w.whole none).0 ∙ decided n test trial decides alone task text a.output shows (wanted_unless task text P a.output read a.wanted)

pub met_shown : (task : Option Task) (text : Option (List ℕ)) (P Q : Type 0) (taken now : Option (List ℕ)) (status : ℕ) → ¬ P → ¬ Q → IsAnswered task text P Q taken now status → Shows (Within IsMet) (Unit {0}) task text → status ≡ 0
met_shown = shown 0 (Within IsMet) (Unit {0}) met_decides (λ t. refl)

pub unmet_shown : (task : Option Task) (text : Option (List ℕ)) (P Q : Type 0) (taken now : Option (List ℕ)) (status : ℕ) → ¬ P → ¬ Q → IsAnswered task text P Q taken now status → Shows (Within IsUnmet) ⊥ task text → status ≡ 1
unmet_shown = shown 1 (Within IsUnmet) ⊥ unmet_decides (λ none. absurd none)

pub fault_shown : (task : Option Task) (text : Option (List ℕ)) (P Q : Type 0) (taken now : Option (List ℕ)) (status : ℕ) → ¬ P → ¬ Q → IsAnswered task text P Q taken now status → Shows (Within IsFaulty) ⊥ task text → status ≡ 3
fault_shown = shown 3 (Within IsFaulty) ⊥ fault_decides (λ none. absurd none)

pub limit_shown : (task : Option Task) (text : Option (List ℕ)) (P Q : Type 0) (taken now : Option (List ℕ)) (status : ℕ) → ¬ P → ¬ Q → IsAnswered task text P Q taken now status → Shows IsTooMuch ⊥ task text → status ≡ 4
limit_shown = shown 4 IsTooMuch ⊥ limit_decides (λ none. absurd none)

-- ---- a text of too many bytes
-- the row that is printed then
pub long_text : too_long ≡ record { status = 4; bytes = codes "limit,0,bytes\n" }
long_text = ap (λ (number : List ℕ). one_row 4 (codes "limit" ∷ number ∷ codes "bytes" ∷ [])) (decimal_digit 0 (omega arith))

-- bytes, as many as are asked for
some_bytes : (n : ℕ) → (bytes : List ℕ) × (length bytes ≡ n)
some_bytes n = (replicate n 0, length-replicate n 0)

-- a command, and such a text
pub long_answered : (command : Command) (text : Option (List ℕ)) (P Q : Type 0) (taken now : Option (List ℕ)) (status : ℕ)
    → IsLonger text 16777216 → IsWritten (record { status = 4; bytes = codes "limit,0,bytes\n" }) Q taken now status → IsAnswered (Some (OnText command)) text P Q taken now status
long_answered command text P Q taken now status long w = record {
  output = too_long;
  wanted = record { unknown = tt; known = inr (given text long) };
  written = subst (λ (output : Output). IsWritten output Q taken now status) (sym long_text) w;
}
  where
    given : (text : Option (List ℕ)) → IsLonger text 16777216 → (bytes : List ℕ) × AreTold text bytes × IsOutput command bytes too_long
    given None l =
        let some = some_bytes 16777217 in
        (some.0, tt, inl (omega (arith, some.1), refl))
    given (Some bytes) l = (bytes, refl, inl (l, refl))
