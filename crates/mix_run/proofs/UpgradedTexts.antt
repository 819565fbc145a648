-- What `upgrade` writes is read as the auction in format 2 and the same outcome, and so it is checked as what was read.
use Rattle.std.proofs.Common.{◌≡◌, ◌∙◌, ◌↔◌, ◌&&◌, ℕ, ◌+◌, ◌≤◌, List, ◌++◌, length, sym, ap, ap₂, subst, arith, inl, inr, true, Option, Some, None, Result, Ok, Err}
use Rattle.std.specs.Prelude.{IfSome}
use Rattle.std.specs.List.{list_all}
use Rattle.std.proofs.lemmas.List.Folds.{list_all-append}
use Rattle.mix_text.specs.Auctions.{AuctionText, IsAuction}
use Rattle.mix_text.specs.Limits.{MeetsLimits}
use Rattle.mix_text.specs.Pages.{is_printable_row, printed}
use Rattle.mix_text.specs.Reading.{◌>>=◌, reading_of}
use Rattle.mix_text.specs.Rows.{RestText, RowText, numbered, rows_of}
use Rattle.mix_text.specs.declared.faults.TextError.{TextError}
use Rattle.mix_text.proofs.ReadBack.{rows_of-printed}
use Rattle.mix_text.proofs.Records.{numbered-append}
use Rattle.mix_text.proofs.Sound.{then_ok}
use Rattle.mix_text.proofs.SoundAuctions.{meets_limits}
use Rattle.mix_text.proofs.Upgrades.{is_of_two, meets_limits_of_two}
use Rattle.mix_answer.specs.Outcomes.{outcome_rows}
use Rattle.mix_answer.specs.Readings.{outcome_after}
use Rattle.mix_answer.specs.Shapes.{HasShape}
use Rattle.mix_answer.specs.declared.faults.OutcomeError.{OutcomeError}
use Rattle.mix_answer.specs.declared.faults.OutcomeError.TheVariants as wrong
use Rattle.mix_answer.specs.declared.outcome.Outcome.{Outcome}
use Rattle.mix_answer.proofs.PrintableOutcomes.{lines_numbered, outcome_lines}
use Rattle.mix_answer.proofs.PrintedPages.{printed-append}
use Rattle.mix_answer.proofs.SpelledOutcomes.{outcome_tells, outcome_told}
use Rattle.mix_trial.specs.Printing.{auction_rows}
use Rattle.mix_trial.proofs.PrintedAuctions.{auction_printable}
use Rattle.mix_trial.proofs.ReadAuctions.{reading_back}
use Rattle.mix_run.specs.Calls.{IsAnswered, IsOutput, IsWanted}
use Rattle.mix_run.specs.Causes.{AreCheckedAlike}
use Rattle.mix_run.specs.command.Check.{IsChecking, auction_and_outcome, or_wrong}
use Rattle.mix_run.specs.Outputs.{Output, most_bytes}
use Rattle.mix_run.specs.command.Upgrade.{IsUpgradingOf, first_head_in, upgradable, upgraded, upgraded_text}
use Rattle.mix_run.specs.declared.words.Command.TheVariants.{Check, Upgrade}
use Rattle.mix_run.specs.declared.words.Task.{Task}
use Rattle.mix_run.specs.declared.words.Task.TheVariants.{OnText}
use Rattle.mix_run.proofs.Causes.{refusal_low, status_of}
use Rattle.mix_run.proofs.FormerFormats.{format_one}
use Rattle.mix_run.proofs.LongerTexts.{read_longer}
use Rattle.mix_run.proofs.RowsAfterBids.{ok_same}
use Rattle.mix_run.proofs.SameVerdicts.{checking_same}
use Rattle.mix_run.proofs.SoundReadings.{reading_sound}
use Rattle.mix_run.proofs.UpgradedSizes.{shape_of_two, upgraded_short}

unwrapped : {X : Type 0} (r : Result X OutcomeError) (x : X) → or_wrong r ≡ Ok x → r ≡ Ok x
unwrapped (Ok y) x e = ap Ok (ok_same y x e)
unwrapped (Err (wrong.Fault fault)) x e = cc e
unwrapped (Err wrong.Memory) x e = cc e

-- what was read: an auction of format 1 within the limits, and an outcome of its shape
record WasRead (text : List ℕ) (a : AuctionText) (outcome : Outcome) : Type 0 where
  both : auction_and_outcome text ≡ Ok (a, outcome)
  is : IsAuction a
  one : a.format ≡ 1
  meets : MeetsLimits a
  shape : HasShape a outcome

was_read : (text : List ℕ) (a : AuctionText) (outcome : Outcome) → upgradable text ≡ Ok (a, outcome) → WasRead text a outcome
unfolding upgradable auction_and_outcome
was_read text a outcome e =
    let head = then_ok (first_head_in (rows_of text)) (λ _. auction_and_outcome text) (a, outcome) e in
    let read = then_ok (reading_of (rows_of text)) _ (a, outcome) head.2 in
    let after = then_ok (or_wrong (outcome_after read.0.0 read.0.1)) _ (a, outcome) read.2 in
    let same : (read.0.0, after.0) ≡ (a, outcome) = ok_same _ _ after.2 in
    let is = reading_sound (rows_of text) read.0.0 read.0.1 read.1 in
    let told = outcome_told read.0.0 is read.0.1.next read.0.1.rows after.0 (unwrapped (outcome_after read.0.0 read.0.1) after.0 after.1) in
    let one = format_one (rows_of text) read.0.0 read.0.1 head.1 read.1 in
    let whole : WasRead text read.0.0 after.0 = record { both = head.2 ∙ sym (ap Ok same); is = is; one = one; meets = meets_limits (rows_of text) read.0 read.1; shape = told.1 } in
    subst (λ (p : AuctionText × Outcome). WasRead text p.0 p.1) same whole

both_printable : (x y : List (List (List ℕ))) → list_all is_printable_row x ≡ true → list_all is_printable_row y ≡ true → list_all is_printable_row (x ++ y) ≡ true
both_printable x y p q = list_all-append is_printable_row x y ∙ ap₂ (λ s t. s && t) p q

-- what is written is read as the auction in format 2 and the outcome
read_both : (b : AuctionText) (outcome : Outcome) → IsAuction b → MeetsLimits b → HasShape b outcome
    → auction_and_outcome (printed (auction_rows b) ++ printed (outcome_rows b outcome)) ≡ Ok (b, outcome)
unfolding auction_and_outcome
read_both b outcome is meets shape =
    let first = auction_rows b in
    let later = outcome_rows b outcome in
    let rows : rows_of (printed first ++ printed later) ≡ numbered 1 first ++ numbered (1 + length first) later =
    ap rows_of (sym (printed-append first later)) ∙ rows_of-printed (first ++ later) (both_printable first later (auction_printable b is) (outcome_lines b outcome is shape)) ∙ numbered-append 1 first later in
    let left = numbered (1 + length first) later in
    let back = read_longer (numbered 1 first) left b _ (reading_back b is meets) in
    let told = outcome_tells b is (length (numbered 1 first ++ left) + 1) left outcome shape (lines_numbered (1 + length first) later) in
    ap (λ (z : List RowText). reading_of z >>= λ read. or_wrong (outcome_after read.0 read.1) >>= λ o. Ok (read.0, o)) rows
    ∙ ap (λ (z : Result (AuctionText × RestText) TextError). z >>= λ read. or_wrong (outcome_after read.0 read.1) >>= λ o. Ok (read.0, o)) back
    ∙ ap (λ (z : Result Outcome OutcomeError). or_wrong z >>= λ o. Ok (b, o)) told

-- so the checker may say the same of both
pub checked_alike : (text : List ℕ) (output : Output) → length text ≤ most_bytes → IsUpgradingOf text output → (reply : Output) → IsOutput Check text reply ↔ IsOutput Check output.bytes reply
checked_alike text output short done reply =
    let a = done.0 in
    let outcome = done.1 in
    let was = was_read text a outcome done.2 in
    let is = is_of_two a was.is was.one in
    let meets = meets_limits_of_two a was.is was.one was.meets in
    let again = read_both (upgraded a) outcome is meets (shape_of_two a outcome was.shape) in
    let few = upgraded_short a outcome was.is was.meets was.one was.shape in
    let back : IsOutput Check (upgraded_text a outcome) reply → IsOutput Check output.bytes reply = subst (λ (o : Output). IsOutput Check (upgraded_text a outcome) reply → IsOutput Check o.bytes reply) (sym done.3) (λ z. z) in
    let forth : IsOutput Check output.bytes reply → IsOutput Check (upgraded_text a outcome) reply = subst (λ (o : Output). IsOutput Check o.bytes reply → IsOutput Check (upgraded_text a outcome) reply) (sym done.3) (λ z. z) in (
      (λ own. back (over text (upgraded_text a outcome) a (upgraded a) outcome short few was.both again (checking_same a 2 outcome reply) own)),
      (λ own. over (upgraded_text a outcome) text (upgraded a) a outcome few short again was.both (checking_same (upgraded a) a.format outcome reply) (forth own)),
    )
  where
    over : (from to : List ℕ) (a b : AuctionText) (outcome : Outcome) → length from ≤ most_bytes → length to ≤ most_bytes → auction_and_outcome from ≡ Ok (a, outcome) → auction_and_outcome to ≡ Ok (b, outcome)
        → (IsChecking a outcome reply → IsChecking b outcome reply) → IsOutput Check from reply → IsOutput Check to reply
    over from to a b outcome short few read again turn (inl long) = absurd (omega (arith, short, long.0))
    over from to a b outcome short few read again turn (inr (own, inl refused)) = absurd (let clash = sym read ∙ refused.1 in cc clash)
    over from to a b outcome short few read again turn (inr (own, inr checked)) =
        let same : (checked.0, checked.1) ≡ (a, outcome) = ok_same _ _ (sym checked.2 ∙ read) in
        let is = subst (λ (p : AuctionText × Outcome). IsChecking p.0 p.1 reply) same checked.3 in
        inr (few, inr (b, outcome, again, turn is))

-- ---- for what is wanted of the words and the text
alike_done : (bytes : List ℕ) (output : Output) → IsOutput Upgrade bytes output → output.status ≡ 0 → (reply : Output) → IsOutput Check bytes reply ↔ IsOutput Check output.bytes reply
alike_done bytes output is s = elim is [
  | inl long ↦ absurd (omega (arith, s, status_of _ _ long.1))
  | inr short ↦ elim short.1 [
    | inl refused ↦ absurd (let l = refusal_low refused.0 in omega (arith, s, l, status_of _ _ refused.2))
    | inr done ↦ checked_alike bytes output short.0 done
  ]
]

alike_wanted : (text : Option (List ℕ)) (P : Type 0) (output : Output) → IsWanted (Some (OnText Upgrade)) text P output → output.status ≡ 0 → IfSome text (λ bytes. (reply : Output) → IsOutput Check bytes reply ↔ IsOutput Check output.bytes reply)
alike_wanted None P output w s = tt
alike_wanted (Some text) P output w s = elim w.known [
  | inl unread ↦ absurd (omega (arith, s, status_of _ _ unread.1))
  | inr is ↦ subst (λ (bytes : List ℕ). (reply : Output) → IsOutput Check bytes reply ↔ IsOutput Check output.bytes reply) is.1 (alike_done is.0 output is.2 s)
]

alike_answered : (text : Option (List ℕ)) (P Q : Type 0) (taken now : Option (List ℕ)) (status : ℕ) → IsAnswered (Some (OnText Upgrade)) text P Q taken now status → status ≡ 0 → AreCheckedAlike text taken now
alike_answered text P Q taken now status a s =
    let whole = a.written.whole (λ e. absurd (omega (arith, s, e))) in
    with_bytes text (alike_wanted text P a.output a.wanted (sym whole.0 ∙ s))
  where
    with_bytes : (text : Option (List ℕ)) → IfSome text (λ bytes. (reply : Output) → IsOutput Check bytes reply ↔ IsOutput Check a.output.bytes reply) → AreCheckedAlike text taken now
    with_bytes None h = tt
    with_bytes (Some bytes) h = (a.output.bytes, (a.written.whole (λ e. absurd (omega (arith, s, e)))).1, h)

pub upgrade_alike : (task : Option Task) (text : Option (List ℕ)) (P Q : Type 0) (taken now : Option (List ℕ)) (status : ℕ) → IsAnswered task text P Q taken now status → task ≡ Some (OnText Upgrade) → status ≡ 0 → AreCheckedAlike text taken now
upgrade_alike task text P Q taken now status a e s = alike_answered text P Q taken now status (subst (λ (t : Option Task). IsAnswered t text P Q taken now status) e a) s
