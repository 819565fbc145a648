-- What a call that ends with a range has written of the range of the text.
use Rattle.std.proofs.Common.{◌≡◌, ◌∙◌, ℕ, List, Option, Some, None, IfSome, Ok, inl, inr, refl, subst, sym, arith}
use Rattle.std.specs.Io.KnownBytes.{Appends}
use Rattle.mix_run.specs.Calls.{IsAnswered, IsOutput, IsWanted}
use Rattle.mix_run.specs.Outputs.{Output}
use Rattle.mix_run.specs.command.Range.{IsRange, IsRanged, IsRangingOf, RangeText, gross_auction, range_text, ranged_text}
use Rattle.mix_run.specs.command.Swaps.{AreNoWorse, BringReceipts, ClearWhereAsLow, LieBetween, WritesRange}
use Rattle.mix_run.specs.declared.command.range.Ranged.{Ranged}
use Rattle.mix_run.specs.declared.words.Command.TheVariants.{Range}
use Rattle.mix_run.specs.declared.words.Task.{Task}
use Rattle.mix_run.specs.declared.words.Task.TheVariants.{OnText}
use Rattle.mix_run.proofs.Causes.{refusal_low, status_of}
use Rattle.mix_run.proofs.SwapLaws.{are_no_worse, bring_receipts, clear_where_as_low, lie_between}

-- what holds of everything that comes of a range
abbrev Holds : (RangeText → Ranged → Type 0) → Type 0
Holds test = (range : RangeText) (ranged : Ranged) → IsRange range → IsRanged (gross_auction range) range.owned range.ceiling ranged → test range ranged

-- the bytes are those of a range that passes a test
abbrev Tells : (RangeText → Ranged → Type 0) → List ℕ → List ℕ → Type 0
Tells test text bytes = (range : RangeText) × (ranged : Ranged) × (range_text text ≡ Ok range) × (bytes ≡ ranged_text range.auction ranged) × test range ranged

module _ (test : RangeText → Ranged → Type 0) (holds : Holds test) where
  told_done : (text : List ℕ) (output : Output) → IsRangingOf text output → output.status ≡ 0 → Tells test text output.bytes
  told_done text output done s = elim done.3 [
    | inl ranged ↦ (done.0, ranged.0, done.1, bytes_of _ _ ranged.2, holds done.0 ranged.0 done.2 ranged.1)
    | inr refused ↦ absurd (omega (arith, s, status_of _ _ refused.2))
  ]
    where
      bytes_of : (a b : Output) → a ≡ b → a.bytes ≡ b.bytes
      bytes_of a b e = subst (λ (o : Output). a.bytes ≡ o.bytes) e refl

  told_output : (text : List ℕ) (output : Output) → IsOutput Range text output → output.status ≡ 0 → Tells test text output.bytes
  told_output text output is s = elim is [
    | inl long ↦ absurd (omega (arith, s, status_of _ _ long.1))
    | inr short ↦ elim short.1 [
      | inl refused ↦ absurd (let l = refusal_low refused.0 in omega (arith, s, l, status_of _ _ refused.2))
      | inr done ↦ told_done text output done s
    ]
  ]

  told_wanted : (text : Option (List ℕ)) (P : Type 0) (output : Output) → IsWanted (Some (OnText Range)) text P output → output.status ≡ 0 → IfSome text (λ bytes. Tells test bytes output.bytes)
  told_wanted None P output w s = tt
  told_wanted (Some text) P output w s = elim w.known [
    | inl unread ↦ absurd (omega (arith, s, status_of _ _ unread.1))
    | inr is ↦ subst (λ (bytes : List ℕ). Tells test bytes output.bytes) is.1 (told_output is.0 output is.2 s)
  ]

  written_where_told : (text taken now : Option (List ℕ)) (written : List ℕ) → Appends taken now written → IfSome text (λ bytes. Tells test bytes written) → WritesRange test text taken now
  written_where_told None taken now written appends told = tt
  written_where_told (Some text) taken now written appends told =
      (told.0, told.1, told.2, subst (λ (bytes : List ℕ). Appends taken now bytes) told.3 appends, told.4)

  range_answered : (text : Option (List ℕ)) (P Q : Type 0) (taken now : Option (List ℕ)) (status : ℕ) → IsAnswered (Some (OnText Range)) text P Q taken now status → status ≡ 0 → WritesRange test text taken now
  range_answered text P Q taken now status a s =
      let whole = a.written.whole (λ e. absurd (omega (arith, s, e))) in
      written_where_told text taken now a.output.bytes whole.1 (told_wanted text P a.output a.wanted (sym whole.0 ∙ s))

  range_written : (task : Option Task) (text : Option (List ℕ)) (P Q : Type 0) (taken now : Option (List ℕ)) (status : ℕ) → IsAnswered task text P Q taken now status → task ≡ Some (OnText Range) → status ≡ 0 → WritesRange test text taken now
  range_written task text P Q taken now status a e s = range_answered text P Q taken now status (subst (λ (t : Option Task). IsAnswered t text P Q taken now status) e a) s

pub written_between : (task : Option Task) (text : Option (List ℕ)) (P Q : Type 0) (taken now : Option (List ℕ)) (status : ℕ) → IsAnswered task text P Q taken now status → task ≡ Some (OnText Range) → status ≡ 0
    → WritesRange LieBetween text taken now
written_between = range_written LieBetween lie_between

pub written_clears : (task : Option Task) (text : Option (List ℕ)) (P Q : Type 0) (taken now : Option (List ℕ)) (status : ℕ) → IsAnswered task text P Q taken now status → task ≡ Some (OnText Range) → status ≡ 0
    → WritesRange ClearWhereAsLow text taken now
written_clears = range_written ClearWhereAsLow clear_where_as_low

pub written_no_worse : (task : Option Task) (text : Option (List ℕ)) (P Q : Type 0) (taken now : Option (List ℕ)) (status : ℕ) → IsAnswered task text P Q taken now status → task ≡ Some (OnText Range) → status ≡ 0
    → WritesRange AreNoWorse text taken now
written_no_worse = range_written AreNoWorse are_no_worse

pub written_receipts : (task : Option Task) (text : Option (List ℕ)) (P Q : Type 0) (taken now : Option (List ℕ)) (status : ℕ) → IsAnswered task text P Q taken now status → task ≡ Some (OnText Range) → status ≡ 0
    → WritesRange BringReceipts text taken now
written_receipts = range_written BringReceipts bring_receipts
