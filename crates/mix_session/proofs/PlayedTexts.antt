-- One text more of an outcome, and errors that are read.
use Rattle.std.proofs.Common.{◌≡◌, ◌+◌, ◌∙◌, ℕ, List, [], ◌∷◌, ◌++◌, append_assoc, append-nil, refl, sym, ap, arith, inl, inr, ⊎_elim, Err, Result}
use Rattle.std.proofs.lemmas.List.{length-append}
use Rattle.mix_text.specs.Auctions.{AuctionText}
use Rattle.mix_text.specs.Reading.{IsFromText}
use Rattle.mix_text.specs.declared.faults.TextError.{TextError}
use Rattle.mix_session.specs.OutcomeTexts.{AddsOutcomeText, AreOutcomeTexts, HasPlayed, IsOutcomeText}

one_text_more : (cleared : List AuctionText) (a : AuctionText) (before more : List ℕ) → AreOutcomeTexts cleared before → IsOutcomeText a more → AreOutcomeTexts (cleared ++ a ∷ []) (before ++ more)
one_text_more [] a before more none is = (more, [], is, refl, ap (λ (bytes : List ℕ). bytes ++ more) none ∙ sym (append-nil more))
one_text_more (first ∷ later) a before more texts is = (
  texts.0,
  texts.1 ++ more,
  texts.2,
  one_text_more later a texts.1 more texts.3 is,
  ap (λ (bytes : List ℕ). bytes ++ more) texts.4 ∙ append_assoc texts.0 texts.1 more,
)

pub one_played_more : (cleared : List AuctionText) (a : AuctionText) (clears now : ℕ) (before after : List ℕ) → HasPlayed cleared clears before → now ≡ clears + 1 → AddsOutcomeText a before after → HasPlayed (cleared ++ a ∷ []) now after
one_played_more cleared a clears now before after played count adds = record {
  count = let n = played.count in let m = length-append cleared (a ∷ []) in omega (arith, n, m, count);
  told = told;
}
  where
    told : AreOutcomeTexts (cleared ++ a ∷ []) after
    told = rw adds.added (one_text_more cleared a before adds.bytes played.told adds.outcome)

-- an error of one reading is one of another that ends with it
pub same_error : {X Y : Type 0} (read : Result X TextError) (all : Result Y TextError) (e : TextError) → (read ≡ Err e → all ≡ Err e) → IsFromText read e → IsFromText all e
same_error read all e goes from = ⊎_elim (λ memory. inl memory) (λ wrong. inr (goes wrong)) from
