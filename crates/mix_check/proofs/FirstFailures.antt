-- Of the bidders that had their turn in tie order, the first in order of first appearance with a pair that isn't tight; and that once all had
-- theirs, the reason against it is the first that holds.
use Rattle.std.proofs.Common.{◌≡◌, ◌≤◌, ◌<◌, ◌+◌, ◌⊎◌, inl, inr, ℕ, ℤ, [], ◌∷◌, length, refl, sym, ap, subst, arith, eq-or-lt_of_le, Option, Some, None}
use Rattle.std.proofs.lemmas.Int.{ints}
use Rattle.mix_num.specs.Orders.{place_at}
use Rattle.mix_num.proofs.Orders.{all-where_in_order}
use Rattle.mix_text.specs.Auctions.{AuctionText, IsAuction}
use Rattle.mix_text.proofs.TieOrders.{is_order}
use Rattle.mix_answer.specs.Shapes.{HasAnswerShape}
use Rattle.mix_answer.specs.Truths.{HaveTights}
use Rattle.mix_answer.specs.declared.outcome.Answer.{Answer}
use Rattle.mix_answer.specs.declared.outcome.Outcome.{Outcome}
use Rattle.mix_answer.specs.declared.outcome.Outcome.TheVariants.{Cleared}
use Rattle.mix_check.specs.declared.pairs.Failure.{Failure}
use Rattle.mix_check.specs.declared.reason.Reason.{Reason}
use Rattle.mix_check.specs.declared.reason.Reason.TheVariants.{Pair, Tight}
use Rattle.mix_check.specs.Orders.{IsBefore, IsFirstReason, NoneBefore}
use Rattle.mix_check.specs.Reasons.{HoldsOfAnswer}
use Rattle.mix_check.specs.Tests.{HasTightPair, IsAgainst, IsFirstFailure, IsFirstOfTurn, IsOfBidder}
use Rattle.mix_check.proofs.PairNumbers.{none_else, paired}

module _ (a : AuctionText) (answer : Answer) where
  -- before the first turn
  pub no_turn : (bidder : ℕ) → length a.bidders ≤ bidder → IsFirstFailure a answer 0 (record { bidder = bidder; reason = None })
  no_turn bidder all = record { tight = λ turn j h below l. absurd (omega (arith, h)); first = all }

  -- ---- one turn more
  module _ (turn : ℕ) (first : Failure) (so_far : IsFirstFailure a answer turn first) where
    -- of a bidder after the one that is kept
    pub turn_passed_over : first.bidder < place_at a.order turn → IsFirstFailure a answer (turn + 1) first
    turn_passed_over after = record {
      tight = λ t j h below l. at t j below l (eq-or-lt_of_le (let le : t ≤ turn = omega (arith, h) in le));
      first = so_far.first;
    }
      where
        at : (t j : ℕ) → place_at a.order t < first.bidder → j < length a.goods → (t ≡ turn) ⊎ (t < turn) → HasTightPair a answer t j
        at t j below l (inl e) = let same = ap (λ (i : ℕ). place_at a.order i) e in absurd (omega (arith, below, after, same))
        at t j below l (inr h) = so_far.tight t j h below l

    -- of one that passes
    pub turn_passed : ((j : ℕ) → j < length a.goods → HasTightPair a answer turn j) → IsFirstFailure a answer (turn + 1) first
    turn_passed passed = record {
      tight = λ t j h below l. at t j below l (eq-or-lt_of_le (let le : t ≤ turn = omega (arith, h) in le));
      first = so_far.first;
    }
      where
        at : (t j : ℕ) → place_at a.order t < first.bidder → j < length a.goods → (t ≡ turn) ⊎ (t < turn) → HasTightPair a answer t j
        at t j below l (inl e) = subst (λ (i : ℕ). HasTightPair a answer i j) (sym e) (passed j l)
        at t j below l (inr h) = so_far.tight t j h below l

    -- of one, not after the one that is kept, that fails
    pub turn_failed : (bidder : ℕ) (reason : Reason) → turn < length a.bidders → bidder ≡ place_at a.order turn → bidder ≤ first.bidder → IsFirstOfTurn a answer turn reason
        → IsFirstFailure a answer (turn + 1) (record { bidder = bidder; reason = Some reason })
    turn_failed bidder reason inside served sooner failed = record {
      tight = λ t j h below l. at t j below l (eq-or-lt_of_le (let le : t ≤ turn = omega (arith, h) in le));
      first = (turn, inside, sym served, failed);
    }
      where
        at : (t j : ℕ) → place_at a.order t < bidder → j < length a.goods → (t ≡ turn) ⊎ (t < turn) → HasTightPair a answer t j
        at t j below l (inl e) = let same = ap (λ (i : ℕ). place_at a.order i) e in absurd (omega (arith, below, served, same))
        at t j below l (inr h) = so_far.tight t j h (omega (arith, below, sooner)) l

  -- no reason against a bidder and a good holds
  record AreNoReasons (bidder j : ℕ) : Type 0 where
    pair : ¬ HoldsOfAnswer a answer (Pair bidder j)
    number : (bound : ℤ) → ¬ HoldsOfAnswer a answer (Tight bidder j bound)

  -- ---- the places of reasons
  abbrev outcome : Outcome
  outcome = Cleared answer

  -- the last two kinds of reasons by bidder, by good and by kind
  before_cases : (i g u k j t : ℕ) → IsBefore (9 ∷ i ∷ g ∷ u ∷ []) (9 ∷ k ∷ j ∷ t ∷ []) → (i < k) ⊎ (((i ≡ k) × (g < j)) ⊎ ((i ≡ k) × (g ≡ j) × (u < t)))
  before_cases i g u k j t b = grind (arith, ints)

  module _ (k j : ℕ) (before : NoneBefore a outcome (9 ∷ [])) (lesser : (i g : ℕ) → i < length a.bidders → i < k → g < length a.goods → AreNoReasons i g) (sooner : (g : ℕ) → g < j → AreNoReasons k g) where
    none_before : (t : ℕ) → t ≤ 1 → (0 < t → ¬ HoldsOfAnswer a answer (Pair k j)) → NoneBefore a outcome (9 ∷ k ∷ j ∷ t ∷ [])
    none_before t most right (Pair i g) b holds = elim (before_cases i g 0 k j t b) [
      | inl l ↦ (lesser i g holds.0 l holds.1).pair holds
      | inr (inl e) ↦ (sooner g e.1).pair (subst (λ (m : ℕ). HoldsOfAnswer a answer (Pair m g)) e.0 holds)
      | inr (inr e) ↦ right e.2 (subst (λ (m : ℕ). HoldsOfAnswer a answer (Pair k m)) e.1 (subst (λ (m : ℕ). HoldsOfAnswer a answer (Pair m g)) e.0 holds))
    ]
    none_before t most right (Tight i g bound) b holds = elim (before_cases i g 1 k j t b) [
      | inl l ↦ (lesser i g holds.0 l holds.1).number bound holds
      | inr (inl e) ↦ (sooner g e.1).number bound (subst (λ (m : ℕ). HoldsOfAnswer a answer (Tight m g bound)) e.0 holds)
      | inr (inr e) ↦ let more = e.2 in absurd (omega (arith, most, more))
    ]
    none_before t most right other b holds = before other (grind (arith, ints)) holds

    -- a reason against a bidder and a good is the first, where none holds against bidders of lesser number and goods before it
    first_against : (reason : Reason) → IsAgainst a answer k j reason → IsFirstReason a outcome reason
    first_against (Pair i g) against =
        let own : IsFirstReason a outcome (Pair k j) = record { holds = against.2; first = none_before 0 (omega arith) (λ l. absurd (omega (arith, l))) } in
        subst (λ (m : ℕ). IsFirstReason a outcome (Pair m g)) (sym against.0) (subst (λ (m : ℕ). IsFirstReason a outcome (Pair k m)) (sym against.1) own)
    first_against (Tight i g bound) against =
        let own : IsFirstReason a outcome (Tight k j bound) = record { holds = against.2; first = none_before 1 (omega arith) (λ l holds. holds.2 against.3) } in
        subst (λ (m : ℕ). IsFirstReason a outcome (Tight m g bound)) (sym against.0) (subst (λ (m : ℕ). IsFirstReason a outcome (Tight k m bound)) (sym against.1) own)
    first_against other against = absurd against

  -- ---- all had their turns
  module _ (sound : IsAuction a) (shape : HasAnswerShape a answer) (turns : ℕ) (all : turns ≡ length a.bidders) where
    -- and none failed
    pub all_tight : (first : Failure) → IsFirstFailure a answer turns first → first.reason ≡ None → HaveTights a answer
    all_tight first done none k j h l =
        let least : length a.bidders ≤ first.bidder = subst (λ (reason : Option Reason). IsOfBidder a answer first.bidder reason) none done.first in
        let within = sound.order.within k h in
        done.tight k j (omega (arith, h, all)) (omega (arith, least, within)) l

    where_tight : (turn j : ℕ) → turn < length a.bidders → HasTightPair a answer turn j → AreNoReasons (place_at a.order turn) j
    where_tight turn j h tight = record {
      pair = λ holds. holds.2 (paired a answer sound shape turn (place_at a.order turn) j h refl tight);
      number = λ bound holds. none_else a answer sound shape turn (place_at a.order turn) j h refl tight bound holds.2;
    }

    module _ (bidder : ℕ) (reason : Reason) (done : IsFirstFailure a answer turns (record { bidder = bidder; reason = Some reason })) (before : NoneBefore a (Cleared answer) (9 ∷ [])) where
      -- against bidders of lesser number
      none_lesser : (i j : ℕ) → i < length a.bidders → i < bidder → j < length a.goods → AreNoReasons i j
      none_lesser i j h below l =
          let size = sound.order.size in
          all-where_in_order (λ k. k < bidder → AreNoReasons k j) (length a.bidders) a.order (is_order (length a.bidders) a.order sound.order)
          (λ turn inside less. where_tight turn j (omega (arith, inside, size)) (done.tight turn j (omega (arith, inside, size, all)) less l)) i h below

      -- and against goods of the bidder before the one
      none_sooner : (j : ℕ) → j < done.first.3.good → AreNoReasons bidder j
      none_sooner j l = subst (λ (k : ℕ). AreNoReasons k j) done.first.2 (where_tight done.first.0 j done.first.1 (done.first.3.before j l))

      pub first_reason : IsFirstReason a (Cleared answer) reason
      first_reason =
          first_against bidder done.first.3.good before none_lesser none_sooner reason (subst (λ (k : ℕ). IsAgainst a answer k done.first.3.good reason) done.first.2 done.first.3.against)
