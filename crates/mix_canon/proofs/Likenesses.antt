-- What an answer says of two lists: what follows where it tells them apart, and where each value vector has the same weight in both.
use Rattle.std.proofs.Common.{◌≡◌, ◌↔◌, ℤ, List, inr, sym, ◌∙◌, refl, Option, Some, None, MatchOption}
use Rattle.std.specs.Option.{unwrap_or}
use Rattle.mix_num.specs.Vectors.{with_null}
use Rattle.mix_bids.specs.Offers.{Offers}
use Rattle.mix_bids.specs.Bids.{Book}
use Rattle.mix_canon.specs.declared.term.Term.{Term}
use Rattle.mix_canon.specs.declared.likeness.Likeness.{Likeness}
use Rattle.mix_canon.specs.declared.likeness.Likeness.TheVariants.{Differ, Equal}
use Rattle.mix_canon.specs.Canons.{IsCanonOf, weight_of}
use Rattle.mix_canon.specs.Searches.{AgreeLow, AreAlike, IsFirstAround, IsFirstTried, IsTold, TellsApart, WhereDiffer}
use Rattle.mix_canon.proofs.Canonicals.{regrouped, same_canon}

-- what is said of an option, where it follows of none and of each
pub matched : {A P Q : Type 0} {f g : A → Type 0} (o : Option A) → MatchOption o P f → (P → Q) → ((a : A) → f a → g a) → MatchOption o Q g
matched None m h t = h m
matched (Some a) m h t = t a m

-- what is said of the prices, where more follows
pub told_more : (first second : Book) (P Q : List ℤ → Type 0) (l : Likeness) → ((p : List ℤ) → P p → Q p) → IsTold first second P l → IsTold first second Q l
told_more first second P Q Equal h t = absurd t
told_more first second P Q (Differ prices a b) h t = (t.0, h prices.items t.1)

-- the clauses of an answer
pub record IsAnswer (first second : Book) (l : Likeness) : Type 0 where
  pub equal : (l ≡ Equal) ↔ AreAlike first.goods first.bids second.bids
  pub canonical : (ts us : List Term) → IsCanonOf first.bids ts → IsCanonOf second.bids us → (l ≡ Equal) ↔ (ts ≡ us)
  pub differ : WhereDiffer (TellsApart first second) l
  pub first_tried : WhereDiffer (λ p a b. IsFirstTried first.goods first.bids second.bids p) l

-- prices that tell the lists apart are an answer
pub answer_told : (first second : Book) (l : Likeness) → IsTold first second (IsFirstTried first.goods first.bids second.bids) l → IsAnswer first second l
answer_told first second Equal t = absurd t
answer_told first second (Differ prices a b) t = record {
  equal = (λ e. absurd (cc), λ h. absurd (unlike h));
  canonical = λ ts us is also. (λ e. absurd (cc), λ e. absurd (unlike (λ p l. regrouped first.bids second.bids ((same_canon first.bids second.bids ts us is also).1 e) (with_null p))));
  differ = t.0;
  first_tried = t.1;
}
  where
    unlike : AreAlike first.goods first.bids second.bids → ⊥
    unlike h = t.0.apart (t.0.left ∙ h prices.items t.0.size ∙ sym t.0.right)

-- and so is Equal, where each value vector has the same weight in both
pub answer_equal : (first second : Book) → ((v : Offers) → weight_of v first.bids ≡ weight_of v second.bids) → IsAnswer first second Equal
answer_equal first second h = record {
  equal = (λ e p l. regrouped first.bids second.bids h (with_null p), λ a. refl);
  canonical = λ ts us is also. (λ e. (same_canon first.bids second.bids ts us is also).0 h, λ e. refl);
  differ = tt;
  first_tried = tt;
}

-- the answer of a search round the first value vector whose weights differ, where there is one
pub answer_by : (first second : Book) (o : Option Likeness) → AgreeLow first.goods first.bids second.bids
    → MatchOption o ((v : Offers) → weight_of v first.bids ≡ weight_of v second.bids) (IsTold first second (IsFirstAround first.goods first.bids second.bids))
    → IsAnswer first second (unwrap_or o Equal)
answer_by first second None low m = answer_equal first second m
answer_by first second (Some l) low m =
    answer_told first second l (told_more first second (IsFirstAround first.goods first.bids second.bids) (IsFirstTried first.goods first.bids second.bids) l (λ p i. inr (inr (low, i))) m)
