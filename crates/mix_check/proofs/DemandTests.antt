-- What the demand test tells of a bidder's bundle; and the tables of one bidder more.
use Rattle.std.proofs.Common.{◌≡◌, ℕ, suc, ◌^◌, ◌+◌, ◌≤◌, ◌<◌, ◌≤ℤ◌, ◌<ℤ◌, ℤ, List, [], ◌∷◌, ◌++◌, length, get_or, refl, sym, ap, ◌∙◌, subst, arith, ⊎_elim, eq-or-lt_of_le, length-append}
use Rattle.std.proofs.Math.Seq.{get_or-append_seam}
use Rattle.std.proofs.lemmas.Bool.{cases_lt}
use Rattle.std.proofs.lemmas.List.{get_or_append_left, get_or_default}
use Rattle.mix_num.specs.Vectors.{Vector}
use Rattle.mix_num.specs.Tables.{Fits, IsProper, number_of, share_in}
use Rattle.mix_law.specs.Demands.{IsDemanded, IsTableOf, table_of}
use Rattle.mix_law.proofs.Demanded.{demanded-where_fits, fits-where_demanded}
use Rattle.mix_law.specs.Clearings.{bidder_utility}
use Rattle.mix_clearing.proofs.TableLists.{is-table_of}
use Rattle.mix_cap.specs.MemberLaws.{function_of, goods_of}
use Rattle.mix_cap.specs.declared.member.Member.{Member}
use Rattle.mix_text.specs.Auctions.{AuctionText, IsAuction}
use Rattle.mix_answer.specs.Refusals.{AreConvex}
use Rattle.mix_answer.specs.Shapes.{HasAnswerShape}
use Rattle.mix_answer.specs.Utilities.{utilities_of}
use Rattle.mix_answer.specs.declared.outcome.Answer.{Answer}
use Rattle.mix_answer.specs.declared.share.Share.{Share}
use Rattle.mix_check.specs.Reasons.{IsOverDemand, bundle_of}
use Rattle.mix_answer.proofs.Entrants.{utility-there}
use Rattle.mix_check.specs.Tests.{AreTablesOfFirst, StandsFor}
use Rattle.mix_check.proofs.AuctionFacts.{bundle-amounts, bundle-read, laws-at}

module _ (a : AuctionText) (answer : Answer) (sound : IsAuction a) (shape : HasAnswerShape a answer) (convex : AreConvex a) (k : ℕ) (l : k < length a.bidders)
    (tables : List (List ℤ)) (are : AreTablesOfFirst a answer.prices.items (length a.bidders) tables) (table : List ℤ) (read : table ≡ get_or tables k table) (share : Share) (got : share ≡ get_or answer.shares k share) where
  abbrev n : ℕ
  n = length a.goods

  abbrev f : Vector → ℤ
  f = bidder_utility (utilities_of a) k

  abbrev bundle : List ℤ
  bundle = share.bundle.items

  own : bundle ≡ bundle_of answer k
  own = bundle-read a answer shape k share l got

  is : IsTableOf n f answer.prices.items table
  is = let count = are.count in subst (λ (t : List ℤ). IsTableOf n f answer.prices.items t) (sym (read ∙ get_or_default tables k table [] (omega (arith, l, count)))) (are.are k l)

  size : length bundle ≡ n
  size = ap (λ (xs : List ℤ). length xs) own ∙ (bundle-amounts a answer shape k l).0

  -- it is demanded where it fits
  pub does_demand : Fits (length bundle) table bundle → IsDemanded n f answer.prices.items (bundle_of answer k)
  does_demand fits =
      subst (λ (b : List ℤ). IsDemanded n f answer.prices.items b) own
      (demanded-where_fits (laws-at a sound convex k l).l_natural answer.prices.items table bundle shape.prices.0 size is (subst (λ (m : ℕ). Fits m table bundle) size fits))

  -- and isn't where some set has too much
  pub over_demand : (set : ℕ) → ¬ Fits (length bundle) table bundle → number_of table set <ℤ share_in (length bundle) table bundle set
      → ((s : ℕ) → s < set → share_in (length bundle) table bundle s ≤ℤ number_of table s) → IsOverDemand n f answer.prices.items (bundle_of answer k) set
  over_demand set misfits more least =
      let same : table ≡ table_of n f answer.prices.items = is-table_of n f answer.prices.items table is in
      record {
        undemanded = λ demanded. misfits (subst (λ (m : ℕ). Fits m table bundle) (sym size)
            (fits-where_demanded (laws-at a sound convex k l).l_natural answer.prices.items table bundle shape.prices.0 size is (subst (λ (b : List ℤ). IsDemanded n f answer.prices.items b) (sym own) demanded)));
        choices = ⊎_elim
            (λ (h : set < 2 ^ suc n). h)
            (λ (h : 2 ^ suc n ≤ set). absurd (misfits (record { size = refl; within = λ s q. least s (omega (arith, q, h, ap (λ (m : ℕ). 2 ^ suc m) size)) })))
            (cases_lt set (2 ^ suc n));
        more = subst (λ (t : List ℤ). number_of t set <ℤ share_in n t (bundle_of answer k) set) same
            (subst (λ (b : List ℤ). number_of table set <ℤ share_in n table b set) own (subst (λ (m : ℕ). number_of table set <ℤ share_in m table bundle set) size more));
        least = λ s h.
            subst (λ (t : List ℤ). share_in n t (bundle_of answer k) s ≤ℤ number_of t s) same
            (subst (λ (b : List ℤ). share_in n table b s ≤ℤ number_of table s) own (subst (λ (m : ℕ). share_in m table bundle s ≤ℤ number_of table s) size (least s h)));
      }

-- the table of one bidder more
pub one_more_table : (a : AuctionText) (prices : List ℤ) (k : ℕ) (tables now : List (List ℤ)) (table : List ℤ) (member : Member) → k < length a.bidders → StandsFor a k member
    → IsTableOf (goods_of member) (function_of member) prices table → IsProper (goods_of member) table → now ≡ tables ++ table ∷ [] → AreTablesOfFirst a prices k tables → AreTablesOfFirst a prices (k + 1) now
one_more_table a prices k tables now table member l stands is proper added first = record {
  count = ap (λ (xs : List (List ℤ)). length xs) added ∙ length-append tables (table ∷ []) ∙ (let c = first.count in let e : length tables + 1 ≡ k + 1 = omega (arith, c) in e);
  are = λ j h. ⊎_elim
      (λ (e : j ≡ k). subst (λ (i : ℕ). IsTableOf (length a.goods) (bidder_utility (utilities_of a) i) prices (get_or now i [])) (sym e) (subst (λ (t : List ℤ). IsTableOf (length a.goods) (bidder_utility (utilities_of a) k) prices t) (sym here) here-is))
      (λ (q : j < k). subst (λ (t : List ℤ). IsTableOf (length a.goods) (bidder_utility (utilities_of a) j) prices t) (sym (before j q)) (first.are j q))
      (eq-or-lt_of_le (let m : j ≤ k = omega (arith, h) in m));
  proper = λ j h. ⊎_elim
      (λ (e : j ≡ k). subst (λ (i : ℕ). IsProper (length a.goods) (get_or now i [])) (sym e) (subst (IsProper (length a.goods)) (sym here) (subst (λ (n : ℕ). IsProper n table) stands.goods proper)))
      (λ (q : j < k). subst (IsProper (length a.goods)) (sym (before j q)) (first.proper j q))
      (eq-or-lt_of_le (let m : j ≤ k = omega (arith, h) in m));
}
  where
    here-is : IsTableOf (length a.goods) (bidder_utility (utilities_of a) k) prices table
    here-is =
        subst (λ (f : Vector → ℤ). IsTableOf (length a.goods) f prices table) (stands.utility ∙ sym (utility-there a k l))
        (subst (λ (n : ℕ). IsTableOf n (function_of member) prices table) stands.goods is)

    here : get_or now k [] ≡ table
    here =
        ap (λ (xs : List (List ℤ)). get_or xs k []) added
        ∙ ap (λ (i : ℕ). get_or (tables ++ table ∷ []) i []) (sym first.count)
        ∙ get_or-append_seam tables table [] []

    before : (j : ℕ) → j < k → get_or now j [] ≡ get_or tables j []
    before j q = ap (λ (xs : List (List ℤ)). get_or xs j []) added ∙ get_or_append_left tables (table ∷ []) [] j (let c = first.count in omega (arith, q, c))
