-- The number of the pair of a bidder and a good, from what the checker has at the bidder's turn.
use Rattle.std.proofs.Common.{◌≡◌, ◌≢◌, ℕ, ◌<◌, ℤ, pos, ◌+ℤ◌, ◌-ℤ◌, List, [], length, get_or, sym, ap, ap₂, ◌∙◌, subst, arith, w64, to_z, of_z}
use Rattle.std.proofs.lemmas.Int.{ints}
use Rattle.mix_num.specs.Orders.{in_order, place_at}
use Rattle.mix_num.specs.Pairs.{IsPair, IsTightOf, floor_at, sum_before}
use Rattle.mix_num.specs.Ranges.{Lies}
use Rattle.mix_num.specs.Sellers.{IsAmount}
use Rattle.mix_num.specs.Tables.{number_of}
use Rattle.mix_num.specs.declared.pair.Tight.{Tight}
use Rattle.mix_law.specs.Certificates.{tables_at}
use Rattle.mix_text.specs.Auctions.{AuctionText, IsAuction}
use Rattle.mix_answer.specs.Shapes.{AreSets, HasAnswerShape}
use Rattle.mix_answer.specs.Truths.{bundles_of, pair_of}
use Rattle.mix_answer.specs.Utilities.{utilities_of}
use Rattle.mix_answer.specs.declared.outcome.Answer.{Answer}
use Rattle.mix_answer.specs.declared.share.Share.{Share}
use Rattle.mix_check.specs.Reasons.{IsNotTight, bundle_of, number_at}
use Rattle.mix_check.specs.Tests.{AreAtTurn, HasTightPair}
use Rattle.mix_check.proofs.AuctionFacts.{bundle-read}
use Rattle.mix_check.proofs.Truths.{bundle-in_turn}

word-far : (x : ℤ) → Lies 9000000000000 x → to_z w64 (of_z w64 x) ≡ x
word-far x l = omega (arith, ints, l.0, l.1)

pub word-equal : (x y : ℤ) → of_z w64 x ≡ of_z w64 y → Lies 9000000000000 x → IsAmount y → x ≡ y
word-equal x y e l a = let f = ap (to_z w64) e in omega (arith, ints, f, l.0, l.1, a.0, a.1)

-- a pair that is another's, over as many goods
pub pair-same : (n m j : ℕ) (pair own : Tight) → m ≡ n → pair ≡ own → IsPair m j pair.upper pair.lower → IsPair n j own.upper own.lower
pair-same n m j pair own e f right = subst (λ (p : Tight). IsPair n j p.upper p.lower) f (subst (λ (k : ℕ). IsPair k j pair.upper pair.lower) e right)

-- a bidder and its turn
module _ (a : AuctionText) (answer : Answer) (sound : IsAuction a) (shape : HasAnswerShape a answer) (k bidder j : ℕ) (l : k < length a.bidders) (served : bidder ≡ place_at a.order k) where
  abbrev tables : List (List ℤ)
  tables = tables_at (utilities_of a) a.supply a.reserve answer.prices.items a.order

  abbrev bundles : List (List ℤ)
  bundles = in_order a.order (bundles_of answer)

  -- the number of a pair, from a table's number, what must be given, and a bundle
  abbrev numbered : ℤ → ℤ → List ℤ → Tight → ℤ
  numbered number needed bundle pair = ((number -ℤ sum_before j bundle pair.upper) -ℤ needed) +ℤ sum_before j bundle pair.lower

  turned : pair_of (length a.goods) answer (place_at a.order k) j ≡ pair_of (length a.goods) answer bidder j
  turned = ap (λ (i : ℕ). pair_of (length a.goods) answer i j) (sym served)

  in_turn : k < length a.order
  in_turn = let size = sound.order.size in omega (arith, l, size)

  inside : bidder < length a.bidders
  inside = let w = sound.order.within k l in omega (arith, served, w)

  mine : get_or bundles k [] ≡ bundle_of answer bidder
  mine = bundle-in_turn a answer sound shape k bidder in_turn (sym served)

  -- what is worked out is the bidder's number of the good's pair
  pub bound-is : (table floor : List ℤ) → AreAtTurn a answer k table floor → (pair : Tight) → pair ≡ pair_of (length a.goods) answer bidder j → AreSets (length a.goods) pair → (share : Share) → share ≡ get_or answer.shares bidder share
      → (number : ℤ) → number ≡ number_of table pair.upper → Lies 4000000000 number → (place : ℕ) → place ≡ pair.lower
      → (bound : ℤ) → bound ≡ numbered (to_z w64 (of_z w64 number)) (to_z w64 (of_z w64 (get_or floor place (pos 0)))) share.bundle.items pair → Lies 9000000000000 bound
      → to_z w64 (of_z w64 bound) ≡ number_at a answer k j
  bound-is table floor turn pair own sets share got number upper lies place lower bound value near =
      let needed = ap (λ (set : ℕ). number_of floor set) lower in
      let range = turn.range pair.lower sets.1 in
      let first : to_z w64 (of_z w64 number) ≡ number_of table pair.upper = omega (arith, ints, upper, lies.0, lies.1) in
      let second : to_z w64 (of_z w64 (get_or floor place (pos 0))) ≡ number_of floor pair.lower = omega (arith, ints, needed, range.0, range.1) in
      word-far bound near ∙ value
      ∙ ap₂ (λ (x y : ℤ). numbered x y share.bundle.items pair) first (second ∙ turn.needed pair.lower sets.1)
      ∙ ap₂ (λ (t b : List ℤ). numbered (number_of t pair.upper) (floor_at (length a.goods) tables a.supply bundles k pair.lower) b pair) turn.own (bundle-read a answer shape bidder share inside got ∙ sym mine)
      ∙ ap (λ (p : Tight). numbered (number_of (get_or tables k []) p.upper) (floor_at (length a.goods) tables a.supply bundles k p.lower) (get_or bundles k []) p) (own ∙ sym turned)

  module _ (bound : ℤ) (number : bound ≡ number_at a answer k j) where
    -- it isn't what the bidder has
    pub not_tight : Lies 9000000000000 bound → bound ≢ get_or (bundle_of answer bidder) j (pos 0) → IsNotTight a answer bidder j (to_z w64 (of_z w64 bound))
    not_tight lies other = rw (word-far bound lies) record { turn = k; within = in_turn; served = sym served; number = number; other = other }

    -- it is
    pub is_tight : bound ≡ get_or (bundle_of answer bidder) j (pos 0) → IsPair (length a.goods) j (pair_of (length a.goods) answer bidder j).upper (pair_of (length a.goods) answer bidder j).lower → HasTightPair a answer k j
    is_tight same right =
        let p : Tight = pair_of (length a.goods) answer (place_at a.order k) j in
        let tight : IsTightOf (length a.goods) tables a.supply bundles k j p.upper p.lower = record {
          pair = subst (λ (q : Tight). IsPair (length a.goods) j q.upper q.lower) (sym turned) right;
          number = sym number ∙ same ∙ ap (λ (b : List ℤ). get_or b j (pos 0)) (sym mine);
        } in
        subst (λ (n : ℕ). IsTightOf n tables a.supply bundles k j p.upper p.lower) (sym sound.supply.0) tight

  -- where its pair is tight no reason against it holds
  module _ (tight : HasTightPair a answer k j) where
    own : IsTightOf (length a.goods) tables a.supply bundles k j (pair_of (length a.goods) answer (place_at a.order k) j).upper (pair_of (length a.goods) answer (place_at a.order k) j).lower
    own = let p : Tight = pair_of (length a.goods) answer (place_at a.order k) j in subst (λ (n : ℕ). IsTightOf n tables a.supply bundles k j p.upper p.lower) sound.supply.0 tight

    pub paired : IsPair (length a.goods) j (pair_of (length a.goods) answer bidder j).upper (pair_of (length a.goods) answer bidder j).lower
    paired = subst (λ (q : Tight). IsPair (length a.goods) j q.upper q.lower) turned own.pair

    pub none_else : (other : ℤ) → ¬ IsNotTight a answer bidder j other
    none_else other wrong =
        let size = sound.order.size in
        let within = wrong.within in
        let turn : wrong.turn ≡ k = sound.order.once wrong.turn k (omega (arith, within, size)) l (wrong.served ∙ served) in
        wrong.other (wrong.number ∙ ap (λ (i : ℕ). number_at a answer i j) turn ∙ own.number ∙ ap (λ (b : List ℤ). get_or b j (pos 0)) mine)
