use Rattle.std.proofs.Common.{List, ℤ, [], zero, suc, refl, sym, subst, ℕ, ◌<◌, ◌^◌, ◌≡◌, ◌∙◌, ◌+◌, get_or, length, pos, to_z, of_z, w64, arith, ap}
use Rattle.std.proofs.Math.Pow.{pow-lt}
use Rattle.std.proofs.lemmas.Int.{ints}
use Rattle.std.proofs.lemmas.List.Elements.{All-get_or, All-same}
use Rattle.mix_num.specs.Ranges.{Lies}
use Rattle.mix_bids.specs.Offers.{IsOffer}
use Rattle.mix_bids.specs.Offers.{best, gain as gain_of}
use Rattle.mix_bids.specs.declared.best.Best.{Best}
use Rattle.std.proofs.lemmas.List.{take_all}
use Rattle.mix_num.specs.Vectors.{members, with_null}
use Rattle.mix_num.proofs.Masks.{members_above}
use Rattle.mix_bids.proofs.MoreOffers.{best_turn, gain_turn}
use Rattle.mix_bids.proofs.best.best_choices.Goals as goal
use Rattle.mix_bids.proofs.best.best_choices.Goals.{then-i-offers, else-i-offers}

pub with-best-requires-clause-offer : goal.with-best-requires-clause-offer
with-best-requires-clause-offer c =
    All-get_or IsOffer _ _ _ c.if-i-offers.true (All-same IsOffer _ _ c.as_slice-offers.ensures.value c.requires.bid.offers.each)

null_set : (ps : List ℤ) (k : ℕ) → members 1 k ≡ best [] (with_null ps) k
null_set ps zero = refl
null_set ps (suc k) = members_above 1 1 (suc k) (omega arith) (omega arith)

pub loop-i-init : goal.loop-i-init
loop-i-init c = record {
  gain = c.null-best.ensures.gain;
  set = λ k. ap (λ (z : ℕ). members z k) c.null-best.ensures.set ∙ null_set c.as_slice-prices.result.now k;
  range = let g = c.null-best.ensures.gain in (omega (arith, ints, g), omega (arith, ints, g));
  size = omega (arith, c.null-best.ensures.set, pow-lt {i = 0} {j = length c.as_slice-offers.result.now + 1} (omega arith));
}

pub loop-i-preserved : goal.loop-i-preserved
loop-i-preserved c =
    let vs = c.as_slice-offers.result.now in
    let ps = c.as_slice-prices.result.now in
    let i = c.loop-i.i in
    let before = c.loop-i.invariant in
    elim c.if-i-offers.branch [
      | then-i-offers w ↦
          let here = w.if-i-offers.true in
          let is = w.best-is in
          let r = All-get_or (Lies 4000000) _ i (pos 0) (omega (arith, ap length c.as_slice-prices.ensures.value, ap length c.as_slice-offers.ensures.value)) (All-same (Lies 4000000) _ _ c.as_slice-prices.ensures.value c.requires.prices.1) in
          let price : to_z w64 (of_z w64 (get_or ps i (pos 0))) ≡ get_or ps i (pos 0) = omega (arith, ints) in
          let e = w.with-best.ensures in
          let gain = gain_turn vs ps i _ _ _ here price before.gain e.gain in
          let size = e.size (length vs + 1) before.size (omega arith) in
          record {
            gain = ap (λ (b : Best). b.gain) is ∙ gain;
            set = λ k. ap (λ (b : Best). members b.set k) is ∙ e.set k ∙ best_turn vs ps i k _ _ _ _ here price before.gain gain (before.set k);
            range = let g = ap (λ (b : Best). b.gain) is in (omega (arith, ints, g, e.range.0), omega (arith, ints, g, e.range.1));
            size = omega (arith, ap (λ (b : Best). b.set) is, size);
          }
      | else-i-offers w ↦
          let is = w.best-is in
          let none = take_all i vs w.if-i-offers.false ∙ sym (take_all (i + 1) vs (omega (arith, w.if-i-offers.false))) in
          record {
            gain = ap (λ (b : Best). b.gain) is ∙ before.gain ∙ ap (λ z. gain_of z (with_null ps)) none;
            set = λ k. ap (λ (b : Best). members b.set k) is ∙ before.set k ∙ ap (λ z. best z (with_null ps) k) none;
            range = let g = ap (λ (b : Best). b.gain) is in (omega (arith, ints, g, before.range.0), omega (arith, ints, g, before.range.1));
            size = omega (arith, ap (λ (b : Best). b.set) is, before.size);
          }
    ]

pub returns-clause-best : goal.returns-clause-best
returns-clause-best c = λ k.
    c.loop-i.invariant.set k
    ∙ ap (λ z. best z (with_null c.as_slice-prices.result.now) k) (take_all c.loop-i.i c.as_slice-offers.result.now (omega (arith, ap length c.as_slice-offers.ensures.value)))
    ∙ ap (λ z. best z (with_null c.as_slice-prices.result.now) k) c.as_slice-offers.ensures.value
    ∙ ap (λ z. best c.args.bid.now.values.items (with_null z) k) c.as_slice-prices.ensures.value

pub returns-clause-within : goal.returns-clause-within
returns-clause-within c = subst (λ (n : ℕ). c.loop-i.best.set < 2 ^ (n + 1)) (ap length c.as_slice-offers.ensures.value ∙ c.requires.bid.offers.size) c.loop-i.invariant.size

pub returns-clause-gain : goal.returns-clause-gain
returns-clause-gain c =
    c.loop-i.invariant.gain
    ∙ ap (λ z. gain_of z (with_null c.as_slice-prices.result.now)) (take_all c.loop-i.i c.as_slice-offers.result.now (omega (arith, ap length c.as_slice-offers.ensures.value)))
    ∙ ap (λ z. gain_of z (with_null c.as_slice-prices.result.now)) c.as_slice-offers.ensures.value
    ∙ ap (λ z. gain_of c.args.bid.now.values.items (with_null z)) c.as_slice-prices.ensures.value
