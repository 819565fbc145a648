use Rattle.std.proofs.Common.{◌≡◌, ◌∙◌, ◌&&◌, ◌<◌, ◌^◌, ◌+◌, ℕ, ℤ, suc, Bool, true, pos, ◌+ℤ◌, ◌-ℤ◌, int_lt, ap, ap₂, arith, length, subst, sym, to_z, of_z, w64, add-one}
use Rattle.std.proofs.lemmas.Int.{ints, clamps}
use Rattle.std.proofs.lemmas.Nat.{pow_pos}
use Rattle.std.specs.Int.{int_max}
use Rattle.std.specs.Ordering.{int_eq}
use Rattle.mix_num.specs.Vectors.{members, with_null}
use Rattle.mix_num.specs.Tables.{number_of}
use Rattle.mix_num.proofs.Masks.{whole_members}
use Rattle.mix_bids.specs.Bids.{AreBids, weight_where}
use Rattle.mix_bids.specs.Offers.{best, gain, within}
use Rattle.mix_bids.specs.declared.bid.Bid.{Bid}
use Rattle.mix_cap.proofs.Chosen.{all_within, weight_range}
use Rattle.mix_cap.proofs.tallies.fallen.Goals as goal

abbrev over : (c : goal.After-level-4-1) → Bid → Bool
over c b = int_lt (pos c.args.threshold) (gain b.values.items (with_null c.args.prices.now.items))

abbrev even : (c : goal.After-level-4-1) → Bid → Bool
even c b = int_eq (gain b.values.items (with_null c.args.prices.now.items)) (pos c.args.threshold)

abbrev within_set : (c : goal.After-level-4-1) → (Bid → Bool) → ℕ → ℤ
within_set c p set = weight_where (λ b. p b && within (suc c.args.list.now.goods) (best b.values.items (with_null c.args.prices.now.items)) (members set)) c.args.list.now.bids

above_is : (c : goal.After-level-4-1) (set : ℕ) → set < 2 ^ suc c.args.list.now.goods → number_of c.subset_sums.new.self set ≡ within_set c (over c) set
above_is c set h = c.subset_sums.ensures.sums set (subst (λ (n : ℕ). set < 2 ^ suc n) (sym c.goods-goods.ensures.value) h) ∙ c.add_by_gain.ensures.above set h

level_is : (c : goal.After-level-4-1) (set : ℕ) → set < 2 ^ suc c.args.list.now.goods → number_of c.subset_sums-2.new.self set ≡ within_set c (even c) set
level_is c set h = c.subset_sums-2.ensures.sums set (subst (λ (n : ℕ). set < 2 ^ suc n) (sym c.goods-goods.ensures.value) h) ∙ c.add_by_gain.ensures.level set h

bids_of : (c : goal.After-level-4-1) → AreBids c.args.list.now.goods c.args.list.now.bids
bids_of c = subst (AreBids c.args.list.now.goods) c.bids-bids.ensures.value c.bids-bids.ensures.proper

-- the set of all choices
whole_below : (c : goal.After-level-4-1) → c.whole-whole.result < 2 ^ suc c.args.list.now.goods
whole_below c = let power : 2 ^ (c.goods-goods.result + 1) ≡ 2 ^ suc c.args.list.now.goods = ap (λ (n : ℕ). 2 ^ n) (add-one c.goods-goods.result ∙ ap suc c.goods-goods.ensures.value) in omega (arith, pow_pos (suc c.args.list.now.goods), c.whole-whole.ensures)

whole_has : (c : goal.After-level-4-1) (k : ℕ) → k < suc c.args.list.now.goods → members c.whole-whole.result k ≡ true
whole_has c k h = let g = c.goods-goods.ensures.value in ap (λ (v : ℕ). members v k) c.whole-whole.ensures ∙ whole_members c.goods-goods.result k (omega arith)

spare_is : (c : goal.After-level-4-1) → to_z w64 (of_z w64 (to_z w64 (of_z w64 (to_z w64 (of_z w64 c.at.result) +ℤ to_z w64 (of_z w64 c.at-2.result))) -ℤ to_z w64 (of_z w64 c.args.served)))
    ≡ (weight_where (over c) c.args.list.now.bids +ℤ weight_where (even c) c.args.list.now.bids) -ℤ c.args.served
spare_is c =
    let n = c.args.list.now.goods in
    let bs = c.args.list.now.bids in
    let x = with_null c.args.prices.now.items in
    let whole = c.whole-whole.result in
    let a = c.at.ensures.value ∙ above_is c whole (whole_below c) ∙ all_within n (over c) bs x whole (whole_has c) in
    let b = c.at-2.ensures.value ∙ level_is c whole (whole_below c) ∙ all_within n (even c) bs x whole (whole_has c) in
    let p = weight_range n (over c) bs (bids_of c) c.requires.positive in
    let q = weight_range n (even c) bs (bids_of c) c.requires.positive in
    let few = ap (λ xs. length xs) c.bids-bids.ensures.value in
    let least = c.bids-bids.ensures.few in
    let s = c.requires.served in
    omega (arith, ints, a, b, p.0, p.1, q.0, q.1, few, least, s.0, s.1)

pub add_passing-requires-clause-range : goal.add_passing-requires-clause-range
add_passing-requires-clause-range c = λ set h.
    let n = c.args.list.now.goods in
    let bs = c.args.list.now.bids in
    let x = with_null c.args.prices.now.items in
    let here = subst (λ (m : ℕ). set < 2 ^ suc m) c.goods-goods.ensures.value h in
    let a = above_is c set here in
    let b = level_is c set here in
    let e = spare_is c in
    let few = ap (λ xs. length xs) c.bids-bids.ensures.value in
    let least = c.bids-bids.ensures.few in
    let s = c.requires.served in
    let o = weight_range n (over c) bs (bids_of c) c.requires.positive in
    let v = weight_range n (even c) bs (bids_of c) c.requires.positive in
    let p = weight_range n (λ b. over c b && within (suc n) (best b.values.items x) (members set)) bs (bids_of c) c.requires.positive in
    let q = weight_range n (λ b. even c b && within (suc n) (best b.values.items x) (members set)) bs (bids_of c) c.requires.positive in
    (omega (arith, ints, clamps, a, b, e, o.0, o.1, v.0, v.1, p.0, p.1, q.0, q.1, few, least, s.0, s.1), omega (arith, ints, clamps, a, b, e, o.0, o.1, v.0, v.1, p.0, p.1, q.0, q.1, few, least, s.0, s.1))

pub returns : goal.returns
returns c = record {
  falls = λ set h.
      let b = c.before in
      let here = subst (λ (m : ℕ). set < 2 ^ suc m) (sym c.goods-goods.ensures.value) h in
      c.add_passing.ensures set here
      ∙ ap₂ (λ (u v : ℤ). u +ℤ int_max (pos 0) v) (above_is b set h) (ap₂ (λ (u v : ℤ). u -ℤ v) (level_is b set h) (spare_is b));
}
