-- The weight of a value vector in the first bids of a list, and its range.
use Rattle.std.proofs.Common.{◌≡◌, ℕ, zero, suc, ◌+◌, ◌*◌, ◌<◌, ◌≤◌, Bool, true, false, cond, List, [], ◌∷◌, ◌++◌, ℤ, pos, negsuc, neg_ℤ, ◌+ℤ◌, ◌*ℤ◌, ◌≤ℤ◌, refl, arith, sym, ap, ◌∙◌, get_or, length, take}
use Rattle.std.specs.Ordering.{is_eq}
use Rattle.std.proofs.lemmas.Int.{ints}
use Rattle.std.proofs.lemmas.List.{length-take, take_more}
use Rattle.std.proofs.lemmas.List.Elements.{All-head, All-tail, All-take}
use Rattle.mix_num.specs.Ranges.{Lies}
use Rattle.mix_num.proofs.Products.{*ℤ-sum}
use Rattle.mix_bids.specs.Offers.{Offers}
use Rattle.mix_bids.specs.Bids.{AreBids, IsBid}
use Rattle.mix_bids.specs.declared.bid.Bid.{Bid}
use Rattle.mix_canon.specs.Canons.{value_order, weight_of}

weight-append : (v : Offers) (bs : List Bid) (b : Bid) → weight_of v (bs ++ b ∷ []) ≡ cond (is_eq (value_order v b.values.items)) b.weight (pos 0) +ℤ weight_of v bs
weight-append v [] b = refl
weight-append v (d ∷ bs) b = let h = weight-append v bs b in omega (arith, ints)

factor_in : (f w : ℤ) (t : Bool) → f *ℤ cond t w (pos 0) ≡ cond t (f *ℤ w) (pos 0)
factor_in f w true = refl
factor_in f w false = omega (arith, ints)

-- one bid more
pub weight_more : (f : ℤ) (v : Offers) (bs : List Bid) (k : ℕ) (b : Bid) → k < length bs → b ≡ get_or bs k b
    → f *ℤ weight_of v (take (k + 1) bs) ≡ cond (is_eq (value_order v b.values.items)) (f *ℤ b.weight) (pos 0) +ℤ (f *ℤ weight_of v (take k bs))
weight_more f v bs k b l q =
    let t = is_eq (value_order v b.values.items) in
    let e = ap (weight_of v) (take_more bs k b l ∙ ap (λ (d : Bid). take k bs ++ d ∷ []) (sym q)) ∙ weight-append v (take k bs) b in
    ap (λ (a : ℤ). f *ℤ a) e ∙ *ℤ-sum f (cond t b.weight (pos 0)) (weight_of v (take k bs)) ∙ ap (λ (a : ℤ). a +ℤ (f *ℤ weight_of v (take k bs))) (factor_in f b.weight t)

-- ---- ranges
-- a number times -1, 0 or 1
times_lies : (f w : ℤ) → Lies 1 f → Lies 4000000 w → Lies 4000000 (f *ℤ w)
times_lies (pos zero) w l h = (omega (arith, ints), omega (arith, ints))
times_lies (pos (suc zero)) w l h = (omega (arith, ints, h.0), omega (arith, ints, h.1))
times_lies (pos (suc (suc k))) w l h = let r = l.1 in absurd (omega (arith, ints))
times_lies (negsuc zero) w l h = (omega (arith, ints, h.1), omega (arith, ints, h.0))
times_lies (negsuc (suc k)) w l h = let r = l.0 in absurd (omega (arith, ints))

some_weight : (t : Bool) (w : ℤ) → Lies 10000 w → Lies 10000 (cond t w (pos 0))
some_weight true w h = h
some_weight false w h = (omega (arith, ints), omega (arith, ints))

weight_each : (n : ℕ) (v : Offers) (bs : List Bid) → AreBids n bs → (neg_ℤ (pos (10000 * length bs)) ≤ℤ weight_of v bs) × (weight_of v bs ≤ℤ pos (10000 * length bs))
weight_each n v [] a = (omega (arith, ints), omega (arith, ints))
weight_each n v (b ∷ bs) a =
    let h = weight_each n v bs (All-tail (IsBid n) b bs a) in
    let w = some_weight (is_eq (value_order v b.values.items)) b.weight (All-head (IsBid n) b bs a).weight in
    (omega (arith, ints, h.0, w.0), omega (arith, ints, h.1, w.1))

pub weight_lies : (n : ℕ) (v : Offers) (bs : List Bid) → AreBids n bs → length bs ≤ 400 → Lies 4000000 (weight_of v bs)
weight_lies n v bs a few = let h = weight_each n v bs a in (omega (arith, ints, h.0), omega (arith, ints, h.1))

pub part_lies : (n : ℕ) (f : ℤ) (v : Offers) (bs : List Bid) (k : ℕ) → Lies 1 f → AreBids n bs → length bs ≤ 400 → Lies 4000000 (f *ℤ weight_of v (take k bs))
part_lies n f v bs k l a few =
    let e = length-take k bs in
    times_lies f (weight_of v (take k bs)) l (weight_lies n v (take k bs) (All-take (IsBid n) k bs a) (omega arith))
