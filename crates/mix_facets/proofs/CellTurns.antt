-- Weights in cells, one bid at a time, and how far they lie from 0.
use Rattle.std.proofs.Common.{◌≡◌, ℕ, ◌*◌, Bool, true, false, cond, List, [], ◌∷◌, ◌++◌, ℤ, pos, arith, ap, ◌∙◌, length, take, drop, All}
use Rattle.std.proofs.lemmas.Int.{ints}
use Rattle.std.proofs.lemmas.List.{append-nil, drop_all, take_all}
use Rattle.std.proofs.lemmas.List.Elements.{All-head, All-tail}
use Rattle.mix_num.specs.Ranges.{Lies}
use Rattle.mix_bids.specs.Bids.{weight_where, IsBid}
use Rattle.mix_bids.specs.declared.bid.Bid.{Bid}

-- a slice that is written over the whole of a list
pub written_over : (n : ℕ) (new old : List ℤ) → length new ≡ n → length old ≡ n → take n (new ++ drop (length new) old) ≡ new
written_over n new old p q = ap (λ z. take n (new ++ z)) (drop_all (length new) old (omega arith)) ∙ ap (take n) (append-nil new) ∙ take_all n new (omega arith)

-- a weight or nothing
pub part_lies : (t : Bool) (w : ℤ) → Lies 10000 w → Lies 10000 (cond t w (pos 0))
part_lies true w h = h
part_lies false w h = (omega (arith, ints), omega (arith, ints))

-- the weight of the bids that pass a test
pub weight_lies : (n : ℕ) (p : Bid → Bool) (bs : List Bid) → All (IsBid n) bs → Lies (10000 * length bs) (weight_where p bs)
weight_lies n p [] h = (omega (arith, ints), omega (arith, ints))
weight_lies n p (b ∷ bs) h =
    let a = part_lies (p b) b.weight (All-head (IsBid n) b bs h).weight in
    let r = weight_lies n p bs (All-tail (IsBid n) b bs h) in
    (omega (arith, ints, a, r), omega (arith, ints, a, r))
