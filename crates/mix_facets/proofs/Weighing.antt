-- The weight of the bids that pass a test, one bid at a time.
use Rattle.std.proofs.Common.{◌≡◌, ℕ, ◌+◌, ◌≤◌, ◌<◌, Bool, cond, List, ℤ, pos, ◌+ℤ◌, arith, ap, length, get_or, drop}
use Rattle.std.proofs.lemmas.Int.{ints}
use Rattle.std.proofs.lemmas.List.{drop_more, drop_all}
use Rattle.mix_bids.specs.Bids.{weight_where}
use Rattle.mix_bids.specs.declared.bid.Bid.{Bid}

pub weight_step : (p : Bid → Bool) (bs : List Bid) (k : ℕ) (b : Bid) (w sum more total : ℤ) → k < length bs → b ≡ get_or bs k b → w ≡ cond (p b) b.weight (pos 0) → more ≡ sum +ℤ w → sum +ℤ weight_where p (drop k bs) ≡ total → more +ℤ weight_where p (drop (k + 1) bs) ≡ total
weight_step p bs k b w sum more total l q e m h =
    let u : weight_where p (drop k bs) ≡ cond (p (get_or bs k b)) (get_or bs k b).weight (pos 0) +ℤ weight_where p (drop (k + 1) bs) = ap (weight_where p) (drop_more bs k b l) in
    let v : cond (p b) b.weight (pos 0) ≡ cond (p (get_or bs k b)) (get_or bs k b).weight (pos 0) = ap (λ z. cond (p z) z.weight (pos 0)) q in
    omega (arith, ints)

pub weight_end : (p : Bid → Bool) (bs : List Bid) (k : ℕ) (sum total : ℤ) → length bs ≤ k → sum +ℤ weight_where p (drop k bs) ≡ total → sum ≡ total
weight_end p bs k sum total l h =
    let e : weight_where p (drop k bs) ≡ pos 0 = ap (weight_where p) (drop_all k bs l) in
    omega (arith, ints)
