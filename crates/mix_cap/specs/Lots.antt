-- The units of a list of bids by what they gain at prices. For proofs; no public clause rests on it.
use Rattle.std.specs.Prelude.{ℤ, ◌+ℤ◌, ◌*ℤ◌, ◌≤ℤ◌, pos, List, [], ◌∷◌, map, cond, int_lt}
use Rattle.std.specs.Int.{int_max}
use Rattle.mix_num.specs.Vectors.{Vector}
use Rattle.mix_bids.specs.Offers.{gain}
use Rattle.mix_bids.specs.declared.bid.Bid.{Bid}
use Rattle.mix_cap.specs.declared.lots.Lot.{Lot}

-- a lot for each bid: what each of its units gains, and how many they are
abbrev pub lot_of : Vector → Bid → Lot
lot_of x b = record { gain = gain b.values.items x; units = b.weight }

abbrev pub lots_of : Vector → List Bid → List Lot
lots_of x bs = map (lot_of x) bs

-- some number of each lot, together
abbrev pub sum_over : (Lot → ℤ) → List Lot → ℤ
sum_over number [] = pos 0
sum_over number (lot ∷ lots) = number lot +ℤ sum_over number lots

-- the units that gain more than a threshold
abbrev pub above : ℤ → Lot → ℤ
above z lot = cond (int_lt z lot.gain) lot.units (pos 0)

-- what the units gain, where each gains the threshold at least
abbrev pub lifted : ℤ → Lot → ℤ
lifted z lot = lot.units *ℤ int_max lot.gain z

-- the numbers of a lot lie in their ranges
pub record IsLot (lot : Lot) : Type 0 where
  pub gain : (pos 0 ≤ℤ lot.gain) × (lot.gain ≤ℤ pos 5000000)
  pub units : (pos 0 ≤ℤ lot.units) × (lot.units ≤ℤ pos 10000)
