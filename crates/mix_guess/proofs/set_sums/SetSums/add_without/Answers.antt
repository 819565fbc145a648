use Rattle.std.proofs.Common.{ℕ, ◌*◌, ◌<◌, Fits, w64, bit_and, arith}
use Rattle.std.proofs.lemmas.Nat.{and_le_l}
use Rattle.mix_guess.proofs.set_sums.SetSums.add_without.Goals as goal

-- a set within one of 512 is one of them
part_below : (set part : ℕ) → set < 512 → bit_and set part < 512
part_below set part h = let low = and_le_l set part in omega (arith, low, h)

part_fits : (set part : ℕ) → set < 512 → Fits w64 (bit_and set part * 8)
part_fits set part h = let low = and_le_l set part in omega (arith, low, h)

pub offset_bounds-self-bits : goal.offset_bounds-self-bits
offset_bounds-self-bits c = part_fits c.loop-bits.bits _ (omega (arith, c.loop-bits-test.true, c.sets_of-bits-end.ensures))

pub bounds-self-bits : goal.bounds-self-bits
bounds-self-bits c = part_below c.loop-bits.bits _ (omega (arith, c.loop-bits-test.true, c.sets_of-bits-end.ensures))
