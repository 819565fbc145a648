use Rattle.std.proofs.Common.{zero, suc, ℤ, pos, [], ◌∷◌, arith}
use Rattle.std.proofs.lemmas.Int.{ints}
use Rattle.mix_num.specs.Ranges.{Lies}
use Rattle.mix_ties.specs.Numbered.{LieWithin, room}
use Rattle.mix_ties.proofs.Contractions.{room-large}
use Rattle.mix_ties.proofs.contraction.tests.leaves_what_the_next_needs.Goals as goal

small-lies : (x : ℤ) → Lies 1 x → Lies (room 1) x
small-lies x h = let r = room-large 1 in (omega (arith, ints, h, r), omega (arith, ints, h, r))

-- four numbers of at most 1
four-lie : (a b c d : ℤ) → Lies 1 a → Lies 1 b → Lies 1 c → Lies 1 d → LieWithin 4 (room 1) (a ∷ b ∷ c ∷ d ∷ [])
four-lie a b c d p q r s zero h = small-lies a p
four-lie a b c d p q r s (suc zero) h = small-lies b q
four-lie a b c d p q r s (suc (suc zero)) h = small-lies c r
four-lie a b c d p q r s (suc (suc (suc zero))) h = small-lies d s
four-lie a b c d p q r s (suc (suc (suc (suc k)))) h = absurd (omega arith)

none : Lies 1 (pos 0)
none = (omega (arith, ints), omega (arith, ints))

one : Lies 1 (pos 1)
one = (omega (arith, ints), omega (arith, ints))

pub greatest-requires-clause-upper_range : goal.greatest-requires-clause-upper_range
greatest-requires-clause-upper_range g c = four-lie _ _ _ _ none one one one

pub greatest-requires-clause-lower_range : goal.greatest-requires-clause-lower_range
greatest-requires-clause-lower_range g c = four-lie _ _ _ _ none one none one

pub greatest-requires-2-clause-upper_range : goal.greatest-requires-2-clause-upper_range
greatest-requires-2-clause-upper_range g c = four-lie _ _ _ _ none one one one

pub greatest-requires-2-clause-lower_range : goal.greatest-requires-2-clause-lower_range
greatest-requires-2-clause-lower_range g c = four-lie _ _ _ _ none none none one
