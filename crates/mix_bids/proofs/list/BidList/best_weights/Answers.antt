use Rattle.std.proofs.Common.{◌∙◌, ◌≡◌, List, ℕ, ℤ, ap, arith, pos, replicate}
use Rattle.std.proofs.lemmas.Int.{ints}
use Rattle.mix_num.specs.Tables.{number_of}
use Rattle.mix_bids.proofs.Tallies.{sizes_none, zeros}
use Rattle.mix_bids.proofs.list.BidList.best_weights.Goals as goal

none : (table : List ℤ) → table ≡ replicate 512 (pos 0) → (k : ℕ) → number_of table k ≡ pos 0
none table e k = ap (λ (z : List ℤ). number_of z k) e ∙ zeros 512 k

pub add_best_weights-requires-clause-small : goal.add_best_weights-requires-clause-small
add_best_weights-requires-clause-small c = let e = sizes_none c.new.result (none c.new.result c.new.ensures) in omega (arith, ints)

pub returns-clause-weights : goal.returns-clause-weights
returns-clause-weights c = λ set h. let e = c.add_best_weights.ensures.weights set h in let z = none c.new.result c.new.ensures set in omega (arith, ints)

pub returns-clause-small : goal.returns-clause-small
returns-clause-small c = let e = sizes_none c.new.result (none c.new.result c.new.ensures) in let s = c.add_best_weights.ensures.small in omega (arith, ints)
