-- How many bytes a call takes.
use Rattle.std.proofs.Common.{◌≡◌, ◌≤◌, ℕ, suc, List, [], length, Option, Some, None, Result, Ok, Err, arith, refl, subst}
use Rattle.std.specs.Io.KnownBytes.{Consumes}
use Rattle.mix_io.specs.Taken.{IsCountFor, TakesFor}
use Rattle.mix_io.specs.declared.whole.ReadRefused.{ReadRefused}
use Rattle.mix_io.specs.declared.whole.ReadRefused.TheVariants as refused
use Rattle.mix_run.specs.Calls.{TakesAtMost}

consumes_none : (known : Option (List ℕ)) → Consumes known known []
consumes_none None = tt
consumes_none (Some bytes) = refl

-- what stays is taken from least
pub takes_none : (n : ℕ) (known : Option (List ℕ)) → TakesAtMost n known known
takes_none n known = ([], omega arith, consumes_none known)

count_at_most : {T : Type 0} (result : Result T ReadRefused) (limit n : ℕ) → IsCountFor result limit n → n ≤ suc limit
count_at_most (Ok bytes) limit n h = omega (arith, h)
count_at_most (Err refused.ReadFault) limit n h = omega (arith, h)
count_at_most (Err refused.TooLong) limit n h = omega (arith, h)
count_at_most (Err refused.Memory) limit n h = omega (arith, h)

-- a whole read takes one byte more than its limit at the most
pub takes_at_most : {T : Type 0} (result : Result T ReadRefused) (limit n : ℕ) (old new : Option (List ℕ)) → n ≡ suc limit → TakesFor result limit old new → TakesAtMost n old new
takes_at_most result limit n old new e taken = (taken.0, omega (arith, e, count_at_most result limit (length taken.0) taken.1), taken.2)

-- one in which a read failed takes its limit at the most
pub takes_unread : {T : Type 0} (result : Result T ReadRefused) (limit : ℕ) (old new : Option (List ℕ)) → result ≡ Err refused.ReadFault → TakesFor result limit old new → TakesAtMost limit old new
takes_unread {T} result limit old new is taken = (taken.0, subst (λ (r : Result T ReadRefused). IsCountFor r limit (length taken.0)) is taken.1, taken.2)
