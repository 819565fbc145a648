use Rattle.std.proofs.Common.{◌≡◌, [], All, length}
use Rattle.mix_serve.proofs.places.empty_bundles.Given as goal

abbrev pub invariant-loop : goal.invariant-loop
invariant-loop l = record { count : length l.bundles.items ≡ l.counter; empty : All (λ b. b.items ≡ []) l.bundles.items }
