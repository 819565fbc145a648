use Rattle.std.proofs.Common.{◌≡◌, ℕ, ◌<◌, [], length, get_or, map}
use Rattle.mix_num.specs.Orders.{place_at}
use Rattle.mix_serve.proofs.places.bundles_in_place.Given as goal

-- the bundles of the turns so far are at their places
abbrev pub invariant-loop-turn : goal.invariant-loop-turn
invariant-loop-turn l = record {
  count : length l.bundles.items ≡ length l.shared;
  placed : (k : ℕ) → k < l.turn → get_or (map (λ b. b.items) l.bundles.items) (place_at l.order k) [] ≡ get_or (map (λ b. b.items) l.shared) k [];
}
