use Rattle.std.proofs.Common.{◌≡◌, ℕ, ◌+◌, ◌*◌, ◌<◌, length, get_or}
use Rattle.mix_num.specs.Orders.{place_at}
use Rattle.mix_serve.proofs.places.pairs_in_place.Given as goal

-- the pairs so far are at their places
abbrev pub invariant-loop-place : goal.invariant-loop-place
invariant-loop-place l = record {
  count : length l.pairs.items ≡ length l.shared;
  placed : (k j : ℕ) → j < l.goods → k * l.goods + j < l.place
      → get_or l.pairs.items (place_at l.order k * l.goods + j) (record { upper = 0; lower = 0 }) ≡ get_or l.shared (k * l.goods + j) (record { upper = 0; lower = 0 });
}
