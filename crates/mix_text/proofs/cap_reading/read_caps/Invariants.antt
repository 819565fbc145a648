use Rattle.std.proofs.Common.{◌≡◌, length, drop}
use Rattle.mix_text.specs.Caps.{no_caps}
use Rattle.mix_text.specs.Reading.{caps_from}
use Rattle.mix_text.proofs.cap_reading.read_caps.Given as goal

-- each bidder has a place for its cap, and the caps from here on are read as after those so far
abbrev pub invariant-loop-k : goal.invariant-loop-k
invariant-loop-k l = (length l.caps ≡ length l.bidders)
    × (caps_from l.format l.bidders (no_caps (length l.bidders)) (drop l.start l.rows) ≡ caps_from l.format l.bidders l.caps (drop l.k l.rows))
