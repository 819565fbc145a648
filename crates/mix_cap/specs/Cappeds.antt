-- What contracts see of a capped bidder.
use Rattle.std.specs.Prelude.{ℕ, ℤ}
use Rattle.std.specs.Int.RustNames.{unsigned_abs}
use Rattle.mix_num.specs.Vectors.{Vector}
use Rattle.mix_bids.specs.Bids.{Book}
use Rattle.mix_bids.specs.Caps.{capped_utility}
use Rattle.mix_cap.specs.declared.capped.Capped.{Capped}

-- its goods and its bids
abbrev pub book_of : Capped → Book
book_of capped = capped.list

-- its cap
abbrev pub cap_of : Capped → ℤ
cap_of capped = capped.cap

-- its cap as a count of units
abbrev pub units_cap : Capped → ℕ
units_cap capped = unsigned_abs capped.cap

-- its utility, with a price for each choice
abbrev pub utility_of : Capped → Vector → ℤ
utility_of capped = capped_utility (units_cap capped) (book_of capped).bids
