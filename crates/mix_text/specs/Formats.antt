-- The formats of an auction's text, and how much of each quantity they let stand.
use Rattle.std.specs.Prelude.{◌≡◌, ◌≤◌, ◌==◌, Bool, false, ℕ, nat_le, nat_lt, if◌then◌else◌, Option, Some, None}
use Rattle.mix_text.specs.declared.formats.Limits.{Limits}

-- the formats that there are, by their numbers: 1 to 3
abbrev pub IsFormat : ℕ → Type 0
IsFormat format = (1 ≤ format) × (format ≤ 3)

-- the limits of `mix,1`, and those of `mix,2` and `mix,3`
abbrev pub mix_one : Limits
mix_one = record { goods = 5; bidders = 64; bids = 400; negatives = Some 12; cells = None }

abbrev pub mix_two : Limits
mix_two = record { goods = 8; bidders = 256; bids = 400; negatives = None; cells = Some 4194304 }

-- the limits of a format
unfoldable pub limits_of : ℕ → Limits
limits_of format = if format == 1 then mix_one else mix_two

-- whether a text of a format may state the tie order: from format 2 on
abbrev pub has_order : ℕ → Bool
has_order format = nat_le 2 format

-- whether a text of a format may give bidders caps: from format 3 on
abbrev pub has_caps : ℕ → Bool
has_caps format = nat_le 3 format

-- whether a count is greater than a limit, where there is one
abbrev pub is_past : Option ℕ → ℕ → Bool
is_past None count = false
is_past (Some most) count = nat_lt most count

-- limits that let no more stand than an auction may hold, nor more cells than are counted
pub record AreLimits (limits : Limits) : Type 0 where
  pub goods : limits.goods ≤ 8
  pub bidders : limits.bidders ≤ 256
  pub bids : limits.bids ≤ 400
  pub cells : (most : ℕ) → limits.cells ≡ Some most → most ≤ 4194304
