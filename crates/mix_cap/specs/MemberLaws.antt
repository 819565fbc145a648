-- A member of either kind: its function, and that it keeps the laws.
use Rattle.std.specs.Prelude.{ℕ, ℤ, pos}
use Rattle.mix_num.specs.Vectors.{Choices, Vector}
use Rattle.mix_bids.specs.Bids.{top_value, total_weight, utility}
use Rattle.mix_bids.specs.Reaches.{reach_of as list_reach}
use Rattle.mix_bids.specs.Caps.{capped_total}
use Rattle.mix_law.specs.Members.{IsLNatural}
use Rattle.mix_validity.specs.ValidLists.{book_of as list_of}
use Rattle.mix_validity.specs.Laws.{valid_l_natural}
use Rattle.mix_cap.specs.Cappeds.{book_of, units_cap, utility_of}
use Rattle.mix_cap.specs.Laws.{capped_l_natural}
use Rattle.mix_cap.specs.declared.member.Member.{Member}
use Rattle.mix_cap.specs.declared.member.Member.TheVariants.{Capped, List}

-- its goods
abbrev pub goods_of : Member → ℕ
goods_of (List valid) = (list_of valid).goods
goods_of (Capped capped) = (book_of capped).goods

-- its total
abbrev pub total_of : Member → ℤ
total_of (List valid) = total_weight (list_of valid).bids
total_of (Capped capped) = capped_total (units_cap capped) (book_of capped).bids

-- its tops
abbrev pub top_of : Member → ℕ → ℤ
top_of (List valid) = top_value (list_of valid).bids
top_of (Capped capped) = top_value (book_of capped).bids

-- its utility, with a price for each choice
abbrev pub function_of : Member → Vector → ℤ
function_of (List valid) = utility (list_of valid).bids
function_of (Capped capped) = utility_of capped

-- the number of steps that its reach tells
abbrev pub reach_of : Member → Vector → Choices → ℤ
reach_of (List valid) x s = list_reach (list_of valid).goods s (list_of valid).bids x
reach_of (Capped capped) x s = pos 1

-- the laws
pub member_l_natural : (member : Member) → IsLNatural (goods_of member) (function_of member) (total_of member) (top_of member)
member_l_natural (List valid) = valid_l_natural valid.list.goods valid.list.bids valid.proper valid.valid
member_l_natural (Capped capped) = capped_l_natural capped.list.goods (units_cap capped) capped.list.bids capped.proper capped.positive
