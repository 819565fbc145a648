-- The names of an auction's goods have the form of names, and choices are written by them.
use Rattle.std.proofs.Common.{◌≡◌, ◌<◌, ◌≤◌, ◌-◌, true, ℕ, zero, suc, List, [], length, slice_index_or, arith, refl}
use Rattle.mix_text.specs.Spelling.{is_name}
use Rattle.mix_text.specs.declared.auction.Auction.{Auction}
use Rattle.mix_answer.specs.Outcomes.{choice_text}

-- the name of a choice that is a good
pub good_named : (auction : Auction) (choice : ℕ) → 0 < choice → choice ≤ length auction.goods → is_name (slice_index_or auction.goods (choice - 1) []) ≡ true
good_named auction choice some h = auction.sound.goods.form (choice - 1) [] (omega arith)

-- and how that choice is written
pub good_text : (goods : List (List ℕ)) (choice : ℕ) → 0 < choice → choice_text goods choice ≡ slice_index_or goods (choice - 1) []
good_text goods zero some = absurd (omega arith)
good_text goods (suc k) some = let before : suc k - 1 ≡ k = omega arith in rw before refl

-- the name of the good at a place
pub good_at_named : (auction : Auction) (j : ℕ) → j < length auction.goods → is_name (slice_index_or auction.goods j []) ≡ true
good_at_named auction j h = auction.sound.goods.form j [] h
