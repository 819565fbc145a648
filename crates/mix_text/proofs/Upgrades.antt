-- An auction of format 1 is one of format 2, and keeps to its limits.
use Rattle.std.proofs.Common.{◌≡◌, ◌≤◌, false, ℕ, List, length, arith, refl, subst, All, nat_lt}
use Rattle.std.specs.Prelude.{count_by}
use Rattle.std.proofs.lemmas.Bool.Decides.{nat_tests}
use Rattle.mix_bids.specs.Bids.{Book}
use Rattle.mix_bids.specs.Cells.{cells}
use Rattle.mix_text.specs.Auctions.{AuctionText, IsAuction}
use Rattle.mix_text.specs.Formats.{limits_of, mix_one, mix_two}
use Rattle.mix_text.specs.Limits.{BidsMeet, MeetsLimits}
use Rattle.mix_text.specs.Reading.{is_negative}
use Rattle.mix_text.specs.declared.formats.Limits.{Limits}
use Rattle.mix_text.proofs.FewCells.{few_cells}

pub is_of_two : (a : AuctionText) → IsAuction a → a.format ≡ 1 → IsAuction (record a { format = 2 })
is_of_two a s one = record {
  format = (omega arith, omega arith);
  some_goods = s.some_goods;
  few_goods = s.few_goods;
  goods = s.goods;
  supply = s.supply;
  reserve = s.reserve;
  names = s.names;
  few_bidders = s.few_bidders;
  books = s.books;
  caps = s.caps;
  order = s.order;
  first_format = λ e. absurd (omega (arith, e));
  uncapped = λ two. s.uncapped (omega (arith, one));
}

-- a list over few goods that meets the limits of format 1 meets those of format 2
list_meets : (list : Book) → list.goods ≤ 5 → BidsMeet mix_one list → BidsMeet mix_two list
list_meets list g m = record {
  bids = m.bids;
  negatives = refl;
  cells = let few : count_by is_negative list.bids ≤ 12 = let h = m.negatives in within 12 (count_by is_negative list.bids) h in
      not_past 4194304 (cells list) (few_cells list g few);
}
  where
    within : (most n : ℕ) → nat_lt most n ≡ false → n ≤ most
    within most n h = grind (arith, nat_tests)

    not_past : (most n : ℕ) → n ≤ most → nat_lt most n ≡ false
    not_past most n h = grind (arith, nat_tests)

-- what is asked of an auction by these limits
record Meets (limits : Limits) (a : AuctionText) : Type 0 where
  goods : length a.goods ≤ limits.goods
  bidders : length a.bidders ≤ limits.bidders
  lists : All (λ (bidder : List ℕ × Book). BidsMeet limits bidder.1) a.bidders

meets_two : (a : AuctionText) → IsAuction a → Meets mix_one a → Meets mix_two a
meets_two a s m =
    let g = m.goods in
    let b = m.bidders in
    record {
      goods = omega (arith, g);
      bidders = omega (arith, b);
      lists = λ k d l. let book = s.books k d l in list_meets _ (let n = book.goods in omega (arith, n, g)) (m.lists k d l);
    }

pub meets_limits_of_two : (a : AuctionText) → IsAuction a → a.format ≡ 1 → MeetsLimits a → MeetsLimits (record a { format = 2 })
unfolding limits_of
meets_limits_of_two a s e m =
    let one : Meets mix_one a = subst (λ (f : ℕ). Meets (limits_of f) a) e (record { goods = m.goods; bidders = m.bidders; lists = m.lists }) in
    let two = meets_two a s one in
    record { goods = two.goods; bidders = two.bidders; lists = two.lists }
