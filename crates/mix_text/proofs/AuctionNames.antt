-- The names of an auction's bidders have the form of names.
use Rattle.std.proofs.Common.{◌≡◌, ◌<◌, ◌∙◌, sym, ap, true, ℕ, List, [], length, arith}
use Rattle.std.proofs.lemmas.List.{get_or-map, length-map}
use Rattle.mix_num.specs.Orders.{place_at}
use Rattle.mix_bids.specs.Bids.{Book}
use Rattle.mix_text.specs.Bidders.{name_at}
use Rattle.mix_text.specs.Spelling.{is_name}
use Rattle.mix_text.specs.declared.auction.Auction.{Auction}

pub bidder_named : (auction : Auction) (k : ℕ) → k < length auction.bidders → is_name (name_at auction.bidders k) ≡ true
bidder_named auction k h =
    let count = length-map auction.bidders (λ (bidder : List ℕ × Book). bidder.0) in
    let same = get_or-map (λ (bidder : List ℕ × Book). bidder.0) auction.bidders k nobody [] h in
    ap is_name (sym same) ∙ auction.sound.names.form k [] (omega (arith, count, h))
  where
    nobody : List ℕ × Book
    nobody = ([], record { goods = 0; bids = [] })

-- who is served at a turn is a bidder
pub bidder_served : (auction : Auction) (turn : ℕ) → turn < length auction.order → place_at auction.order turn < length auction.bidders
bidder_served auction turn h = let order = auction.sound.order in let size = order.size in order.within turn (omega (arith, h, size))
