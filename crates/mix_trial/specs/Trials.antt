-- The trial auction of a number: what is drawn from its words, in order.
use Rattle.std.specs.Prelude.{◌==◌, ◌+◌, ◌%◌, ◌/◌, ℕ, ℤ, pos, neg_ℤ, List, [], ◌∷◌, ◌++◌, Option, Some, None, if◌then◌else◌, replicate, length, slice_index, slice_set, codes}
use Rattle.rand_core.specs.Steps.{first_words}
use Rattle.rand_pcg.specs.Pcg.{pcg32}
use Rattle.mix_num.specs.Orders.{places}
use Rattle.mix_bids.specs.Offers.{Offers, offers_some}
use Rattle.mix_bids.specs.declared.bid.Bid.{Bid}
use Rattle.mix_text.specs.Auctions.{AuctionText}
use Rattle.mix_text.specs.Bidders.{Named}
use Rattle.mix_text.specs.Caps.{no_caps}
use Rattle.mix_trial.specs.Draws.{Drawing, alone, drawn, for_each}
use Rattle.mix_trial.specs.Words.{generator_of}

-- an amount drawn from low on
abbrev pub amount : ℕ → ℕ → Drawing ℤ
amount low m words = let x = drawn m words in (pos (low + x.0), x.1)

-- a value for one of five goods alone, by the place of the good, from 0
abbrev pub one_value : ℕ → ℤ → Offers
one_value place value = slice_set (replicate 5 None) place (Some value)

-- and another for a second good
abbrev pub two_values : ℕ → ℤ → ℕ → ℤ → Offers
two_values place value second other = slice_set (one_value place value) second (Some other)

abbrev pub bid_of : ℤ → Offers → Bid
bid_of weight values = record { weight = weight; values = record { items = values } }

-- the four bids of a block over two goods at their places, of weight w: u on the first, v on the second, a more than these on either, and one taken back at these
abbrev pub block_bids : ℕ → ℕ → ℕ → ℕ → ℕ → ℕ → List Bid
block_bids first second w u v a =
    bid_of (pos w) (one_value first (pos u))
    ∷ bid_of (pos w) (one_value second (pos v))
    ∷ bid_of (pos w) (two_values first (pos (u + a)) second (pos (v + a)))
    ∷ bid_of (neg_ℤ (pos w)) (two_values first (pos u) second (pos v)) ∷ []

-- a block: the place of its first good, how far after it, in turn, the second stands, the weight, a value for each, and what the third bid adds
unfoldable pub block : Drawing (List Bid)
block words =
    let i = drawn 5 words in
    let d = drawn 4 i.1 in
    let w = drawn 9 d.1 in
    let u = drawn 800 w.1 in
    let v = drawn 800 u.1 in
    let a = drawn 200 v.1 in
    (block_bids i.0 ((i.0 + (1 + d.0)) % 5) (1 + w.0) u.0 v.0 a.0, a.1)

-- a value of a single bid: in one case of three the good is left out
unfoldable pub value : Drawing (Option ℤ)
value words = let c = drawn 3 words in if c.0 == 0 then (None, c.1) else (let v = drawn 1000 c.1 in (Some (pos v.0), v.1))

-- a bid that so offers no good offers the first at 500
abbrev pub offering : Offers → Offers
offering values = if offers_some values then values else one_value 0 (pos 500)

-- a single bid: its weight, and a value for each good
unfoldable pub single : Drawing Bid
single words = let w = drawn 9 words in let values = for_each 5 1 (λ _. alone value) w.1 in (bid_of (pos (1 + w.0)) (offering values.0), values.1)

-- a bidder's bids: four blocks and sixteen single bids
abbrev pub bids : Drawing (List Bid)
bids words = let blocks = for_each 4 1 (λ _. block) words in let singles = for_each 16 1 (λ _. alone single) blocks.1 in (blocks.0 ++ singles.0, singles.1)

-- the name of a bidder: B and two digits
abbrev pub bidder_name : ℕ → List ℕ
bidder_name k = 66 ∷ (48 + k / 10) ∷ (48 + k % 10) ∷ []

abbrev pub bidder : ℕ → Drawing Named
bidder k words = let list = bids words in ((bidder_name k, record { goods = 5; bids = list.0 }) ∷ [], list.1)

-- the goods
abbrev pub good_names : List (List ℕ)
good_names = codes "A" ∷ codes "B" ∷ codes "C" ∷ codes "D" ∷ codes "E" ∷ []

-- the auction, of format 1: five supplies, five reserves, forty bidders, who have no caps and are served as they come
abbrev pub auction : Drawing AuctionText
auction words =
    let supply = for_each 5 1 (λ _. alone (amount 100 100)) words in
    let reserve = for_each 5 1 (λ _. alone (amount 0 100)) supply.1 in
    let bidders = for_each 40 1 bidder reserve.1 in
    (record { format = 1; goods = good_names; supply = supply.0; reserve = reserve.0; bidders = bidders.0; caps = no_caps (length bidders.0); order = places (length bidders.0) }, bidders.1)

-- the trial auction of a list of words
abbrev pub trial_auction : List ℕ → AuctionText
trial_auction words = (auction (slice_index words)).0

-- the words of a number's trial auction, which takes no more
abbrev pub trial_words : ℕ → List ℕ
trial_words seed = first_words pcg32 8010 (generator_of seed)
