-- The bidders of an auction by their places, and their utilities.
use Rattle.std.proofs.Common.{◌≡◌, ℕ, ◌<◌, ℤ, pos, List, [], ◌∷◌, length, get_or, map, refl, ap, ap₂, ◌∙◌, arith, Option, Some, None}
use Rattle.std.specs.Int.RustNames.{unsigned_abs}
use Rattle.std.proofs.lemmas.List.{get_or-map, length-map}
use Rattle.std.proofs.lemmas.List.FromFn.{get_or-map-range_with_len, length-map-range_with_len}
use mathlib.Core.Path.{fun_ext}
use Rattle.mix_num.specs.Vectors.{Vector}
use Rattle.mix_bids.specs.Caps.{capped_utility, scaled_utility_under, utility_under}
use Rattle.mix_bids.specs.Convexity.{bid_at}
use Rattle.mix_bids.specs.declared.bid.Bid.{Bid}
use Rattle.mix_bids.proofs.Multiples.{offers_once, utility_once}
use Rattle.mix_law.specs.Clearings.{bidder_utility}
use Rattle.mix_text.specs.Auctions.{AuctionText}
use Rattle.mix_answer.specs.Utilities.{Entrant, entrant_at, entrant_utility, entrants_of, scaled_entrant_utility, scaled_utilities_of, utilities_of}

-- ---- the entrants by their places

pub length-entrants : (a : AuctionText) → length (entrants_of a) ≡ length a.bidders
length-entrants a = length-map-range_with_len (entrant_at a) 0 (length a.bidders)

pub entrant-there : (a : AuctionText) (k : ℕ) (none : Entrant) → k < length a.bidders → get_or (entrants_of a) k none ≡ entrant_at a k
entrant-there a k none l = get_or-map-range_with_len (entrant_at a) 0 (length a.bidders) k k none l (omega arith)

pub length-utilities : (a : AuctionText) → length (utilities_of a) ≡ length a.bidders
length-utilities a = length-map (entrants_of a) entrant_utility ∙ length-entrants a

pub utility-there : (a : AuctionText) (k : ℕ) → k < length a.bidders → bidder_utility (utilities_of a) k ≡ entrant_utility (entrant_at a k)
utility-there a k l =
    get_or-map entrant_utility (entrants_of a) k (entrant_at a k) (λ x. pos 0) (let n = length-entrants a in omega (arith, n, l))
    ∙ ap entrant_utility (entrant-there a k (entrant_at a k) l)

pub length-scaled : (a : AuctionText) → length (scaled_utilities_of a) ≡ length a.bidders
length-scaled a = length-map (entrants_of a) scaled_entrant_utility ∙ length-entrants a

pub scaled-there : (a : AuctionText) (k : ℕ) → k < length a.bidders → get_or (scaled_utilities_of a) k (λ d x. pos 0) ≡ scaled_entrant_utility (entrant_at a k)
scaled-there a k l =
    get_or-map scaled_entrant_utility (entrants_of a) k (entrant_at a k) (λ d x. pos 0) (let n = length-entrants a in omega (arith, n, l))
    ∙ ap scaled_entrant_utility (entrant-there a k (entrant_at a k) l)

-- ---- at the scale 1 they are the utilities

bids_once : (bs : List Bid) → map (bid_at 1) bs ≡ bs
bids_once [] = refl
bids_once (b ∷ bs) = ap₂ (λ y z. record { weight = b.weight; values = record { items = y } } ∷ z) (offers_once b.values.items) (bids_once bs)

under_once : (cap : Option ℤ) (bs : List Bid) → scaled_utility_under cap bs 1 ≡ utility_under cap bs
under_once None bs = fun_ext (λ x. utility_once bs x)
under_once (Some cap) bs = ap (λ z. capped_utility (unsigned_abs cap) z) (bids_once bs)

pub utilities_once : (a : AuctionText) → map (λ f. f 1) (scaled_utilities_of a) ≡ utilities_of a
utilities_once a = go (entrants_of a)
  where
    go : (es : List Entrant) → map (λ f. f 1) (map scaled_entrant_utility es) ≡ map entrant_utility es
    go [] = refl
    go (e ∷ es) = ap₂ (λ (f : Vector → ℤ) (fs : List (Vector → ℤ)). f ∷ fs) (under_once e.cap e.list.bids) (go es)
