-- A refusal of the gross auction is one of the auction.
use Rattle.std.proofs.Common.{ℤ, List}
use Rattle.mix_text.specs.Auctions.{AuctionText}
use Rattle.mix_answer.specs.Refusals.{IsTrueRefusal}
use Rattle.mix_answer.specs.declared.refusal.Refusal.{Refusal}
use Rattle.mix_own.specs.Owned.{gross_of}

pub refusal_of_gross : (a : AuctionText) (owned : List (List ℤ)) (r : Refusal) → IsTrueRefusal (gross_of a owned) r → IsTrueRefusal a r
refusal_of_gross a owned r is = record { bidder = is.bidder; first = is.first; refused = is.refused; facet = is.facet }
