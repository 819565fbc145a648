-- Which bids may be added to an auction, and why others aren't.
use Rattle.std.specs.Prelude.{◌≡◌, ◌&&◌, Bool, true, false, ℕ, List, Some, is_some}
use Rattle.mix_bids.specs.declared.bid.Bid.{Bid}
use Rattle.mix_text.specs.Auctions.{AuctionText}
use Rattle.mix_text.specs.Changes.{cap_of_name, limit_of_added}
use Rattle.mix_text.specs.Reading.{is_negative}
use Rattle.mix_session.specs.declared.faults.AddError.{AddError}
use Rattle.mix_session.specs.declared.faults.AddError.TheVariants.{Limit, Memory, Weight}

-- whether a bid of this name has negative weight though its bidder has a cap
abbrev pub is_capped_negative : AuctionText → List ℕ → Bid → Bool
is_capped_negative a name bid = is_some (cap_of_name a name) && is_negative bid

-- why a bid of this name isn't added: for its weight; or, where that isn't so, for the first limit that it passes, or for want of memory
abbrev pub IsWhyNot : AuctionText → List ℕ → Bid → AddError → Type 0
IsWhyNot a name bid Weight = is_capped_negative a name bid ≡ true
IsWhyNot a name bid (Limit what) = (is_capped_negative a name bid ≡ false) × (limit_of_added a name bid ≡ Some what)
IsWhyNot a name bid Memory = is_capped_negative a name bid ≡ false
