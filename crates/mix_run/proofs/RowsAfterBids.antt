-- What is read after the bids of an auction: caps, order, and the row `end`.
use Rattle.std.proofs.Common.{◌≡◌, ap, ℕ, ℤ, List, length, Option, Result, Ok}
use Rattle.mix_text.specs.Auctions.{AuctionText}
use Rattle.mix_text.specs.Bidders.{Named}
use Rattle.mix_text.specs.Caps.{no_caps}
use Rattle.mix_text.specs.Reading.{◌>>=◌, caps_from, end_from, order_from}
use Rattle.mix_text.specs.Rows.{RestText, RowText}
use Rattle.mix_text.specs.declared.faults.TextError.{TextError}
use Rattle.mix_text.proofs.Sound.{then_ok}

pub ok_same : {X E : Type 0} (x y : X) → ◌≡◌ {A = Result X E} (Ok x) (Ok y) → x ≡ y
ok_same x y e = cc e

-- the auction of all that was read
abbrev auction_of : ℕ → List (List ℕ) → List ℤ → List ℤ → Named → List (Option ℤ) → List ℕ → AuctionText
auction_of format goods supply reserve bidders caps order = record { format = format; goods = goods; supply = supply; reserve = reserve; bidders = bidders; caps = caps; order = order }

-- the caps and the order that were read with it
pub record AreReadAfterBids (format : ℕ) (goods : List (List ℕ)) (supply reserve : List ℤ) (bidders : Named) (rows : List RowText) (a : AuctionText) : Type 0 where
  pub caps : List (Option ℤ) × List RowText
  pub caps_read : caps_from format bidders (no_caps (length bidders)) rows ≡ Ok caps
  pub order : List ℕ × List RowText
  pub order_read : order_from format bidders caps.1 ≡ Ok order
  pub is : record { format = format; goods = goods; supply = supply; reserve = reserve; bidders = bidders; caps = caps.0; order = order.0 } ≡ a

module _ (format : ℕ) (goods : List (List ℕ)) (supply reserve : List ℤ) (bidders : Named) (next : ℕ) where
  abbrev with_end : List (Option ℤ) → List ℕ × List RowText → List RowText → Result (AuctionText × RestText) TextError
  with_end caps order rest = Ok (auction_of format goods supply reserve bidders caps order.0, record { rows = rest; next = next })

  abbrev after_order : List (Option ℤ) → List ℕ × List RowText → Result (AuctionText × RestText) TextError
  after_order caps order = end_from next order.1 >>= with_end caps order

  abbrev after_caps : List (Option ℤ) × List RowText → Result (AuctionText × RestText) TextError
  after_caps caps = order_from format bidders caps.1 >>= after_order caps.0

  pub after_bids : (rows : List RowText) (a : AuctionText) (rest : RestText) → (caps_from format bidders (no_caps (length bidders)) rows >>= after_caps) ≡ Ok (a, rest)
      → AreReadAfterBids format goods supply reserve bidders rows a
  after_bids rows a rest read =
      let caps = then_ok (caps_from format bidders (no_caps (length bidders)) rows) after_caps (a, rest) read in
      let order = then_ok (order_from format bidders caps.0.1) (after_order caps.0.0) (a, rest) caps.2 in
      let end = then_ok (end_from next order.0.1) (with_end caps.0.0 order.0) (a, rest) order.2 in
      record {
        caps = caps.0;
        caps_read = caps.1;
        order = order.0;
        order_read = order.1;
        is = ap (λ (p : AuctionText × RestText). p.0) (ok_same (auction_of format goods supply reserve bidders caps.0.0 order.0.0, record { rows = end.0; next = next }) (a, rest) end.2);
      }
