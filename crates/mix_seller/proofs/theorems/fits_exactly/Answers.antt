use Rattle.std.proofs.Common.{ℕ, ◌<◌, pos, ◌≤ℤ◌, length, get_or}
use Rattle.std.proofs.lemmas.List.Elements.{All-get_or}
use Rattle.mix_num.specs.Sellers.{IsAmount}
use Rattle.mix_seller.specs.Sellers.{reserve_of, supply_of}
use Rattle.mix_seller.proofs.SellerRows.{fits-where_lawful, lawful-where_fits}
use Rattle.mix_seller.proofs.theorems.fits_exactly.Goals as goal

pub returns : goal.returns
returns c = λ prices row returned floor table.
    let supply = supply_of c.args.seller.now in
    let reserve = reserve_of c.args.seller.now in
    let stock : (i : ℕ) → i < length supply → pos 0 ≤ℤ get_or supply i (pos 0) = λ i l. (All-get_or IsAmount supply i (pos 0) l c.args.seller.now.for_sale.supplies.1).0 in (
      λ fits. lawful-where_fits supply reserve prices row returned fits.size floor stock table fits,
      λ lawful. fits-where_lawful supply reserve prices row returned lawful.size floor stock table lawful,
    )
