use Rattle.std.proofs.Common.{◌≡◌, ◌∙◌, ◌<◌, ◌+◌, ◌++◌, ◌∷◌, [], ℤ, pos, List, Ok, sym, ap, arith, drop, get_or, subst, length, of_z, refl, to_z, w64}
use Rattle.std.proofs.lemmas.Int.{ints}
use Rattle.mix_num.specs.Sellers.{IsAmount}
use Rattle.mix_text.specs.AuctionTexts.{auction_text}
use Rattle.mix_text.specs.Reading.{field_at}
use Rattle.mix_own.specs.Readings.{FitsRoom, own_number_of, own_numbers_after, room_of}
use Rattle.mix_own.proofs.OwnedSoFar.{fits_more, number_told, numbers_more}
use Rattle.mix_own.proofs.own_reading.read_each_units.Goals as goal

-- an amount fits its type
fits : (a x : ℤ) → a ≡ x → IsAmount x → to_z w64 (of_z w64 a) ≡ x
fits a x e h = omega (arith, ints, e, h)

pub loop-i-preserved : goal.loop-i-preserved
loop-i-preserved c =
    let a = auction_text c.args.auction.now in
    let sound = c.args.auction.now.sound in
    let owned = c.args.owned.now in
    let i = c.loop-i.i in
    let x = c.in-Ok.units in
    let fields = c.args.row.now.fields in
    let good : i < length a.goods = omega (arith, c.loop-i-test.true, c.len-i-end.ensures) in
    let own = c.room-room.ensures in
    let reserve = fits _ _ (ap (λ (z : List ℤ). get_or z i (pos 0)) c.deref.ensures.0) (sound.reserve.1 i (pos 0) (omega (arith, good, sound.reserve.0))) in
    let room = fits _ _ own.value (let h = own.range in let v = own.value in (omega (arith, ints, h, v), omega (arith, ints, h, v))) in
    let e : own_number_of (get_or a.reserve i (pos 0)) (room_of a owned i) (field_at fields (i + 2)) ≡ Ok x = sym (rw (reserve, room, c.field.ensures) at c.in-Ok.ensures) in
    let told = number_told _ _ _ x e in
    let pushed = c.push.ensures.items ∙ ap (λ (z : ℤ). c.loop-i.bundle.items ++ z ∷ []) (fits x x refl told.0) in
    record {
      same =
          ap (λ (xs : List ℤ). own_numbers_after a owned xs (drop (i + 1 + 2) fields)) pushed
          ∙ sym (numbers_more a owned c.loop-i.bundle.items fields i x c.loop-i.invariant.fit.amounts.0 (omega (arith, good, c.requires.fields)) e)
          ∙ c.loop-i.invariant.same;
      fit = subst (FitsRoom a owned (i + 1)) (sym pushed) (fits_more a owned i c.loop-i.bundle.items _ x c.loop-i.invariant.fit e);
    }
