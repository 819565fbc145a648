-- What is read of a text is an auction.
use Rattle.std.proofs.Common.{◌≡◌, ◌∙◌, sym, ap, ℕ, zero, suc, pos, ◌+◌, ◌-◌, ◌≤◌, ◌<◌, List, [], ◌∷◌, ◌++◌, length, drop, Ok, arith, subst, nat_lt, inl, inr, refl}
use Rattle.std.specs.Prelude.{codes}
use Rattle.std.proofs.lemmas.Bool.{cases_Bool}
use Rattle.std.proofs.lemmas.Bool.Decides.{nat_tests}
use Rattle.std.proofs.lemmas.List.{length-drop}
use Rattle.mix_text.specs.Auctions.{AuctionText, IsAuction}
use Rattle.mix_text.specs.Caps.{no_caps}
use Rattle.mix_text.specs.Formats.{limits_of}
use Rattle.mix_text.specs.Reading.{◌>>=◌, NamedBid, bid_row_of, bidders_of, bids_from, ends_bids, goods_at, header_of, limit_of, numbers_of, order_from, placed, ReadsBids, read_at, reading_of, row_at, unless_past}
use Rattle.mix_text.specs.Rows.{RestText, RowText}
use Rattle.mix_text.specs.declared.formats.Limits.{Limits}
use Rattle.mix_text.proofs.CapsRead.{caps_ok, first_caps}
use Rattle.mix_text.proofs.FormatLimits.{limits_are}
use Rattle.mix_text.proofs.NoCaps.{are_no_caps}
use Rattle.mix_text.proofs.Sound.{then_ok}
use Rattle.mix_text.proofs.SoundAuctions.{auction_ok, books_read}
use Rattle.mix_text.proofs.TieOrders.{first_order, order_ok}
use Rattle.mix_run.proofs.RowsAfterBids.{after_bids, ok_same}

-- some of the rows, from a place on
record IsDropped (rows left : List RowText) : Type 0 where
  place : ℕ
  within : place ≤ length rows
  is : left ≡ drop place rows

-- what the bids leave
left_of : (format : ℕ) (limits : Limits) (n : ℕ) (before : List NamedBid) (rows : List RowText) (bids : List NamedBid) (left : List RowText)
    → bids_from format limits n before rows ≡ Ok (bids, left) → IsDropped rows left
unfolding bids_from
left_of format limits n before [] bids left e = let same : (before, []) ≡ (bids, left) = ok_same _ _ e in record { place = 0; within = omega arith; is = sym (ap (λ p. p.1) same) }
left_of format limits n before (row ∷ rest) bids left e = elim (cases_Bool (ends_bids format row.fields)) [
  | inl t ↦ (let q = rw t at e in let same : (before, row ∷ rest) ≡ (bids, left) = ok_same _ _ q in record { place = 0; within = omega arith; is = sym (ap (λ p. p.1) same) })
  | inr f ↦ (
      let q = rw f at e in
      let b = then_ok (placed row.number (bid_row_of n row.fields)) _ (bids, left) q in
      let u = then_ok (unless_past row.number (limit_of limits n before b.0)) _ (bids, left) b.2 in
      let d = left_of format limits n (before ++ (b.0 ∷ [])) rest bids left u.2 in
      let h = d.within in
      record { place = suc d.place; within = omega (arith, h); is = d.is })
]

-- a row that is read is there
there : (rows : List RowText) (k : ℕ) (row : RowText) → row_at rows k ≡ Ok row → k < length rows
there rows k row e = elim (cases_Bool (nat_lt k (length rows))) [
  | inl t ↦ grind (arith, nat_tests)
  | inr f ↦ absurd (let q = rw f at e in cc q)
]

drop_after : (i j : ℕ) (rows : List RowText) → drop j (drop i rows) ≡ drop (i + j) rows
drop_after zero j rows = ap (λ k. drop k rows) (omega arith)
drop_after (suc i) j [] = none j ∙ sym (none (suc i + j))
  where
    none : (k : ℕ) → drop {A = RowText} k [] ≡ []
    none zero = refl
    none (suc k) = refl
drop_after (suc i) j (row ∷ rows) = drop_after i j rows ∙ ap (λ k. drop k (row ∷ rows)) next
  where
    next : suc (i + j) ≡ suc i + j
    next = omega arith

still : (j n m : ℕ) → m ≡ n - 4 → 3 < n → j ≤ m → 4 + j ≤ n
still j n m e l h = omega (arith, e, l, h)

pub reading_sound : (rows : List RowText) (a : AuctionText) (rest : RestText) → reading_of rows ≡ Ok (a, rest) → IsAuction a
unfolding reading_of
reading_sound rows a rest read =
    let header = then_ok (read_at rows 0 header_of) _ (a, rest) read in
    let limits = limits_of header.0 in
    let goods = then_ok (row_at rows 1 >>= goods_at limits) _ (a, rest) header.2 in
    let n = length goods.0 in
    let supply = then_ok (read_at rows 2 (numbers_of (codes "supply") n (pos 0) (pos 1000000))) _ (a, rest) goods.2 in
    let reserve = then_ok (read_at rows 3 (numbers_of (codes "reserve") n (pos 0) (pos 1000000))) _ (a, rest) supply.2 in
    let bids = then_ok (bids_from header.0 limits n [] (drop 4 rows)) _ (a, rest) reserve.2 in
    let bidders = bidders_of n bids.0.0 in
    let read_after = after_bids header.0 goods.0 supply.0 reserve.0 bidders (length rows + 1) bids.0.1 a rest bids.2 in
    let caps = read_after.caps in
    let order = read_after.order in
    let none = no_caps (length bidders) in
    let last = then_ok (row_at rows 3) _ reserve.0 reserve.1 in
    let four = there rows 3 last.0 last.1 in
    let after = left_of header.0 limits n [] (drop 4 rows) bids.0.0 bids.0.1 bids.1 in
    let fewer = length-drop 4 rows in
    let is : bids.0.1 ≡ drop (4 + after.place) rows = after.is ∙ drop_after 4 after.place rows in
    let reads : ReadsBids header.0 limits n rows bidders (4 + after.place) =
    record { bids = bids.0.0; read = bids.1 ∙ ap (λ z. Ok (bids.0.0, z)) is; gathered = refl; within = still after.place (length rows) (length (drop 4 rows)) fewer four after.within } in
    let books = books_read header.0 limits n rows bidders (4 + after.place) (limits_are header.0) reads in
    subst IsAuction read_after.is
    (auction_ok rows header.0 limits n goods.0 supply.0 reserve.0 bidders caps.0 order.0 (4 + after.place) (limits_are header.0) refl header.1 goods.1 supply.1 reserve.1 reads
    (caps_ok header.0 n bidders none bids.0.1 caps books (are_no_caps bidders) read_after.caps_read) (λ old. first_caps header.0 bidders none bids.0.1 caps old read_after.caps_read)
    (order_ok header.0 bidders caps.1 order read_after.order_read) (λ e. first_order bidders caps.1 order (ap (λ f. order_from f bidders caps.1) (sym e) ∙ read_after.order_read)))
