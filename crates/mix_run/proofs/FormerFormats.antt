-- An auction that is read of a text whose first row names format 1 has format 1.
use Rattle.std.proofs.Common.{◌≡◌, ◌∙◌, sym, ap, ℕ, pos, ◌+◌, List, [], ◌∷◌, length, drop, true, false, Bool, Ok, refl, arith, subst, nat_lt}
use Rattle.std.specs.Prelude.{◌&&◌, ◌==◌, codes}
use Rattle.std.specs.Str.{bytes_eq}
use Rattle.std.proofs.lemmas.Bool.Decides.{nat_tests}
use Rattle.mix_text.specs.Auctions.{AuctionText}
use Rattle.mix_text.specs.Formats.{limits_of}
use Rattle.mix_text.specs.Reading.{◌>>=◌, begins, bidders_of, bids_from, field_at, format_of, goods_at, header_of, holds, numbers_of, placed, read_at, reading_of, row_at}
use Rattle.mix_text.specs.Rows.{RestText, RowText, rows_of}
use Rattle.mix_text.specs.declared.faults.Code.TheVariants as code
use Rattle.mix_text.proofs.Sound.{then_ok}
use Rattle.mix_text.proofs.SoundAuctions.{placed_ok}
use Rattle.mix_answer.specs.Readings.{outcome_after}
use Rattle.mix_answer.specs.declared.outcome.Outcome.{Outcome}
use Rattle.mix_run.specs.command.Check.{auction_and_outcome, or_wrong}
use Rattle.mix_run.specs.command.Upgrade.{first_head_in}
use Rattle.mix_run.proofs.RowsAfterBids.{after_bids}

both_true : (p q : Bool) → (p && q) ≡ true → q ≡ true
both_true true q e = e
both_true false q e = cc e

holds_placed : (t : Bool) (number : ℕ) → placed number (holds t code.Header) ≡ Ok tt → t ≡ true
holds_placed true number e = refl
holds_placed false number e = cc e

-- the fields of a first row that names format 1
head_one : (fields : List (List ℕ)) (number format : ℕ) → placed number (holds (begins fields (codes "mix") && ((length fields == 2) && bytes_eq (field_at fields 1) (codes "1"))) code.Header) ≡ Ok tt
    → header_of fields ≡ Ok format → format ≡ 1
unfolding header_of
head_one fields number format first read =
    let named = bytes_eq (field_at fields 1) (codes "1") in
    let all = holds_placed (begins fields (codes "mix") && ((length fields == 2) && named)) number first in
    let t : bytes_eq (field_at fields 1) (codes "1") ≡ true = both_true (length fields == 2) named (both_true (begins fields (codes "mix")) ((length fields == 2) && named) all) in
    let r = then_ok (holds (begins fields (codes "mix") && (length fields == 2)) code.Header) (λ _. format_of (field_at fields 1)) format read in
    let q = rw t at r.2 in
    let one : 1 ≡ format = cc q in
    sym one

first_there : (row : RowText) (rows : List RowText) → row_at (row ∷ rows) 0 ≡ Ok row
first_there row rows = let t : nat_lt 0 (length (row ∷ rows)) ≡ true = grind (arith, nat_tests) in rw t refl

-- the format that is read is that of the first row
read_format : (rows : List RowText) (a : AuctionText) (rest : RestText) → reading_of rows ≡ Ok (a, rest) → read_at rows 0 header_of ≡ Ok a.format
unfolding reading_of
read_format rows a rest read =
    let header = then_ok (read_at rows 0 header_of) _ (a, rest) read in
    let goods = then_ok (row_at rows 1 >>= goods_at (limits_of header.0)) _ (a, rest) header.2 in
    let n = length goods.0 in
    let supply = then_ok (read_at rows 2 (numbers_of (codes "supply") n (pos 0) (pos 1000000))) _ (a, rest) goods.2 in
    let reserve = then_ok (read_at rows 3 (numbers_of (codes "reserve") n (pos 0) (pos 1000000))) _ (a, rest) supply.2 in
    let bids = then_ok (bids_from header.0 (limits_of header.0) n [] (drop 4 rows)) _ (a, rest) reserve.2 in
    let last = after_bids header.0 goods.0 supply.0 reserve.0 (bidders_of n bids.0.0) (length rows + 1) bids.0.1 a rest bids.2 in
    header.1 ∙ ap (λ (z : AuctionText). Ok z.format) last.is

pub format_one : (rows : List RowText) (a : AuctionText) (rest : RestText) → first_head_in rows ≡ Ok tt → reading_of rows ≡ Ok (a, rest) → a.format ≡ 1
format_one [] a rest first read = let q = read_format [] a rest read in cc q
format_one (row ∷ rows) a rest first read =
    let header = read_format (row ∷ rows) a rest read in
    let r = then_ok (row_at (row ∷ rows) 0) (λ row. placed row.number (header_of row.fields)) a.format header in
    let same : row ≡ r.0 = let q = sym (first_there row rows) ∙ r.1 in cc q in
    let own = subst (λ (z : RowText). placed z.number (header_of z.fields) ≡ Ok a.format) (sym same) r.2 in
    head_one row.fields row.number a.format first (placed_ok row.number (header_of row.fields) a.format own)

pub format_read : (text : List ℕ) (a : AuctionText) (outcome : Outcome) → first_head_in (rows_of text) ≡ Ok tt → auction_and_outcome text ≡ Ok (a, outcome) → a.format ≡ 1
unfolding auction_and_outcome
format_read text a outcome first read =
    let both = then_ok (reading_of (rows_of text)) _ (a, outcome) read in
    let after = then_ok (or_wrong (outcome_after both.0.0 both.0.1)) _ (a, outcome) both.2 in
    let same : (both.0.0, after.0) ≡ (a, outcome) = let q = after.2 in cc q in
    subst (λ (p : AuctionText × Outcome). p.0.format ≡ 1) same (format_one (rows_of text) both.0.0 both.0.1 first both.1)
