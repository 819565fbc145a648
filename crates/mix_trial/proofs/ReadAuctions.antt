-- The printed rows of an auction that keeps to the limits are read as that auction.
use Rattle.std.proofs.Common.{◌≡◌, ◌∙◌, sym, ap, ap₂, refl, ◌<◌, ◌≤◌, ◌+◌, true, false, ℕ, pos, List, [], ◌∷◌, ◌++◌, length, get_or, arith, subst, Result, Ok, nat_lt}
use Rattle.std.specs.Prelude.{codes}
use Rattle.std.proofs.lemmas.Bool.Decides.{nat_tests}
use Rattle.std.proofs.lemmas.List.{length-map}
use Rattle.mix_bids.specs.Bids.{Book}
use Rattle.mix_text.specs.Auctions.{AuctionText, IsAuction}
use Rattle.mix_text.specs.Caps.{no_caps}
use Rattle.mix_text.specs.Formats.{limits_of}
use Rattle.mix_text.specs.Limits.{MeetsLimits}
use Rattle.mix_text.specs.Names.{AreNames}
use Rattle.mix_text.specs.Pages.{printed}
use Rattle.mix_text.specs.Reading.{◌>>=◌, bids_from, caps_from, goods_at, header_of, numbers_of, order_from, read_at, reading_of, row_at}
use Rattle.mix_text.specs.Rows.{RestText, RowText, numbered, rows_of}
use Rattle.mix_text.specs.SharedRows.{amounts_row, end_row, order_rows}
use Rattle.mix_text.specs.declared.faults.Code.{Code}
use Rattle.mix_text.specs.declared.faults.TextError.{TextError}
use Rattle.mix_text.specs.declared.formats.Limits.{Limits}
use Rattle.mix_text.proofs.Gathering.{Unlike, different_unlike}
use Rattle.mix_text.proofs.ReadBack.{rows_of-printed}
use Rattle.mix_text.proofs.Records.{length-numbered}
use Rattle.mix_trial.specs.Printing.{auction_rows, bidder_rows, cap_rows, goods_row, head_row}
use Rattle.mix_trial.proofs.GatheredBids.{all_named, bids_of, gathered, names, names_same, rows_same, under_meets}
use Rattle.mix_trial.proofs.PrintedAuctions.{auction_printable, each_name}
use Rattle.mix_trial.proofs.ReadBids.{AreFew, bids_read}
use Rattle.mix_trial.proofs.ReadCaps.{caps_read, ending}
use Rattle.mix_trial.proofs.ReadOrders.{served, tail}
use Rattle.mix_trial.proofs.ReadFields.{amounts_read, goods_read, head_read, then_is}

row_there : (rows : List RowText) (k : ℕ) (row : RowText) → k < length rows → get_or rows k (record { number = 0; fields = [] }) ≡ row → row_at rows k ≡ Ok row
row_there rows k row h e = let t : nat_lt k (length rows) ≡ true = grind (arith, nat_tests) in rw (t, e) refl

read_there : {X : Type 0} (rows : List RowText) (k : ℕ) (row : RowText) (read : List (List ℕ) → Result X Code) (x : X) → row_at rows k ≡ Ok row → read row.fields ≡ Ok x → read_at rows k read ≡ Ok x
read_there rows k row read x e h = rw (e, h) refl

not_past : (most n : ℕ) → n ≤ most → nat_lt most n ≡ false
not_past most n h = grind (arith, nat_tests)

goods_there : (limits : Limits) (k : ℕ) (goods : List (List ℕ)) → 1 ≤ length goods → length goods ≤ limits.goods → AreNames goods → goods_at limits (record { number = k; fields = goods_row goods }) ≡ Ok goods
unfolding goods_at
goods_there limits k goods some few names =
    let read = goods_read goods some names.form (subst Unlike names.unlike (different_unlike goods)) in
    let past = not_past limits.goods (length goods) few in
    rw (read, past) refl

few_bids : (a : AuctionText) → IsAuction a → MeetsLimits a → Unlike (names a.bidders) → AreFew (limits_of a.format) (length a.goods) (bids_of a.bidders)
few_bids a is meets apart =
    let same = names_same (length a.goods) a.bidders is.books apart in
    let count = ap (λ (z : List (List ℕ)). length z) same in
    let few = meets.bidders in
    record { names = omega (arith, length-map a.bidders (λ (bidder : List ℕ × Book). bidder.0)); under = under_meets (limits_of a.format) (length a.goods) a.bidders is.books apart meets.lists }

-- the rows after those of the bids
abbrev rows_after : AuctionText → List (List (List ℕ))
rows_after a = cap_rows a.bidders a.caps ++ (order_rows a ++ end_row ∷ [])

bids_there : (a : AuctionText) → IsAuction a → MeetsLimits a → Unlike (names a.bidders)
    → bids_from a.format (limits_of a.format) (length a.goods) [] (numbered 5 (bidder_rows a.bidders ++ rows_after a)) ≡ Ok (bids_of a.bidders, numbered (5 + length (bids_of a.bidders)) (rows_after a))
bids_there a is meets apart =
    let limits = limits_of a.format in
    let n = length a.goods in
    let all = all_named n a.bidders (each_name a.bidders is.names.form) is.books in
    let after = ending a is in
    ap₂ (λ (rows last : List (List (List ℕ))). bids_from a.format limits n [] (numbered 5 (rows ++ last))) (sym (rows_same a.bidders)) after.are
    ∙ bids_read a.format limits n 5 [] (bids_of a.bidders) after.first after.rest after.stops all (few_bids a is meets apart)
    ∙ ap (λ (last : List (List (List ℕ))). Ok (bids_of a.bidders, numbered (5 + length (bids_of a.bidders)) last)) (sym after.are)

caps_there : (a : AuctionText) → IsAuction a → (k : ℕ)
    → caps_from a.format a.bidders (no_caps (length a.bidders)) (numbered k (rows_after a)) ≡ Ok (a.caps, numbered (k + length (cap_rows a.bidders a.caps)) (order_rows a ++ end_row ∷ []))
caps_there a is k =
    let after = tail a in
    ap (λ (last : List (List (List ℕ))). caps_from a.format a.bidders (no_caps (length a.bidders)) (numbered k (cap_rows a.bidders a.caps ++ last))) after.are
    ∙ caps_read a is k after.first after.rest after.no_cap
    ∙ ap (λ (last : List (List (List ℕ))). Ok (a.caps, numbered (k + length (cap_rows a.bidders a.caps)) last)) (sym after.are)

-- reading the rows gives the auction, and no row after it
pub reading_back : (a : AuctionText) → IsAuction a → MeetsLimits a → reading_of (numbered 1 (auction_rows a)) ≡ Ok (a, record { rows = []; next = length (auction_rows a) + 1 })
unfolding reading_of
reading_back a is meets =
    let limits = limits_of a.format in
    let rows = numbered 1 (auction_rows a) in
    let n = length a.goods in
    let apart : Unlike (names a.bidders) = subst Unlike is.names.unlike (different_unlike (names a.bidders)) in
    let few = meets.goods in
    let supply = amounts_read (codes "supply") n a.supply is.supply in
    let reserve = amounts_read (codes "reserve") n a.reserve is.reserve in
    let zero : read_at rows 0 header_of ≡ Ok a.format =
    read_there rows 0 (record { number = 1; fields = head_row a.format }) header_of a.format (row_there rows 0 _ (omega arith) refl) (head_read a.format is.format) in
    let one : (row_at rows 1 >>= goods_at limits) ≡ Ok a.goods =
    then_is (row_at rows 1) (goods_at limits) (record { number = 2; fields = goods_row a.goods }) (Ok a.goods) (row_there rows 1 _ (omega arith) refl) (goods_there limits 2 a.goods is.some_goods few is.goods) in
    let two : read_at rows 2 (numbers_of (codes "supply") n (pos 0) (pos 1000000)) ≡ Ok a.supply =
    read_there rows 2 (record { number = 3; fields = amounts_row (codes "supply") a.supply }) (numbers_of (codes "supply") n (pos 0) (pos 1000000)) a.supply (row_there rows 2 _ (omega arith) refl) supply in
    let three : read_at rows 3 (numbers_of (codes "reserve") n (pos 0) (pos 1000000)) ≡ Ok a.reserve =
    read_there rows 3 (record { number = 4; fields = amounts_row (codes "reserve") a.reserve }) (numbers_of (codes "reserve") n (pos 0) (pos 1000000)) a.reserve (row_there rows 3 _ (omega arith) refl) reserve in
    let bids = bids_there a is meets apart in
    let next = length-numbered 1 (auction_rows a) in
    let same = gathered n a.bidders is.books apart in
    let first = 5 + length (bids_of a.bidders) in
    let caps = ap (λ (bidders : List (List ℕ × Book)). caps_from a.format bidders (no_caps (length bidders)) (numbered first (rows_after a))) same ∙ caps_there a is first in
    let later = first + length (cap_rows a.bidders a.caps) in
    let after = served a is later (length rows + 1) in
    let order = ap (λ (bidders : List (List ℕ × Book)). order_from a.format bidders (numbered later (order_rows a ++ end_row ∷ []))) same ∙ after.order in
    then_is _ _ a.format _ zero (then_is _ _ a.goods _ one (then_is _ _ a.supply _ two (then_is _ _ a.reserve _ three (then_is _ _ (bids_of a.bidders, _) _ bids
    (then_is _ _ (a.caps, _) _ caps (then_is _ _ (a.order, after.left) _ order (then_is _ _ [] _ after.end (last a same (length rows) (length (auction_rows a)) next))))))))
  where
    last : (a : AuctionText) {bidders : List (List ℕ × Book)} → bidders ≡ a.bidders → (m k : ℕ) → m ≡ k
        → ◌≡◌ {A = Result (AuctionText × RestText) TextError} (Ok (record { format = a.format; goods = a.goods; supply = a.supply; reserve = a.reserve; bidders = bidders; caps = a.caps; order = a.order }, record { rows = []; next = m + 1 })) (Ok (a, record { rows = []; next = k + 1 }))
    last a same m k e = rw (same, e) refl

-- reading the text gives the auction, and no row after it
pub reading_text : (a : AuctionText) (text : List ℕ) → IsAuction a → MeetsLimits a → text ≡ printed (auction_rows a) → reading_of (rows_of text) ≡ Ok (a, record { rows = []; next = length (auction_rows a) + 1 })
reading_text a text is meets e =
    ap (λ (t : List ℕ). reading_of (rows_of t)) e ∙ ap reading_of (rows_of-printed (auction_rows a) (auction_printable a is)) ∙ reading_back a is meets
