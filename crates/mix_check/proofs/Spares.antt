-- What is left of the supply, less all that the members still to come can take: turn by turn, it grows by a bidder's table, which leaves what must
-- be given to the bidder, and falls by its bundle.
use Rattle.std.proofs.Common.{◌≡◌, ℕ, zero, suc, ◌+◌, ◌*◌, ◌^◌, ◌<◌, ℤ, pos, ◌+ℤ◌, ◌-ℤ◌, List, [], ◌∷◌, ◌++◌, map, length, get_or, take, sym, ap, ap₂, ◌∙◌, subst, arith, length-append}
use Rattle.std.proofs.Math.Seq.{drop-cons}
use Rattle.std.proofs.lemmas.Int.{ints}
use Rattle.std.proofs.lemmas.List.{ext_get_or, get_or-map, get_or_append_left, get_or_default, length-map}
use Rattle.mix_num.specs.Orders.{IsOrder, in_order, place_at}
use Rattle.mix_num.proofs.Orders.{get-in_order}
use Rattle.mix_num.specs.Sellers.{seller_gain}
use Rattle.mix_num.specs.Sums.{sum_in}
use Rattle.mix_num.specs.Shares.{sum_at, supply_null}
use Rattle.mix_num.specs.Tables.{IsProper, number_of, share_in}
use Rattle.mix_num.specs.Ranges.{Lies}
use Rattle.mix_num.specs.Pairs.{floor_at, shares_in}
use Rattle.mix_law.specs.Demands.{IsTableOf, table_of}
use Rattle.mix_law.specs.Certificates.{tables_at}
use Rattle.mix_law.specs.Clearings.{bidder_utility}
use Rattle.mix_clearing.proofs.TableLists.{is-table_of}
use Rattle.mix_text.specs.Auctions.{AuctionText, IsAuction}
use Rattle.mix_answer.specs.Shapes.{HasAnswerShape}
use Rattle.mix_answer.specs.Truths.{bundles_of}
use Rattle.mix_answer.specs.Utilities.{utilities_of}
use Rattle.mix_answer.specs.declared.outcome.Answer.{Answer}
use Rattle.mix_answer.specs.declared.share.Share.{Share}
use Rattle.mix_check.specs.declared.tables.AllTables.{AllTables}
use Rattle.mix_check.specs.Tests.{AreAtTurn, AreTablesAt, AreTablesOfFirst, HaveSums, LieWithin, rows_of, spare_at}
use Rattle.mix_check.proofs.TableSums.{number-range, proper-read, rows-sum}
use Rattle.mix_check.proofs.WordSums.{lies-wider}
use Rattle.mix_check.specs.Reasons.{bundle_of}
use Rattle.mix_answer.proofs.Entrants.{length-utilities}
use Rattle.mix_check.proofs.AuctionFacts.{bundle-amounts, bundle-read}

-- ---- plain lists
-- before the first turn nothing is given
pub spare-start : (n : ℕ) (rows : List (List ℤ)) (supply : List ℤ) (bundles : List (List ℤ)) (set : ℕ)
    → spare_at n rows supply bundles 0 set ≡ sum_in (supply_null n rows supply ∷ supply) set -ℤ sum_at rows set
spare-start n rows supply bundles set = omega (arith, ints)

-- so what is written first is what is left then
pub start-is : (n : ℕ) (tables : AllTables) (order : List ℕ) → IsOrder (length tables.bidders.items) order → HaveSums n tables → (supply : List ℤ) (set : ℕ) → set < 2 ^ suc n → (null written : ℤ)
    → written ≡ sum_in (null ∷ supply) set -ℤ (number_of tables.sum set +ℤ number_of tables.seller set) → null ≡ supply_null n (rows_of order tables) supply
    → written ≡ spare_at n (rows_of order tables) supply [] 0 set
start-is n tables order ordered have supply set l null written e same =
    let sum = rows-sum n tables order ordered have set l in
    let first = spare-start n (rows_of order tables) supply [] set in
    let in_set = ap (λ (z : ℤ). sum_in (z ∷ supply) set) same in
    omega (arith, ints, e, sum, first, in_set)

-- a bidder's table is given back at its turn
pub spare-give : (n : ℕ) (rows : List (List ℤ)) (supply : List ℤ) (bundles : List (List ℤ)) (k set : ℕ) → k < length rows
    → floor_at n rows supply bundles k set ≡ spare_at n rows supply bundles k set +ℤ number_of (get_or rows k []) set
spare-give n rows supply bundles k set l =
    let e = ap (λ (rs : List (List ℤ)). sum_at rs set) (drop-cons rows k [] l) in
    omega (arith, ints, e)

-- the shares of one member more
shares-more : (n : ℕ) (rows bundles : List (List ℤ)) (k set : ℕ) → k < length rows → k < length bundles
    → shares_in n (take (suc k) rows) (take (suc k) bundles) set ≡ shares_in n (take k rows) (take k bundles) set +ℤ share_in n (get_or rows k []) (get_or bundles k []) set
shares-more n [] bundles k set l h = absurd (omega arith)
shares-more n (r ∷ rows) [] k set l h = absurd (omega arith)
shares-more n (r ∷ rows) (x ∷ bundles) zero set l h = omega (arith, ints)
shares-more n (r ∷ rows) (x ∷ bundles) (suc k) set l h = let a = shares-more n rows bundles k set (omega arith) (omega arith) in omega (arith, ints, a)

-- and its bundle taken
pub spare-take : (n : ℕ) (rows : List (List ℤ)) (supply : List ℤ) (bundles : List (List ℤ)) (k set : ℕ) → k < length rows → k < length bundles
    → spare_at n rows supply bundles (suc k) set ≡ floor_at n rows supply bundles k set -ℤ share_in n (get_or rows k []) (get_or bundles k []) set
spare-take n rows supply bundles k set l h = let a = shares-more n rows bundles k set l h in omega (arith, ints, a)

-- ---- ranges of what is kept, turn by turn
-- before the turn of the k-th bidder
abbrev pub LieBefore : ℕ → ℕ → List ℤ → Type 0
LieBefore n k spare = LieWithin n (9000000000 + 150000000 * k) spare

start-range : (n k : ℕ) (spare : List ℤ) → LieBefore n k spare → k < 256 → LieWithin n 4000000000000 spare
start-range n k spare lies few set l = lies-wider (9000000000 + 150000000 * k) 4000000000000 (number_of spare set) (omega (arith, few)) (lies set l)

give-range : (n k : ℕ) (table spare now : List ℤ) → IsProper n table → k < 256 → LieBefore n k spare
    → ((set : ℕ) → set < 2 ^ suc n → number_of now set ≡ number_of spare set +ℤ number_of table set) → LieWithin n 4000000000000 now
give-range n k table spare now proper few lies is set l =
    let own = number-range n table proper set l in
    let old = lies set l in
    let e = is set l in
    (omega (arith, ints, own, old, e, few), omega (arith, ints, own, old, e, few))

take-range : (n k : ℕ) (table spare given now : List ℤ) → IsProper n table → LieBefore n k spare
    → ((set : ℕ) → set < 2 ^ suc n → number_of given set ≡ number_of spare set +ℤ number_of table set)
    → ((set : ℕ) → set < 2 ^ suc n → Lies 140000000 (number_of given set -ℤ number_of now set)) → LieBefore n (k + 1) now
take-range n k table spare given now proper lies is near set l =
    let own = number-range n table proper set l in
    let old = lies set l in
    let e = is set l in
    let m = near set l in
    (omega (arith, ints, own, old, e, m), omega (arith, ints, own, old, e, m))

-- ---- the tables of an auction
mapped : (a : AuctionText) (prices : List ℤ) → length (map (λ f. table_of (length a.supply) f prices) (utilities_of a)) ≡ length a.bidders
mapped a prices = length-map (utilities_of a) (λ f. table_of (length a.supply) f prices) ∙ length-utilities a

-- the bidders' tables that are kept, as one list
bidders-are : (a : AuctionText) (prices : List ℤ) (tables : List (List ℤ)) → IsAuction a → AreTablesOfFirst a prices (length a.bidders) tables
    → tables ≡ map (λ f. table_of (length a.supply) f prices) (utilities_of a)
bidders-are a prices tables sound are = ext_get_or [] tables (map (λ f. table_of (length a.supply) f prices) (utilities_of a)) (are.count ∙ sym (mapped a prices)) each
  where
    each : (k : ℕ) → k < length tables → get_or tables k [] ≡ get_or (map (λ f. table_of (length a.supply) f prices) (utilities_of a)) k []
    each k l =
        let size = are.count in
        let few = length-utilities a in
        let h : k < length a.bidders = omega (arith, l, size) in
        let is : IsTableOf (length a.supply) (bidder_utility (utilities_of a) k) prices (get_or tables k []) =
        subst (λ (n : ℕ). IsTableOf n (bidder_utility (utilities_of a) k) prices (get_or tables k [])) (sym sound.supply.0) (are.are k h) in
        is-table_of (length a.supply) (bidder_utility (utilities_of a) k) prices (get_or tables k []) is
        ∙ sym (get_or-map (λ f. table_of (length a.supply) f prices) (utilities_of a) k (λ x. pos 0) [] (omega (arith, h, few)))

-- the tables that are kept are, in tie order, those of all members
pub rows-are : (a : AuctionText) (prices : List ℤ) (tables : AllTables) → IsAuction a → AreTablesAt a prices tables
    → tables_at (utilities_of a) a.supply a.reserve prices a.order ≡ rows_of a.order tables
rows-are a prices tables sound are =
    ap (λ (lists : List (List ℤ)). in_order a.order lists ++ table_of (length a.supply) (seller_gain a.supply a.reserve) prices ∷ [])
    (sym (bidders-are a prices tables.bidders.items sound are.bidders))
    ∙ ap (λ (last : List ℤ). in_order a.order tables.bidders.items ++ last ∷ [])
    (sym (is-table_of (length a.supply) (seller_gain a.supply a.reserve) prices tables.seller
    (subst (λ (n : ℕ). IsTableOf n (seller_gain a.supply a.reserve) prices tables.seller) (sym sound.supply.0) are.seller)))

-- as many as there are members
pub rows-count : (order : List ℕ) (tables : AllTables) → length (rows_of order tables) ≡ length order + 1
rows-count order tables = length-append (in_order order tables.bidders.items) (tables.seller ∷ []) ∙ ap (λ (n : ℕ). n + 1) (length-map order (λ k. get_or tables.bidders.items k []))

-- the k-th row
pub row-at : (order : List ℕ) (tables : AllTables) (k : ℕ) → k < length order → get_or (rows_of order tables) k [] ≡ get_or tables.bidders.items (place_at order k) []
row-at order tables k l =
    let size = length-map order (λ k. get_or tables.bidders.items k []) in
    get_or_append_left (in_order order tables.bidders.items) (tables.seller ∷ []) [] k (omega (arith, l, size)) ∙ get-in_order tables.bidders.items order k l

-- what is kept at a bidder's turn is what must be given to it
pub give-turn : (n : ℕ) (rows : List (List ℤ)) (supply : List ℤ) (bundles : List (List ℤ)) (k set : ℕ) (table : List ℤ) → k < length rows → table ≡ get_or rows k []
    → (spare given : ℤ) → spare ≡ spare_at n rows supply bundles k set → given ≡ spare +ℤ number_of table set → given ≡ floor_at n rows supply bundles k set
give-turn n rows supply bundles k set table l own spare given e f =
    let give = spare-give n rows supply bundles k set l in
    let row = ap (λ (t : List ℤ). number_of t set) own in
    omega (arith, ints, e, f, give, row)

-- and after it what is left for the next
pub take-turn : (n : ℕ) (rows : List (List ℤ)) (supply : List ℤ) (bundles : List (List ℤ)) (k set : ℕ) (table bundle : List ℤ) → k < length rows → k < length bundles → table ≡ get_or rows k []
    → bundle ≡ get_or bundles k [] → length bundle ≡ n → (spare given now : ℤ) → spare ≡ spare_at n rows supply bundles k set → given ≡ spare +ℤ number_of table set
    → now ≡ given -ℤ share_in (length bundle) table bundle set → now ≡ spare_at n rows supply bundles (suc k) set
take-turn n rows supply bundles k set table bundle l h own is size spare given now e f g =
    let needed = give-turn n rows supply bundles k set table l own spare given e f in
    let take = spare-take n rows supply bundles k set l h in
    let share = ap (λ (m : ℕ). share_in m table bundle set) size ∙ ap₂ (λ (t b : List ℤ). share_in n t b set) own is in
    omega (arith, ints, needed, take, share, g)

-- ---- the turn of a bidder, from the table and the share that are read
module _ (a : AuctionText) (answer : Answer) (tables : AllTables) (sound : IsAuction a) (shape : HasAnswerShape a answer) (are : AreTablesAt a answer.prices.items tables) (k bidder : ℕ) (l : k < length a.bidders)
    (served : bidder ≡ place_at a.order k) (table : List ℤ) (read : table ≡ get_or tables.bidders.items bidder table) where
  abbrev n : ℕ
  n = length a.goods

  abbrev rows : List (List ℤ)
  rows = rows_of a.order tables

  abbrev bundles : List (List ℤ)
  bundles = in_order a.order (bundles_of answer)

  in_turn : k < length a.order
  in_turn = let size = sound.order.size in omega (arith, l, size)

  inside : bidder < length a.bidders
  inside = let w = sound.order.within k l in omega (arith, served, w)

  within : bidder < length tables.bidders.items
  within = let e = are.bidders.count in omega (arith, inside, e)

  within_rows : k < length rows
  within_rows = omega (arith, in_turn, rows-count a.order tables)

  pub own-table : table ≡ get_or rows k []
  own-table =
      read ∙ get_or_default tables.bidders.items bidder table [] within
      ∙ ap (λ (i : ℕ). get_or tables.bidders.items i []) served ∙ sym (row-at a.order tables k in_turn)

  pub own-proper : IsProper n table
  own-proper = proper-read n tables.bidders.items are.sums.proper bidder table within read

  few : k < 256
  few = let most = sound.few_bidders in omega (arith, l, most)

  module _ (spare : List ℤ) (lies : LieBefore n k spare) where
    pub give-room : (set : ℕ) → set < length table → Lies 4000000000000 (number_of spare set)
    give-room set h = start-range n k spare lies few set (subst (λ (m : ℕ). set < m) own-proper.size h)

    module _ (left : (set : ℕ) → set < 2 ^ suc n → number_of spare set ≡ spare_at n rows a.supply bundles k set)
        (given : List ℤ) (gave : (set : ℕ) → set < length table → number_of given set ≡ number_of spare set +ℤ number_of table set) where
      gave-each : (set : ℕ) → set < 2 ^ suc n → number_of given set ≡ number_of spare set +ℤ number_of table set
      gave-each set h = gave set (subst (λ (m : ℕ). set < m) (sym own-proper.size) h)

      -- with its table given back
      pub turn-at : length given ≡ 512 → AreAtTurn a answer k table given
      turn-at room =
          let same = rows-are a answer.prices.items tables sound are in
          record {
            own = own-table ∙ ap (λ (rs : List (List ℤ)). get_or rs k []) (sym same);
            needed = λ set h.
                give-turn n rows a.supply bundles k set table within_rows own-table (number_of spare set) (number_of given set) (left set h) (gave-each set h)
                ∙ ap (λ (rs : List (List ℤ)). floor_at n rs a.supply bundles k set) (sym same);
            size = own-proper.size;
            room = room;
            range = give-range n k table spare given own-proper few lies gave-each;
          }

      module _ (share : Share) (got : share ≡ get_or answer.shares bidder share) where
        own-bundle : share.bundle.items ≡ bundle_of answer bidder
        own-bundle = bundle-read a answer shape bidder share inside got

        bundle-served : share.bundle.items ≡ get_or bundles k []
        bundle-served = own-bundle ∙ ap (λ (i : ℕ). bundle_of answer i) served ∙ sym (get-in_order (bundles_of answer) a.order k in_turn)

        size : length share.bundle.items ≡ n
        size = ap (λ (xs : List ℤ). length xs) own-bundle ∙ (bundle-amounts a answer shape bidder inside).0

        pub take-proper : IsProper (length share.bundle.items) table
        take-proper = subst (λ (m : ℕ). IsProper m table) (sym size) own-proper

        pub take-room : LieWithin (length share.bundle.items) 4000000000000 given
        take-room = subst (λ (m : ℕ). LieWithin m 4000000000000 given) (sym size) (give-range n k table spare given own-proper few lies gave-each)

        -- and its bundle taken
        pub turn-done : (now : List ℤ) → ((set : ℕ) → set < 2 ^ suc (length share.bundle.items) → number_of now set ≡ number_of given set -ℤ share_in (length share.bundle.items) table share.bundle.items set)
            → (set : ℕ) → set < 2 ^ suc n → number_of now set ≡ spare_at n rows a.supply bundles (suc k) set
        turn-done now took set h =
            take-turn n rows a.supply bundles k set table share.bundle.items within_rows (omega (arith, in_turn, length-map a.order (λ i. get_or (bundles_of answer) i []))) own-table bundle-served size
            (number_of spare set) (number_of given set) (number_of now set) (left set h) (gave-each set h) (took set (subst (λ (m : ℕ). set < 2 ^ suc m) (sym size) h))

        pub turn-range : (now : List ℤ) → ((set : ℕ) → set < 2 ^ suc (length share.bundle.items) → Lies 140000000 (number_of given set -ℤ number_of now set)) → LieBefore n (k + 1) now
        turn-range now near = take-range n k table spare given now own-proper lies gave-each (subst (λ (m : ℕ). (set : ℕ) → set < 2 ^ suc m → Lies 140000000 (number_of given set -ℤ number_of now set)) size near)
