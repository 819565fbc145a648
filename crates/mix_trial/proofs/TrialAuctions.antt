-- A trial auction is an auction, and keeps to the limits of its format.
use Rattle.std.proofs.Common.{◌≡◌, ap, refl, ◌<◌, ◌≤◌, ◌+◌, ◌*◌, ◌%◌, Bool, true, false, cond, ℕ, zero, suc, ℤ, pos, neg_ℤ, List, [], ◌∷◌, map, length, length-append, arith, All, Option, Some, int_lt}
use Rattle.std.specs.Prelude.{count_by}
use Rattle.std.specs.List.{AllPass}
use Rattle.std.proofs.lemmas.Int.{ints}
use Rattle.std.proofs.lemmas.List.Elements.{All-append, All-cons, All-nil}
use Rattle.std.proofs.lemmas.List.Sums.{AllPass-from_list_all, sum_by-append}
use Rattle.mix_num.specs.Orders.{places}
use Rattle.mix_num.specs.Sellers.{AreAmounts, IsAmount}
use Rattle.mix_bids.specs.Bids.{Book}
use Rattle.mix_bids.specs.declared.bid.Bid.{Bid}
use Rattle.mix_text.specs.Auctions.{AuctionText, IsAuction, IsBook}
use Rattle.mix_text.specs.Bidders.{Named}
use Rattle.mix_text.specs.Caps.{no_caps}
use Rattle.mix_text.specs.Formats.{limits_of, mix_one}
use Rattle.mix_text.specs.Limits.{BidsMeet, MeetsLimits}
use Rattle.mix_text.specs.Names.{AreNames, is_among}
use Rattle.mix_text.specs.Reading.{is_negative}
use Rattle.mix_text.specs.Spelling.{is_name}
use Rattle.mix_text.proofs.FormatLimits.{fewer_past}
use Rattle.mix_text.proofs.Gathering.{Unlike, different_same}
use Rattle.mix_text.proofs.NoCaps.{are_no_caps}
use Rattle.mix_text.proofs.TieOrders.{as_they_stand}
use Rattle.mix_trial.specs.Draws.{alone, for_each}
use Rattle.mix_trial.specs.Trials.{amount, auction, bid_of, bidder, bidder_name, bids, block, block_bids, good_names, one_value, single, two_values}
use Rattle.mix_trial.specs.Words.{Words}
use Rattle.mix_trial.proofs.DrawnTurns.{for_each_keeps, for_each_length, for_each_most}
use Rattle.mix_trial.proofs.TrialBids.{bids_are, block_length}
use Rattle.mix_trial.proofs.TrialNames.{bidder_named, names_differ}

-- ---- lists

bids_length : (words : Words) → length (bids words).0 ≡ 32
bids_length words =
    let after = (for_each 4 1 (λ _. block) words).1 in
    let blocks = for_each_length (λ _. block) 4 (λ k w. block_length w) 4 1 words in
    let singles = for_each_length (λ _. alone single) 1 (λ k w. refl) 16 1 after in
    omega (arith, length-append (for_each 4 1 (λ _. block) words).0 (for_each 16 1 (λ _. alone single) after).0)

not_negative : (x : ℕ) → int_lt (pos x) (pos 0) ≡ false
not_negative x = grind (arith, ints)

small : (t : Bool) → cond t 1 0 ≤ 1
small true = omega arith
small false = omega arith

four_count : (b c d e : Bid) → is_negative b ≡ false → is_negative c ≡ false → is_negative d ≡ false → count_by is_negative (b ∷ c ∷ d ∷ e ∷ []) ≤ 1
four_count b c d e p q r = let s = small (is_negative e) in rw (p, q, r) (omega arith)

block_count : (i j w u v a : ℕ) → count_by is_negative (block_bids i j w u v a) ≤ 1
block_count i j w u v a =
    let plain = not_negative w in
    four_count (bid_of (pos w) (one_value i (pos u))) (bid_of (pos w) (one_value j (pos v))) (bid_of (pos w) (two_values i (pos (u + a)) j (pos (v + a)))) (bid_of (neg_ℤ (pos w)) (two_values i (pos u) j (pos v))) plain plain plain

block_negatives : (words : Words) → count_by is_negative (block words).0 ≤ 1
unfolding block
block_negatives words = block_count (words 0 % 5) ((words 0 % 5 + (1 + words 1 % 4)) % 5) (1 + words 2 % 9) (words 3 % 800) (words 4 % 800) (words 5 % 200)

single_negatives : (words : Words) → count_by is_negative ((single words).0 ∷ []) ≤ 0
unfolding single
single_negatives words = let plain = not_negative (1 + words 0 % 9) in rw plain (omega arith)

bids_negatives : (words : Words) → count_by is_negative (bids words).0 ≤ 12
bids_negatives words =
    let after = (for_each 4 1 (λ _. block) words).1 in
    let sum = sum_by-append (λ (b : Bid). cond (is_negative b) 1 0) in
    let blocks : count_by is_negative (for_each 4 1 (λ _. block) words).0 ≤ 4 * 1 = for_each_most (count_by is_negative) (λ _. block) 1 refl sum (λ k w. block_negatives w) 4 1 words in
    let singles : count_by is_negative (for_each 16 1 (λ _. alone single) after).0 ≤ 16 * 0 = for_each_most (count_by is_negative) (λ _. alone single) 0 refl sum (λ k w. single_negatives w) 16 1 after in
    let all : count_by is_negative (bids words).0 ≡ count_by is_negative (for_each 4 1 (λ _. block) words).0 + count_by is_negative (for_each 16 1 (λ _. alone single) after).0 =
    sum (for_each 4 1 (λ _. block) words).0 (for_each 16 1 (λ _. alone single) after).0 in
    omega arith

-- ---- names

names_from : ℕ → ℕ → List (List ℕ)
names_from zero k = []
names_from (suc n) k = bidder_name k ∷ names_from n (suc k)

names_are : (n k : ℕ) (words : Words) → map (λ (b : List ℕ × Book). b.0) (for_each n k bidder words).0 ≡ names_from n k
unfolding for_each names_from
names_are zero k words = refl
names_are (suc n) k words = ap (λ (z : List (List ℕ)). bidder_name k ∷ z) (names_are n (suc k) (bidder k words).1)

all_named : (n k : ℕ) → n + k ≤ 100 → AllPass is_name (names_from n k)
unfolding names_from
all_named zero k h = All-nil (λ x. is_name x ≡ true)
all_named (suc n) k h = All-cons (λ x. is_name x ≡ true) (bidder_name k) (names_from n (suc k)) (bidder_named k (omega arith)) (all_named n (suc k) (omega arith))

later_names : (n k j : ℕ) → j < k → is_among (bidder_name j) (names_from n k) ≡ false
unfolding names_from
later_names zero k j h = refl
later_names (suc n) k j h = let other = names_differ j k (λ e. absurd (omega arith)) in rw other (later_names n (suc k) j (omega arith))

all_unlike : (n k : ℕ) → Unlike (names_from n k)
unfolding names_from
all_unlike zero k = tt
all_unlike (suc n) k = (later_names n (suc k) k (omega arith), all_unlike n (suc k))

forty_names : AreNames (names_from 40 1)
forty_names = record { form = all_named 40 1 (omega arith); unlike = different_same (names_from 40 1) (all_unlike 40 1) }

goods_are : AreNames good_names
goods_are = record { form = AllPass-from_list_all is_name good_names refl; unlike = refl }

-- ---- amounts

amounts_are : (low : ℕ) → low ≤ 100 → (words : Words) → AreAmounts 5 (for_each 5 1 (λ _. alone (amount low 100)) words).0
amounts_are low h words = (
  for_each_length (λ _. alone (amount low 100)) 1 (λ k w. refl) 5 1 words,
  for_each_keeps (All IsAmount) (λ _. alone (amount low 100)) (All-nil IsAmount) (All-append IsAmount) (λ k w. All-cons IsAmount (amount low 100 w).0 [] (one (w 0)) (All-nil IsAmount)) 5 1 words,
)
  where
    one : (x : ℕ) → IsAmount (pos (low + x % 100))
    one x = let b : x % 100 < 100 = omega arith in omega (arith, ints)

-- ---- the auction

books_are : (words : Words) → All (λ (b : List ℕ × Book). IsBook 5 b.1) (for_each 40 1 bidder words).0
books_are words =
    let B : List ℕ × Book → Type 0 = λ b. IsBook 5 b.1 in
    for_each_keeps (All B) bidder (All-nil B) (All-append B) (λ k w. All-cons B (bidder_name k, record { goods = 5; bids = (bids w).0 }) [] (one w) (All-nil B)) 40 1 words
  where
    one : (words : Words) → IsBook 5 (record { goods = 5; bids = (bids words).0 })
    one words = let size = bids_length words in record { goods = refl; some = omega arith; few = omega arith; bids = bids_are words }

lists_meet : (words : Words) → All (λ (b : List ℕ × Book). BidsMeet mix_one b.1) (for_each 40 1 bidder words).0
lists_meet words =
    let M : List ℕ × Book → Type 0 = λ b. BidsMeet mix_one b.1 in
    for_each_keeps (All M) bidder (All-nil M) (All-append M) (λ k w. All-cons M (bidder_name k, record { goods = 5; bids = (bids w).0 }) [] (one w) (All-nil M)) 40 1 words
  where
    one : (words : Words) → BidsMeet mix_one (record { goods = 5; bids = (bids words).0 })
    one words =
        let size = bids_length words in
        record { bids = omega arith; negatives = fewer_past (Some 12) (count_by is_negative (bids words).0) 12 (bids_negatives words) refl; cells = refl }

forty : (words : Words) → length (for_each 40 1 bidder words).0 ≡ 40
forty words = for_each_length bidder 1 (λ k w. refl) 40 1 words

pub auction_is : (words : Words) → IsAuction (auction words).0
auction_is words =
    let after = (for_each 5 1 (λ _. alone (amount 100 100)) words).1 in
    let last = (for_each 5 1 (λ _. alone (amount 0 100)) after).1 in
    let count = forty last in
    record {
      format = (omega arith, omega arith);
      some_goods = omega arith;
      few_goods = omega arith;
      goods = goods_are;
      supply = amounts_are 100 (omega arith) words;
      reserve = amounts_are 0 (omega arith) after;
      names = rw (names_are 40 1 last) forty_names;
      few_bidders = omega arith;
      books = books_are last;
      caps = are_no_caps (for_each 40 1 bidder last).0;
      order = as_they_stand (length (for_each 40 1 bidder last).0);
      first_format = λ e. refl;
      uncapped = λ few. refl;
    }

pub auction_meets : (words : Words) → MeetsLimits (auction words).0
unfolding limits_of
auction_meets words =
    let after = (for_each 5 1 (λ _. alone (amount 100 100)) words).1 in
    let last = (for_each 5 1 (λ _. alone (amount 0 100)) after).1 in
    let count = forty last in
    record { goods = omega arith; bidders = omega arith; lists = lists_meet last }

-- ---- what was drawn is the auction of the words

pub auction_drawn : (w0 w1 w2 : Words) (goods : List (List ℕ)) (supply reserve : List ℤ) (bidders : Named) (caps : List (Option ℤ)) (order : List ℕ)
    → goods ≡ good_names → supply ≡ (for_each 5 1 (λ _. alone (amount 100 100)) w0).0 → w1 ≡ (for_each 5 1 (λ _. alone (amount 100 100)) w0).1
    → reserve ≡ (for_each 5 1 (λ _. alone (amount 0 100)) w1).0 → w2 ≡ (for_each 5 1 (λ _. alone (amount 0 100)) w1).1 → bidders ≡ (for_each 40 1 bidder w2).0 → caps ≡ no_caps (length bidders) → order ≡ places (length bidders)
    → ◌≡◌ {A = AuctionText} (record { format = 1; goods = goods; supply = supply; reserve = reserve; bidders = bidders; caps = caps; order = order }) (auction w0).0
auction_drawn w0 w1 w2 goods supply reserve bidders caps order g s e r f b c o = rw (o, c, g, s, b, f, r, e) refl
