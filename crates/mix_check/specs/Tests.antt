-- What the checker's tests show of an answer that passes them, and what its tables are. For proofs; no public clause rests on it.
use Rattle.std.specs.Prelude.{◌≡◌, ◌<◌, ◌^◌, ◌≤◌, ◌<ℤ◌, ◌≤ℤ◌, ◌-ℤ◌, ℕ, suc, ℤ, pos, Bool, true, false, List, [], ◌∷◌, ◌++◌, length, get_or, drop, Option, Some, None}
use Rattle.mix_num.specs.Vectors.{with_null}
use Rattle.mix_num.specs.Sellers.{seller_gain}
use Rattle.mix_num.specs.Sums.{dot_of}
use Rattle.mix_num.specs.Shares.{sum_at}
use Rattle.mix_num.specs.Tables.{IsProper, number_of}
use Rattle.mix_num.specs.Orders.{in_order, place_at}
use Rattle.mix_num.specs.Pairs.{IsPair, floor_at, left_at}
use Rattle.mix_num.specs.Ranges.{Lies}
use Rattle.mix_law.specs.Demands.{IsDemanded, IsTableOf}
use Rattle.mix_cap.specs.MemberLaws.{function_of, goods_of}
use Rattle.mix_cap.specs.declared.member.Member.{Member}
use Rattle.mix_market.specs.Lyapunov.{lyapunov}
use Rattle.mix_law.specs.Certificates.{IsTightPair, tables_at}
use Rattle.mix_law.specs.Clearings.{bidder_utility}
use Rattle.mix_market.specs.Lowerings.{RisesWhereFallen}
use Rattle.mix_text.specs.Auctions.{AuctionText}
use Rattle.mix_answer.specs.Refusals.{AreConvex, AreConvexBefore}
use Rattle.mix_answer.specs.Truths.{bundles_of, pair_of}
use Rattle.mix_answer.specs.Utilities.{IsConvexEntrant, entrant_at, entrant_utility, utilities_of}
use Rattle.mix_answer.specs.declared.outcome.Answer.{Answer}
use Rattle.mix_check.specs.declared.tables.Taken.{Taken}
use Rattle.mix_check.specs.declared.tables.Taken.TheVariants.{Invalid, Tables as TablesOf}
use Rattle.mix_check.specs.declared.tables.AllTables.{AllTables}
use Rattle.mix_check.specs.declared.pairs.Failure.{Failure}
use Rattle.mix_check.specs.declared.reason.Reason.{Reason}
use Rattle.mix_check.specs.declared.reason.Reason.TheVariants.{Pair, Tight}
use Rattle.mix_check.specs.Reasons.{HoldsOfAnswer, bundle_of, payment_of, sum_of_good}

-- a member that stands for the bidder at a place, which is convex: it is over the goods of the auction, and its function is the bidder's utility
pub record StandsFor (a : AuctionText) (k : ℕ) (member : Member) : Type 0 where
  pub convex : IsConvexEntrant (entrant_at a k)
  pub goods : goods_of member ≡ length a.goods
  pub utility : function_of member ≡ entrant_utility (entrant_at a k)

-- whether the bidder at a place is convex
abbrev pub TellsConvex : AuctionText → ℕ → Bool → Type 0
TellsConvex a k true = IsConvexEntrant (entrant_at a k)
TellsConvex a k false = ¬ IsConvexEntrant (entrant_at a k)

-- of some bidders the first that isn't convex
pub record IsFirstInvalid (a : AuctionText) (count k : ℕ) : Type 0 where
  pub within : k < count
  pub before : AreConvexBefore a k
  pub invalid : ¬ IsConvexEntrant (entrant_at a k)

-- no price is below its reserve
abbrev pub AreAboveReserves : AuctionText → Answer → Type 0
AreAboveReserves a answer = (i : ℕ) → i < length a.goods → get_or a.reserve i (pos 0) ≤ℤ get_or answer.prices.items i (pos 0)

-- bundles and returns add up to the supply
abbrev pub AddUp : AuctionText → Answer → Type 0
AddUp a answer = (i : ℕ) → i < length a.goods → sum_of_good answer i ≡ get_or a.supply i (pos 0)

-- what is returned is returned at the reserve
abbrev pub AreReturnedAtReserves : AuctionText → Answer → Type 0
AreReturnedAtReserves a answer = (i : ℕ) → i < length a.goods → pos 0 <ℤ get_or answer.returns.items i (pos 0) → get_or answer.prices.items i (pos 0) ≡ get_or a.reserve i (pos 0)

-- each bidder demands its bundle
abbrev pub AreDemanded : AuctionText → Answer → Type 0
AreDemanded a answer = (k : ℕ) → k < length a.bidders → IsDemanded (length a.goods) (bidder_utility (utilities_of a) k) answer.prices.items (bundle_of answer k)

-- no set of prices can fall without a rise
abbrev pub Rises : AuctionText → Answer → Type 0
Rises a answer = RisesWhereFallen (length a.goods) (lyapunov (utilities_of a) a.supply) (with_null a.reserve) (with_null answer.prices.items)

-- each bidder pays price times quantity
abbrev pub ArePaid : AuctionText → Answer → Type 0
ArePaid a answer = (k : ℕ) → k < length a.bidders → payment_of answer k ≡ dot_of answer.prices.items (bundle_of answer k)

-- the tables of the first k bidders at prices
pub record AreTablesOfFirst (a : AuctionText) (prices : List ℤ) (k : ℕ) (tables : List (List ℤ)) : Type 0 where
  pub count : length tables ≡ k
  pub are : (j : ℕ) → j < k → IsTableOf (length a.goods) (bidder_utility (utilities_of a) j) prices (get_or tables j [])
  pub proper : (j : ℕ) → j < k → IsProper (length a.goods) (get_or tables j [])

-- what comes of taking the tables of all bidders
abbrev pub IsTaken : AuctionText → List ℤ → Taken → Type 0
IsTaken a prices (TablesOf tables) = AreConvex a × AreTablesOfFirst a prices (length a.bidders) tables.items
IsTaken a prices (Invalid k) = IsFirstInvalid a (length a.bidders) k

-- all tables, the bidders' in an order and the seller's last
abbrev pub rows_of : List ℕ → AllTables → List (List ℤ)
rows_of order tables = in_order order tables.bidders.items ++ tables.seller ∷ []

-- what is left of the supply at a set once the bidders before the k-th in the order have their bundles, less all that the members from it on can take
abbrev pub spare_at : ℕ → List (List ℤ) → List ℤ → List (List ℤ) → ℕ → ℕ → ℤ
spare_at n rows supply bundles k set = left_at n rows supply bundles k set -ℤ sum_at (drop k rows) set

-- tables of bidders and of a seller that are proper, and the sums of those of the bidders
pub record HaveSums (n : ℕ) (tables : AllTables) : Type 0 where
  pub few : length tables.bidders.items ≤ 256
  pub proper : (k : ℕ) → k < length tables.bidders.items → IsProper n (get_or tables.bidders.items k [])
  pub seller : IsProper n tables.seller
  pub size : length tables.sum ≡ 2 ^ suc n
  pub sums : (set : ℕ) → set < 2 ^ suc n → number_of tables.sum set ≡ sum_at tables.bidders.items set

-- the tables of all members at prices, and the sums of those of the bidders
pub record AreTablesAt (a : AuctionText) (prices : List ℤ) (tables : AllTables) : Type 0 where
  pub bidders : AreTablesOfFirst a prices (length a.bidders) tables.bidders.items
  pub seller : IsTableOf (length a.goods) (seller_gain a.supply a.reserve) prices tables.seller
  pub sums : HaveSums (length a.goods) tables

-- numbers of the sets of n goods and the null choice, that lie from -m to m
abbrev pub LieWithin : ℕ → ℕ → List ℤ → Type 0
LieWithin n m numbers = (set : ℕ) → set < 2 ^ suc n → Lies m (number_of numbers set)

-- the table of the bidder at a turn, and what must be given to it at each set
pub record AreAtTurn (a : AuctionText) (answer : Answer) (turn : ℕ) (table floor : List ℤ) : Type 0 where
  pub own : table ≡ get_or (tables_at (utilities_of a) a.supply a.reserve answer.prices.items a.order) turn []
  pub needed : (set : ℕ) → set < 2 ^ suc (length a.goods) → number_of floor set
      ≡ floor_at (length a.goods) (tables_at (utilities_of a) a.supply a.reserve answer.prices.items a.order) a.supply (in_order a.order (bundles_of answer)) turn set
  pub size : length table ≡ 2 ^ suc (length a.goods)
  pub room : length floor ≡ 512
  pub range : LieWithin (length a.goods) 4000000000000 floor

-- the pair of the bidder at a turn and of a good is tight
abbrev pub HasTightPair : AuctionText → Answer → ℕ → ℕ → Type 0
HasTightPair a answer turn j =
    let pair = pair_of (length a.goods) answer (place_at a.order turn) j in
    IsTightPair (utilities_of a) a.supply a.reserve answer.prices.items a.order (bundles_of answer) turn j pair.upper pair.lower

-- the reason is one against the two sets of a bidder and a good: they are no pair, or they are one and its number is another
abbrev pub IsAgainst : AuctionText → Answer → ℕ → ℕ → Reason → Type 0
IsAgainst a answer k j (Pair i g) = (i ≡ k) × (g ≡ j) × HoldsOfAnswer a answer (Pair k j)
IsAgainst a answer k j (Tight i g bound) =
    (i ≡ k) × (g ≡ j) × HoldsOfAnswer a answer (Tight k j bound) × IsPair (length a.goods) j (pair_of (length a.goods) answer k j).upper (pair_of (length a.goods) answer k j).lower
IsAgainst a answer k j other = ⊥

-- it is against the first good of a bidder, at its turn, whose pair isn't tight
pub record IsFirstOfTurn (a : AuctionText) (answer : Answer) (turn : ℕ) (reason : Reason) : Type 0 where
  pub good : ℕ
  pub within : good < length a.goods
  pub against : IsAgainst a answer (place_at a.order turn) good reason
  pub before : (j : ℕ) → j < good → HasTightPair a answer turn j

-- the bidder has had its turn, and the reason is the first against it; or there is none, and no such bidder
abbrev pub IsOfBidder : AuctionText → Answer → ℕ → Option Reason → Type 0
IsOfBidder a answer k None = length a.bidders ≤ k
IsOfBidder a answer k (Some reason) = (turn : ℕ) × (turn < length a.bidders) × (place_at a.order turn ≡ k) × IsFirstOfTurn a answer turn reason

-- of the bidders that had their turn, those of lesser number have tight pairs, and the one that is kept has not
pub record IsFirstFailure (a : AuctionText) (answer : Answer) (turns : ℕ) (failure : Failure) : Type 0 where
  pub tight : (turn j : ℕ) → turn < turns → place_at a.order turn < failure.bidder → j < length a.goods → HasTightPair a answer turn j
  pub first : IsOfBidder a answer failure.bidder failure.reason
