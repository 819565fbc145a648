-- What each reason says of an outcome that it tells not to be true. Bidders and goods are counted from 0.
use Rattle.std.specs.Prelude.{◌≡◌, ◌≢◌, ◌<◌, ◌^◌, ◌<ℤ◌, ◌≤ℤ◌, ◌+ℤ◌, ℕ, suc, ℤ, pos, List, [], length, map, get_or}
use Rattle.mix_num.specs.Vectors.{Vector, members, minus, with_null}
use Rattle.mix_num.specs.Sums.{dot_of}
use Rattle.mix_num.specs.Shares.{sum_at}
use Rattle.mix_num.specs.Tables.{number_of, share_in}
use Rattle.mix_num.specs.Orders.{in_order, place_at}
use Rattle.mix_num.specs.Pairs.{IsPair, floor_at, pair_number}
use Rattle.mix_law.specs.Demands.{IsDemanded, table_of}
use Rattle.mix_market.specs.Lyapunov.{lyapunov}
use Rattle.mix_law.specs.Certificates.{tables_at}
use Rattle.mix_law.specs.Clearings.{bidder_bundle, bidder_utility}
use Rattle.mix_market.specs.Lowerings.{CanFall}
use Rattle.mix_bids.specs.Bids.{facet_weight}
use Rattle.mix_text.specs.Auctions.{AuctionText}
use Rattle.mix_text.specs.Bidders.{list_at}
use Rattle.mix_answer.specs.Truths.{bundles_of, pair_of}
use Rattle.mix_answer.specs.Utilities.{IsConvexEntrant, entrant_at, utilities_of}
use Rattle.mix_answer.specs.declared.outcome.Answer.{Answer}
use Rattle.mix_answer.specs.declared.outcome.Outcome.{Outcome}
use Rattle.mix_answer.specs.declared.outcome.Outcome.TheVariants.{Cleared, Refused}
use Rattle.mix_answer.specs.declared.refusal.Refusal.{Refusal}
use Rattle.mix_check.specs.declared.reason.Reason.{Reason}
use Rattle.mix_check.specs.declared.reason.Reason.TheVariants.{Demand, Earlier, Facet, Floor, Invalid, Lower, Pair, Pay, Return, Sum, Tight}

-- the facet weight of the two choices of a refusal at its prices, for the list of its bidder
abbrev pub weight_of : AuctionText → Refusal → ℤ
weight_of a r = let list = list_at a.bidders r.bidder in facet_weight list.goods r.first r.second list.bids (with_null r.prices.items)

-- what a bidder gets, and what it pays
abbrev pub bundle_of : Answer → ℕ → List ℤ
bundle_of answer k = bidder_bundle (bundles_of answer) k

abbrev pub payment_of : Answer → ℕ → ℤ
payment_of answer k = get_or (map (λ share. share.payment) answer.shares) k (pos 0)

-- what the bundles and the returns of a good add up to
abbrev pub sum_of_good : Answer → ℕ → ℤ
sum_of_good answer i = sum_at (bundles_of answer) i +ℤ get_or answer.returns.items i (pos 0)

-- the bundle isn't demanded at the prices by the function f of the prices of n goods; of the sets of choices of which it has more than the
-- table of the function says there, this is the one of least number
pub record IsOverDemand (n : ℕ) (f : Vector → ℤ) (prices bundle : List ℤ) (set : ℕ) : Type 0 where
  pub undemanded : ¬ IsDemanded n f prices bundle
  pub choices : set < 2 ^ suc n
  pub more : number_of (table_of n f prices) set <ℤ share_in n (table_of n f prices) bundle set
  pub least : (s : ℕ) → s < set → share_in n (table_of n f prices) bundle s ≤ℤ number_of (table_of n f prices) s

-- the prices of the set can fall by one, and l doesn't rise
pub record FallsFreely (n : ℕ) (l : Vector → ℤ) (start p : Vector) (set : ℕ) : Type 0 where
  pub can_fall : CanFall n start p set
  pub no_rise : l (minus p (members set)) ≤ℤ l p

-- the number of the pair of a bidder, at its turn in the order, and of a good
abbrev pub number_at : AuctionText → Answer → ℕ → ℕ → ℤ
number_at a answer turn j =
    let tables = tables_at (utilities_of a) a.supply a.reserve answer.prices.items a.order in
    let bundles = in_order a.order (bundles_of answer) in
    let pair = pair_of (length a.goods) answer (place_at a.order turn) j in
    pair_number j (get_or tables turn []) (floor_at (length a.goods) tables a.supply bundles turn) (get_or bundles turn []) pair.upper pair.lower

-- the number of the pair of a bidder and a good is the bound, which isn't what the bidder has of the good
pub record IsNotTight (a : AuctionText) (answer : Answer) (k j : ℕ) (bound : ℤ) : Type 0 where
  pub turn : ℕ
  pub within : turn < length a.order
  pub served : place_at a.order turn ≡ k
  pub number : bound ≡ number_at a answer turn j
  pub other : bound ≢ get_or (bundle_of answer k) j (pos 0)

-- what a reason says of a refusal
abbrev pub HoldsOfRefusal : AuctionText → Refusal → Reason → Type 0
HoldsOfRefusal a r (Facet weight) = (weight ≡ weight_of a r) × (weight ≢ r.weight)
HoldsOfRefusal a r (Earlier k) = (k < r.bidder) × ¬ IsConvexEntrant (entrant_at a k)
HoldsOfRefusal a r other = ⊥

-- what a reason says of an answer
abbrev pub HoldsOfAnswer : AuctionText → Answer → Reason → Type 0
HoldsOfAnswer a answer (Invalid k) = (k < length a.bidders) × ¬ IsConvexEntrant (entrant_at a k)
HoldsOfAnswer a answer (Floor i) = (i < length a.goods) × (get_or answer.prices.items i (pos 0) <ℤ get_or a.reserve i (pos 0))
HoldsOfAnswer a answer (Sum i sum) = (i < length a.goods) × (sum ≡ sum_of_good answer i) × (sum ≢ get_or a.supply i (pos 0))
HoldsOfAnswer a answer (Return i) = (i < length a.goods) × (pos 0 <ℤ get_or answer.returns.items i (pos 0)) × (get_or answer.prices.items i (pos 0) ≢ get_or a.reserve i (pos 0))
HoldsOfAnswer a answer (Demand k set) = (k < length a.bidders) × IsOverDemand (length a.goods) (bidder_utility (utilities_of a) k) answer.prices.items (bundle_of answer k) set
HoldsOfAnswer a answer (Lower set) = FallsFreely (length a.goods) (lyapunov (utilities_of a) a.supply) (with_null a.reserve) (with_null answer.prices.items) set
HoldsOfAnswer a answer (Pay k amount) = (k < length a.bidders) × (amount ≡ dot_of answer.prices.items (bundle_of answer k)) × (payment_of answer k ≢ amount)
HoldsOfAnswer a answer (Pair k j) = (k < length a.bidders) × (j < length a.goods) × ¬ IsPair (length a.goods) j (pair_of (length a.goods) answer k j).upper (pair_of (length a.goods) answer k j).lower
HoldsOfAnswer a answer (Tight k j bound) = (k < length a.bidders) × (j < length a.goods) × IsNotTight a answer k j bound
HoldsOfAnswer a answer other = ⊥

-- what a reason says of an outcome
abbrev pub Holds : AuctionText → Outcome → Reason → Type 0
Holds a (Refused r) reason = HoldsOfRefusal a r reason
Holds a (Cleared answer) reason = HoldsOfAnswer a answer reason
