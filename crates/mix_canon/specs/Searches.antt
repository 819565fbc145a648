-- What it is to tell two lists apart, and the prices at which that is tried, in their order.
use Rattle.std.specs.Prelude.{◌≡◌, ◌≢◌, ◌<◌, ◌⊎◌, ℕ, List, map, ℤ, pos, negsuc, ◌≤ℤ◌, Option, Some, None, length, All, replicate}
use Rattle.std.specs.declared.cmp.Ordering.TheVariants.{Less}
use Rattle.mix_num.specs.Vectors.{Agree, Vector, members, minus, plus, with_null}
use Rattle.mix_num.specs.Moves.{IsSetOfGoods}
use Rattle.mix_num.specs.Ranges.{Lies}
use Rattle.mix_bids.specs.Offers.{Offers}
use Rattle.mix_bids.specs.Bids.{Book, utility}
use Rattle.mix_bids.specs.declared.bid.Bid.{Bid}
use Rattle.mix_canon.specs.Canons.{value_order, weight_of}
use Rattle.mix_canon.specs.declared.likeness.Likeness.{Likeness}
use Rattle.mix_canon.specs.declared.likeness.Likeness.TheVariants.{Differ, Equal}

-- the two lists have the same indirect utility at all whole prices of n goods
abbrev pub AreAlike : ℕ → List Bid → List Bid → Type 0
AreAlike n bs cs = (p : List ℤ) → length p ≡ n → utility bs (with_null p) ≡ utility cs (with_null p)

-- from -1 to 1,000,000
abbrev pub IsOwn : ℤ → Type 0
IsOwn a = (negsuc 0 ≤ℤ a) × (a ≤ℤ pos 1000000)

-- from -2 to 1,000,001
abbrev pub IsNear : ℤ → Type 0
IsNear a = (negsuc 1 ≤ℤ a) × (a ≤ℤ pos 1000001)

-- the two lists have the same indirect utility where no price is below -2 or above 1,000,001
abbrev pub AreAlikeNear : ℕ → List Bid → List Bid → Type 0
AreAlikeNear n bs cs = (p : List ℤ) → length p ≡ n → All IsNear p → utility bs (with_null p) ≡ utility cs (with_null p)

-- prices from -2 to 1,000,001, and the utilities of the two lists there, which differ; their size is at most 2 * 10^13
pub record TellsApart (first second : Book) (prices : List ℤ) (a b : ℤ) : Type 0 where
  pub size : length prices ≡ first.goods
  pub near : All IsNear prices
  pub left : a ≡ utility first.bids (with_null prices)
  pub right : b ≡ utility second.bids (with_null prices)
  pub apart : a ≢ b
  pub range : Lies 20000000000000 a × Lies 20000000000000 b

-- what an answer says of the prices that it has, if it has any
abbrev pub WhereDiffer : (List ℤ → ℤ → ℤ → Type 0) → Likeness → Type 0
WhereDiffer says Equal = Unit {0}
WhereDiffer says (Differ prices a b) = says prices.items a b

-- the answer shows that the lists differ, at prices of which this is said
abbrev pub IsTold : Book → Book → (List ℤ → Type 0) → Likeness → Type 0
IsTold first second says Equal = ⊥
IsTold first second says (Differ prices a b) = TellsApart first second prices.items a b × says prices.items

-- ---- the prices that are tried
-- the two lists have the same utility at these prices
abbrev pub AgreeAt : List Bid → List Bid → Vector → Type 0
AgreeAt bs cs x = utility bs x ≡ utility cs x

-- the same price for each of n goods
abbrev pub flat : ℕ → ℤ → Vector
flat n a = with_null (replicate n a)

-- at -1 and at -2 in every good
pub record AgreeLow (n : ℕ) (bs cs : List Bid) : Type 0 where
  pub one : AgreeAt bs cs (flat n (negsuc 0))
  pub two : AgreeAt bs cs (flat n (negsuc 1))

-- the price that is a value itself, and -1 where there is none
abbrev pub price_of : Option ℤ → ℤ
price_of None = negsuc 0
price_of (Some a) = a

-- the prices that are a value vector's own numbers
abbrev pub prices_of : Offers → List ℤ
prices_of v = map price_of v

-- where a set of goods is raised or lowered by one
pub record AgreeBeside (bs cs : List Bid) (x : Vector) (set : ℕ) : Type 0 where
  pub up : AgreeAt bs cs (plus x (members set))
  pub down : AgreeAt bs cs (minus x (members set))

-- where any set of the n goods is raised or lowered by one from a value vector's own numbers
abbrev pub AgreeRound : ℕ → List Bid → List Bid → Offers → Type 0
AgreeRound n bs cs v = (set : ℕ) → IsSetOfGoods n set → AgreeBeside bs cs (with_null (prices_of v)) set

-- ---- the first of them
-- the prices where a set is raised by one; or, where the lists agree there, those where it is lowered by one
abbrev pub IsFirstBeside : ℕ → List Bid → List Bid → Vector → ℕ → List ℤ → Type 0
IsFirstBeside n bs cs x set p = Agree n (with_null p) (plus x (members set)) ⊎ (AgreeAt bs cs (plus x (members set)) × Agree n (with_null p) (minus x (members set)))

-- those of the first set of goods, by its number, beside which the lists don't agree
pub record IsFirstRound (n : ℕ) (bs cs : List Bid) (v : Offers) (p : List ℤ) : Type 0 where
  pub set : ℕ
  pub goods : IsSetOfGoods n set
  pub before : (k : ℕ) → k < set → IsSetOfGoods n k → AgreeBeside bs cs (with_null (prices_of v)) k
  pub beside : IsFirstBeside n bs cs (with_null (prices_of v)) set p

-- the first value vector whose weights in the two lists differ
pub record IsFirstVector (bs cs : List Bid) (v : Offers) : Type 0 where
  pub apart : weight_of v bs ≢ weight_of v cs
  pub before : (u : Offers) → value_order u v ≡ Less → weight_of u bs ≡ weight_of u cs

-- the first prices round the first value vector whose weights differ
abbrev pub IsFirstAround : ℕ → List Bid → List Bid → List ℤ → Type 0
IsFirstAround n bs cs p = (v : Offers) × (IsFirstVector bs cs v × IsFirstRound n bs cs v p)

-- -1 in every good; or, where the lists agree there, -2 in every good; or, where they agree there too, the first prices round that vector
abbrev pub IsFirstTried : ℕ → List Bid → List Bid → List ℤ → Type 0
IsFirstTried n bs cs p =
    (p ≡ replicate n (negsuc 0))
    ⊎ ((AgreeAt bs cs (flat n (negsuc 0)) × (p ≡ replicate n (negsuc 1)))
    ⊎ (AgreeLow n bs cs × IsFirstAround n bs cs p))
