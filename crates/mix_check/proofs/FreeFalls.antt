-- What the sums of the bidders' tables tell of a fall of prices.
use Rattle.std.proofs.Common.{◌≡◌, ℕ, zero, suc, ◌^◌, ◌+◌, ◌*◌, ◌≤◌, ◌<◌, true, false, ℤ, pos, ◌≤ℤ◌, ◌<ℤ◌, List, ◌∷◌, length, get_or, add-one, pow-suc, sym, ap, ◌∙◌, subst, arith}
use Rattle.std.proofs.lemmas.Int.{ints}
use Rattle.std.proofs.lemmas.Bool.{eqb-false, false≢true, ne_eqb}
use Rattle.std.proofs.lemmas.Nat.Bits.{bit_at_lowest}
use Rattle.std.specs.Int.{bit_at}
use Rattle.mix_num.specs.Vectors.{members, with_null}
use Rattle.mix_num.specs.Moves.{IsSetOfGoods}
use Rattle.mix_num.specs.Sums.{sum_in}
use Rattle.mix_num.specs.Tables.{number_of}
use Rattle.mix_market.specs.Lyapunov.{lyapunov}
use Rattle.mix_market.specs.Lowerings.{CanFall}
use Rattle.mix_text.specs.Auctions.{AuctionText}
use Rattle.mix_answer.specs.Utilities.{utilities_of}
use Rattle.mix_check.specs.declared.tables.AllTables.{AllTables}
use Rattle.mix_check.specs.Reasons.{FallsFreely}
use Rattle.mix_check.specs.Tests.{AreTablesAt}
use Rattle.mix_answer.proofs.Entrants.{length-utilities}
use Rattle.mix_check.proofs.TableSums.{fall-is}

-- sets without the null choice have even numbers
pub even-set : (set : ℕ) → members set 0 ≡ false → (half : ℕ) → 2 * half ≤ set → set < 2 * (half + 1) → set ≡ 2 * half
even-set set e half l h =
    let a = eqb-false (bit_at set 0) 1 e in
    let b = bit_at_lowest set in
    omega (arith, a, b, l, h)

pub even-members : (half : ℕ) → members (2 * half) 0 ≡ false
even-members half = let e = bit_at_lowest (2 * half) in ne_eqb (bit_at (2 * half) 0) 1 (λ q. omega (arith, e, q))

-- the sets of n goods have twice the numbers below 2 ^ n
pub set-of_goods : (n half set : ℕ) → set ≡ 2 * half → half < 2 ^ n → IsSetOfGoods n set
set-of_goods n half set e l =
    let power = ap (λ (k : ℕ). 2 ^ k) (add-one n) ∙ pow-suc 2 n in
    (omega (arith, e, l, power), ap (λ (v : ℕ). members v 0) e ∙ even-members half)

-- each good of the set is above its start, for the choices and for the goods
pub above-choices : (n set : ℕ) (r p : List ℤ) → members set 0 ≡ false → ((k : ℕ) → k < n → members set (suc k) ≡ true → get_or r k (pos 0) <ℤ get_or p k (pos 0))
    → (k : ℕ) → k ≤ n → members set k ≡ true → with_null r k <ℤ with_null p k
above-choices n set r p null h zero l m = absurd (false≢true (sym null ∙ m))
above-choices n set r p null h (suc k) l m = h k (omega (arith, l)) m

module _ (a : AuctionText) (prices : List ℤ) (tables : AllTables) (are : AreTablesAt a prices tables) (set : ℕ) (goods : IsSetOfGoods (length a.goods) set) where
  below : set < 2 ^ suc (length a.goods)
  below = subst (λ (m : ℕ). set < 2 ^ m) (let e : length a.goods + 1 ≡ suc (length a.goods) = omega arith in e) goods.0

  -- the prices can fall freely where the sum is no more than the supply of the set
  pub falls_freely : CanFall (length a.goods) (with_null a.reserve) (with_null prices) set → number_of tables.sum set ≤ℤ sum_in (pos 0 ∷ a.supply) set
      → FallsFreely (length a.goods) (lyapunov (utilities_of a) a.supply) (with_null a.reserve) (with_null prices) set
  falls_freely can low =
      let few = length-utilities a in
      let fall = fall-is (length a.goods) (utilities_of a) tables.bidders.items a.supply prices set below (are.bidders.count ∙ sym few) (λ k h. are.bidders.are k (omega (arith, h, few))) in
      let sum = are.sums.sums set below in
      record { can_fall = can; no_rise = omega (arith, ints, fall, sum, low) }

  -- and not where it is more
  pub rises : sum_in (pos 0 ∷ a.supply) set <ℤ number_of tables.sum set
      → ¬ FallsFreely (length a.goods) (lyapunov (utilities_of a) a.supply) (with_null a.reserve) (with_null prices) set
  rises high wrong =
      let few = length-utilities a in
      let fall = fall-is (length a.goods) (utilities_of a) tables.bidders.items a.supply prices set below (are.bidders.count ∙ sym few) (λ k h. are.bidders.are k (omega (arith, h, few))) in
      let sum = are.sums.sums set below in
      let low = wrong.no_rise in
      omega (arith, ints, fall, sum, low, high)
