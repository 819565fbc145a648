-- Sums of the bidders' tables: their range, and by how much the Lyapunov function rises where the prices of a set fall by one.
use Rattle.std.proofs.Common.{◌≡◌, ℕ, zero, suc, ◌+◌, ◌-◌, ◌*◌, ◌^◌, ◌<◌, Bool, true, false, cond, ℤ, pos, ◌+ℤ◌, ◌-ℤ◌, ◌*ℤ◌, ◌≤ℤ◌, List, [], ◌∷◌, ◌++◌, take, length, get_or, refl, sym, ap, ap₂, ◌∙◌, subst, arith, lit≤, w64, to_z, of_z}
use Rattle.std.proofs.Math.Seq.{take-suc}
use Rattle.std.proofs.lemmas.Int.{ints}
use Rattle.std.proofs.lemmas.List.{get_or_default}
use Rattle.std.proofs.lemmas.Nat.{pow_pos}
use Rattle.std.specs.Int.Bits.{or_zero_l}
use Rattle.mix_num.specs.Ranges.{Lies}
use Rattle.mix_num.specs.Vectors.{Vector, Choices, bit, dot_to, members, minus, sum_to, with_null}
use Rattle.mix_num.specs.Sums.{sum_in, total}
use Rattle.mix_num.specs.Shares.{sum_at, supply_null}
use Rattle.mix_num.specs.Tables.{IsProper, null_share, number_of, whole}
use Rattle.mix_num.specs.Orders.{IsOrder, in_order}
use Rattle.mix_num.proofs.Orders.{sum-append, sum-ordered}
use Rattle.mix_num.proofs.Costs.{dot_plus, dot_same}
use Rattle.mix_law.specs.Demands.{IsTableOf}
use Rattle.mix_law.specs.Members.{rho}
use Rattle.mix_market.specs.Lyapunov.{lyapunov, sum_of}
use Rattle.mix_market.proofs.MarketLaws.{lyapunov-is}
use Rattle.mix_law.specs.Clearings.{bidder_utility}
use Rattle.mix_check.specs.declared.tables.AllTables.{AllTables}
use Rattle.mix_check.specs.Tests.{HaveSums, rows_of}
use Rattle.mix_check.proofs.WordSums.{lies-wider, word-same, word-sum}

-- a proper table's numbers lie from 0 to 8,000,000
pub number-range : (n : ℕ) (table : List ℤ) → IsProper n table → (set : ℕ) → set < 2 ^ suc n → (pos 0 ≤ℤ number_of table set) × (number_of table set ≤ℤ pos 8000000)
number-range n table p set l =
    let none = p.empty in
    let grown = p.grows 0 set (pow_pos (suc n)) l in
    let same = ap (λ (m : ℕ). number_of table m) (or_zero_l set) in
    (omega (arith, ints, none, grown, same), p.bound set l)

-- a table that is read is proper where each is
pub proper-read : (n : ℕ) (tables : List (List ℤ)) → ((k : ℕ) → k < length tables → IsProper n (get_or tables k [])) → (k : ℕ) (table : List ℤ) → k < length tables → table ≡ get_or tables k table → IsProper n table
proper-read n tables are k table l read = subst (IsProper n) (sym (read ∙ get_or_default tables k table [] l)) (are k l)

-- one table more
pub sum_at-more : (tables : List (List ℤ)) (k : ℕ) (table : List ℤ) (i : ℕ) → k < length tables → table ≡ get_or tables k table → sum_at (take (k + 1) tables) i ≡ sum_at (take k tables) i +ℤ get_or table i (pos 0)
sum_at-more tables k table i l is =
    ap (λ (m : ℕ). sum_at (take m tables) i) (let e : k + 1 ≡ suc k = omega arith in e)
    ∙ ap (λ (ts : List (List ℤ)). sum_at ts i) (take-suc tables k table l ∙ ap (λ (t : List ℤ). take k tables ++ t ∷ []) (sym is))
    ∙ sum-append (take k tables) table i

-- so do the sums of m tables, from 0 to m times that
pub sum-range : (n : ℕ) (tables : List (List ℤ)) → ((k : ℕ) → k < length tables → IsProper n (get_or tables k [])) → (set : ℕ) → set < 2 ^ suc n
    → (pos 0 ≤ℤ sum_at tables set) × (sum_at tables set ≤ℤ pos (8000000 * length tables))
sum-range n [] p set l = (omega (arith, ints), omega (arith, ints))
sum-range n (t ∷ ts) p set l =
    let first = number-range n t (p 0 (omega arith)) set l in
    let rest = sum-range n ts (λ k h. p (suc k) (omega arith)) set l in
    (omega (arith, ints, first.0, rest.0), omega (arith, ints, first.1, rest.1))

-- the sums that are kept, and the seller's numbers
pub sums-range : (n : ℕ) (tables : AllTables) → HaveSums n tables → (set : ℕ) → set < 2 ^ suc n
    → (pos 0 ≤ℤ number_of tables.sum set) × (number_of tables.sum set ≤ℤ pos 2048000000) × (pos 0 ≤ℤ number_of tables.seller set) × (number_of tables.seller set ≤ℤ pos 8000000)
sums-range n tables have set l =
    let sums = sum-range n tables.bidders.items have.proper set l in
    let own = number-range n tables.seller have.seller set l in
    let is = have.sums set l in
    let few = have.few in
    (omega (arith, ints, sums.0, is), omega (arith, ints, sums.1, is, few), own.0, own.1)

-- all rows together, in any order of the bidders
pub rows-sum : (n : ℕ) (tables : AllTables) (order : List ℕ) → IsOrder (length tables.bidders.items) order → HaveSums n tables → (set : ℕ) → set < 2 ^ suc n
    → sum_at (rows_of order tables) set ≡ number_of tables.sum set +ℤ number_of tables.seller set
rows-sum n tables order ordered have set l =
    let a = sum-append (in_order order tables.bidders.items) tables.seller set in
    let b = have.sums set l in
    let c = sum-ordered tables.bidders.items set (length tables.bidders.items) order refl ordered in
    omega (arith, ints, a, b, c)

-- the null share of the supply
pub null-is : (n : ℕ) (tables : AllTables) (order : List ℕ) → IsOrder (length tables.bidders.items) order → (supply : List ℤ) (all : ℕ) → HaveSums n tables → all ≡ whole n
    → (number_of tables.sum all +ℤ number_of tables.seller all) -ℤ total supply ≡ supply_null n (rows_of order tables) supply
null-is n tables order ordered supply all have e =
    let some = pow_pos (suc n) in
    let a = rows-sum n tables order ordered have (whole n) (omega (arith, some)) in
    let b = ap (λ (m : ℕ). number_of tables.sum m +ℤ number_of tables.seller m) e in
    omega (arith, ints, a, b)

-- all members' number of the whole set, and the null share of the supply, as they are kept
module _ (n : ℕ) (tables : AllTables) (have : HaveSums n tables) (len all : ℕ) (s t : ℤ) (long : len ≡ n) (is_all : all ≡ 2 ^ (len + 1) - 1) (is_sum : s ≡ number_of tables.sum all) (is_seller : t ≡ number_of tables.seller all) where
  whole-is : all ≡ whole n
  whole-is = is_all ∙ ap (λ (k : ℕ). 2 ^ k - 1) (let e : len + 1 ≡ suc n = omega (arith, long) in e)

  parts : (pos 0 ≤ℤ s) × (s ≤ℤ pos 2048000000) × (pos 0 ≤ℤ t) × (t ≤ℤ pos 8000000)
  parts =
      let some = pow_pos (suc n) in
      let r = sums-range n tables have (whole n) (omega (arith, some)) in
      let a = is_sum ∙ ap (λ (k : ℕ). number_of tables.sum k) whole-is in
      let b = is_seller ∙ ap (λ (k : ℕ). number_of tables.seller k) whole-is in
      (omega (arith, ints, r.0, a), omega (arith, ints, r.1, a), omega (arith, ints, r.2, b), omega (arith, ints, r.3, b))

  number : to_z w64 (of_z w64 (to_z w64 (of_z w64 s) +ℤ to_z w64 (of_z w64 t))) ≡ s +ℤ t
  number = let p = parts in word-sum s t (omega (arith, ints, p.0), omega (arith, ints, p.1)) (omega (arith, ints, p.2), omega (arith, ints, p.3))

  pub all-lies : Lies 2056000000 (to_z w64 (of_z w64 (to_z w64 (of_z w64 s) +ℤ to_z w64 (of_z w64 t))))
  all-lies = let p = parts in let e = number in (omega (arith, ints, p.0, p.2, e), omega (arith, ints, p.1, p.3, e))

  pub null-same : (order : List ℕ) → IsOrder (length tables.bidders.items) order → (supply : List ℤ) (null : ℤ) → null ≡ to_z w64 (of_z w64 (to_z w64 (of_z w64 s) +ℤ to_z w64 (of_z w64 t))) -ℤ total supply → Lies 2120000000 null
      → to_z w64 (of_z w64 null) ≡ supply_null n (rows_of order tables) supply
  null-same order ordered supply null e l =
      word-same null (lies-wider 2120000000 4000000000000 null (lit≤ tt) l)
      ∙ e ∙ ap (λ (v : ℤ). v -ℤ total supply) (number ∙ ap₂ (λ (v u : ℤ). v +ℤ u) is_sum is_seller)
      ∙ null-is n tables order ordered supply all have whole-is

-- a bidder's number of the whole set, and the null share of its bundle
module _ (n : ℕ) (table : List ℤ) (proper : IsProper n table) (len all : ℕ) (s : ℤ) (long : len ≡ n) (is_all : all ≡ 2 ^ (len + 1) - 1) (is : s ≡ number_of table all) where
  own-whole : all ≡ whole n
  own-whole = is_all ∙ ap (λ (k : ℕ). 2 ^ k - 1) (let e : len + 1 ≡ suc n = omega (arith, long) in e)

  own-lies : Lies 8000000 s
  own-lies =
      let some = pow_pos (suc n) in
      let r = number-range n table proper (whole n) (omega (arith, some)) in
      let a = is ∙ ap (λ (k : ℕ). number_of table k) own-whole in
      (omega (arith, ints, r.0, a), omega (arith, ints, r.1, a))

  own-word : to_z w64 (of_z w64 s) ≡ s
  own-word = word-same s (lies-wider 8000000 4000000000000 s (lit≤ tt) own-lies)

  pub null-lies : Lies 8000000 (to_z w64 (of_z w64 s))
  null-lies = rw own-word own-lies

  pub null_share-same : (bundle : List ℤ) (null : ℤ) → null ≡ to_z w64 (of_z w64 s) -ℤ total bundle → Lies 72000000 null → to_z w64 (of_z w64 null) ≡ null_share n table bundle
  null_share-same bundle null e l =
      word-same null (lies-wider 72000000 4000000000000 null (lit≤ tt) l)
      ∙ e ∙ ap (λ (v : ℤ). v -ℤ total bundle) (own-word ∙ is ∙ ap (λ (k : ℕ). number_of table k) own-whole)

-- the sum of the utilities rises by the sum of the tables' numbers
sums-rise : (n : ℕ) (fs : List (Vector → ℤ)) (tables : List (List ℤ)) (p : List ℤ) (set : ℕ) → set < 2 ^ suc n → length tables ≡ length fs
    → ((k : ℕ) → k < length fs → IsTableOf n (bidder_utility fs k) p (get_or tables k [])) → sum_at tables set ≡ rho (sum_of fs) (with_null p) (members set)
sums-rise n [] [] p set l e is = omega (arith, ints)
sums-rise n [] (t ∷ ts) p set l e is = absurd (omega arith)
sums-rise n (f ∷ fs) [] p set l e is = absurd (omega arith)
sums-rise n (f ∷ fs) (t ∷ ts) p set l e is =
    let first = (is 0 (omega arith)).numbers set l in
    let rest = sums-rise n fs ts p set l (omega arith) (λ k h. is (suc k) (omega arith)) in
    omega (arith, ints, first, rest)

-- a linear function falls by what the set has of it
dot_minus : (m : ℕ) (q x : Vector) (s : Choices) → dot_to m q (minus x s) ≡ dot_to m q x -ℤ dot_to m q (λ k. bit (s k))
dot_minus m q x s =
    let a = dot_plus m q (minus x s) (λ k. bit (s k)) in
    let b = dot_same m q (λ k. minus x s k +ℤ bit (s k)) x (λ k l. omega (arith, ints)) in
    omega (arith, ints)

dot-bits : (m : ℕ) (q : Vector) (s : Choices) → dot_to m q (λ k. bit (s k)) ≡ sum_to m (λ k. cond (s k) (q k) (pos 0))
dot-bits zero q s = refl
dot-bits (suc m) q s = let a = dot-bits m q s in let b = one (q m) (s m) in omega (arith, ints, a, b)
  where
    one : (v : ℤ) (b : Bool) → v *ℤ bit b ≡ cond b v (pos 0)
    one v true = omega (arith, ints)
    one v false = omega (arith, ints)

supply-in : (supply : List ℤ) (set : ℕ) → dot_to (suc (length supply)) (with_null supply) (λ k. bit (members set k)) ≡ sum_in (pos 0 ∷ supply) set
unfolding sum_in
supply-in supply set = dot-bits (suc (length supply)) (with_null supply) (members set)

-- the Lyapunov function rises by the sum of the tables' numbers less the supply of the set
pub fall-is : (n : ℕ) (fs : List (Vector → ℤ)) (tables : List (List ℤ)) (supply p : List ℤ) (set : ℕ) → set < 2 ^ suc n → length tables ≡ length fs
    → ((k : ℕ) → k < length fs → IsTableOf n (bidder_utility fs k) p (get_or tables k []))
    → lyapunov fs supply (minus (with_null p) (members set)) ≡ lyapunov fs supply (with_null p) +ℤ (sum_at tables set -ℤ sum_in (pos 0 ∷ supply) set)
fall-is n fs tables supply p set l e is =
    let a = lyapunov-is fs supply (with_null p) in
    let b = lyapunov-is fs supply (minus (with_null p) (members set)) in
    let d = dot_minus (suc (length supply)) (with_null supply) (with_null p) (members set) in
    let s = supply-in supply set in
    let u = sums-rise n fs tables p set l e is in
    omega (arith, ints, a, b, d, s, u)
