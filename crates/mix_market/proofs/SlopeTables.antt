-- Tables of falls and of slopes: one member more, and one set of goods more.
use Rattle.std.proofs.Common.{◌≡◌, ◌≢◌, ◌∙◌, ℕ, ◌+◌, ◌*◌, ◌<◌, ◌≤◌, Bool, true, false, ltb, List, ℤ, pos, ◌+ℤ◌, ◌-ℤ◌, ◌≤ℤ◌, ◌^◌, ◌/◌, cond, sym, subst, refl, arith, ap, below_more}
use Rattle.std.proofs.lemmas.Int.{ints, clamps}
use Rattle.std.proofs.lemmas.Bool.{ltb-true, ltb-false}
use Rattle.mix_num.specs.Ranges.{Lies}
use Rattle.mix_num.specs.Tables.{number_of}
use Rattle.mix_num.specs.Subsets.{lies_in, sizes, subset_sum}
use Rattle.mix_num.proofs.Additions.{sum_to-zero}
use Rattle.std.specs.Int.{int_max}
use Rattle.mix_num.specs.Moves.{IsSetOfGoods}
use Rattle.mix_market.proofs.GoodsSets.{even_goods, even_of, half_goods}

-- in a table of zeros all sums are 0
pub no_parts : (table : List ℤ) (set : ℕ) → ((k : ℕ) → number_of table k ≡ pos 0) → subset_sum table set ≡ pos 0
unfolding subset_sum
no_parts table set h = sum_to-zero 512 (λ t. cond (lies_in t set) (number_of table t) (pos 0)) (λ t _. at (lies_in t set) t)
  where
    at : (b : Bool) (t : ℕ) → cond b (number_of table t) (pos 0) ≡ pos 0
    at true t = h t
    at false t = refl

pub no_sizes : (table : List ℤ) → ((k : ℕ) → number_of table k ≡ pos 0) → sizes table ≡ pos 0
unfolding sizes
no_sizes table h = sum_to-zero 512 (λ t. int_max (number_of table t) (pos 0 -ℤ number_of table t)) (λ k _. let e = h k in omega (arith, ints, clamps))

pub sum_lies : (sum fall weight : ℤ) (k : ℕ) → k < 256 → pos 0 ≤ℤ sum → sum ≤ℤ pos (8000000 * k) → (pos 0 ≤ℤ fall) × (fall ≤ℤ weight) → weight ≤ℤ pos 8000000 → Lies 4000000000 (sum +ℤ fall)
sum_lies sum fall weight k l low high range most = (omega (arith, ints, range.0, range.1), omega (arith, ints, range.0, range.1))

pub sum_next : (old parts new more own rest all total : ℤ) → new +ℤ more ≡ (old +ℤ parts) +ℤ own → all ≡ own +ℤ rest → (old +ℤ parts) +ℤ all ≡ total → (new +ℤ more) +ℤ rest ≡ total
sum_next old parts new more own rest all total a b c = omega (arith, ints)

pub grown : (old new fall weight : ℤ) (set sets : ℕ) → (set < sets → new ≡ old +ℤ fall) → (sets ≤ set → new ≡ old) → (pos 0 ≤ℤ fall) × (fall ≤ℤ weight) → (old ≤ℤ new) × (new ≤ℤ (old +ℤ weight))
grown old new fall weight set sets inside outside range = at (ltb set sets) refl
  where
    at : (b : Bool) → ltb set sets ≡ b → (old ≤ℤ new) × (new ≤ℤ (old +ℤ weight))
    at true e = let s = inside (ltb-true set sets e) in (omega (arith, ints, range.0, range.1), omega (arith, ints, range.0, range.1))
    at false e = let s = outside (ltb-false set sets e) in (omega (arith, ints, range.0, range.1), omega (arith, ints, range.0, range.1))

-- the sets 0, 2, .. below 2 * i have their numbers, and the others have 0
pub record AreDone (table : List ℤ) (f : ℕ → ℤ) (i : ℕ) : Type 0 where
  pub done : (k : ℕ) → k < i → number_of table (2 * k) ≡ f (2 * k)
  pub others : (set : ℕ) → ((k : ℕ) → k < i → set ≢ 2 * k) → number_of table set ≡ pos 0

pub next_zero : (table : List ℤ) (f : ℕ → ℤ) (i : ℕ) → AreDone table f i → number_of table (2 * i) ≡ pos 0
next_zero table f i d = d.others (2 * i) (λ k l e. omega arith)

pub one_done : (old new : List ℤ) (f : ℕ → ℤ) (i set : ℕ) (by : ℤ) → set ≡ 2 * i → by ≡ f set → number_of new set ≡ number_of old set +ℤ by → ((other : ℕ) → other ≢ set → number_of new other ≡ number_of old other)
    → AreDone old f i → AreDone new f (i + 1)
one_done old new f i set by e is sum rest d = record {
  done = below_more (λ k. number_of new (2 * k) ≡ f (2 * k)) i
      (λ k l. rest (2 * k) (λ q. omega arith) ∙ d.done k l)
      (let here = ap (number_of new) e in let own = ap f e in let zero = ap (number_of old) e ∙ next_zero old f i d in omega (arith, ints));
  others = λ other h. rest other (λ q. h i (omega arith) (q ∙ e)) ∙ d.others other (λ k l. h k (omega arith));
}

-- all sets of n goods are done
pub goods_done : (n : ℕ) (table : List ℤ) (f : ℕ → ℤ) (i : ℕ) → i ≡ 2 ^ n → AreDone table f i → (set : ℕ) → IsSetOfGoods n set → number_of table set ≡ f set
goods_done n table f i all d set goods =
    let below = half_goods n set goods in
    let even = even_of set goods.1 in
    ap (number_of table) even ∙ d.done (set / 2) (omega arith) ∙ ap f (sym even)

pub others_done : (n : ℕ) (table : List ℤ) (f : ℕ → ℤ) (i : ℕ) → i ≡ 2 ^ n → AreDone table f i → (set : ℕ) → (IsSetOfGoods n set → ⊥) → number_of table set ≡ pos 0
others_done n table f i all d set other = d.others set (λ k l e. other (subst (IsSetOfGoods n) (sym e) (even_goods n k (omega arith))))
