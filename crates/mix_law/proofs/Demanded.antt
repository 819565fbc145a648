-- A bundle fits a member's table exactly where the member demands it, over all whole prices.
use Rattle.std.proofs.Common.{◌≡◌, ℕ, zero, suc, ◌^◌, ◌≤◌, ◌<◌, Bool, true, false, not, cond, ℤ, pos, neg_ℤ, ◌+ℤ◌, ◌-ℤ◌, ◌*ℤ◌, ◌≤ℤ◌, List, [], ◌∷◌, length, get_or, refl, arith, sym, ap, ◌∙◌}
use Rattle.std.proofs.lemmas.Int.{ints}
use Rattle.std.proofs.Math.IntN.{*ℤ_comm}
use Rattle.mix_num.specs.Vectors.{Vector, Choices, bit, plus, minus, outside, shifted, sum_to, dot_to, members, with_null}
use Rattle.mix_num.specs.Sums.{entries, total, sum_in, dot_of}
use Rattle.mix_num.specs.Tables.{Fits, null_share}
use Rattle.mix_num.proofs.Masks.{mask_of, mask_below, mask_members}
use Rattle.mix_num.proofs.Additions.{sum_to-front, sum_to-same, dot_to-front}
use Rattle.mix_law.specs.Members.{IsLNatural, keeps_local, rho, tilted}
use Rattle.mix_law.specs.Demands.{IsDemanded, IsTableOf}
use Rattle.mix_num.proofs.Costs.{dot_plus}
use Rattle.mix_law.proofs.Linear.{plus_linear}
use Rattle.mix_law.proofs.Exchanges.{local_least}
use Rattle.mix_law.proofs.MemberTables.{number-whole, rho-same}

-- the sum of the entries of a set, of the first m choices
abbrev sum_of : ℕ → Vector → Choices → ℤ
sum_of m x s = sum_to m (λ k. cond (s k) (x k) (pos 0))

dot_bits : (m : ℕ) (q : Vector) (s : Choices) → dot_to m q (λ k. neg_ℤ (bit (s k))) ≡ neg_ℤ (sum_of m q s)
dot_bits zero q s = refl
dot_bits (suc m) q s = at (s m) (dot_bits m q s)
  where
    at : (b : Bool) → dot_to m q (λ k. neg_ℤ (bit (s k))) ≡ neg_ℤ (sum_of m q s) → dot_to m q (λ k. neg_ℤ (bit (s k))) +ℤ (q m *ℤ neg_ℤ (bit b)) ≡ neg_ℤ (sum_of m q s +ℤ cond b (q m) (pos 0))
    at true h = omega (arith, ints)
    at false h = omega (arith, ints)

dot_minus : (m : ℕ) (q p : Vector) (s : Choices) → dot_to m q (minus p s) ≡ dot_to m q p -ℤ sum_of m q s
dot_minus m q p s = let a = dot_plus m q p (λ k. neg_ℤ (bit (s k))) in let b = dot_bits m q s in omega (arith, ints)

dot_comm : (m : ℕ) (x y : Vector) → dot_to m x y ≡ dot_to m y x
dot_comm zero x y = refl
dot_comm (suc m) x y = let a = dot_comm m x y in let b = *ℤ_comm (x m) (y m) in omega (arith, ints)

-- the null choice's price is 0, so a bundle with any null share costs what its goods cost
dot-shares : (null : ℤ) (bundle q : List ℤ) → length q ≡ length bundle → dot_to (suc (length bundle)) (entries (null ∷ bundle)) (with_null q) ≡ dot_of q bundle
unfolding dot_of
dot-shares null bundle q e =
    let front = dot_to-front (length bundle) (entries (null ∷ bundle)) (with_null q) in
    let zero_price : null *ℤ pos 0 ≡ pos 0 = omega (arith, ints) in
    let turned = dot_comm (length bundle) (entries bundle) (entries q) in
    let long = ap (λ (k : ℕ). dot_to k (entries q) (entries bundle)) e in
    omega (arith, ints)

sum-shares : (null : ℤ) (bundle : List ℤ) → sum_to (suc (length bundle)) (entries (null ∷ bundle)) ≡ null +ℤ total bundle
unfolding total
sum-shares null bundle = sum_to-front (length bundle) (entries (null ∷ bundle))

sum_in-members : (null : ℤ) (bundle : List ℤ) (set : ℕ) → sum_in (null ∷ bundle) set ≡ sum_of (suc (length bundle)) (entries (null ∷ bundle)) (members set)
unfolding sum_in
sum_in-members null bundle set = refl

up_down : (a : ℤ) (b : Bool) → (a -ℤ bit (not b)) +ℤ pos 1 ≡ a +ℤ bit b
up_down a true = omega (arith, ints)
up_down a false = omega (arith, ints)

-- a list of the entries 1 to n of a vector
listed : ℕ → Vector → List ℤ
listed zero z = []
listed (suc n) z = z 1 ∷ listed n (λ k. z (suc k))

length-listed : (n : ℕ) (z : Vector) → length (listed n z) ≡ n
unfolding listed
length-listed zero z = refl
length-listed (suc n) z = ap suc (length-listed n (λ k. z (suc k)))

get-listed : (n : ℕ) (z : Vector) (k : ℕ) → k < n → get_or (listed n z) k (pos 0) ≡ z (suc k)
unfolding listed
get-listed zero z k h = absurd (omega arith)
get-listed (suc n) z zero h = refl
get-listed (suc n) z (suc k) h = get-listed n (λ k. z (suc k)) k (omega arith)

with_null-listed : (n : ℕ) (z : Vector) → z 0 ≡ pos 0 → (k : ℕ) → k ≤ n → with_null (listed n z) k ≡ z k
with_null-listed n z e zero h = sym e
with_null-listed n z e (suc k) h = get-listed n z k (omega arith)

module _ {n : ℕ} {f : Vector → ℤ} {w : ℤ} {top : ℕ → ℤ} (c : IsLNatural n f w top) where
  -- amounts whose sum is the total, and of which no set has more than the table's number, make the point least
  least-where_fits : (x p : Vector) → sum_to (suc n) x ≡ w → ((s : Choices) → sum_of (suc n) x s ≤ℤ rho f p s) → (y : Vector) → tilted n f x p ≤ℤ tilted n f x y
  least-where_fits x p e h =
      let g = plus_linear x (keeps_local c) in
      let down : (s : Choices) → tilted n f x p ≤ℤ tilted n f x (minus p s) = λ s. let a = h s in let b = dot_minus (suc n) x p s in omega (arith, ints) in
      local_least g p (record {
        up = λ s.
            let a = down (outside s) in
            let b = g.shift (minus p (outside s)) (pos 1) in
            let d = g.reads (shifted (minus p (outside s)) (pos 1)) (plus p s) (λ k _. up_down (p k) (s k)) in
            let z : pos 1 *ℤ (w -ℤ sum_to (suc n) x) ≡ pos 0 = omega (arith, ints) in
            omega (arith, ints);
        down = down;
      })

  -- where it is least among the vectors whose null choice has the price 0, it is least among all
  least-of_all : (x p : Vector) → sum_to (suc n) x ≡ w → ((z : Vector) → z 0 ≡ pos 0 → tilted n f x p ≤ℤ tilted n f x z) → (y : Vector) → tilted n f x p ≤ℤ tilted n f x y
  least-of_all x p e h y =
      let g = plus_linear x (keeps_local c) in
      let z : Vector = shifted y (neg_ℤ (y 0)) in
      let a = h z (omega (arith, ints)) in
      let s = g.shift y (neg_ℤ (y 0)) in
      let m : neg_ℤ (y 0) *ℤ (w -ℤ sum_to (suc n) x) ≡ pos 0 = nothing (neg_ℤ (y 0)) (w -ℤ sum_to (suc n) x) (omega (arith, ints)) in
      omega (arith, ints)
    where
      nothing : (a b : ℤ) → b ≡ pos 0 → a *ℤ b ≡ pos 0
      nothing a b e = ap (λ (d : ℤ). a *ℤ d) e ∙ (let q : a *ℤ pos 0 ≡ pos 0 = omega (arith, ints) in q)

  module _ (p table bundle : List ℤ) (long : length p ≡ n) (size : length bundle ≡ n) (t : IsTableOf n f p table) where
    abbrev shares : Vector
    shares = entries (null_share n table bundle ∷ bundle)

    shares-sum : sum_to (suc n) shares ≡ w
    shares-sum =
        let a = sum-shares (null_share n table bundle) bundle in
        let b = ap (λ (k : ℕ). sum_to (suc k) shares) size in
        let d = number-whole c p table t in
        omega (arith, ints)

    cost : (q : List ℤ) → length q ≡ n → dot_to (suc n) shares (with_null q) ≡ dot_of q bundle
    cost q e = sym (ap (λ (k : ℕ). dot_to (suc k) shares (with_null q)) size) ∙ dot-shares (null_share n table bundle) bundle q (e ∙ sym size)

    number-is : (set : ℕ) → sum_in (null_share n table bundle ∷ bundle) set ≡ sum_of (suc n) shares (members set)
    number-is set = sum_in-members (null_share n table bundle) bundle set ∙ ap (λ (k : ℕ). sum_of (suc k) shares (members set)) size

    pub demanded-where_fits : Fits n table bundle → IsDemanded n f p bundle
    demanded-where_fits h q e =
        let least = least-where_fits shares (with_null p) shares-sum at (with_null q) in
        let a = cost p long in
        let b = cost q e in
        omega (arith, ints)
      where
        at : (s : Choices) → sum_of (suc n) shares s ≤ℤ rho f (with_null p) s
        at s =
            let m : ℕ = mask_of (suc n) s in
            let l : m < 2 ^ suc n = mask_below (suc n) s in
            let i = h.within m l in
            let j = t.numbers m l in
            let u = number-is m in
            let v : sum_of (suc n) shares (members m) ≡ sum_of (suc n) shares s = sum_to-same (suc n) _ _ (λ k g. ap (λ (b : Bool). cond b (shares k) (pos 0)) (mask_members (suc n) s k g)) in
            let r = rho-same c (with_null p) (members m) s (λ k g. mask_members (suc n) s k (omega arith)) in
            omega (arith, ints)

    pub fits-where_demanded : IsDemanded n f p bundle → Fits n table bundle
    fits-where_demanded h = record {
      size = size;
      within = λ set l.
          let a = least-of_all shares (with_null p) shares-sum at (minus (with_null p) (members set)) in
          let b = dot_minus (suc n) shares (with_null p) (members set) in
          let i = t.numbers set l in
          let j = number-is set in
          omega (arith, ints);
    }
      where
        at : (z : Vector) → z 0 ≡ pos 0 → tilted n f shares (with_null p) ≤ℤ tilted n f shares z
        at z e =
            let q : List ℤ = listed n z in
            let i = h q (length-listed n z) in
            let a = cost p long in
            let b = cost q (length-listed n z) in
            let g = (plus_linear shares (keeps_local c)).reads (with_null q) z (with_null-listed n z e) in
            omega (arith, ints)
