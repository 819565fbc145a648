-- Net amounts: good by good, how far they lie from 0, and what they cost.
use Rattle.std.proofs.Common.{◌≡◌, ◌∙◌, ℕ, zero, suc, ◌+◌, ◌*◌, ◌<◌, ◌≤◌, ℤ, pos, ◌-ℤ◌, List, [], ◌∷◌, ◌++◌, length, get_or, map, ap, refl, arith}
use Rattle.std.proofs.lemmas.Int.{ints}
use Rattle.std.proofs.lemmas.List.Elements.{All-from_get_or}
use Rattle.std.proofs.lemmas.List.FromFn.{get_or-map-range_with_len, length-map-range_with_len, map-range_with_len_more}
use Rattle.mix_num.specs.Orders.{places}
use Rattle.mix_num.specs.Ranges.{AreWithin, Lies}
use Rattle.mix_num.specs.Sellers.{AreAmounts}
use Rattle.mix_num.specs.Sums.{dot_of, entries}
use Rattle.mix_num.specs.Vectors.{Vector, dot_to}
use Rattle.mix_num.proofs.Additions.{product_lies}
use Rattle.mix_num.proofs.Costs.{dot-is, dot_same}
use Rattle.mix_num.proofs.Products.{*ℤ-difference}
use Rattle.mix_own.specs.Trades.{net_of}

-- the first net amounts
unfoldable pub net_first : ℕ → List ℤ → List ℤ → List ℤ
net_first m bundle owned = map (λ i. get_or bundle i (pos 0) -ℤ get_or owned i (pos 0)) (places m)

pub net_none : (bundle owned : List ℤ) → net_first 0 bundle owned ≡ []
unfolding net_first
net_none bundle owned = refl

pub net_more : (m : ℕ) (bundle owned : List ℤ) → net_first (m + 1) bundle owned ≡ net_first m bundle owned ++ (get_or bundle m (pos 0) -ℤ get_or owned m (pos 0)) ∷ []
unfolding net_first
net_more m bundle owned = map-range_with_len_more (λ i. get_or bundle i (pos 0) -ℤ get_or owned i (pos 0)) 0 m m (omega arith)

pub net_all : (m : ℕ) (bundle owned : List ℤ) → m ≡ length bundle → net_first m bundle owned ≡ net_of bundle owned
unfolding net_first net_of
net_all m bundle owned e = ap (λ (n : ℕ). map (λ i. get_or bundle i (pos 0) -ℤ get_or owned i (pos 0)) (places n)) e

pub length-net : (bundle owned : List ℤ) → length (net_of bundle owned) ≡ length bundle
unfolding net_of
length-net bundle owned = length-map-range_with_len (λ i. get_or bundle i (pos 0) -ℤ get_or owned i (pos 0)) 0 (length bundle)

pub net_at : (bundle owned : List ℤ) (i : ℕ) → i < length bundle → get_or (net_of bundle owned) i (pos 0) ≡ get_or bundle i (pos 0) -ℤ get_or owned i (pos 0)
unfolding net_of
net_at bundle owned i l = get_or-map-range_with_len (λ j. get_or bundle j (pos 0) -ℤ get_or owned j (pos 0)) 0 (length bundle) i i (pos 0) l (omega arith)

-- ---- how far they lie from 0

pub net_within : (n : ℕ) (bundle owned : List ℤ) → AreAmounts n bundle → AreAmounts n owned → AreWithin 1000000 n (net_of bundle owned)
net_within n bundle owned b o =
    let long = length-net bundle owned in (
      long ∙ b.0,
      All-from_get_or (Lies 1000000) (net_of bundle owned) (pos 0) (λ i l.
          let e = net_at bundle owned i (omega (arith, l, long)) in
          let have = b.1 i (pos 0) (omega (arith, l, long)) in
          let own = o.1 i (pos 0) (omega (arith, l, long, b.0, o.0)) in
          (omega (arith, ints, e, have, own), omega (arith, ints, e, have, own))),
    )

dot_lies : (m : ℕ) (p x : Vector) → ((k : ℕ) → k < m → Lies 1000000 (p k)) → ((k : ℕ) → k < m → Lies 1000000 (x k)) → Lies (1000000000000 * m) (dot_to m p x)
dot_lies zero p x h g = (omega (arith, ints), omega (arith, ints))
dot_lies (suc m) p x h g =
    let r = dot_lies m p x (λ k l. h k (omega arith)) (λ k l. g k (omega arith)) in
    let one = product_lies 1000000 1000000 (p m) (x m) (h m (omega arith)) (g m (omega arith)) in
    (omega (arith, ints, r, one), omega (arith, ints, r, one))

-- what net amounts cost
pub net_cost : (n : ℕ) (p x : List ℤ) → n ≤ 8 → AreAmounts n p → AreWithin 1000000 n x → Lies 10000000000000 (dot_of p x)
net_cost n p x few h g =
    let a = dot-is p x in
    let b = ap (λ (m : ℕ). dot_to m (entries p) (entries x)) h.0 in
    let r = dot_lies n (entries p) (entries x)
    (λ k l. let q = h.1 k (pos 0) (omega (arith, h.0, l)) in (omega (arith, ints, q), omega (arith, ints, q)))
    (λ k l. g.1 k (pos 0) (omega (arith, g.0, l))) in
    (omega (arith, ints, r, a, b), omega (arith, ints, r, a, b))

-- ---- what they cost is the difference of what the bundle costs and what is owned would cost

dot_less : (m : ℕ) (q x y : Vector) → dot_to m q (λ k. x k -ℤ y k) ≡ dot_to m q x -ℤ dot_to m q y
dot_less zero q x y = refl
dot_less (suc m) q x y = let a = dot_less m q x y in let b = *ℤ-difference (q m) (x m) (y m) in omega (arith, ints)

pub dot_of_net : (q bundle owned : List ℤ) → length q ≡ length bundle → dot_of q (net_of bundle owned) ≡ dot_of q bundle -ℤ dot_of q owned
dot_of_net q bundle owned e =
    let net = dot-is q (net_of bundle owned) in
    let b = dot-is q bundle in
    let o = dot-is q owned in
    let same = dot_same (length q) (entries q) (entries (net_of bundle owned)) (λ k. entries bundle k -ℤ entries owned k) (λ k l. net_at bundle owned k (omega (arith, l, e))) in
    let less = dot_less (length q) (entries q) (entries bundle) (entries owned) in
    omega (arith, ints, net, b, o, same, less)
