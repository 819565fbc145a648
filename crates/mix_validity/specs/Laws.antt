-- Why a valid list keeps the laws of a member. For proofs; no public clause rests on it.
use Rattle.std.specs.Prelude.{◌≡◌, ◌≢◌, ℕ, zero, suc, ◌≤◌, ◌<◌, false, List, ℤ, pos, ◌+ℤ◌, ◌-ℤ◌, ◌*ℤ◌, ◌≤ℤ◌, ◌<ℤ◌}
use Rattle.std.proofs.Common.{⊎_elim, arith, ap, ◌∙◌}
use Rattle.std.proofs.lemmas.Int.{ints, clamps}
use Rattle.std.proofs.lemmas.Bool.{cases_lt}
use Rattle.std.proofs.lemmas.Bool.Decides.{nat_tests}
use Rattle.std.proofs.Math.IntN.{*ℤ_comm}
use Rattle.mix_num.specs.Vectors.{Vector, bit, plus, only, shifted}
use Rattle.mix_bids.specs.Bids.{AreBids, NoneNegative, facet_weight, top_value, total_weight, utility}
use Rattle.mix_bids.specs.declared.bid.Bid.{Bid}
use Rattle.mix_bids.proofs.FacetsAtPrices.{facet_weight_at_prices, length-prices_above, prices_above}
use Rattle.mix_bids.proofs.Lengths.{AreOver, over_of}
use Rattle.mix_bids.proofs.Weights.{utility_reads, utility_shifted}
use Rattle.mix_bids.proofs.Locals.{local_utility}
use Rattle.mix_bids.proofs.Far.{utility_far, utility_none}
use Rattle.mix_bids.proofs.Near.{utility_near}
use Rattle.mix_facets.proofs.Conclusions.{facet_weight-swap}
use Rattle.mix_law.specs.Members.{IsLNatural, KeepsLocal, excess}
use Rattle.mix_law.proofs.Lattice.{apart, more, over, over_is}
use Rattle.mix_law.proofs.Ranges.{excess_covers, excess_nonnegative}

-- none of the facet weights is negative at any vector: each is one at whole prices, and the order of its choices doesn't matter
pub none_anywhere : (n : ℕ) (bs : List Bid) → AreOver n bs → NoneNegative n bs → (i j : ℕ) → i ≤ n → j ≤ n → i ≢ j → (x : Vector) → pos 0 ≤ℤ facet_weight n i j bs x
none_anywhere n bs o none i j l m d x = ⊎_elim
    (λ h. at_prices i j h m)
    (λ h. let e = facet_weight-swap n i j bs x in let f = at_prices j i (omega arith) l in omega (arith, ints))
    (cases_lt i j)
  where
    at_prices : (i j : ℕ) → i < j → j ≤ n → pos 0 ≤ℤ facet_weight n i j bs x
    at_prices i j h m =
        let e = facet_weight_at_prices n i j bs x o in
        let f = none i j h m (prices_above n x) (length-prices_above n x) in
        omega (arith, ints)

-- the local difference is a facet weight
local_kept : (n : ℕ) (bs : List Bid) → AreOver n bs → NoneNegative n bs → (x : Vector) (i j : ℕ) → i ≤ n → j ≤ n → i ≢ j
    → (utility bs x +ℤ utility bs (plus (plus x (only i)) (only j))) ≤ℤ (utility bs (plus x (only i)) +ℤ utility bs (plus x (only j)))
local_kept n bs over valid x i j l m d =
    let e = local_utility n bs x i j over l m d in
    let f = none_anywhere n bs over valid i j l m d x in
    omega (arith, ints)

-- bids with n offers each, whatever their values: what most facts rest on is kept where no facet weight is negative
pub list_keeps : (n : ℕ) (bs : List Bid) → AreOver n bs → NoneNegative n bs → KeepsLocal n (utility bs) (total_weight bs)
list_keeps n bs over valid = record {
  reads = λ x y a. utility_reads n bs x y over a;
  shift = utility_shifted bs;
  local = local_kept n bs over valid;
}

-- the same of a list of bids
valid_keeps : (n : ℕ) (bs : List Bid) → AreBids n bs → NoneNegative n bs → KeepsLocal n (utility bs) (total_weight bs)
valid_keeps n bs are valid = list_keeps n bs (over_of n bs are) valid

-- by how much a choice is raised: the null choice by m, and each good by m
abbrev null_part : ℕ → ℕ → ℕ
null_part m zero = m
null_part m (suc k) = 0

abbrev goods_part : ℕ → ℕ → ℕ
goods_part m zero = 0
goods_part m (suc k) = m

-- the null choice's price lowered by m
abbrev cheaper_null : Vector → ℕ → Vector
cheaper_null x m zero = x 0 -ℤ pos m
cheaper_null x m (suc k) = x (suc k)

-- where every good is at or above its top, and the null choice is cheaper by m, the function is m totals
at_tops : (n : ℕ) (bs : List Bid) → AreBids n bs → (y : Vector) (m : ℕ) → (y 0 +ℤ pos m) ≡ pos 0 → ((i : ℕ) → 1 ≤ i → i ≤ n → top_value bs i ≤ℤ (y i -ℤ y 0)) → utility bs y ≡ pos m *ℤ total_weight bs
at_tops n bs are y m null high =
    let z = utility_none n bs (shifted y (pos m)) (over_of n bs are) null (λ i l h. let t = high i l h in omega (arith, ints)) in
    let s = utility_shifted bs y (pos m) in
    omega (arith, ints)

-- goods and the null choice are raised apart
apart_parts : (m l k : ℕ) → 0 < goods_part m k → 0 < null_part l k → ⊥
apart_parts m l zero p q = omega arith
apart_parts m l (suc k) p q = omega arith

-- a good whose top leaves m at most: at its top where the null choice is cheaper by m, and where it is raised by m besides
top_reached : (top x i m : ℤ) → (top -ℤ i) ≤ℤ m → x ≡ pos 0 → top ≤ℤ (i -ℤ (x -ℤ m))
top_reached top x i m h null = omega (arith, ints)

tops_cheaper : (top : ℕ → ℤ) (x : Vector) (m : ℕ) → x 0 ≡ pos 0 → (i : ℕ) → 1 ≤ i → (top i -ℤ x i) ≤ℤ pos m → top i ≤ℤ (cheaper_null x m i -ℤ cheaper_null x m 0)
tops_cheaper top x m null zero l h = absurd (omega arith)
tops_cheaper top x m null (suc i) l h = top_reached (top (suc i)) (x 0) (x (suc i)) (pos m) h null

tops_raised : (top : ℕ → ℤ) (x : Vector) (m : ℕ) → x 0 ≡ pos 0 → (i : ℕ) → 1 ≤ i → (top i -ℤ x i) ≤ℤ pos m → top i ≤ℤ (more (cheaper_null x m) (goods_part m) i -ℤ more (cheaper_null x m) (goods_part m) 0)
tops_raised top x m null zero l h = absurd (omega arith)
tops_raised top x m null (suc i) l h = omega (arith, ints)

tops_both : (top : ℕ → ℤ) (x : Vector) (m : ℕ) → x 0 ≡ pos 0 → (i : ℕ) → 1 ≤ i → (top i -ℤ x i) ≤ℤ pos m
    → top i ≤ℤ (more (more (cheaper_null x m) (goods_part m)) (null_part m) i -ℤ more (more (cheaper_null x m) (goods_part m)) (null_part m) 0)
tops_both top x m null zero l h = absurd (omega arith)
tops_both top x m null (suc i) l h = omega (arith, ints)

null_back : (x : Vector) (m k : ℕ) → more (cheaper_null x m) (null_part m) k ≡ x k
null_back x m zero = omega (arith, ints)
null_back x m (suc k) = omega (arith, ints)

-- raised at the goods until none is wanted, the function has fallen to 0: so it isn't negative
not_negative : (n : ℕ) (bs : List Bid) → AreBids n bs → NoneNegative n bs → (x : Vector) (m : ℕ) → x 0 ≡ pos 0 → ((i : ℕ) → 1 ≤ i → i ≤ n → (top_value bs i -ℤ x i) ≤ℤ pos m) → pos 0 ≤ℤ utility bs x
not_negative n bs are valid x m null high =
    let top = top_value bs in
    let y = cheaper_null x m in
    let keeps = valid_keeps n bs are valid in
    let a = apart keeps y (goods_part m) (null_part m) (λ k _. apart_parts m m k) in
    let low = at_tops n bs are y m (omega (arith, ints)) (λ i l h. tops_cheaper top x m null i l (high i l h)) in
    let right = at_tops n bs are (more y (goods_part m)) m (omega (arith, ints)) (λ i l h. tops_raised top x m null i l (high i l h)) in
    let left = keeps.reads (more y (null_part m)) x (λ k _. null_back x m k) in
    let end = utility_none n bs (more (more y (goods_part m)) (null_part m)) (over_of n bs are) (omega (arith, ints)) (λ i l h. tops_both top x m null i l (high i l h)) in
    omega (arith, ints)

-- by how much a good is lowered to be cheaper than the null choice
abbrev cheap_part : Vector → ℕ → ℕ → ℕ
cheap_part x m zero = 0
cheap_part x m (suc k) = over ((x (suc k) +ℤ pos m) +ℤ pos 1)

-- every good cheaper than the null choice, which is cheaper by m
abbrev cheap_goods : Vector → ℕ → Vector
cheap_goods x m zero = x 0 -ℤ pos m
cheap_goods x m (suc k) = x (suc k) -ℤ pos (cheap_part x m (suc k))

parts_apart : (x : Vector) (m k : ℕ) → 0 < null_part m k → 0 < cheap_part x m k → ⊥
parts_apart x m zero p q = omega arith
parts_apart x m (suc k) p q = omega arith

goods_cheap : (x : Vector) (m : ℕ) → x 0 ≡ pos 0 → (i : ℕ) → 1 ≤ i → cheap_goods x m i <ℤ cheap_goods x m 0
goods_cheap x m null zero l = absurd (omega arith)
goods_cheap x m null (suc i) l = let o = over_is ((x (suc i) +ℤ pos m) +ℤ pos 1) in omega (arith, ints, clamps)

goods_back : (x : Vector) (m k : ℕ) → more (cheap_goods x m) (cheap_part x m) k ≡ cheaper_null x m k
goods_back x m zero = omega (arith, ints)
goods_back x m (suc k) = omega (arith, ints)

both_back : (x : Vector) (m k : ℕ) → more (more (cheap_goods x m) (null_part m)) (cheap_part x m) k ≡ x k
both_back x m zero = omega (arith, ints)
both_back x m (suc k) = omega (arith, ints)

null_alone : (k : ℕ) → only 0 (suc k) ≡ false
null_alone k = grind (arith, nat_tests)

null_more : (z : Vector) (m k : ℕ) → more z (null_part (suc m)) k ≡ plus (more z (null_part m)) (only 0) k
null_more z m zero = omega (arith, ints)
null_more z m (suc k) = let e = ap bit (null_alone k) in omega (arith, ints)

still_cheap : (z : Vector) (m : ℕ) → ((i : ℕ) → 1 ≤ i → z i <ℤ z 0) → (i : ℕ) → 1 ≤ i → more z (null_part m) i <ℤ more z (null_part m) 0
still_cheap z m cheap zero l = absurd (omega arith)
still_cheap z m cheap (suc i) l = let h = cheap (suc i) l in omega (arith, ints)

-- where every good is cheaper than the null choice, the null choice's price is no matter
null_idle : (n : ℕ) (bs : List Bid) → AreBids n bs → NoneNegative n bs → (z : Vector) → ((i : ℕ) → 1 ≤ i → z i <ℤ z 0) → (m : ℕ) → utility bs (more z (null_part m)) ≡ utility bs z
null_idle n bs are valid z cheap zero = (valid_keeps n bs are valid).reads (more z (null_part 0)) z (λ k _. unmoved k)
  where
    unmoved : (k : ℕ) → more z (null_part 0) k ≡ z k
    unmoved zero = omega (arith, ints)
    unmoved (suc k) = omega (arith, ints)
null_idle n bs are valid z cheap (suc m) =
    (valid_keeps n bs are valid).reads (more z (null_part (suc m))) (plus (more z (null_part m)) (only 0)) (λ k _. null_more z m k)
    ∙ utility_near n bs (more z (null_part m)) are (λ i l h. still_cheap z m cheap i l)
    ∙ null_idle n bs are valid z cheap m

-- raised at the null choice from where it is cheaper by m, the function hasn't risen: so it is at most m totals
at_most_totals : (n : ℕ) (bs : List Bid) → AreBids n bs → NoneNegative n bs → (x : Vector) (m : ℕ) → x 0 ≡ pos 0 → ((i : ℕ) → 1 ≤ i → i ≤ n → (top_value bs i -ℤ x i) ≤ℤ pos m) → utility bs x ≤ℤ (pos m *ℤ total_weight bs)
at_most_totals n bs are valid x m null high =
    let z = cheap_goods x m in
    let keeps = valid_keeps n bs are valid in
    let a = apart keeps z (null_part m) (cheap_part x m) (λ k _. parts_apart x m k) in
    let idle = null_idle n bs are valid z (goods_cheap x m null) m in
    let low = at_tops n bs are (cheaper_null x m) m (omega (arith, ints)) (λ i l h. tops_cheaper (top_value bs) x m null i l (high i l h)) in
    let goods = keeps.reads (more z (cheap_part x m)) (cheaper_null x m) (λ k _. goods_back x m k) in
    let both = keeps.reads (more (more z (null_part m)) (cheap_part x m)) x (λ k _. both_back x m k) in
    omega (arith, ints)

size_kept : (n : ℕ) (bs : List Bid) → AreBids n bs → NoneNegative n bs → (x : Vector) → x 0 ≡ pos 0 → (pos 0 ≤ℤ utility bs x) × (utility bs x ≤ℤ (total_weight bs *ℤ excess n (top_value bs) x))
size_kept n bs are valid x null =
    let m = over (excess n (top_value bs) x) in
    let o = over_is (excess n (top_value bs) x) in
    let p = excess_nonnegative n (top_value bs) x in
    let same : pos m ≡ excess n (top_value bs) x = omega (arith, ints, clamps) in
    let high : (i : ℕ) → 1 ≤ i → i ≤ n → (top_value bs i -ℤ x i) ≤ℤ pos m = λ i l h. let c = excess_covers n (top_value bs) x i l h in omega (arith, ints) in
    let t = *ℤ_comm (total_weight bs) (excess n (top_value bs) x) in
    let e = ap (λ (k : ℤ). k *ℤ total_weight bs) same in
    let u = at_most_totals n bs are valid x m null high in
    (not_negative n bs are valid x m null high, omega (arith, ints))

-- a list of bids no facet weight of which is negative keeps all laws
pub valid_l_natural : (n : ℕ) (bs : List Bid) → AreBids n bs → NoneNegative n bs → IsLNatural n (utility bs) (total_weight bs) (top_value bs)
valid_l_natural n bs are valid = record {
  reads = λ x y a. utility_reads n bs x y (over_of n bs are) a;
  shift = utility_shifted bs;
  local = local_kept n bs (over_of n bs are) valid;
  far = λ x i l m h. utility_far n bs x i (over_of n bs are) (λ z. let no : 1 ≤ 0 = some_good i l z in omega arith) h;
  size = size_kept n bs are valid;
}
  where
    some_good : (i : ℕ) → 1 ≤ i → i ≡ 0 → 1 ≤ 0
    some_good i l z = omega arith
