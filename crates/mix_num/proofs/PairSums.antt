-- The number of a pair bounds from above what a member can get of a good.
use Rattle.std.proofs.Common.{◌≡◌, ℕ, zero, suc, ◌^◌, ◌≤◌, ◌<◌, Bool, true, false, cond, ℤ, pos, ◌+ℤ◌, ◌-ℤ◌, ◌≤ℤ◌, List, [], ◌∷◌, length, get_or, take, drop, refl, sym, ap, ap₂, ◌∙◌, arith, ⊎_elim, eq-or-lt_of_le}
use Rattle.std.proofs.lemmas.Int.{ints}
use Rattle.mix_num.specs.Vectors.{Vector, sum_to, members}
use Rattle.mix_num.specs.Sums.{entries, total, sum_in}
use Rattle.mix_num.specs.Tables.{Fits, null_share, number_of, share_in, whole}
use Rattle.mix_num.proofs.Additions.{sum_in-front, sum_to-same, total-is}
use Rattle.mix_num.specs.Shares.{AreShares, sum_at, supply_null}
use Rattle.mix_num.specs.Pairs.{IsPair, floor_at, pair_number, shares_in, sum_before}

-- ---- one bundle
-- sums that agree from a place on differ by what they differ by up to it
apart : (m from : ℕ) (x y : Vector) → from ≤ m → ((k : ℕ) → from ≤ k → k < m → x k ≡ y k) → sum_to m x +ℤ sum_to from y ≡ sum_to m y +ℤ sum_to from x
apart zero from x y l h = rw (let e : from ≡ 0 = omega arith in e) refl
apart (suc m) from x y l h = ⊎_elim
    (λ (e : from ≡ suc m). rw e (omega (arith, ints)))
    (λ (q : from < suc m). let a = apart m from x y (omega arith) (λ k g u. h k g (omega arith)) in let b = h m (omega arith) (omega arith) in omega (arith, ints))
    (eq-or-lt_of_le l)

-- the entries of the goods in a set
abbrev counted : List ℤ → ℕ → Vector
counted xs set = λ i. cond (members set (suc i)) (entries xs i) (pos 0)

-- what a bundle has of the upper set more than of the lower one is what it has of the good, and of the goods before it
pub pair-difference : (n j upper lower : ℕ) (null : ℤ) (xs : List ℤ) → length xs ≡ n → j < n → IsPair n j upper lower
    → sum_in (null ∷ xs) upper +ℤ sum_before j xs lower ≡ (sum_in (null ∷ xs) lower +ℤ get_or xs j (pos 0)) +ℤ sum_before j xs upper
pair-difference n j upper lower null xs e l p =
    let a = sum_in-front null xs upper in
    let b = sum_in-front null xs lower in
    let z = ap (λ (c : Bool). cond c null (pos 0)) p.null in
    let s = apart (length xs) (suc j) (counted xs upper) (counted xs lower) (omega arith)
    (λ k g u. ap (λ (c : Bool). cond c (entries xs k) (pos 0)) (p.later (suc k) (omega arith) (omega arith))) in
    let u = ap (λ (c : Bool). cond c (entries xs j) (pos 0)) p.inside in
    let v = ap (λ (c : Bool). cond c (entries xs j) (pos 0)) p.outside in
    omega (arith, ints)

-- bundles that agree before good j have the same of the goods before it
pub before-same : (j : ℕ) (xs ys : List ℤ) (set : ℕ) → ((i : ℕ) → i < j → get_or xs i (pos 0) ≡ get_or ys i (pos 0)) → sum_before j xs set ≡ sum_before j ys set
before-same j xs ys set h = sum_to-same j _ _ (λ k l. ap (λ (a : ℤ). cond (members set (suc k)) a (pos 0)) (h k l))

-- ---- all bundles
-- what is counted where a test holds: sums, and nothing
counted_add : (b : Bool) (x y : ℤ) → cond b (x +ℤ y) (pos 0) ≡ cond b x (pos 0) +ℤ cond b y (pos 0)
counted_add true x y = refl
counted_add false x y = omega (arith, ints)

counted_nothing : (b : Bool) → cond b (pos 0) (pos 0) ≡ pos 0
counted_nothing true = refl
counted_nothing false = refl

sum_counted : (set m : ℕ) (x y : Vector) → sum_to m (λ i. cond (members set (suc i)) (x i +ℤ y i) (pos 0)) ≡ sum_to m (λ i. cond (members set (suc i)) (x i) (pos 0)) +ℤ sum_to m (λ i. cond (members set (suc i)) (y i) (pos 0))
sum_counted set zero x y = refl
sum_counted set (suc m) x y = let a = sum_counted set m x y in let b = counted_add (members set (suc m)) (x m) (y m) in omega (arith, ints)

sum_plain : (m : ℕ) (x y : Vector) → sum_to m (λ i. x i +ℤ y i) ≡ sum_to m x +ℤ sum_to m y
sum_plain zero x y = refl
sum_plain (suc m) x y = let a = sum_plain m x y in omega (arith, ints)

sum_nothing : (set m : ℕ) → sum_to m (λ i. cond (members set (suc i)) (pos 0) (pos 0)) ≡ pos 0
sum_nothing set zero = refl
sum_nothing set (suc m) = let a = sum_nothing set m in let b = counted_nothing (members set (suc m)) in omega (arith, ints)

sum_zeros : (m : ℕ) → sum_to m (λ i. pos 0) ≡ pos 0
sum_zeros zero = refl
sum_zeros (suc m) = let a = sum_zeros m in omega (arith, ints)

share-is : (n : ℕ) (table xs : List ℤ) (set : ℕ) → length xs ≡ n
    → share_in n table xs set ≡ cond (members set 0) (number_of table (whole n) -ℤ sum_to n (entries xs)) (pos 0) +ℤ sum_to n (λ i. cond (members set (suc i)) (entries xs i) (pos 0))
share-is n table xs set e =
    let t : total xs ≡ sum_to n (entries xs) = total-is xs ∙ ap (λ (k : ℕ). sum_to k (entries xs)) e in
    sum_in-front (null_share n table xs) xs set
    ∙ ap₂ (λ (a : ℤ) (k : ℕ). cond (members set 0) (number_of table (whole n) -ℤ a) (pos 0) +ℤ sum_to k (λ i. cond (members set (suc i)) (entries xs i) (pos 0))) t e

-- each has a bundle over n goods
abbrev AreSized : ℕ → List (List ℤ) → List (List ℤ) → Type 0
AreSized n [] [] = Unit {0}
AreSized n [] (x ∷ xs) = ⊥
AreSized n (r ∷ rs) [] = ⊥
AreSized n (r ∷ rs) (x ∷ xs) = (length x ≡ n) × AreSized n rs xs

shares-sum : (n : ℕ) (rs xs : List (List ℤ)) (set : ℕ) → AreSized n rs xs
    → shares_in n rs xs set ≡ cond (members set 0) (sum_at rs (whole n) -ℤ sum_to n (λ i. sum_at xs i)) (pos 0) +ℤ sum_to n (λ i. cond (members set (suc i)) (sum_at xs i) (pos 0))
shares-sum n [] [] set h =
    let a = sum_nothing set n in
    let z : pos 0 -ℤ sum_to n (λ i. pos 0) ≡ pos 0 = omega (arith, ints, sum_zeros n) in
    let b = ap (λ (c : ℤ). cond (members set 0) c (pos 0)) z in
    let d = counted_nothing (members set 0) in
    omega (arith, ints)
shares-sum n [] (x ∷ xs) set h = absurd h
shares-sum n (r ∷ rs) [] set h = absurd h
shares-sum n (r ∷ rs) (x ∷ xs) set h =
    let first = share-is n r x set h.0 in
    let others = shares-sum n rs xs set h.1 in
    let w = number_of r (whole n) in
    let ws = sum_at rs (whole n) in
    let t = sum_to n (entries x) in
    let ts = sum_to n (λ i. sum_at xs i) in
    let all = sum_plain n (entries x) (λ i. sum_at xs i) in
    let e : (w +ℤ ws) -ℤ sum_to n (λ i. get_or x i (pos 0) +ℤ sum_at xs i) ≡ (w -ℤ t) +ℤ (ws -ℤ ts) = omega (arith, ints, all) in
    let null = ap (λ (c : ℤ). cond (members set 0) c (pos 0)) e ∙ counted_add (members set 0) (w -ℤ t) (ws -ℤ ts) in
    let goods = sum_counted set n (entries x) (λ i. sum_at xs i) in
    omega (arith, ints)

sized-of_shares : (n : ℕ) (rs xs : List (List ℤ)) → length xs ≡ length rs → ((k : ℕ) → k < length rs → Fits n (get_or rs k []) (get_or xs k [])) → AreSized n rs xs
sized-of_shares n [] [] c f = tt
sized-of_shares n [] (x ∷ xs) c f = absurd (omega arith)
sized-of_shares n (r ∷ rs) [] c f = absurd (omega arith)
sized-of_shares n (r ∷ rs) (x ∷ xs) c f = ((f 0 (omega arith)).size, sized-of_shares n rs xs (omega arith) (λ k l. f (suc k) (omega arith)))

-- shares have all of the supply at each set
pub shares-all : (n : ℕ) (rs xs : List (List ℤ)) (supply : List ℤ) (set : ℕ) → length supply ≡ n → AreShares n rs xs supply
    → sum_in (supply_null n rs supply ∷ supply) set ≡ shares_in n rs xs set
shares-all n rs xs supply set e s =
    let all : sum_to n (λ i. sum_at xs i) ≡ sum_to n (entries supply) = sum_to-same n _ _ s.sum in
    let t : total supply ≡ sum_to n (entries supply) = total-is supply ∙ ap (λ (k : ℕ). sum_to k (entries supply)) e in
    let goods : sum_to n (λ i. cond (members set (suc i)) (sum_at xs i) (pos 0)) ≡ sum_to n (λ i. cond (members set (suc i)) (entries supply i) (pos 0)) =
    sum_to-same n _ _ (λ k l. ap (λ (a : ℤ). cond (members set (suc k)) a (pos 0)) (s.sum k l)) in
    sum_in-front (supply_null n rs supply) supply set
    ∙ ap₂ (λ (a : ℤ) (k : ℕ). cond (members set 0) (sum_at rs (whole n) -ℤ a) (pos 0) +ℤ sum_to k (λ i. cond (members set (suc i)) (entries supply i) (pos 0))) (t ∙ sym all) e
    ∙ ap (λ (a : ℤ). cond (members set 0) (sum_at rs (whole n) -ℤ sum_to n (λ i. sum_at xs i)) (pos 0) +ℤ a) (sym goods)
    ∙ sym (shares-sum n rs xs set (sized-of_shares n rs xs s.count s.fit))

-- the later members have at most their numbers
shares-below : (n : ℕ) (rs xs : List (List ℤ)) (set : ℕ) → set < 2 ^ suc n → length xs ≡ length rs → ((k : ℕ) → k < length rs → Fits n (get_or rs k []) (get_or xs k []))
    → shares_in n rs xs set ≤ℤ sum_at rs set
shares-below n [] xs set l c f = omega (arith, ints)
shares-below n (r ∷ rs) [] set l c f = absurd (omega arith)
shares-below n (r ∷ rs) (x ∷ xs) set l c f =
    let a = (f 0 (omega arith)).within set l in
    let b = shares-below n rs xs set l (omega arith) (λ k h. f (suc k) (omega arith)) in
    omega (arith, ints)

-- so all together have at most what those before the k-th have, what it has, and the numbers of those after it
shares-at : (n : ℕ) (rs xs : List (List ℤ)) (set k : ℕ) → set < 2 ^ suc n → length xs ≡ length rs → ((k : ℕ) → k < length rs → Fits n (get_or rs k []) (get_or xs k [])) → k < length rs
    → shares_in n rs xs set ≤ℤ ((shares_in n (take k rs) (take k xs) set +ℤ share_in n (get_or rs k []) (get_or xs k []) set) +ℤ sum_at (drop (suc k) rs) set)
shares-at n [] xs set k l c f h = absurd (omega arith)
shares-at n (r ∷ rs) [] set k l c f h = absurd (omega arith)
shares-at n (r ∷ rs) (x ∷ xs) set zero l c f h =
    let b = shares-below n rs xs set l (omega arith) (λ k h. f (suc k) (omega arith)) in
    omega (arith, ints)
shares-at n (r ∷ rs) (x ∷ xs) set (suc k) l c f h =
    let b = shares-at n rs xs set k l (omega arith) (λ k h. f (suc k) (omega arith)) (omega arith) in
    omega (arith, ints)

-- a bundle of shares has at least what it must
pub floor-below : (n : ℕ) (rs xs : List (List ℤ)) (supply : List ℤ) (k set : ℕ) → length supply ≡ n → AreShares n rs xs supply → k < length rs → set < 2 ^ suc n
    → floor_at n rs supply xs k set ≤ℤ share_in n (get_or rs k []) (get_or xs k []) set
floor-below n rs xs supply k set e s h l =
    let a = shares-all n rs xs supply set e s in
    let b = shares-at n rs xs set k l s.count s.fit h in
    omega (arith, ints)

take-same : (k : ℕ) (xs ys : List (List ℤ)) → k ≤ length xs → k ≤ length ys → ((i : ℕ) → i < k → get_or xs i [] ≡ get_or ys i []) → take k xs ≡ take k ys
take-same zero xs ys l m h = refl
take-same (suc k) [] ys l m h = absurd (omega arith)
take-same (suc k) (x ∷ xs) [] l m h = absurd (omega arith)
take-same (suc k) (x ∷ xs) (y ∷ ys) l m h = ap₂ (λ (a : List ℤ) (b : List (List ℤ)). a ∷ b) (h 0 (omega arith)) (take-same k xs ys (omega arith) (omega arith) (λ i q. h (suc i) (omega arith)))

-- where others share the supply too, the members before the k-th have the same, and so has the k-th of the goods before j, the pair's number bounds what
-- the k-th has of good j
pub pair_bounds : (n : ℕ) (rs bundles others : List (List ℤ)) (supply : List ℤ) (k j upper lower : ℕ) → length supply ≡ n → k < length bundles → k < length rs → j < n
    → AreShares n rs others supply → ((i : ℕ) → i < k → get_or others i [] ≡ get_or bundles i [])
    → ((i : ℕ) → i < j → get_or (get_or others k []) i (pos 0) ≡ get_or (get_or bundles k []) i (pos 0))
    → IsPair n j upper lower
    → get_or (get_or others k []) j (pos 0) ≤ℤ pair_number j (get_or rs k []) (floor_at n rs supply bundles k) (get_or bundles k []) upper lower
pair_bounds n rs bundles others supply k j upper lower e c h l s before goods p =
    let z = get_or others k [] in
    let x = get_or bundles k [] in
    let r = get_or rs k [] in
    let f = s.fit k h in
    let over = f.within upper p.upper_set in
    let under = floor-below n rs others supply k lower e s h p.lower_set in
    let same : take k others ≡ take k bundles = take-same k others bundles (let q = s.count in omega arith) (omega arith) before in
    let floor : floor_at n rs supply others k lower ≡ floor_at n rs supply bundles k lower =
    ap (λ (w : List (List ℤ)). (sum_in (supply_null n rs supply ∷ supply) lower -ℤ shares_in n (take k rs) w lower) -ℤ sum_at (drop (suc k) rs) lower) same in
    let d = pair-difference n j upper lower (null_share n r z) z f.size l p in
    let a = before-same j z x upper goods in
    let b = before-same j z x lower goods in
    omega (arith, ints, over, under, floor, d, a, b)
