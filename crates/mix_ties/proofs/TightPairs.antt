-- At the bundles of the tie rule each good has a tight pair: the greatest amount that extends is the least number of a pair.
use Rattle.std.proofs.Common.{◌≡◌, ℕ, zero, suc, ◌^◌, ◌<◌, Bool, true, false, cond, ℤ, pos, ◌+ℤ◌, ◌-ℤ◌, List, [], ◌∷◌, length, get_or, take, refl, sym, ap, ap₂, ◌∙◌, subst, arith}
use Rattle.std.proofs.lemmas.Int.{ints}
use Rattle.mix_num.specs.Vectors.{Vector, members, sum_to}
use Rattle.mix_num.specs.Sums.{entries, sum_in, total}
use Rattle.mix_num.specs.Tables.{null_share, share_in}
use Rattle.mix_num.proofs.Additions.{sum_in-front, sum_to-same}
use Rattle.mix_ties.specs.Numbered.{amounts_of, goods_part, null_part, number, table_over}
use Rattle.mix_ties.specs.Peeled.{Amounts, Subset, entry, greedy}
use Rattle.mix_ties.specs.Turns.{subtracted}
use Rattle.mix_ties.proofs.Extents.{entry-is}
use Rattle.mix_ties.proofs.TieRules.{amounts-of, get-subtracted, length-goods, length-less, total-less}
use Rattle.mix_num.specs.Shares.{supply_null}
use Rattle.mix_num.specs.Pairs.{IsFirstTight, IsTight, left_at, pair_number, shares_in}
use Rattle.mix_ties.proofs.PeeledPairs.{pair-at, pair_number_peeled}
use Rattle.mix_ties.proofs.NumberedPairs.{before-is, pair-in}

-- one row: some pair is tight at the greatest bundle between a table and a floor
pub tight_of_greatest : (n j : ℕ) (row : List ℤ) (floor : ℕ → ℤ) (xs : List ℤ) → j < n → xs ≡ goods_part n (greedy (suc n) (table_over n row) (λ s. floor (number n s)))
    → (upper : ℕ) × (lower : ℕ) × IsTight n j row floor xs upper lower
tight_of_greatest n j row floor xs h is =
    let y : Amounts (suc n) = greedy (suc n) (table_over n row) (λ s. floor (number n s)) in
    let found = pair-at (suc n) j (table_over n row) (λ s. floor (number n s)) (omega arith) in
    let a : Subset (suc n) = found.0 in
    let b : Subset (suc n) = found.1 in
    let back : amounts_of n (null_part n y) (goods_part n y) ≡ y = amounts-of n y in
    let size = length-goods n y in
    let one : entry (suc n) j y ≡ get_or (goods_part n y) j (pos 0) = sym (ap (λ (w : Amounts (suc n)). entry (suc n) j w) back) ∙ entry-is n j (null_part n y) (goods_part n y) size h in
    let two : pair_number_peeled (suc n) j (table_over n row) (λ s. floor (number n s)) y a b ≡ pair_number j row floor (goods_part n y) (number n a) (number n b) =
    ap (λ (w : Amounts (suc n)). pair_number_peeled (suc n) j (table_over n row) (λ s. floor (number n s)) w a b) (sym back)
    ∙ (let p = before-is n j (null_part n y) (goods_part n y) a size (omega arith) in let q = before-is n j (null_part n y) (goods_part n y) b size (omega arith) in omega (arith, ints)) in (
      number n a,
      number n b,
      subst (λ (w : List ℤ). IsTight n j row floor w (number n a) (number n b)) (sym is) (record { pair = pair-in n j a b h found.2; number = sym two ∙ sym found.3 ∙ one }),
    )

-- ---- one row more
-- what is counted where a test holds: a difference
counted_less : (b : Bool) (x y : ℤ) → cond b (x -ℤ y) (pos 0) ≡ cond b x (pos 0) -ℤ cond b y (pos 0)
counted_less true x y = refl
counted_less false x y = omega (arith, ints)

sum_less : (set m : ℕ) (x y : Vector) → sum_to m (λ i. cond (members set (suc i)) (x i -ℤ y i) (pos 0)) ≡ sum_to m (λ i. cond (members set (suc i)) (x i) (pos 0)) -ℤ sum_to m (λ i. cond (members set (suc i)) (y i) (pos 0))
sum_less set zero x y = refl
sum_less set (suc m) x y = let a = sum_less set m x y in let b = counted_less (members set (suc m)) (x m) (y m) in omega (arith, ints)

-- taking a bundle from what is left takes its share from each set
pub left-step : (n : ℕ) (r : List ℤ) (rs : List (List ℤ)) (left xs : List ℤ) (set : ℕ) → length left ≡ n → length xs ≡ n
    → sum_in (supply_null n rs (subtracted left xs) ∷ subtracted left xs) set ≡ sum_in (supply_null n (r ∷ rs) left ∷ left) set -ℤ share_in n r xs set
left-step n r rs left xs set e f =
    let sub : List ℤ = subtracted left xs in
    let same : length left ≡ length xs = e ∙ sym f in
    let long : length sub ≡ n = length-less left xs same ∙ e in
    let t : total sub ≡ total left -ℤ total xs = total-less left xs same in
    let a = sum_in-front (supply_null n rs sub) sub set in
    let b = sum_in-front (supply_null n (r ∷ rs) left) left set in
    let d = sum_in-front (null_share n r xs) xs set in
    let null : cond (members set 0) (supply_null n rs sub) (pos 0) ≡ cond (members set 0) (supply_null n (r ∷ rs) left) (pos 0) -ℤ cond (members set 0) (null_share n r xs) (pos 0) =
    ap (λ (z : ℤ). cond (members set 0) z (pos 0)) (let z : supply_null n rs sub ≡ supply_null n (r ∷ rs) left -ℤ null_share n r xs = omega (arith, ints, t) in z)
    ∙ counted_less (members set 0) (supply_null n (r ∷ rs) left) (null_share n r xs) in
    let goods : sum_to (length sub) (λ i. cond (members set (suc i)) (entries sub i) (pos 0)) ≡ sum_to (length left) (λ i. cond (members set (suc i)) (entries left i) (pos 0)) -ℤ sum_to (length xs) (λ i. cond (members set (suc i)) (entries xs i) (pos 0)) =
    ap (λ (m : ℕ). sum_to m (λ i. cond (members set (suc i)) (entries sub i) (pos 0))) long
    ∙ sum_to-same n _ _ (λ i l. ap (λ (z : ℤ). cond (members set (suc i)) z (pos 0)) (get-subtracted left xs i same))
    ∙ sum_less set n (entries left) (entries xs)
    ∙ ap₂ (λ (m k : ℕ). sum_to m (λ i. cond (members set (suc i)) (entries left i) (pos 0)) -ℤ sum_to k (λ i. cond (members set (suc i)) (entries xs i) (pos 0))) (sym e) (sym f) in
    omega (arith, ints, a, b, d, null, goods)

-- and so does one member more before the k-th
pub left_at-suc : (n : ℕ) (rows bundles : List (List ℤ)) (supply : List ℤ) (k set : ℕ) → k < length rows → k < length bundles
    → left_at n rows supply bundles (suc k) set ≡ left_at n rows supply bundles k set -ℤ share_in n (get_or rows k []) (get_or bundles k []) set
left_at-suc n rows bundles supply k set l m = let a = shares_in-suc n rows bundles set k l m in omega (arith, ints)
  where
    shares_in-suc : (n : ℕ) (rs xs : List (List ℤ)) (set k : ℕ) → k < length rs → k < length xs
        → shares_in n (take (suc k) rs) (take (suc k) xs) set ≡ shares_in n (take k rs) (take k xs) set +ℤ share_in n (get_or rs k []) (get_or xs k []) set
    shares_in-suc n [] xs set k l m = absurd (omega arith)
    shares_in-suc n (r ∷ rs) [] set k l m = absurd (omega arith)
    shares_in-suc n (r ∷ rs) (x ∷ xs) set zero l m = omega (arith, ints)
    shares_in-suc n (r ∷ rs) (x ∷ xs) set (suc k) l m = let a = shares_in-suc n rs xs set k (omega arith) (omega arith) in omega (arith, ints)

-- where floors agree, pairs have the same numbers
pub tight_same : (n j : ℕ) (row : List ℤ) (f g : ℕ → ℤ) (xs : List ℤ) (a b : ℕ) → ((set : ℕ) → set < 2 ^ suc n → f set ≡ g set) → IsTight n j row f xs a b → IsTight n j row g xs a b
tight_same n j row f g xs a b e t = record { pair = t.pair; number = let q = e b t.pair.lower_set in let m = t.number in omega (arith, ints) }

pub first_tight_same : (n j : ℕ) (row : List ℤ) (f g : ℕ → ℤ) (xs : List ℤ) (a b : ℕ) → ((set : ℕ) → set < 2 ^ suc n → f set ≡ g set) → IsFirstTight n j row f xs a b → IsFirstTight n j row g xs a b
first_tight_same n j row f g xs a b e t = record {
  tight = tight_same n j row f g xs a b e t.tight;
  least_upper = λ c d u. t.least_upper c d (tight_same n j row g f xs c d (λ set l. sym (e set l)) u);
  least_lower = λ d u. t.least_lower d (tight_same n j row g f xs a d (λ set l. sym (e set l)) u);
}
