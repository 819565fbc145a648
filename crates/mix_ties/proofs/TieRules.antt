-- The tie rule over lists of numbers: shares, and the greatest bundle of each row, are those of the peeled choices.
use Rattle.std.proofs.Common.{◌≡◌, ℕ, zero, suc, ◌^◌, ◌<◌, ℤ, pos, ◌+ℤ◌, ◌-ℤ◌, ◌≤ℤ◌, ◌<ℤ◌, List, [], ◌∷◌, length, get_or, refl, sym, ap, ap₂, ◌∙◌, subst, arith, inl, inr, ◌≢◌, ◌++◌, take}
use Rattle.std.proofs.lemmas.Int.{ints}
use Rattle.std.specs.declared.cmp.Ordering.{Ordering}
use Rattle.std.specs.declared.cmp.Ordering.TheVariants.{Less, Equal, Greater}
use Rattle.std.specs.Ordering.{int_cmp, ordering_then}
use Rattle.std.specs.Cmp.{int_cmp_is}
use Rattle.std.specs.Cmp.Lexicographic.{slice_cmp}
use Rattle.mix_num.proofs.Additions.{total-cons, total-none}
use Rattle.mix_num.specs.Sums.{sum_in, total}
use Rattle.mix_num.specs.Tables.{Fits, IsLexAtMost, null_share, number_of, whole}
use Rattle.mix_ties.proofs.PeeledRows.{AreGreatestPeeled, AreProperPeeled, AreSharesPeeled, FitsPeeled, IsLexAtMostPeeled, greatest, rows_at, shared, shares}
use Rattle.mix_ties.proofs.SetNumbers.{number-every, number-lt, number-none, number-subset, sum_in-number, table-grows, table-submodular}
use Rattle.mix_ties.specs.Numbered.{amounts_of, goods_part, null_part, number, subset, table_over}
use Rattle.mix_ties.specs.Peeled.{Amounts, Subset, amount_in, every, without, zeros}
use Rattle.mix_num.specs.Shares.{AreShares, sum_at, supply_null}
use Rattle.mix_ties.specs.Shares.{KeepTieRule}
use Rattle.mix_ties.specs.Turns.{AreGreatestInTurn, ProperInTurn, ShareInTurn, nothing, subtracted}

-- rows as tables over the choices, and bundles with their null shares
abbrev pub tables : (n : ℕ) → List (List ℤ) → List (Subset (suc n) → ℤ)
tables n [] = []
tables n (r ∷ rs) = table_over n r ∷ tables n rs

abbrev pub vectors : (n : ℕ) → List (List ℤ) → List (List ℤ) → List (Amounts (suc n))
vectors n [] xs = []
vectors n (r ∷ rs) [] = []
vectors n (r ∷ rs) (x ∷ xs) = amounts_of n (null_share n r x) x ∷ vectors n rs xs

abbrev pub bundles_of : (n : ℕ) → List (Amounts (suc n)) → List (List ℤ)
bundles_of n [] = []
bundles_of n (y ∷ ys) = goods_part n y ∷ bundles_of n ys

pub without-amounts : (n : ℕ) (a b : ℤ) (t x : List ℤ) → length t ≡ n → length x ≡ n → without (suc n) (amounts_of n a t) (amounts_of n b x) ≡ amounts_of n (a -ℤ b) (subtracted t x)
without-amounts zero a b t x p q = refl
without-amounts (suc n) a b [] x p q = absurd (omega arith)
without-amounts (suc n) a b (y ∷ t) [] p q = absurd (omega arith)
without-amounts (suc n) a b (y ∷ t) (z ∷ x) p q = ap (λ (w : Amounts (suc n)). (y -ℤ z, w)) (without-amounts n a b t x (omega arith) (omega arith))

pub total-less : (t x : List ℤ) → length t ≡ length x → total (subtracted t x) ≡ total t -ℤ total x
total-less [] [] p = omega (arith, ints, total-none)
total-less [] (y ∷ x) p = absurd (omega arith)
total-less (y ∷ t) [] p = absurd (omega arith)
total-less (y ∷ t) (z ∷ x) p = omega (arith, ints, total-less t x (omega arith), total-cons (y -ℤ z) (subtracted t x), total-cons y t, total-cons z x)

pub length-less : (t x : List ℤ) → length t ≡ length x → length (subtracted t x) ≡ length t
length-less [] x p = refl
length-less (y ∷ t) [] p = absurd (omega arith)
length-less (y ∷ t) (z ∷ x) p = omega (arith, length-less t x (omega arith))

pub sum-whole : (n : ℕ) (a : ℤ) (xs : List ℤ) → length xs ≡ n → amount_in (suc n) (amounts_of n a xs) (every (suc n)) ≡ a +ℤ total xs
sum-whole zero a [] p = omega (arith, ints, total-none)
sum-whole zero a (x ∷ xs) p = absurd (omega arith)
sum-whole (suc n) a [] p = absurd (omega arith)
sum-whole (suc n) a (x ∷ xs) p = omega (arith, ints, sum-whole n a xs (omega arith), total-cons x xs)

pub whole-is : (n : ℕ) (numbers : List ℤ) → table_over n numbers (every (suc n)) ≡ number_of numbers (whole n)
whole-is n numbers = ap (λ (i : ℕ). get_or numbers i (pos 0)) (omega (arith, number-every n))

pub fits-in : (n : ℕ) (numbers xs : List ℤ) → Fits n numbers xs → FitsPeeled (suc n) (table_over n numbers) (amounts_of n (null_share n numbers xs) xs)
fits-in n numbers xs f = record {
  within = λ s. rw (← (sum_in-number n (null_share n numbers xs) xs s f.size)) (f.within (number n s) (number-lt n s));
  exact = omega (arith, ints, sum-whole n (null_share n numbers xs) xs f.size, whole-is n numbers);
}

pub amounts-of : (n : ℕ) (y : Amounts (suc n)) → amounts_of n (null_part n y) (goods_part n y) ≡ y
amounts-of zero y = refl
amounts-of (suc n) y = ap (λ (w : Amounts (suc n)). (y.0, w)) (amounts-of n y.1)

pub length-goods : (n : ℕ) (y : Amounts (suc n)) → length (goods_part n y) ≡ n
length-goods zero y = refl
length-goods (suc n) y = omega (arith, length-goods n y.1)

pub null-is : (n : ℕ) (numbers : List ℤ) (y : Amounts (suc n)) → FitsPeeled (suc n) (table_over n numbers) y → null_part n y ≡ null_share n numbers (goods_part n y)
null-is n numbers y f =
    let e = ap (λ (w : Amounts (suc n)). amount_in (suc n) w (every (suc n))) (amounts-of n y) in
    omega (arith, ints, e, f.exact, sum-whole n (null_part n y) (goods_part n y) (length-goods n y), whole-is n numbers)

pub fits-out : (n : ℕ) (numbers : List ℤ) (y : Amounts (suc n)) → FitsPeeled (suc n) (table_over n numbers) y → Fits n numbers (goods_part n y)
fits-out n numbers y f = record {
  size = length-goods n y;
  within = λ m h.
      let e : sum_in (null_share n numbers (goods_part n y) ∷ goods_part n y) (number n (subset n m)) ≡ amount_in (suc n) y (subset n m) =
      sum_in-number n _ (goods_part n y) (subset n m) (length-goods n y)
      ∙ ap (λ (a : ℤ). amount_in (suc n) (amounts_of n a (goods_part n y)) (subset n m)) (sym (null-is n numbers y f))
      ∙ ap (λ (w : Amounts (suc n)). amount_in (suc n) w (subset n m)) (amounts-of n y) in
      let g : sum_in (null_share n numbers (goods_part n y) ∷ goods_part n y) (number n (subset n m)) ≤ℤ get_or numbers (number n (subset n m)) (pos 0) = rw e (f.within (subset n m)) in
      subst (λ (i : ℕ). sum_in (null_share n numbers (goods_part n y) ∷ goods_part n y) i ≤ℤ get_or numbers i (pos 0)) (number-subset n m h) g;
}

amounts-nothing : (n : ℕ) → amounts_of n (pos 0) (nothing n) ≡ zeros (suc n)
amounts-nothing zero = refl
amounts-nothing (suc n) = ap (λ (w : Amounts (suc n)). (pos 0, w)) (amounts-nothing n)

total-nothing : (n : ℕ) → total (nothing n) ≡ pos 0
total-nothing zero = total-none
total-nothing (suc n) = omega (arith, ints, total-nothing n, total-cons (pos 0) (nothing n))

goods-zeros : (n : ℕ) → goods_part n (zeros (suc n)) ≡ nothing n
goods-zeros zero = refl
goods-zeros (suc n) = ap (λ (w : List ℤ). pos 0 ∷ w) (goods-zeros n)

goods-amounts : (n : ℕ) (a : ℤ) (xs : List ℤ) → length xs ≡ n → goods_part n (amounts_of n a xs) ≡ xs
goods-amounts zero a [] e = refl
goods-amounts zero a (x ∷ xs) e = absurd (omega arith)
goods-amounts (suc n) a [] e = absurd (omega arith)
goods-amounts (suc n) a (x ∷ xs) e = ap (λ (w : List ℤ). x ∷ w) (goods-amounts n a xs (omega arith))

-- what is left of the supply, with its null share
pub left-vector : (n : ℕ) (r : List ℤ) (rs : List (List ℤ)) (t x : List ℤ) → length t ≡ n → length x ≡ n
    → without (suc n) (amounts_of n (supply_null n (r ∷ rs) t) t) (amounts_of n (null_share n r x) x) ≡ amounts_of n (supply_null n rs (subtracted t x)) (subtracted t x)
left-vector n r rs t x p q =
    without-amounts n _ _ t x p q
    ∙ ap (λ (a : ℤ). amounts_of n a (subtracted t x)) (omega (arith, ints, total-less t x (p ∙ sym q)))

pub shares-in : (n : ℕ) (rs : List (List ℤ)) (xs : List (List ℤ)) (t : List ℤ) → length t ≡ n → ShareInTurn n rs xs t
    → AreSharesPeeled (suc n) (tables n rs) (vectors n rs xs) (amounts_of n (supply_null n rs t) t)
shares-in n [] [] t p h =
    ap (λ (w : List ℤ). amounts_of n (pos 0 -ℤ total w) w) h
    ∙ ap (λ (a : ℤ). amounts_of n a (nothing n)) (omega (arith, ints, total-nothing n))
    ∙ amounts-nothing n
shares-in n [] (x ∷ xs) t p h = absurd h
shares-in n (r ∷ rs) [] t p h = absurd h
shares-in n (r ∷ rs) (x ∷ xs) t p h =
    let q : length x ≡ n = h.0.size in (
      fits-in n r x h.0,
      subst (λ (w : Amounts (suc n)). AreSharesPeeled (suc n) (tables n rs) (vectors n rs xs) w) (sym (left-vector n r rs t x p q))
          (shares-in n rs xs (subtracted t x) (length-less t x (p ∙ sym q) ∙ p) h.1),
    )

-- the same for amounts that fit the row
pub left-of : (n : ℕ) (r : List ℤ) (rs : List (List ℤ)) (t : List ℤ) (y : Amounts (suc n)) → length t ≡ n → FitsPeeled (suc n) (table_over n r) y
    → without (suc n) (amounts_of n (supply_null n (r ∷ rs) t) t) y ≡ amounts_of n (supply_null n rs (subtracted t (goods_part n y))) (subtracted t (goods_part n y))
left-of n r rs t y p f =
    ap (λ (w : Amounts (suc n)). without (suc n) (amounts_of n (supply_null n (r ∷ rs) t) t) w) (sym (amounts-of n y))
    ∙ ap (λ (a : ℤ). without (suc n) (amounts_of n (supply_null n (r ∷ rs) t) t) (amounts_of n a (goods_part n y))) (null-is n r y f)
    ∙ left-vector n r rs t (goods_part n y) p (length-goods n y)

pub shares-out : (n : ℕ) (rs : List (List ℤ)) (ys : List (Amounts (suc n))) (t : List ℤ) → length t ≡ n
    → AreSharesPeeled (suc n) (tables n rs) ys (amounts_of n (supply_null n rs t) t) → ShareInTurn n rs (bundles_of n ys) t
shares-out n [] [] t p h = sym (goods-amounts n _ t p) ∙ ap (λ (w : Amounts (suc n)). goods_part n w) h ∙ goods-zeros n
shares-out n [] (y ∷ ys) t p h = absurd h
shares-out n (r ∷ rs) [] t p h = absurd h
shares-out n (r ∷ rs) (y ∷ ys) t p h = (
  fits-out n r y h.0,
  shares-out n rs ys (subtracted t (goods_part n y)) (length-less t (goods_part n y) (p ∙ sym (length-goods n y)) ∙ p)
      (subst (λ (w : Amounts (suc n)). AreSharesPeeled (suc n) (tables n rs) ys w) (left-of n r rs t y p h.0) h.1),
)

lex-below : (x y : ℤ) (xs ys : List ℤ) → x <ℤ y → IsLexAtMost (x ∷ xs) (y ∷ ys)
lex-below x y xs ys h =
    let e : int_cmp x y ≡ Less = sym (int_cmp_is x y Less h) in
    subst (λ (o : Ordering). ordering_then o (slice_cmp int_cmp xs ys) ≢ Greater) (sym e) (λ q. cc)

lex-level : (x y : ℤ) (xs ys : List ℤ) → x ≡ y → IsLexAtMost xs ys → IsLexAtMost (x ∷ xs) (y ∷ ys)
lex-level x y xs ys h rest =
    let e : int_cmp x y ≡ Equal = sym (int_cmp_is x y Equal h) in
    subst (λ (o : Ordering). ordering_then o (slice_cmp int_cmp xs ys) ≢ Greater) (sym e) rest

lex-out : (n : ℕ) (a : ℤ) (z : List ℤ) (y : Amounts (suc n)) → length z ≡ n → IsLexAtMostPeeled (suc n) (amounts_of n a z) y → IsLexAtMost z (goods_part n y)
lex-out zero a [] y e h = λ q. cc
lex-out zero a (x ∷ z) y e h = absurd (omega arith)
lex-out (suc n) a [] y e h = absurd (omega arith)
lex-out (suc n) a (x ∷ z) y e h = elim h [ inl lt ↦ lex-below x y.0 z (goods_part n y.1) lt | inr same ↦ lex-level x y.0 z (goods_part n y.1) same.0 (lex-out n a z y.1 (omega arith) same.1) ]

pub greatest-out : (n : ℕ) (rs : List (List ℤ)) (ys : List (Amounts (suc n))) (t : List ℤ) → length t ≡ n
    → AreSharesPeeled (suc n) (tables n rs) ys (amounts_of n (supply_null n rs t) t) → AreGreatestPeeled (suc n) (tables n rs) ys (amounts_of n (supply_null n rs t) t)
    → AreGreatestInTurn n rs (bundles_of n ys) t
greatest-out n [] ys t p s h = tt
greatest-out n (r ∷ rs) [] t p s h = tt
greatest-out n (r ∷ rs) (y ∷ ys) t p s h = (
  (λ z zs f c. lex-out n (null_share n r z) z y f.size
      (h.0 (amounts_of n (null_share n r z) z) (vectors n rs zs) (fits-in n r z f)
      (subst (λ (w : Amounts (suc n)). AreSharesPeeled (suc n) (tables n rs) (vectors n rs zs) w) (sym (left-vector n r rs t z p f.size))
      (shares-in n rs zs (subtracted t z) (length-less t z (p ∙ sym f.size) ∙ p) c)))),
  greatest-out n rs ys (subtracted t (goods_part n y)) (length-less t (goods_part n y) (p ∙ sym (length-goods n y)) ∙ p)
      (subst (λ (w : Amounts (suc n)). AreSharesPeeled (suc n) (tables n rs) ys w) (left-of n r rs t y p s.0) s.1)
      (subst (λ (w : Amounts (suc n)). AreGreatestPeeled (suc n) (tables n rs) ys w) (left-of n r rs t y p s.0) h.1),
)

pub proper-peeled : (n : ℕ) (rs : List (List ℤ)) → ProperInTurn n rs → AreProperPeeled (suc n) (tables n rs)
proper-peeled n [] p = tt
proper-peeled n (r ∷ rs) p = (record { submodular = table-submodular n r p.0; at_none = ap (λ (i : ℕ). get_or r i (pos 0)) (number-none n) ∙ p.0.empty; grows = table-grows n r p.0 }, proper-peeled n rs p.1)

pub rows_at-is : (n : ℕ) (rs : List (List ℤ)) (s : Subset (suc n)) → rows_at (suc n) (tables n rs) s ≡ sum_at rs (number n s)
rows_at-is n [] s = refl
rows_at-is n (r ∷ rs) s = ap (λ (a : ℤ). table_over n r s +ℤ a) (rows_at-is n rs s)

pub whole_sum-is : (n : ℕ) (rs : List (List ℤ)) → rows_at (suc n) (tables n rs) (every (suc n)) ≡ sum_at rs (whole n)
whole_sum-is n [] = refl
whole_sum-is n (r ∷ rs) = ap₂ (λ (a b : ℤ). a +ℤ b) (whole-is n r) (whole_sum-is n rs)

pub lies-in : (n : ℕ) (rs : List (List ℤ)) (t : List ℤ) → length t ≡ n
    → ((m : ℕ) → m < 2 ^ suc n → sum_in (supply_null n rs t ∷ t) m ≤ℤ sum_at rs m)
    → (s : Subset (suc n)) → amount_in (suc n) (amounts_of n (supply_null n rs t) t) s ≤ℤ rows_at (suc n) (tables n rs) s
lies-in n rs t p h s = rw (← (sum_in-number n (supply_null n rs t) t s p), rows_at-is n rs s) (h (number n s) (number-lt n s))

pub exact-in : (n : ℕ) (rs : List (List ℤ)) (t : List ℤ) → length t ≡ n
    → amount_in (suc n) (amounts_of n (supply_null n rs t) t) (every (suc n)) ≡ rows_at (suc n) (tables n rs) (every (suc n))
exact-in n rs t p =
    sum-whole n (supply_null n rs t) t p ∙ sums (sum_at rs (whole n)) (total t) ∙ sym (whole_sum-is n rs)
  where
    sums : (a b : ℤ) → (a -ℤ b) +ℤ b ≡ a
    sums a b = omega (arith, ints)

-- the tie rule: a supply that lies in the sum of proper tables is shared, and each bundle in order is the greatest that extends
pub tie_rule : (n : ℕ) (rs : List (List ℤ)) (t : List ℤ) → length t ≡ n → ProperInTurn n rs
    → ((m : ℕ) → m < 2 ^ suc n → sum_in (supply_null n rs t ∷ t) m ≤ℤ sum_at rs m)
    → let xs = bundles_of n (shares (suc n) (tables n rs) (amounts_of n (supply_null n rs t) t)) in
    ShareInTurn n rs xs t × AreGreatestInTurn n rs xs t
tie_rule n rs t p proper h =
    let v : Amounts (suc n) = amounts_of n (supply_null n rs t) t in
    let all = proper-peeled n rs proper in
    let lies = lies-in n rs t p h in
    let s = shared (suc n) (tables n rs) v all lies (exact-in n rs t p) in
    (shares-out n rs _ t p s, greatest-out n rs _ t p s (greatest (suc n) (tables n rs) v all lies))

-- ---- in turn, and all at once
get-nothing : (n i : ℕ) → get_or (nothing n) i (pos 0) ≡ pos 0
get-nothing zero i = refl
get-nothing (suc n) zero = refl
get-nothing (suc n) (suc i) = get-nothing n i

pub get-subtracted : (xs ys : List ℤ) (i : ℕ) → length xs ≡ length ys → get_or (subtracted xs ys) i (pos 0) ≡ get_or xs i (pos 0) -ℤ get_or ys i (pos 0)
get-subtracted [] [] i e = refl
get-subtracted [] (y ∷ ys) i e = absurd (omega arith)
get-subtracted (x ∷ xs) [] i e = absurd (omega arith)
get-subtracted (x ∷ xs) (y ∷ ys) zero e = refl
get-subtracted (x ∷ xs) (y ∷ ys) (suc i) e = get-subtracted xs ys i (omega arith)

turn-count : (n : ℕ) (rs xs : List (List ℤ)) (t : List ℤ) → ShareInTurn n rs xs t → length xs ≡ length rs
turn-count n [] [] t h = refl
turn-count n [] (x ∷ xs) t h = absurd h
turn-count n (r ∷ rs) [] t h = absurd h
turn-count n (r ∷ rs) (x ∷ xs) t h = ap suc (turn-count n rs xs (subtracted t x) h.1)

turn-fit : (n : ℕ) (rs xs : List (List ℤ)) (t : List ℤ) → ShareInTurn n rs xs t → (k : ℕ) → k < length rs → Fits n (get_or rs k []) (get_or xs k [])
turn-fit n [] [] t h k l = absurd (omega arith)
turn-fit n [] (x ∷ xs) t h k l = absurd h
turn-fit n (r ∷ rs) [] t h k l = absurd h
turn-fit n (r ∷ rs) (x ∷ xs) t h zero l = h.0
turn-fit n (r ∷ rs) (x ∷ xs) t h (suc k) l = turn-fit n rs xs (subtracted t x) h.1 k (omega arith)

turn-sum : (n : ℕ) (rs xs : List (List ℤ)) (t : List ℤ) → length t ≡ n → ShareInTurn n rs xs t → (i : ℕ) → sum_at xs i ≡ get_or t i (pos 0)
turn-sum n [] [] t e h i = sym (get-nothing n i) ∙ ap (λ (w : List ℤ). get_or w i (pos 0)) (sym h)
turn-sum n [] (x ∷ xs) t e h i = absurd h
turn-sum n (r ∷ rs) [] t e h i = absurd h
turn-sum n (r ∷ rs) (x ∷ xs) t e h i =
    let same : length t ≡ length x = e ∙ sym h.0.size in
    omega (arith, ints, turn-sum n rs xs (subtracted t x) (length-less t x same ∙ e) h.1 i, get-subtracted t x i same)

-- bundles that fit in turn are shares
pub shares-of_turns : (n : ℕ) (rs xs : List (List ℤ)) (t : List ℤ) → length t ≡ n → ShareInTurn n rs xs t → AreShares n rs xs t
shares-of_turns n rs xs t e h = record { count = turn-count n rs xs t h; fit = turn-fit n rs xs t h; sum = λ i l. turn-sum n rs xs t e h i }

all-nothing : (n : ℕ) (t : List ℤ) → length t ≡ n → ((i : ℕ) → i < n → get_or t i (pos 0) ≡ pos 0) → t ≡ nothing n
all-nothing zero [] e h = refl
all-nothing zero (x ∷ t) e h = absurd (omega arith)
all-nothing (suc n) [] e h = absurd (omega arith)
all-nothing (suc n) (x ∷ t) e h = ap₂ (λ (a : ℤ) (w : List ℤ). a ∷ w) (h 0 (omega arith)) (all-nothing n t (omega arith) (λ i l. h (suc i) (omega arith)))

-- shares fit in turn
pub turns-of_shares : (n : ℕ) (rs xs : List (List ℤ)) (t : List ℤ) → length t ≡ n → AreShares n rs xs t → ShareInTurn n rs xs t
turns-of_shares n [] [] t e h = all-nothing n t e (λ i l. sym (h.sum i l))
turns-of_shares n [] (x ∷ xs) t e h = let c = h.count in absurd (omega arith)
turns-of_shares n (r ∷ rs) [] t e h = let c = h.count in absurd (omega arith)
turns-of_shares n (r ∷ rs) (x ∷ xs) t e h =
    let f : Fits n r x = h.fit 0 (omega arith) in
    let same : length t ≡ length x = e ∙ sym f.size in (
      f,
      turns-of_shares n rs xs (subtracted t x) (length-less t x same ∙ e) (record {
        count = let c = h.count in omega arith;
        fit = λ k l. h.fit (suc k) (omega arith);
        sum = λ i l. let s = h.sum i l in let d = get-subtracted t x i same in omega (arith, ints);
      }),
    )

-- the bundle of a row in order is at least each that extends, after those before it, to shares of all rows
greatest-at : (n : ℕ) (rs xs : List (List ℤ)) (t : List ℤ) → length xs ≡ length rs → AreGreatestInTurn n rs xs t
    → (k : ℕ) (z : List ℤ) (zs : List (List ℤ)) → k < length rs → ShareInTurn n rs (take k xs ++ z ∷ zs) t → IsLexAtMost z (get_or xs k [])
greatest-at n [] xs t c g k z zs l h = absurd (omega arith)
greatest-at n (r ∷ rs) [] t c g k z zs l h = absurd (omega arith)
greatest-at n (r ∷ rs) (x ∷ xs) t c g zero z zs l h = g.0 z zs h.0 h.1
greatest-at n (r ∷ rs) (x ∷ xs) t c g (suc k) z zs l h = greatest-at n rs xs (subtracted t x) (omega arith) g.1 k z zs (omega arith) h.1

pub rule-of_turns : (n : ℕ) (rs xs : List (List ℤ)) (t : List ℤ) → length t ≡ n → ShareInTurn n rs xs t → AreGreatestInTurn n rs xs t → KeepTieRule n rs xs t
rule-of_turns n rs xs t e s g k z zs l h = greatest-at n rs xs t (turn-count n rs xs t s) g k z zs l (turns-of_shares n rs (take k xs ++ z ∷ zs) t e h)
