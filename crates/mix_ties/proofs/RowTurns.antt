-- One row's turn: what is left of the supply and of the rows, before and after it.
use Rattle.std.proofs.Common.{◌≡◌, ℕ, zero, suc, ◌+◌, ◌^◌, ◌<◌, ◌≤◌, ℤ, pos, ◌+ℤ◌, ◌-ℤ◌, ◌≤ℤ◌, List, [], ◌∷◌, ◌++◌, length, get_or, refl, sym, ap, ap₂, ◌∙◌, subst, arith, All, append_assoc, add-one, map, take, drop, set, drop-cons}
use Rattle.std.proofs.lemmas.Int.{ints}
use Rattle.std.proofs.lemmas.List.{get_or_default}
use Rattle.mix_num.specs.Ranges.{Lies}
use Rattle.mix_num.specs.Sellers.{IsAmount}
use Rattle.mix_num.specs.Sums.{sum_in, total}
use Rattle.mix_num.specs.Tables.{number_of, whole}
use Rattle.mix_ties.proofs.Extents.{below-whole, entry-is, entry-least, row-range, sum-below, sum-range}
use Rattle.mix_ties.proofs.PeeledRows.{FitsPeeled, exact_of, floor_of, left-fits, rows-sandwich, rows_at, shares}
use Rattle.mix_ties.proofs.Sandwiches.{between_greedy}
use Rattle.mix_ties.proofs.SetNumbers.{number-every, number-lt, number-subset, sum_in-number}
use Rattle.mix_ties.proofs.TieRules.{amounts-of, bundles_of, exact-in, get-subtracted, left-of, length-goods, length-less, lies-in, proper-peeled, rows_at-is, tables}
use Rattle.mix_ties.specs.Numbered.{IsDifference, LieWithin, amounts_of, floor_over, goods_part, null_left, null_part, number, subset, table_over}
use Rattle.mix_ties.specs.Peeled.{Amounts, LiesBetween, Subset, amount_in, entry, greedy, without}
use Rattle.mix_num.specs.Shares.{sum_at, supply_null}
use Rattle.mix_ties.specs.Shares.{AreProper, LiesInSum}
use Rattle.mix_ties.specs.Turns.{IsTurn, ProperInTurn, subtracted}

module _ (n : ℕ) (r : List ℤ) (rs : List (List ℤ)) (later rest later' : List ℤ) (turn : IsTurn n (r ∷ rs) later rest) (gone : IsDifference (2 ^ suc n) later r later') where
  abbrev pub vector : Amounts (suc n)
  vector = amounts_of n (supply_null n (r ∷ rs) rest) rest

  abbrev pub given : Amounts (suc n)
  given = greedy (suc n) (table_over n r) (floor_of (suc n) vector (tables n rs))

  pub later-is : (m : ℕ) → m < 2 ^ suc n → get_or later' m (pos 0) ≡ sum_at rs m
  later-is m h = omega (arith, ints, gone m h, turn.later_is m h)

  pub null-is-left : null_left n later rest ≡ supply_null n (r ∷ rs) rest
  null-is-left = ap (λ (a : ℤ). a -ℤ total rest) (turn.later_is (whole n) (omega (arith, number-every n)))

  pub gap-is : floor_over n (null_left n later rest) rest later' ≡ floor_of (suc n) vector (tables n rs)
  gap-is = ap (λ (a : ℤ). floor_over n a rest later') null-is-left ∙ (λ i. λ s. at s i)
    where
      at : (s : Subset (suc n)) → floor_over n (supply_null n (r ∷ rs) rest) rest later' s ≡ floor_of (suc n) vector (tables n rs) s
      at s = ap₂ (λ (a b : ℤ). a -ℤ b) (sum_in-number n (supply_null n (r ∷ rs) rest) rest s turn.size) (later-is (number n s) (number-lt n s) ∙ sym (rows_at-is n rs s))

  lies : (s : Subset (suc n)) → amount_in (suc n) vector s ≤ℤ rows_at (suc n) (tables n (r ∷ rs)) s
  lies = lies-in n (r ∷ rs) rest turn.size turn.lies

  between : LiesBetween (suc n) (table_over n r) (floor_of (suc n) vector (tables n rs)) given
  between = between_greedy (suc n) (table_over n r) (floor_of (suc n) vector (tables n rs))
      (rows-sandwich (suc n) (table_over n r) (tables n rs) vector (proper-peeled n (r ∷ rs) turn.proper).0 (proper-peeled n (r ∷ rs) turn.proper).1 lies)

  fits : FitsPeeled (suc n) (table_over n r) given
  fits = record { within = between.under; exact = exact_of (suc n) (table_over n r) (tables n rs) vector given between (exact-in n (r ∷ rs) rest turn.size) }

  pub minus-is : without (suc n) vector given ≡ amounts_of n (supply_null n rs (subtracted rest (goods_part n given))) (subtracted rest (goods_part n given))
  minus-is = left-of n r rs rest given turn.size fits

  size' : length (subtracted rest (goods_part n given)) ≡ n
  size' = length-less rest (goods_part n given) (turn.size ∙ sym (length-goods n given)) ∙ turn.size

  lies' : (s : Subset (suc n)) → amount_in (suc n) (amounts_of n (supply_null n rs (subtracted rest (goods_part n given))) (subtracted rest (goods_part n given))) s ≤ℤ rows_at (suc n) (tables n rs) s
  lies' s = subst (λ (w : Amounts (suc n)). amount_in (suc n) w s ≤ℤ rows_at (suc n) (tables n rs) s) minus-is (left-fits (suc n) (table_over n r) (tables n rs) vector given between s)

  lies-out : (m : ℕ) → m < 2 ^ suc n → sum_in (supply_null n rs (subtracted rest (goods_part n given)) ∷ subtracted rest (goods_part n given)) m ≤ℤ sum_at rs m
  lies-out m h = subst (λ (i : ℕ). sum_in (supply_null n rs (subtracted rest (goods_part n given)) ∷ subtracted rest (goods_part n given)) i ≤ℤ sum_at rs i) (number-subset n m h)
      (rw (sum_in-number n (supply_null n rs (subtracted rest (goods_part n given))) (subtracted rest (goods_part n given)) (subset n m) size', ← (rows_at-is n rs (subset n m))) (lies' (subset n m)))

  entry-given : (i : ℕ) → i < n → get_or (goods_part n given) i (pos 0) ≡ entry (suc n) i given
  entry-given i h = sym (entry-is n i (null_part n given) (goods_part n given) (length-goods n given) h) ∙ ap (λ (w : Amounts (suc n)). entry (suc n) i w) (amounts-of n given)

  left-least : (i : ℕ) → i < n → pos 0 ≤ℤ get_or (subtracted rest (goods_part n given)) i (pos 0)
  left-least i h = subst (λ (a : ℤ). pos 0 ≤ℤ a) (entry-is n i _ (subtracted rest (goods_part n given)) size' h)
      (entry-least (suc n) i (rows_at (suc n) (tables n rs)) (amounts_of n (supply_null n rs (subtracted rest (goods_part n given))) (subtracted rest (goods_part n given)))
      (sum-below (suc n) (tables n rs) (proper-peeled n (r ∷ rs) turn.proper).1)
      (record { within = lies'; exact = exact-in n rs (subtracted rest (goods_part n given)) size' }))

  pub given-range : (i : ℕ) → i < n → IsAmount (get_or (goods_part n given) i (pos 0))
  given-range i h =
      let low = entry-least (suc n) i (table_over n r) given (below-whole (suc n) (table_over n r) (proper-peeled n (r ∷ rs) turn.proper).0) fits in
      let e = entry-given i h in
      let d = get-subtracted rest (goods_part n given) i (turn.size ∙ sym (length-goods n given)) in
      (omega (arith, ints, low, e), omega (arith, ints, d, left-least i h, turn.range i h))

  pub next : IsTurn n rs later' (subtracted rest (goods_part n given))
  next = record {
    size = size';
    few = let f = turn.few in omega arith;
    proper = turn.proper.1;
    lies = lies-out;
    later_is = later-is;
    range = λ i h.
        let d = get-subtracted rest (goods_part n given) i (turn.size ∙ sym (length-goods n given)) in
        let g = given-range i h in
        (left-least i h, omega (arith, ints, d, g, turn.range i h));
  }

pub share-cons : (n : ℕ) (r : List ℤ) (rs : List (List ℤ)) (v : Amounts (suc n))
    → bundles_of n (shares (suc n) (tables n (r ∷ rs)) v)
    ≡ goods_part n (greedy (suc n) (table_over n r) (floor_of (suc n) v (tables n rs))) ∷ bundles_of n (shares (suc n) (tables n rs) (without (suc n) v (greedy (suc n) (table_over n r) (floor_of (suc n) v (tables n rs)))))
unfolding shares
share-cons n r rs v = refl

pub turn-bundle : (n : ℕ) (r : List ℤ) (rs : List (List ℤ)) (later rest later' xs : List ℤ) (turn : IsTurn n (r ∷ rs) later rest) (gone : IsDifference (2 ^ suc n) later r later')
    → xs ≡ goods_part (length rest) (greedy (suc (length rest)) (table_over (length rest) r) (floor_over (length rest) (null_left (length rest) later rest) rest later'))
    → xs ≡ goods_part n (given n r rs later rest later' turn gone)
turn-bundle n r rs later rest later' xs turn gone h =
    subst (λ (k : ℕ). xs ≡ goods_part k (greedy (suc k) (table_over k r) (floor_over k (null_left k later rest) rest later'))) turn.size h
    ∙ ap (λ (g : Subset (suc n) → ℤ). goods_part n (greedy (suc n) (table_over n r) g)) (gap-is n r rs later rest later' turn gone)

pub turn-value : (n : ℕ) (r : List ℤ) (rs : List (List ℤ)) (later rest later' xs : List ℤ) (turn : IsTurn n (r ∷ rs) later rest) (gone : IsDifference (2 ^ suc n) later r later') (full done : List (List ℤ))
    → full ≡ done ++ bundles_of n (shares (suc n) (tables n (r ∷ rs)) (amounts_of n (supply_null n (r ∷ rs) rest) rest))
    → xs ≡ goods_part n (given n r rs later rest later' turn gone)
    → full ≡ (done ++ xs ∷ []) ++ bundles_of n (shares (suc n) (tables n rs) (amounts_of n (supply_null n rs (subtracted rest xs)) (subtracted rest xs)))
turn-value n r rs later rest later' xs turn gone full done h e =
    h
    ∙ ap (λ (w : List (List ℤ)). done ++ w) (share-cons n r rs (amounts_of n (supply_null n (r ∷ rs) rest) rest))
    ∙ ap (λ (w : Amounts (suc n)). done ++ goods_part n (given n r rs later rest later' turn gone) ∷ bundles_of n (shares (suc n) (tables n rs) w)) (minus-is n r rs later rest later' turn gone)
    ∙ ap (λ (ys : List ℤ). done ++ ys ∷ bundles_of n (shares (suc n) (tables n rs) (amounts_of n (supply_null n rs (subtracted rest ys)) (subtracted rest ys)))) (sym e)
    ∙ sym (append_assoc done (xs ∷ []) _)

pub turn-next : (n : ℕ) (r : List ℤ) (rs : List (List ℤ)) (later rest later' xs : List ℤ) (turn : IsTurn n (r ∷ rs) later rest) (gone : IsDifference (2 ^ suc n) later r later')
    → xs ≡ goods_part n (given n r rs later rest later' turn gone) → IsTurn n rs later' (subtracted rest xs)
turn-next n r rs later rest later' xs turn gone e = subst (λ (ys : List ℤ). IsTurn n rs later' (subtracted rest ys)) (sym e) (next n r rs later rest later' turn gone)

pub map-take-set : {A : Type 0} (f : A → List ℤ) (bs : List A) (k : ℕ) (b : A) → k < length bs → map f (take (suc k) (set bs k b)) ≡ map f (take k bs) ++ f b ∷ []
map-take-set f [] k b h = absurd (omega arith)
map-take-set f (x ∷ bs) zero b h = refl
map-take-set f (x ∷ bs) (suc k) b h = ap (λ (w : List (List ℤ)). f x ∷ w) (map-take-set f bs k b (omega arith))

pub map-take-more : {A : Type 0} (f : A → List ℤ) (bs : List A) (k : ℕ) (b : A) → k < length bs → map f (take (k + 1) (set bs k b)) ≡ map f (take k bs) ++ f b ∷ []
map-take-more f bs k b h = rw add-one (map-take-set f bs k b h)

pub rows-from : (rows : List (List ℤ)) (k : ℕ) (r : List ℤ) → k < length rows → r ≡ get_or rows k r → drop k rows ≡ r ∷ drop (k + 1) rows
rows-from rows k r h e = drop-cons rows k r h ∙ ap₂ (λ (x : List ℤ) (j : ℕ). x ∷ drop j rows) (sym e) (let e : suc k ≡ k + 1 = omega arith in e)

-- the turn of the k-th row
pub turn-from : (n k : ℕ) (rows : List (List ℤ)) (r later left : List ℤ) → k < length rows → r ≡ get_or rows k r → IsTurn n (drop k rows) later left → IsTurn n (r ∷ drop (k + 1) rows) later left
turn-from n k rows r later left h e t = subst (λ (rs : List (List ℤ)). IsTurn n rs later left) (rows-from rows k r h e) t

pub row-lies : (n : ℕ) (r : List ℤ) (rs : List (List ℤ)) → ProperInTurn n (r ∷ rs) → LieWithin (2 ^ suc n) (2 ^ 30) r
row-lies n r rs p m h = let a = row-range n r rs p m h in (omega (arith, ints, a), omega (arith, ints, a))

pub later-lies : (n : ℕ) (rs : List (List ℤ)) (later rest : List ℤ) → IsTurn n rs later rest → LieWithin (2 ^ suc n) (2 ^ 31) later
later-lies n rs later rest s m h =
    let a = sum-range n rs s.proper m h in
    let f = s.few in
    (omega (arith, ints, a, s.later_is m h), omega (arith, ints, a, s.later_is m h))

pub bundle-lies : (n : ℕ) (r : List ℤ) (rs : List (List ℤ)) (later rest later' xs : List ℤ) (turn : IsTurn n (r ∷ rs) later rest) (gone : IsDifference (2 ^ suc n) later r later')
    → xs ≡ goods_part n (given n r rs later rest later' turn gone) → (length xs ≡ n) × All (Lies 8000000) xs
bundle-lies n r rs later rest later' xs turn gone e = (
  ap length e ∙ length-goods n _,
  subst (λ (ys : List ℤ). All (Lies 8000000) ys) (sym e)
      (λ i d h.
      let a = given-range n r rs later rest later' turn gone i (omega (arith, h, length-goods n (given n r rs later rest later' turn gone))) in
      let b = get_or_default (goods_part n (given n r rs later rest later' turn gone)) i d (pos 0) h in
      (omega (arith, ints, a, b), omega (arith, ints, a, b))),
)

pub share-none : (n : ℕ) (v : Amounts (suc n)) → bundles_of n (shares (suc n) (tables n []) v) ≡ []
unfolding shares
share-none n v = refl

row_sum-suc : (rows : List (List ℤ)) (k : ℕ) (d : List ℤ) (i : ℕ) → k < length rows → sum_at (take (suc k) rows) i ≡ sum_at (take k rows) i +ℤ get_or (get_or rows k d) i (pos 0)
row_sum-suc [] k d i h = absurd (omega arith)
row_sum-suc (r ∷ rows) zero d i h = omega (arith, ints)
row_sum-suc (r ∷ rows) (suc k) d i h = omega (arith, ints, row_sum-suc rows k d i (omega arith))

pub row_sum-more : (rows : List (List ℤ)) (k : ℕ) (r : List ℤ) (i : ℕ) → k < length rows → r ≡ get_or rows k r → sum_at (take (k + 1) rows) i ≡ sum_at (take k rows) i +ℤ get_or r i (pos 0)
row_sum-more rows k r i h e = rw add-one (row_sum-suc rows k r i h ∙ ap (λ (x : List ℤ). sum_at (take k rows) i +ℤ get_or x i (pos 0)) (sym e))

-- the numbers of proper rows lie from 0 to 8,000,000
pub rows-lie : (n : ℕ) (rows : List (List ℤ)) → AreProper n rows → (k : ℕ) (d : List ℤ) → k < length rows → LieWithin (2 ^ suc n) 8000000 (get_or rows k d)
rows-lie n rows p k d h = subst (λ (r : List ℤ). LieWithin (2 ^ suc n) 8000000 r) (get_or_default rows k [] d h)
    (λ set l. let a = row-range n (get_or rows k []) [] (p k h, tt) set l in (omega (arith, ints, a), omega (arith, ints, a)))

pub proper-turns : (n : ℕ) (rs : List (List ℤ)) → AreProper n rs → ProperInTurn n rs
proper-turns n [] p = tt
proper-turns n (r ∷ rs) p = (p 0 (omega arith), proper-turns n rs (λ k h. p (suc k) (omega arith)))

-- before the first row's turn
pub first-turn : (n : ℕ) (rows : List (List ℤ)) (later supply : List ℤ) → length rows ≤ 257 → AreProper n rows → LiesInSum n rows supply → All IsAmount supply
    → ((set : ℕ) → set < 2 ^ suc n → number_of later set ≡ sum_at rows set) → IsTurn (length supply) rows later supply
first-turn n rows later supply few proper lies range sums = subst (λ (k : ℕ). IsTurn k rows later supply) (sym lies.size)
    (record { size = lies.size; few = few; proper = proper-turns n rows proper; lies = lies.within; later_is = sums; range = λ i h. range i (pos 0) (let e = lies.size in omega arith) })
