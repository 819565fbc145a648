-- An order of m bidders, their places, each once: the order of first appearance with some places exchanged.
use Rattle.std.proofs.Common.{◌≡◌, ◌≢◌, ◌<◌, ◌+◌, ◌-◌, ◌==◌, ◌⊎◌, ℕ, zero, suc, List, [], ◌∷◌, ◌++◌, length, get_or, take, drop, sym, ◌∙◌, ap, arith, refl, subst, inl, inr, Bool, true, false, not, true≢false, nat_lt, Option, Some, None, Ok}
use Rattle.std.proofs.Math.Seq.{split_at}
use Rattle.std.proofs.lemmas.List.FromFn.{get_or-range_with_len, length-range_with_len, map-range_with_len_more}
use Rattle.std.proofs.lemmas.List.{map-id, get_or-drop, get_or-take, get_or_append_left, get_or-append_right, length-append, length-drop, length-take}
use Rattle.std.proofs.lemmas.List.Sorted.{IsPermutation-refl, IsPermutation-middle, IsPermutation-cons, IsPermutation-trans}
use Rattle.std.specs.List.Sorted.{IsPermutation}
use Rattle.mix_num.specs.Orders.{IsOrder, place_at, places}
use Rattle.std.specs.Str.{bytes_eq}
use Rattle.std.proofs.lemmas.Bool.{cases_Bool}
use Rattle.std.proofs.lemmas.Bool.Decides.{nat_tests}
use Rattle.std.proofs.lemmas.List.Quantifiers.{position-Some}
use Rattle.mix_bids.specs.Bids.{Book}
use Rattle.mix_text.specs.Rows.{RowText}
use Rattle.mix_text.specs.Spelling.{spelled_name}
use Rattle.mix_text.specs.Bidders.{Named, place_of}
use Rattle.mix_text.specs.Orders.{IsTieOrder, is_served}
use Rattle.mix_text.specs.Reading.{◌>>=◌, bidder_of, found, holds, is_order_row, order_from, order_row_of, placed, served_after}
use Rattle.mix_text.specs.declared.faults.Code.TheVariants as code
use Rattle.mix_text.proofs.Sound.{equal_numbers, holds_ok, then_ok}
use Rattle.mix_text.proofs.SoundAuctions.{placed_ok}

pub places_more : (m : ℕ) → places (m + 1) ≡ places m ++ m ∷ []
places_more m = sym (map-id (places (m + 1))) ∙ map-range_with_len_more (λ k. k) 0 m m (omega arith) ∙ ap (λ z. z ++ m ∷ []) (map-id (places m))

-- the order of first appearance is one
pub as_they_stand : (m : ℕ) → IsTieOrder m (places m)
as_they_stand m = record {
  size = length-range_with_len 0 m;
  within = λ i l. let e = get_or-range_with_len 0 m i 0 l in omega (arith, e, l);
  once = λ i j l k e. let a = get_or-range_with_len 0 m i 0 l in let b = get_or-range_with_len 0 m j 0 k in omega (arith, a, b, e);
}

-- where a number stands in a list
record Stands (k : ℕ) (ys : List ℕ) : Type 0 where
  at : ℕ
  below : at < length ys
  is : get_or ys at 0 ≡ k

abbrev without : List ℕ → ℕ → List ℕ
without ys i = take i ys ++ drop (suc i) ys

length-without : (ys : List ℕ) (i : ℕ) → i < length ys → suc (length (without ys i)) ≡ length ys
length-without ys i l =
    let a = length-append (take i ys) (drop (suc i) ys) in
    let t = length-take i ys in
    let d = length-drop (suc i) ys in
    omega (arith, a, t, d, l)

-- another number still stands there when one is taken out
still : (ys : List ℕ) (i k : ℕ) → i < length ys → (s : Stands k ys) → s.at ≢ i → Stands k (without ys i)
still ys i k l s other = elim (before s.at i other) [
  | inl a ↦ (
      let t = length-take i ys in
      record {
        at = s.at;
        below = let n = length-without ys i l in omega (arith, n, a, l);
        is = get_or_append_left (take i ys) (drop (suc i) ys) 0 s.at (omega (arith, t, a, l)) ∙ get_or-take i ys s.at 0 a ∙ s.is;
      })
  | inr b ↦ (
      let t = length-take i ys in
      record {
        at = s.at - 1;
        below = let n = length-without ys i l in let h = s.below in omega (arith, n, b, h);
        is =
            get_or-append_right (take i ys) (drop (suc i) ys) i (s.at - 1) 0 (omega (arith, t, l)) (omega (arith, b)) ∙ get_or-drop (suc i) ys (s.at - 1 - i) 0
            ∙ ap (λ j. get_or ys j 0) (omega (arith, b)) ∙ s.is;
      })
]
  where
    before : (a b : ℕ) → a ≢ b → (a < b) ⊎ (b < a)
    before zero zero h = absurd (h refl)
    before zero (suc b) h = inl (omega arith)
    before (suc a) zero h = inr (omega arith)
    before (suc a) (suc b) h = elim (before a b (λ e. h (ap suc e))) [
      | inl l ↦ inl (omega (arith, l))
      | inr l ↦ inr (omega (arith, l))
    ]

-- a list of different numbers that all stand in another of its length is that one with some exchanged
exchanged : (xs ys : List ℕ) → length xs ≡ length ys
    → ((i j : ℕ) → i < length xs → j < length xs → get_or xs i 0 ≡ get_or xs j 0 → i ≡ j)
    → ((i : ℕ) → i < length xs → Stands (get_or xs i 0) ys)
    → IsPermutation ys xs
exchanged [] [] e once all = IsPermutation-refl []
exchanged [] (y ∷ ys) e once all = absurd (omega (arith, e))
exchanged (x ∷ xs) ys e once all =
    let s = all 0 (omega arith) in
    let rest = without ys s.at in
    let n = length-without ys s.at s.below in
    let others : (i : ℕ) → i < length xs → Stands (get_or xs i 0) rest = λ i l.
    let o = all (suc i) (omega (arith, l)) in
    still ys s.at (get_or xs i 0) s.below o (λ q. let same = once (suc i) 0 (omega (arith, l)) (omega arith) (sym o.is ∙ ap (λ j. get_or ys j 0) q ∙ s.is) in omega (arith, same)) in
    let fewer = exchanged xs rest (omega (arith, e, n)) (λ i j l k q. let same = once (suc i) (suc j) (omega (arith, l)) (omega (arith, k)) q in omega (arith, same)) others in
    let whole : ys ≡ take s.at ys ++ x ∷ drop (suc s.at) ys = split_at ys s.at 0 s.below ∙ ap (λ z. take s.at ys ++ z ∷ drop (suc s.at) ys) s.is in
    IsPermutation-trans ys (x ∷ rest) (x ∷ xs)
    (subst (λ zs. IsPermutation zs (x ∷ rest)) (sym whole) (IsPermutation-middle (take s.at ys) x (drop (suc s.at) ys)))
    (IsPermutation-cons x rest xs fewer)

-- a tie order is an order of the bidders
pub is_order : (m : ℕ) (order : List ℕ) → IsTieOrder m order → IsOrder m order
is_order m order t =
    let n = length-range_with_len 0 m in
    let size = t.size in
    exchanged order (places m) (omega (arith, size, n)) (λ i j l k e. t.once i j (omega (arith, size, l)) (omega (arith, size, k)) e)
    (λ i l. let w = t.within i (omega (arith, size, l)) in record { at = place_at order i; below = omega (arith, n, w); is = get_or-range_with_len 0 m (place_at order i) 0 w ∙ omega arith })

-- ---- an order that is read

-- places that are different and below m
pub record AreServed (m : ℕ) (order : List ℕ) : Type 0 where
  pub below : (i : ℕ) → i < length order → place_at order i < m
  pub apart : (i j : ℕ) → i < j → j < length order → place_at order i ≢ place_at order j

-- a place that isn't among these is none of them
not_served : (k : ℕ) (order : List ℕ) → is_served k order ≡ false → (i : ℕ) → i < length order → place_at order i ≢ k
not_served k [] h i l = absurd (omega (arith, l))
not_served k (j ∷ order) h zero l = elim (cases_Bool (j == k)) [
  | inl t ↦ absurd (let q = rw t at h in true≢false q)
  | inr f ↦ grind (arith, nat_tests)
]
not_served k (j ∷ order) h (suc i) l = elim (cases_Bool (j == k)) [
  | inl t ↦ absurd (let q = rw t at h in true≢false q)
  | inr f ↦ not_served k order (rw f at h) i (omega (arith, l))
]

pub one_more : (m k : ℕ) (order : List ℕ) → AreServed m order → k < m → is_served k order ≡ false → AreServed m (order ++ k ∷ [])
one_more m k order a l new =
    let n = length-append order (k ∷ []) in
    record {
      below = λ i h. elim (last i h) [
        | inl b ↦ (let e = get_or_append_left order (k ∷ []) 0 i b in let w = a.below i b in omega (arith, e, w))
        | inr e ↦ (let q = at_end i e in omega (arith, q, l))
      ];
      apart = λ i j h b. elim (last j b) [
        | inl c ↦ (λ e. a.apart i j h c (sym (get_or_append_left order (k ∷ []) 0 i (omega (arith, h, c))) ∙ e ∙ get_or_append_left order (k ∷ []) 0 j c))
        | inr q ↦ (λ e. not_served k order new i (omega (arith, h, q)) (sym (get_or_append_left order (k ∷ []) 0 i (omega (arith, h, q))) ∙ e ∙ at_end j q))
      ];
    }
  where
    last : (i : ℕ) → i < length (order ++ k ∷ []) → (i < length order) ⊎ (i ≡ length order)
    last i h = let n = length-append order (k ∷ []) in elim (cases_Bool (nat_lt i (length order))) [
      | inl t ↦ inl (grind (arith, nat_tests))
      | inr f ↦ inr (grind (arith, nat_tests))
    ]

    rest : (i : ℕ) → i ≡ length order → i - length order ≡ 0
    rest i e = omega (arith, e)

    at_end : (i : ℕ) → i ≡ length order → place_at (order ++ k ∷ []) i ≡ k
    at_end i e = get_or-append_right order (k ∷ []) (length order) i 0 refl (omega (arith, e)) ∙ ap (λ (z : ℕ). get_or (k ∷ []) z 0) (rest i e)

served_ok : (bidders : Named) (seen : List ℕ) (fields : List (List ℕ)) (order : List ℕ) → AreServed (length bidders) seen → served_after bidders seen fields ≡ Ok order
    → AreServed (length bidders) order × (length order ≡ length seen + length fields)
served_ok bidders seen [] order a e = let same : seen ≡ order = cc e in subst (λ z. AreServed (length bidders) z × (length z ≡ length seen + 0)) same (a, omega arith)
served_ok bidders seen (field ∷ rest) order a e =
    let k = then_ok (bidder_of bidders field) (λ k. holds (not (is_served k seen)) code.Repeated >>= λ _. served_after bidders (seen ++ (k ∷ [])) rest) order e in
    let new = then_ok (holds (not (is_served k.0 seen)) code.Repeated) (λ _. served_after bidders (seen ++ (k.0 ∷ [])) rest) order k.2 in
    let r = served_ok bidders (seen ++ (k.0 ∷ [])) rest order (one_more (length bidders) k.0 seen a (bidder_below bidders field k.0 k.1) (not_true_is (is_served k.0 seen) (holds_ok _ code.Repeated new.0 new.1))) new.2 in
    (r.0, omega (arith, r.1, length-append seen (k.0 ∷ [])))
  where
    not_true_is : (t : Bool) → not t ≡ true → t ≡ false
    not_true_is true h = absurd (true≢false (sym h))
    not_true_is false h = refl

    bidder_below : (bidders : Named) (field : List ℕ) (k : ℕ) → bidder_of bidders field ≡ Ok k → k < length bidders
    bidder_below bidders field k e =
        let name = then_ok (spelled_name field) (λ name. found (place_of name bidders)) k e in
        (position-Some (λ (b : List ℕ × Book). bytes_eq name.0 b.0) bidders k ([], record { goods = 0; bids = [] }) (at (place_of name.0 bidders) name.2)).0
      where
        at : (o : Option ℕ) → found o ≡ Ok k → o ≡ Some k
        at None e = cc e
        at (Some j) e = let same : j ≡ k = cc e in ap Some same

-- different places below m, as many as m
pub all_served : (m : ℕ) (order : List ℕ) → AreServed m order → length order ≡ m → IsTieOrder m order
all_served m order a e = record {
  size = e;
  within = λ i l. a.below i (omega (arith, e, l));
  once = λ i j h l s. elim (cases_Bool (nat_lt i j)) [
    | inl t ↦ (let b : i < j = grind (arith, nat_tests) in absurd (a.apart i j b (omega (arith, e, l)) s))
    | inr f ↦ elim (cases_Bool (nat_lt j i)) [
      | inl t ↦ (let b : j < i = grind (arith, nat_tests) in absurd (a.apart j i b (omega (arith, e, h)) (sym s)))
      | inr g ↦ grind (arith, nat_tests)
    ]
  ];
}

-- an order that is read is a tie order
pub order_ok : (format : ℕ) (bidders : Named) (rows : List RowText) (read : List ℕ × List RowText) → order_from format bidders rows ≡ Ok read → IsTieOrder (length bidders) read.0
unfolding order_from order_row_of
order_ok format bidders [] read e = let same : (places (length bidders), []) ≡ read = cc e in subst (λ (z : List ℕ × List RowText). IsTieOrder (length bidders) z.0) same (as_they_stand (length bidders))
order_ok format bidders (row ∷ rest) read e = elim (cases_Bool (is_order_row format row.fields)) [
  | inl t ↦ (
      let q = rw t at e in
      let order = then_ok (placed row.number (order_row_of bidders row.fields)) (λ order. Ok (order, rest)) read q in
      let same : (order.0, rest) ≡ read = let z = order.2 in cc z in
      let row_read = placed_ok row.number (order_row_of bidders row.fields) order.0 order.1 in
      let count = then_ok (holds (length row.fields == length bidders + 1) code.Fields) (λ _. served_after bidders [] (drop 1 row.fields)) order.0 row_read in
      let size = equal_numbers (length row.fields) (length bidders + 1) (holds_ok (length row.fields == length bidders + 1) code.Fields count.0 count.1) in
      let served = served_ok bidders [] (drop 1 row.fields) order.0 (record { below = λ i l. absurd (omega (arith, l)); apart = λ i j h l. absurd (omega (arith, l)) }) count.2 in
      subst (λ (z : List ℕ × List RowText). IsTieOrder (length bidders) z.0) same (all_served (length bidders) order.0 served.0 (omega (arith, size, served.1, length-drop 1 row.fields))))
  | inr f ↦ (
      let q = rw f at e in
      let same : (places (length bidders), row ∷ rest) ≡ read = cc q in
      subst (λ (z : List ℕ × List RowText). IsTieOrder (length bidders) z.0) same (as_they_stand (length bidders)))
]

-- in format 1 it is that of first appearance
pub first_order : (bidders : Named) (rows : List RowText) (read : List ℕ × List RowText) → order_from 1 bidders rows ≡ Ok read → read.0 ≡ places (length bidders)
unfolding order_from
first_order bidders [] read e = let same : (places (length bidders), []) ≡ read = cc e in ap (λ (z : List ℕ × List RowText). z.0) (sym same)
first_order bidders (row ∷ rest) read e = let same : (places (length bidders), row ∷ rest) ≡ read = cc e in ap (λ (z : List ℕ × List RowText). z.0) (sym same)
