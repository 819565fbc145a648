-- The weights that a map has, and the pairs of its entries.
use Rattle.std.proofs.Common.{◌≡◌, Bool, true, false, cond, List, [], ◌∷◌, map, int_eq, ℤ, pos, ◌+ℤ◌, refl, arith, sym, ap, subst, ◌∙◌, Option, Some}
use Rattle.std.proofs.lemmas.Int.{ints}
use Rattle.std.proofs.lemmas.Bool.{false≢true}
use Rattle.std.specs.Option.{unwrap_or}
use Rattle.std.specs.Ordering.{is_eq}
use Rattle.std.specs.BTreeMap.{BTreeMap, get_by}
use Rattle.std.specs.Map.{lookup}
use Rattle.std.specs.List.{AllByRecursion}
use Rattle.std.specs.List.Sorted.{IsStrictlySortedBy}
use Rattle.std.specs.declared.cmp.Ordering.{Ordering}
use Rattle.std.specs.declared.cmp.Ordering.TheVariants.{Less}
use Rattle.std.proofs.lemmas.Map.Keys.{sorted_head, sorted_tail}
use Rattle.mix_num.proofs.Equalities.{int_eq_is}
use Rattle.mix_bids.specs.Offers.{Offers}
use Rattle.mix_bids.proofs.Cases.{by_test, not_true}
use Rattle.mix_canon.specs.declared.term.Term.{Term}
use Rattle.mix_canon.specs.Canons.{ArePairsOf, value_order}
use Rattle.mix_canon.specs.Maps.{Key, weight_at}
use Rattle.mix_canon.proofs.Gatherings.{IsBelow, IsGathered, Weighted, absent, weight_in}
use Rattle.mix_canon.proofs.Canonicals.{as_term, pairs_of_gathered}
use Rattle.mix_canon.proofs.Orders.{same_itself, same_values}

-- one key written anew
pub updated : (m n : BTreeMap Key ℤ) (key : Key) (next w : ℤ) (vs : Offers)
    → ((q : Key) → get_by (λ k. value_order q.items k.items) n ≡ cond (is_eq (value_order key.items q.items)) (Some next) (get_by (λ k. value_order q.items k.items) m))
    → key.items ≡ vs → next ≡ weight_at m vs +ℤ w → (v : Offers) → weight_at n v ≡ cond (is_eq (value_order v vs)) w (pos 0) +ℤ weight_at m v
updated m n key next w vs h e f v = by_test (is_eq (value_order key.items v))
    (λ t.
    let u = h (record { items = v }) in
    let a = ap (λ (b : Bool). unwrap_or (cond b (Some next) (get_by (λ (k : Key). value_order v k.items) m)) (pos 0)) t in
    let g = ap (λ (o : Option ℤ). unwrap_or o (pos 0)) u in
    let s : v ≡ vs = sym (same_values key.items v t) ∙ e in
    let b = ap (λ (b : Bool). cond b w (pos 0)) (same_itself v vs s) in
    let c = ap (weight_at m) s in
    omega (arith, ints))
    (λ t.
    let u = h (record { items = v }) in
    let a = ap (λ (b : Bool). unwrap_or (cond b (Some next) (get_by (λ (k : Key). value_order v k.items) m)) (pos 0)) t in
    let g = ap (λ (o : Option ℤ). unwrap_or o (pos 0)) u in
    let d = not_true (is_eq (value_order v vs)) (λ q. false≢true (sym t ∙ same_itself key.items v (e ∙ sym (same_values v vs q)))) in
    let b = ap (λ (b : Bool). cond b w (pos 0)) d in
    omega (arith, ints))

-- the entries whose weight isn't 0, as weighted vectors
abbrev pub entries_in : List (Key × ℤ) → Weighted
entries_in [] = []
entries_in (e ∷ es) = cond (int_eq e.1 (pos 0)) (entries_in es) ((e.0.items, e.1) ∷ entries_in es)

below_entries : (v : Offers) (es : List (Key × ℤ)) → AllByRecursion (λ (k : Key). value_order v k.items ≡ Less) (map (λ e. e.0) es) → IsBelow v (entries_in es)
below_entries v [] a = tt
below_entries v (e ∷ es) a = at (int_eq e.1 (pos 0)) (below_entries v es a.1)
  where
    at : (b : Bool) → IsBelow v (entries_in es) → IsBelow v (cond b (entries_in es) ((e.0.items, e.1) ∷ entries_in es))
    at true h = h
    at false h = (a.0, h)

abbrev pub key_order : Key → Key → Ordering
key_order x y = value_order x.items y.items

gathered_entries : (es : List (Key × ℤ)) → IsStrictlySortedBy key_order (map (λ e. e.0) es) → IsGathered (entries_in es)
gathered_entries [] s = tt
gathered_entries (e ∷ es) s = at (int_eq e.1 (pos 0)) refl (gathered_entries es (sorted_tail key_order e.0 (map (λ e. e.0) es) s))
  where
    at : (b : Bool) → int_eq e.1 (pos 0) ≡ b → IsGathered (entries_in es) → IsGathered (cond b (entries_in es) ((e.0.items, e.1) ∷ entries_in es))
    at true t h = h
    at false t h = (below_entries e.0.items es (sorted_head key_order e.0 (map (λ e. e.0) es) s), λ z. false≢true (sym t ∙ (int_eq_is e.1 (pos 0)).1 z), h)

abbrev found : Offers → List (Key × ℤ) → ℤ
found v es = unwrap_or (lookup (λ (k : Key). is_eq (value_order v k.items)) es) (pos 0)

weight-entries : (v : Offers) (es : List (Key × ℤ)) → IsStrictlySortedBy key_order (map (λ e. e.0) es) → weight_in v (entries_in es) ≡ found v es
weight-entries v [] s = refl
weight-entries v (e ∷ es) s = by_test (is_eq (value_order v e.0.items))
    (λ t.
    let q = same_values v e.0.items t in
    let b = below_entries e.0.items es (sorted_head key_order e.0 (map (λ e. e.0) es) s) in
    let a = absent v (entries_in es) (subst (λ (u : Offers). IsBelow u (entries_in es)) (sym q) b) in
    let f = ap (λ (c : Bool). unwrap_or (cond c (Some e.1) (lookup (λ (k : Key). is_eq (value_order v k.items)) es)) (pos 0)) t in
    same (int_eq e.1 (pos 0)) refl t a ∙ sym f)
    (λ t.
    let h = weight-entries v es (sorted_tail key_order e.0 (map (λ e. e.0) es) s) in
    let f = ap (λ (c : Bool). unwrap_or (cond c (Some e.1) (lookup (λ (k : Key). is_eq (value_order v k.items)) es)) (pos 0)) t in
    other (int_eq e.1 (pos 0)) t h ∙ sym f)
  where
    same : (b : Bool) → int_eq e.1 (pos 0) ≡ b → is_eq (value_order v e.0.items) ≡ true → weight_in v (entries_in es) ≡ pos 0 → weight_in v (cond b (entries_in es) ((e.0.items, e.1) ∷ entries_in es)) ≡ e.1
    same true i t a = a ∙ sym ((int_eq_is e.1 (pos 0)).0 i)
    same false i t a = let c = ap (λ (c : Bool). cond c e.1 (pos 0)) t in omega (arith, ints)

    other : (b : Bool) → is_eq (value_order v e.0.items) ≡ false → weight_in v (entries_in es) ≡ found v es → weight_in v (cond b (entries_in es) ((e.0.items, e.1) ∷ entries_in es)) ≡ found v es
    other true t h = h
    other false t h = let c = ap (λ (c : Bool). cond c e.1 (pos 0)) t in omega (arith, ints)

-- the pairs of entries
abbrev pub pairs_in : List (Key × ℤ) → List Term
pairs_in es = map as_term (entries_in es)

-- the entries of a map give the pairs of its weights
pub pairs_of_map : (m : BTreeMap Key ℤ) → IsStrictlySortedBy key_order (map (λ e. e.0) m.entries) → ArePairsOf (weight_at m) (pairs_in m.entries)
pairs_of_map m s = pairs_of_gathered (weight_at m) (entries_in m.entries) (gathered_entries m.entries s) (λ v. weight-entries v m.entries s)
