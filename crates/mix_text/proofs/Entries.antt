-- The entries of a map by name, seen as pairs of the name's bytes and the value.
use Rattle.std.proofs.Common.{◌≡◌, ◌<◌, ◌+◌, ◌||◌, ℕ, zero, suc, List, [], ◌∷◌, ◌++◌, length, map, get_or, set, slice_get, sym, ◌∙◌, ap, arith, refl, Some, None, Bool, true, false, inl, inr, cond, not, nat_lt}
use Rattle.std.specs.List.{position, prefix_len, list_any}
use Rattle.std.proofs.lemmas.Bool.{cases_Bool}
use Rattle.std.proofs.lemmas.Bool.Decides.{nat_tests}
use Rattle.std.proofs.lemmas.List.{length-map, map-append}
use Rattle.indexmap.specs.IndexMap.{insert_entry, set_value_at}

prefix_len-map : {X Y : Type 0} (f : X → Y) (p : Y → Bool) (xs : List X) → prefix_len p (map f xs) ≡ prefix_len (λ x. p (f x)) xs
prefix_len-map f p [] = refl
prefix_len-map f p (x ∷ xs) = ap (λ n. cond (p (f x)) (1 + n) 0) (prefix_len-map f p xs)

-- the place of the first image that passes
pub position-map : {X Y : Type 0} (f : X → Y) (p : Y → Bool) (xs : List X) → position p (map f xs) ≡ position (λ x. p (f x)) xs
position-map f p xs =
    let n = prefix_len-map f (λ y. not (p y)) xs in
    let len = length-map xs f in
    ap (λ m. cond (nat_lt m (length (map f xs))) (Some m) None) n ∙ ap (λ k. cond (nat_lt (prefix_len (λ x. not (p (f x))) xs) k) (Some (prefix_len (λ x. not (p (f x))) xs)) None) len

pub list_any-map : {X Y : Type 0} (f : X → Y) (p : Y → Bool) (xs : List X) → list_any p (map f xs) ≡ list_any (λ x. p (f x)) xs
list_any-map f p [] = refl
list_any-map f p (x ∷ xs) = ap (λ b. p (f x) || b) (list_any-map f p xs)

-- where no element has the first place, none passes
none-there : (n m : ℕ) → cond (nat_lt (1 + n) (suc m)) (Some (1 + n)) None ≡ None → cond (nat_lt n m) (Some n) None ≡ None
none-there n m h = elim (cases_Bool (nat_lt n m)) [
  | inl below ↦ (let next : nat_lt (1 + n) (suc m) ≡ true = grind (arith, nat_tests) in let e = rw next at h in cc e)
  | inr past ↦ rw past refl
]

pub list_any-absent : {X : Type 0} (p : X → Bool) (xs : List X) → position p xs ≡ None → list_any p xs ≡ false
list_any-absent p [] h = refl
list_any-absent p (x ∷ xs) h = elim (cases_Bool (p x)) [
  | inl passes ↦ (let first : nat_lt 0 (suc (length xs)) ≡ true = grind (arith, nat_tests) in let e = rw (passes, first) at h in cc e)
  | inr fails ↦ rw (fails, list_any-absent p xs (none-there (prefix_len (λ y. not (p y)) xs) (length xs) (rw fails at h))) refl
]

-- a new key goes last
insert-new : {K V : Type 0} (eq : K → K → Bool) (k : K) (v : V) (es : List (K × V)) → list_any (λ e. eq k e.0) es ≡ false
    → insert_entry eq es k v ≡ es ++ ((k, v) ∷ [])
insert-new eq k v [] h = refl
insert-new eq k v (e ∷ es) h = elim (cases_Bool (eq k e.0)) [
  | inl t ↦ (let q = rw t at h in cc q)
  | inr f ↦ (let q = rw f at h in rw (f, insert-new eq k v es q) refl)
]

-- a pair, its key seen by b
abbrev pub seen : {K V N : Type 0} → (K → N) → K × V → N × V
seen b e = (b e.0, e.1)

pub list_any-same : {X : Type 0} (p q : X → Bool) (xs : List X) → ((x : X) → p x ≡ q x) → list_any p xs ≡ list_any q xs
list_any-same p q [] h = refl
list_any-same p q (x ∷ xs) h = rw (h x, list_any-same p q xs h) refl

-- a pair whose key is new goes last
pub map-insert_new : {K V N : Type 0} (eq : K → K → Bool) (b : K → N) (test : N × V → Bool) (k : K) (v : V) (es : List (K × V))
    → ((e : K × V) → test (seen b e) ≡ eq k e.0) → position test (map (seen b) es) ≡ None
    → map (seen b) (insert_entry eq es k v) ≡ map (seen b) es ++ ((b k, v) ∷ [])
map-insert_new eq b test k v es same absent =
    let any = list_any-same (λ e. test (seen b e)) (λ e. eq k e.0) es same in
    ap (map (seen b)) (insert-new eq k v es (sym any ∙ sym (list_any-map (seen b) test es) ∙ list_any-absent test (map (seen b) es) absent))
    ∙ map-append (seen b) es ((k, v) ∷ [])

-- a value changed in place
pub map-set_value : {K V N : Type 0} (b : K → N) (es : List (K × V)) (k : ℕ) (v : V) (d : N × V) → k < length es
    → map (seen b) (set_value_at es k v) ≡ set (map (seen b) es) k ((get_or (map (seen b) es) k d).0, v)
map-set_value b [] k v d h = absurd (omega arith)
map-set_value b (e ∷ es) zero v d h = refl
map-set_value b (e ∷ es) (suc k) v d h = ap (λ t. seen b e ∷ t) (map-set_value b es k v d (omega arith))

-- the value at a place, and that it set there again changes nothing
pub value-at : {K V N : Type 0} (b : K → N) (es : List (K × V)) (k : ℕ) (v : V) (d : N × V) → slice_get (map (λ e. e.1) es) k ≡ Some v
    → (get_or (map (seen b) es) k d).1 ≡ v
value-at b [] k v d h = cc h
value-at b (e ∷ es) zero v d h = cc h
value-at b (e ∷ es) (suc k) v d h = value-at b es k v d h

pub set_value-same : {K V : Type 0} (es : List (K × V)) (k : ℕ) (v : V) → slice_get (map (λ e. e.1) es) k ≡ Some v → set_value_at es k v ≡ es
set_value-same [] k v h = refl
set_value-same (e ∷ es) zero v h = let same : e.1 ≡ v = cc h in rw (← same) refl
set_value-same (e ∷ es) (suc k) v h = ap (λ t. e ∷ t) (set_value-same es k v h)
