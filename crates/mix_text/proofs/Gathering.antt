-- Bids gathered by name: one more bid goes to the list of its name, or is the first of a new name.
use Rattle.std.proofs.Common.{◌≡◌, ◌<◌, ◌≤◌, ◌||◌, ℕ, zero, suc, List, [], ◌∷◌, ◌++◌, length, map, filter, get_or, set, refl, sym, ap, ap₂, ◌∙◌, arith, append-nil, Bool, true, false, not, cond, inl, inr, true≢false}
use Rattle.std.specs.Str.{bytes_eq}
use Rattle.std.proofs.lemmas.Bool.{cases_Bool}
use Rattle.std.proofs.lemmas.Bool.Decides.{same_from_decides}
use Rattle.std.proofs.lemmas.List.{map-append}
use Rattle.std.proofs.lemmas.List.Elements.{filter-append}
use Rattle.std.proofs.lemmas.Slice.Eq.{bytes_eq-Decides}
use Rattle.mix_bids.specs.declared.bid.Bid.{Bid}
use Rattle.mix_text.specs.Names.{different, is_among}
use Rattle.mix_text.specs.Reading.{NamedBid, bids_under, names_of}

pub bytes_eq_refl : (xs : List ℕ) → bytes_eq xs xs ≡ true
bytes_eq_refl xs = (bytes_eq-Decides xs xs).1 refl

pub same_bytes : (xs ys : List ℕ) → bytes_eq xs ys ≡ true → xs ≡ ys
same_bytes xs ys h = (bytes_eq-Decides xs ys).0 h

bytes_eq_comm : (xs ys : List ℕ) → bytes_eq xs ys ≡ bytes_eq ys xs
bytes_eq_comm xs ys = same_from_decides (bytes_eq xs ys) (bytes_eq ys xs) (bytes_eq-Decides xs ys) (λ h. sym (same_bytes ys xs h), λ h. (bytes_eq-Decides ys xs).1 (sym h))

-- a name that is unlike another
abbrev pub unlike : List ℕ → List ℕ → Bool
unlike name other = not (bytes_eq name other)

-- no two names alike
abbrev pub Unlike : List (List ℕ) → Type 0
Unlike [] = Unit {0}
Unlike (name ∷ rest) = (is_among name rest ≡ false) × Unlike rest

-- ---- the different names

-- a name more: the last, or one that was there
pub different_snoc : (names : List (List ℕ)) (x : List ℕ) → different (names ++ (x ∷ [])) ≡ cond (is_among x names) (different names) (different names ++ (x ∷ []))
different_snoc [] x = refl
different_snoc (y ∷ ys) x = ap (λ rest. y ∷ filter (unlike y) rest) (different_snoc ys x) ∙ elim (cases_Bool (bytes_eq x y)) [
  | inl t ↦ rw (t) (here t)
  | inr f ↦ rw (f) (there f)
]
  where
    here : bytes_eq x y ≡ true → (y ∷ filter (unlike y) (cond (is_among x ys) (different ys) (different ys ++ (x ∷ [])))) ≡ (y ∷ filter (unlike y) (different ys))
    here t = elim (cases_Bool (is_among x ys)) [
      | inl a ↦ rw a refl
      | inr a ↦ rw (a, filter-append (unlike y) (different ys) (x ∷ []), bytes_eq_comm y x, t) (ap (λ rest. y ∷ rest) (append-nil (filter (unlike y) (different ys))))
    ]

    there : bytes_eq x y ≡ false → (y ∷ filter (unlike y) (cond (is_among x ys) (different ys) (different ys ++ (x ∷ [])))) ≡ cond (is_among x ys) (y ∷ filter (unlike y) (different ys)) ((y ∷ filter (unlike y) (different ys)) ++ (x ∷ []))
    there f = elim (cases_Bool (is_among x ys)) [
      | inl a ↦ rw a refl
      | inr a ↦ rw (a, filter-append (unlike y) (different ys) (x ∷ []), bytes_eq_comm y x, f) refl
    ]

-- another name is among what a filter keeps where it was among all
among_unlike : (x y : List ℕ) (names : List (List ℕ)) → bytes_eq x y ≡ false → is_among x (filter (unlike y) names) ≡ is_among x names
among_unlike x y [] h = refl
among_unlike x y (z ∷ zs) h = elim (cases_Bool (bytes_eq y z)) [
  | inl t ↦ (let e = same_bytes y z t in let f : bytes_eq x z ≡ false = ap (bytes_eq x) (sym e) ∙ h in rw (t, f) (among_unlike x y zs h))
  | inr f ↦ rw f (ap (λ b. bytes_eq x z || b) (among_unlike x y zs h))
]

not_among_itself : (y : List ℕ) (names : List (List ℕ)) → is_among y (filter (unlike y) names) ≡ false
not_among_itself y [] = refl
not_among_itself y (z ∷ zs) = elim (cases_Bool (bytes_eq y z)) [
  | inl t ↦ rw t (not_among_itself y zs)
  | inr f ↦ rw f (rw f (not_among_itself y zs))
]

pub among_different : (x : List ℕ) (names : List (List ℕ)) → is_among x (different names) ≡ is_among x names
among_different x [] = refl
among_different x (y ∷ ys) = elim (cases_Bool (bytes_eq x y)) [
  | inl t ↦ rw t refl
  | inr f ↦ rw f (among_unlike x y (different ys) f ∙ among_different x ys)
]

unlike_filter : (y : List ℕ) (names : List (List ℕ)) → Unlike names → Unlike (filter (unlike y) names)
unlike_filter y [] u = tt
unlike_filter y (z ∷ zs) u = elim (cases_Bool (bytes_eq y z)) [
  | inl t ↦ rw t (unlike_filter y zs u.1)
  | inr f ↦ rw f (among_unlike z y zs (bytes_eq_comm z y ∙ f) ∙ u.0, unlike_filter y zs u.1)
]

pub different_unlike : (names : List (List ℕ)) → Unlike (different names)
different_unlike [] = tt
different_unlike (y ∷ ys) = (not_among_itself y (different ys), unlike_filter y (different ys) (different_unlike ys))

pub keeps_all : (y : List ℕ) (names : List (List ℕ)) → is_among y names ≡ false → filter (unlike y) names ≡ names
keeps_all y [] h = refl
keeps_all y (z ∷ zs) h = elim (cases_Bool (bytes_eq y z)) [
  | inl t ↦ absurd (let q = rw t at h in true≢false q)
  | inr f ↦ (let q = rw f at h in rw f (ap (λ rest. z ∷ rest) (keeps_all y zs q)))
]

-- names no two of which are alike are their own different names
pub different_same : (names : List (List ℕ)) → Unlike names → different names ≡ names
different_same [] u = refl
different_same (y ∷ ys) u = ap (λ rest. y ∷ filter (unlike y) rest) (different_same ys u.1) ∙ ap (λ rest. y ∷ rest) (keeps_all y ys u.0)

-- ---- a map over names, changed at one name

-- where the name is none of them, the change is not seen
pub map_other : {X : Type 0} (f g : List ℕ → X) (x : List ℕ) (names : List (List ℕ)) → is_among x names ≡ false → ((m : List ℕ) → bytes_eq x m ≡ false → g m ≡ f m) → map g names ≡ map f names
map_other f g x [] h same = refl
map_other f g x (y ∷ ys) h same = elim (cases_Bool (bytes_eq x y)) [
  | inl t ↦ absurd (let q = rw t at h in true≢false q)
  | inr e ↦ (let q = rw e at h in ap₂ (λ a rest. a ∷ rest) (same y e) (map_other f g x ys q same))
]

-- at the place of the name it is a change of one entry
pub map_at : {X : Type 0} (f g : List ℕ → X) (x : List ℕ) (names : List (List ℕ)) (k : ℕ) → k < length names → bytes_eq x (get_or names k []) ≡ true → Unlike names
    → ((j : ℕ) → j < k → bytes_eq x (get_or names j []) ≡ false) → ((m : List ℕ) → bytes_eq x m ≡ false → g m ≡ f m) → map g names ≡ set (map f names) k (g x)
map_at f g x [] k h e u before same = absurd (omega arith)
map_at {X = X} f g x (y ∷ ys) zero h e u before same =
    let q = same_bytes x y e in
    let a : is_among x ys ≡ false = ap (λ n. is_among n ys) q ∙ u.0 in
    ap₂ (λ (a : X) (rest : List X). a ∷ rest) (ap g (sym q)) (map_other f g x ys a same)
map_at {X = X} f g x (y ∷ ys) (suc k) h e u before same =
    ap₂ (λ (a : X) (rest : List X). a ∷ rest) (same y (before 0 (omega arith))) (map_at f g x ys k (omega arith) e u.1 (λ j l. before (suc j) (omega arith)) same)

-- ---- the bids of a name

pub bids_under_snoc : (m : List ℕ) (bids : List NamedBid) (b : NamedBid) → bids_under m (bids ++ (b ∷ [])) ≡ bids_under m bids ++ cond (bytes_eq m b.name) (b.bid ∷ []) []
bids_under_snoc m bids b =
    ap (map (λ (a : NamedBid). a.bid)) (filter-append (λ a. bytes_eq m a.name) bids (b ∷ []))
    ∙ map-append (λ (a : NamedBid). a.bid) (filter (λ a. bytes_eq m a.name) bids) (filter (λ a. bytes_eq m a.name) (b ∷ []))
    ∙ ap (λ (rest : List Bid). bids_under m bids ++ rest) (last (bytes_eq m b.name))
  where
    last : (t : Bool) → map (λ (a : NamedBid). a.bid) (cond t (b ∷ []) []) ≡ cond t (b.bid ∷ []) []
    last true = refl
    last false = refl

-- a name that isn't there has no bids
pub bids_under_none : (m : List ℕ) (bids : List NamedBid) → is_among m (names_of bids) ≡ false → bids_under m bids ≡ []
bids_under_none m [] h = refl
bids_under_none m (b ∷ bids) h = elim (cases_Bool (bytes_eq m b.name)) [
  | inl t ↦ absurd (let q = rw t at h in true≢false q)
  | inr f ↦ (let q = rw f at h in rw f (bids_under_none m bids q))
]

-- a name that is there has one
pub bids_under_some : (m : List ℕ) (bids : List NamedBid) → is_among m (names_of bids) ≡ true → 1 ≤ length (bids_under m bids)
bids_under_some m [] h = absurd (true≢false (sym h))
bids_under_some m (b ∷ bids) h = elim (cases_Bool (bytes_eq m b.name)) [
  | inl t ↦ rw t (omega arith)
  | inr f ↦ (let q = rw f at h in rw f (bids_under_some m bids q))
]
