-- Members of lists: what a filter and a partial map keep.
use Rattle.std.proofs.Common.{◌≡◌, suc, ◌⊎◌, inl, inr, Bool, true, false, cond, List, [], ◌∷◌, refl, arith, sym, ap, ◌∙◌, Option, Some, None, Contains, filter, filter_map}
use Rattle.std.specs.List.{cons_option}

-- x is one of the list, told by recursion
abbrev pub In : {X : Type 0} → X → List X → Type 0
In x [] = ⊥
In x (y ∷ ys) = (x ≡ y) ⊎ In x ys

-- a member of what a filter keeps is a member, and passes
pub in_filter : {X : Type 0} (p : X → Bool) (xs : List X) (x : X) → In x (filter p xs) → In x xs × (p x ≡ true)
in_filter p [] x h = absurd h
in_filter p (y ∷ ys) x h = at (p y) refl h (λ k. in_filter p ys x k)
  where
    at : (t : Bool) → p y ≡ t → In x (cond t (y ∷ filter p ys) (filter p ys)) → (In x (filter p ys) → In x ys × (p x ≡ true)) → In x (y ∷ ys) × (p x ≡ true)
    at true e (inl q) f = (inl q, ap p q ∙ e)
    at true e (inr k) f = let r = f k in (inr r.0, r.1)
    at false e k f = let r = f k in (inr r.0, r.1)

-- one more element in front
pub contains_later : {X : Type 0} (xs : List X) (y x : X) → Contains xs x → Contains (y ∷ xs) x
contains_later xs y x h = (suc h.0, let l = h.1 in omega arith, h.2)

pub contains_first : {X : Type 0} (xs : List X) (y x : X) → y ≡ x → Contains (y ∷ xs) x
contains_first xs y x e = (0, omega arith, e)

-- in front of a list stands a number or none
pub contains_option : {X : Type 0} (o : Option X) (xs : List X) (x : X) → o ≡ Some x → Contains (cons_option o xs) x
contains_option None xs x e = absurd (cc)
contains_option (Some y) xs x e = contains_first xs y x (let q : y ≡ x = cc in q)

pub contains_behind : {X : Type 0} (o : Option X) (xs : List X) (x : X) → Contains xs x → Contains (cons_option o xs) x
contains_behind None xs x h = h
contains_behind (Some y) xs x h = contains_later xs y x h

-- what a partial map makes of a member
pub contains_image : {X Y : Type 0} (h : X → Option Y) (xs : List X) (x : X) (y : Y) → In x xs → h x ≡ Some y → Contains (filter_map h xs) y
contains_image h [] x y i e = absurd i
contains_image h (a ∷ xs) x y (inl q) e = contains_option (h a) (filter_map h xs) y (sym (ap h q) ∙ e)
contains_image h (a ∷ xs) x y (inr k) e = contains_behind (h a) (filter_map h xs) y (contains_image h xs x y k e)
