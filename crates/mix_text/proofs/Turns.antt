-- Fields read in turn: what comes of those that are left, given what came of those before.
use Rattle.std.proofs.Common.{◌≡◌, ◌<◌, ◌≤◌, ◌+◌, ℕ, suc, List, [], ◌∷◌, ◌++◌, length, drop, get_or, refl, sym, ap, append_assoc, add-one, Ok, Err, Result, append-nil}
use Rattle.std.proofs.Math.Seq.{drop-cons}
use Rattle.std.proofs.lemmas.List.{drop_all}
use Rattle.mix_text.specs.declared.faults.Code.{Code}
use Rattle.mix_text.specs.Reading.{◌>>=◌, each_of}

-- what the fields that are left give, after what came before
abbrev pub each_more : {X : Type 0} → (List ℕ → Result X Code) → List X → List (List ℕ) → Result (List X) Code
each_more read done fields = each_of read fields >>= λ xs. Ok (done ++ xs)

pub first_turn : {X : Type 0} (read : List ℕ → Result X Code) (fields : List (List ℕ)) → each_more read [] fields ≡ each_of read fields
first_turn {X = X} read fields = at (each_of read fields)
  where
    at : (r : Result (List X) Code) → (r >>= λ xs. Ok ([] ++ xs)) ≡ r
    at (Ok xs) = refl
    at (Err e) = refl

pub last_turn : {X : Type 0} (read : List ℕ → Result X Code) (done : List X) (fields : List (List ℕ)) (k : ℕ) → length fields ≤ k → each_more read done (drop k fields) ≡ Ok done
last_turn read done fields k h = rw (drop_all k fields h) (ap Ok (append-nil done))

pub next_turn : {X : Type 0} (read : List ℕ → Result X Code) (done : List X) (fields : List (List ℕ)) (k : ℕ) (x : X) → k < length fields → read (get_or fields k []) ≡ Ok x
    → each_more read done (drop k fields) ≡ each_more read (done ++ (x ∷ [])) (drop (k + 1) fields)
next_turn {X = X} read done fields k x h e = rw (add-one, drop-cons fields k [] h, e) (at (each_of read (drop (suc k) fields)))
  where
    at : (r : Result (List X) Code) → ((r >>= λ xs. Ok (x ∷ xs)) >>= λ xs. Ok (done ++ xs)) ≡ (r >>= λ xs. Ok ((done ++ (x ∷ [])) ++ xs))
    at (Ok xs) = ap Ok (sym (append_assoc done (x ∷ []) xs))
    at (Err e) = refl

pub wrong_turn : {X : Type 0} (read : List ℕ → Result X Code) (done : List X) (fields : List (List ℕ)) (k : ℕ) (e : Code) → k < length fields → read (get_or fields k []) ≡ Err e
    → each_more read done (drop k fields) ≡ Err e
wrong_turn read done fields k e h w = rw (drop-cons fields k [] h, w) refl
