-- Drawings made in turn: what comes of those that are left, given what came of those before; and what holds of all that they give.
use Rattle.std.proofs.Common.{◌≡◌, ◌∙◌, sym, ap, ◌<◌, ◌≤◌, ◌+◌, ◌-◌, ◌*◌, ℕ, zero, suc, List, [], ◌++◌, length, length-append, append_assoc, append-nil, arith}
use Rattle.mix_trial.specs.Draws.{Drawing, for_each}
use Rattle.mix_trial.specs.Words.{Words}

-- what the drawings that are left give, after what came before
abbrev pub more : {X : Type 0} → (ℕ → Drawing (List X)) → List X → ℕ → ℕ → Words → List X × Words
more draw done n k words = let rest = for_each n k draw words in (done ++ rest.0, rest.1)

-- one more
pub more_turn : {X : Type 0} (draw : ℕ → Drawing (List X)) (done new : List X) (n i : ℕ) (words after : Words) (whole : List X × Words) → i < n
    → new ≡ done ++ (draw (suc i) words).0 → after ≡ (draw (suc i) words).1
    → more draw done (n - i) (suc i) words ≡ whole → more draw new (n - (i + 1)) (suc (i + 1)) after ≡ whole
unfolding for_each
more_turn {X = X} draw done new n i words after whole h a b e =
    let left : n - i ≡ suc (n - (i + 1)) = omega arith in
    let next : i + 1 ≡ suc i = omega arith in
    let first = draw (suc i) words in
    let rest : List X × Words = for_each (n - (i + 1)) (suc (suc i)) draw first.1 in
    let before : more draw done (suc (n - (i + 1))) (suc i) words ≡ whole = ap (λ (m : ℕ). more draw done m (suc i) words) (sym left) ∙ e in
    ap (λ (m : ℕ). more draw new (n - (i + 1)) (suc m) after) next
    ∙ ap (λ (z : List X). more draw z (n - (i + 1)) (suc (suc i)) after) a
    ∙ ap (λ (w : Words). more draw (done ++ first.0) (n - (i + 1)) (suc (suc i)) w) b
    ∙ ap (λ (z : List X). (z, rest.1)) (append_assoc done first.0 rest.0)
    ∙ before

-- no more
pub more_end : {X : Type 0} (draw : ℕ → Drawing (List X)) (done : List X) (n i k : ℕ) (words : Words) (whole : List X × Words) → n ≤ i → more draw done (n - i) k words ≡ whole → (done ≡ whole.0) × (words ≡ whole.1)
unfolding for_each
more_end {X = X} draw done n i k words whole h e =
    let left : n - i ≡ 0 = omega arith in
    let same : more draw done 0 k words ≡ whole = ap (λ (m : ℕ). more draw done m k words) (sym left) ∙ e in
    (sym (append-nil done) ∙ ap (λ (z : List X × Words). z.0) same, ap (λ (z : List X × Words). z.1) same)

-- what holds of no list, of two together, and of each drawing holds of all that they give
pub for_each_keeps : {X : Type 0} (P : List X → Type 0) (draw : ℕ → Drawing (List X)) → P [] → ((a b : List X) → P a → P b → P (a ++ b)) → ((k : ℕ) (words : Words) → P (draw k words).0)
    → (n k : ℕ) (words : Words) → P (for_each n k draw words).0
unfolding for_each
for_each_keeps P draw none both each zero k words = none
for_each_keeps P draw none both each (suc n) k words =
    both (draw k words).0 (for_each n (suc k) draw (draw k words).1).0 (each k words) (for_each_keeps P draw none both each n (suc k) (draw k words).1)

-- a measure that adds up, of drawings of at most c
pub for_each_most : {X : Type 0} (measure : List X → ℕ) (draw : ℕ → Drawing (List X)) (c : ℕ) → measure [] ≡ 0 → ((a b : List X) → measure (a ++ b) ≡ measure a + measure b) → ((k : ℕ) (words : Words) → measure (draw k words).0 ≤ c)
    → (n k : ℕ) (words : Words) → measure (for_each n k draw words).0 ≤ n * c
unfolding for_each
for_each_most measure draw c none both each zero k words = omega arith
for_each_most measure draw c none both each (suc n) k words =
    let first = each k words in
    let rest = for_each_most measure draw c none both each n (suc k) (draw k words).1 in
    let sum = both (draw k words).0 (for_each n (suc k) draw (draw k words).1).0 in
    omega arith

-- as many as all drawings of c give
pub for_each_length : {X : Type 0} (draw : ℕ → Drawing (List X)) (c : ℕ) → ((k : ℕ) (words : Words) → length (draw k words).0 ≡ c) → (n k : ℕ) (words : Words) → length (for_each n k draw words).0 ≡ n * c
unfolding for_each
for_each_length draw c each zero k words = omega arith
for_each_length draw c each (suc n) k words =
    let first = each k words in
    let rest = for_each_length draw c each n (suc k) (draw k words).1 in
    let sum = length-append (draw k words).0 (for_each n (suc k) draw (draw k words).1).0 in
    omega arith
