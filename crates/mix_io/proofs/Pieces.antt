-- Pieces at the front of what is left, and pieces appended in turn.
use Rattle.std.proofs.Common.{◌≡◌, ◌≤◌, ◌<◌, ◌+◌, ◌-◌, ℕ, List, [], ◌++◌, length, take, drop, min, sym, ◌∙◌, arith, append_assoc, take-add, Option, Some, None}
use Rattle.std.specs.Io.KnownBytes.{Appends, Consumes}
use Rattle.std.proofs.lemmas.List.{take-append-le, take-append-drop, length-take-le, length-append, length-drop, drop-drop, drop_all}
use Rattle.std.proofs.Math.Seq.{take-length}

-- the part of a list from a place on, as the slice `&xs[at..]` shows it
pub rest_of : (at : ℕ) (xs : List ℕ) → take (length xs - at) (drop at xs) ≡ drop at xs
rest_of at xs = rw (← (length-drop at xs)) (take-length (drop at xs))

-- the first n bytes of a buffer that begins with n bytes are these
pub take-front : (n : ℕ) (front rest : List ℕ) → length front ≡ n → take n (front ++ rest) ≡ front
take-front n front rest e = rw (← e) (take-append-le (length front) front rest (omega arith) ∙ take-length front)

-- a read at a place consumes the n bytes that it puts at the front of a buffer
pub consumes-front : (n at : ℕ) (xs rest : List ℕ) → n ≤ length (drop at xs)
    → drop at xs ≡ take n (take n (drop at xs) ++ rest) ++ drop (at + n) xs
consumes-front n at xs rest le =
    let front = take-front n (take n (drop at xs)) rest (length-take-le n (drop at xs) le) in
    rw (front, ← (drop-drop n at xs)) (sym (take-append-drop n (drop at xs)))

-- a read that gives the least of what is left, the buffer's length and a piece leaves nothing where it gives nothing
pub drop-at_end : (n at piece : ℕ) (xs front buf : List ℕ) → n ≡ min (min (length (drop at xs)) (length buf)) piece → 1 ≤ piece
    → length front ≡ n → n ≡ 0 → 0 < length (front ++ drop n buf) → drop (at + n) xs ≡ []
drop-at_end n at piece xs front buf least some given none room =
    let total = length-append front (drop n buf) in
    let kept = length-drop n buf in
    let left = length-drop at xs in
    let short : length xs ≤ at + n = omega (arith, total, kept, left) in
    drop_all (at + n) xs short

-- a piece from a place on, appended after all that stands before that place
pub appends-more : (o m n : Option (List ℕ)) (xs : List ℕ) (at k : ℕ)
    → Appends o m (take at xs) → Appends m n (take k (take (length xs - at) (drop at xs))) → Appends o n (take (at + k) xs)
appends-more None m n xs at k p q = tt
appends-more (Some a) None n xs at k p q = absurd p
appends-more (Some a) (Some b) None xs at k p q = absurd q
appends-more (Some a) (Some b) (Some c) xs at k p q =
    rw (rest_of at xs) at q ∙ rw (p, take-add at k xs) (append_assoc a (take at xs) (take k (drop at xs)))

-- two pieces consumed in turn
pub consumes-more : (a b c : Option (List ℕ)) (xs ys : List ℕ) → Consumes a b xs → Consumes b c ys → Consumes a c (xs ++ ys)
consumes-more None b c xs ys p q = tt
consumes-more (Some x) None c xs ys p q = absurd p
consumes-more (Some x) (Some y) None xs ys p q = absurd q
consumes-more (Some x) (Some y) (Some z) xs ys p q = rw (p, q) (sym (append_assoc xs ys z))
