-- A tie order with one bidder more, who is served last.
use Rattle.std.proofs.Common.{◌≡◌, ◌<◌, ◌+◌, ◌==◌, ℕ, suc, List, [], ◌∷◌, ◌++◌, length, arith, refl, false}
use Rattle.std.proofs.lemmas.Bool.Decides.{nat_tests}
use Rattle.std.proofs.lemmas.List.{length-append}
use Rattle.mix_num.specs.Orders.{place_at}
use Rattle.mix_text.specs.Orders.{IsTieOrder, is_served}
use Rattle.mix_text.proofs.TieOrders.{AreServed, all_served, one_more}

pub served_last : (m : ℕ) (order : List ℕ) → IsTieOrder m order → IsTieOrder (m + 1) (order ++ m ∷ [])
served_last m order t =
    let size = t.size in
    let before : AreServed (m + 1) order = record {
      below = λ i l. let w = t.within i (omega (arith, size, l)) in omega (arith, w);
      apart = λ i j h l e. let same = t.once i j (omega (arith, size, h, l)) (omega (arith, size, l)) e in omega (arith, same, h);
    } in
    all_served (m + 1) (order ++ m ∷ []) (one_more (m + 1) m order before (omega arith) (not_there order (λ i l. let w = t.within i (omega (arith, size, l)) in w))) (let count = length-append order (m ∷ []) in omega (arith, count, size))
  where
    not_there : (order : List ℕ) → ((i : ℕ) → i < length order → place_at order i < m) → is_served m order ≡ false
    not_there [] h = refl
    not_there (j ∷ order) h = let first = h 0 (omega arith) in let f : (j == m) ≡ false = grind (arith, nat_tests, first) in rw f (not_there order (λ i l. h (suc i) (omega (arith, l))))
