-- The members that are moved out one after the other.
use Rattle.std.proofs.Common.{◌≡◌, ◌<◌, ◌+◌, ◌∙◌, ℕ, List, [], ◌∷◌, ◌++◌, drop, length, get_or, map, take, sym, ap, ap₂, arith, subst, add-zero}
use Rattle.std.proofs.lemmas.List.{drop-drop, drop-set-lt, get_or-drop, get_or_default, map-append, take_more}
use Rattle.std.proofs.Math.ListN.{set}
use Rattle.mix_cap.specs.declared.member.Member.{Member}
use Rattle.mix_session.specs.declared.standing.Standing.{Standing}
use Rattle.mix_session.specs.declared.standing.Standing.TheVariants.{Convex, Open}
use Rattle.mix_session.specs.Standings.{AreTakenIn, IsTakenIn}

-- what is left from a place on is what stood there
left_there : (standings now : List Standing) (k : ℕ) (d : Standing) → drop k now ≡ drop k standings → get_or now k d ≡ get_or standings k d
left_there standings now k d left =
    let here : (list : List Standing) → get_or (drop k list) 0 d ≡ get_or list k d = λ list. get_or-drop k list 0 d ∙ ap (λ (i : ℕ). get_or list i d) (add-zero k) in
    sym (here now) ∙ ap (λ (list : List Standing). get_or list 0 d) left ∙ here standings

pub still_taken_in : (standings now : List Standing) (k : ℕ) (d : Standing) → AreTakenIn standings → k < length standings → drop k now ≡ drop k standings → IsTakenIn (get_or now k d)
still_taken_in standings now k d taken h left = subst IsTakenIn (get_or_default standings k Open d h ∙ sym (left_there standings now k d left)) (taken k h)

-- one member more is moved out
pub one_more_moved : (standings now : List Standing) (k : ℕ) (d : Standing) (members later : List Member) (member : Member) → k < length standings → drop k now ≡ drop k standings → get_or now k d ≡ Convex member → later ≡ members ++ member ∷ []
    → take k standings ≡ map Convex members → take (k + 1) standings ≡ map Convex later
one_more_moved standings now k d members later member h left is pushed so_far =
    take_more standings k d h
    ∙ ap₂ (λ (xs : List Standing) (x : Standing). xs ++ x ∷ []) so_far (sym (left_there standings now k d left) ∙ is)
    ∙ sym (map-append Convex members (member ∷ []))
    ∙ ap (λ (list : List Member). map Convex list) (sym pushed)

-- and those after it are where they were
pub others_left : (standings now : List Standing) (k : ℕ) (s : Standing) → drop k now ≡ drop k standings → drop (k + 1) (set now k s) ≡ drop (k + 1) standings
others_left standings now k s left = drop-set-lt (k + 1) now k s (omega arith) ∙ sym (drop-drop 1 k now) ∙ ap (λ (list : List Standing). drop 1 list) left ∙ drop-drop 1 k standings
