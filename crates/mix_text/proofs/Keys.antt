-- A key more of a set of names, seen as the names' bytes.
use Rattle.std.proofs.Common.{◌≡◌, List, ◌∷◌, [], ◌++◌, map, sym, ◌∙◌, Bool, false}
use Rattle.std.specs.List.{list_any}
use Rattle.std.proofs.lemmas.List.{map-append}
use Rattle.indexmap.specs.IndexSet.{insert_key}
use Rattle.mix_text.proofs.Entries.{list_any-map, list_any-same}

-- a new key of a set goes last
pub new_key : {K N : Type 0} (eq : K → K → Bool) (f : K → N) (test : N → Bool) (k : K) (ks : List K) → ((other : K) → test (f other) ≡ eq k other) → list_any test (map f ks) ≡ false
    → map f (insert_key eq ks k) ≡ map f ks ++ (f k ∷ [])
new_key eq f test k ks same h =
    let a : list_any (eq k) ks ≡ false = sym (list_any-same (λ other. test (f other)) (eq k) ks same) ∙ sym (list_any-map f test ks) ∙ h in
    rw a (map-append f ks (k ∷ []))
