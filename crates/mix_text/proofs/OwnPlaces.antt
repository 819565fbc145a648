-- Where no two names are alike, the place that a name is found at is its own.
use Rattle.std.proofs.Common.{◌≡◌, ◌<◌, ◌∙◌, sym, ap, subst, ℕ, zero, suc, List, [], ◌∷◌, length, map, get_or, arith, true, not, nat_lt, Some, Ok, refl}
use Rattle.std.specs.List.{position, prefix_len}
use Rattle.std.specs.Str.{bytes_eq}
use Rattle.std.proofs.lemmas.Bool.Decides.{nat_tests}
use Rattle.std.proofs.lemmas.List.{get_or-map, length-map}
use Rattle.mix_bids.specs.Bids.{Book}
use Rattle.mix_text.specs.Bidders.{Named, name_at, place_of}
use Rattle.mix_text.specs.Names.{AreNames}
use Rattle.mix_text.specs.Reading.{bidder_of, found}
use Rattle.mix_text.specs.Spelling.{is_name}
use Rattle.mix_text.proofs.Gathering.{Unlike, bytes_eq_refl, different_unlike}
use Rattle.mix_text.proofs.NamesSoFar.{none_at}
use Rattle.mix_text.proofs.SoundAuctions.{turned}
use Rattle.mix_text.proofs.Spellings.{name_spelled}

-- among things of unlike names, the first of a name that is there is the one that has it
first_of_name : {X : Type 0} (named : X → List ℕ) (xs : List X) (d : X) (k : ℕ) → k < length xs → Unlike (map named xs) → prefix_len (λ x. not (bytes_eq (named (get_or xs k d)) (named x))) xs ≡ k
first_of_name named [] d k h u = absurd (omega arith)
first_of_name named (x ∷ xs) d zero h u = rw (bytes_eq_refl (named x)) refl
first_of_name {X = X} named (x ∷ xs) d (suc k) h u =
    let below : k < length xs = omega arith in
    let sizes = length-map xs named in
    let other = turned (named x) (named (get_or xs k d)) (ap (bytes_eq (named x)) (sym (get_or-map named xs k d [] below)) ∙ none_at (named x) (map named xs) k u.0 (omega (arith, sizes, below))) in
    let later = first_of_name named xs d k below u.1 in
    rw (other, later) (omega arith)

pub place_found : {X : Type 0} (named : X → List ℕ) (xs : List X) (d : X) (k : ℕ) → k < length xs → Unlike (map named xs) → position (λ x. bytes_eq (named (get_or xs k d)) (named x)) xs ≡ Some k
place_found named xs d k h u =
    let first = first_of_name named xs d k h u in
    let inside : nat_lt k (length xs) ≡ true = grind (arith, nat_tests) in
    rw (first, inside) refl

-- names no two of which are alike
pub unlike_names : (names : List (List ℕ)) → AreNames names → Unlike names
unlike_names names are = subst Unlike are.unlike (different_unlike names)

-- the form of a bidder's name
pub bidder_name : (bidders : Named) (k : ℕ) → AreNames (map (λ bidder. bidder.0) bidders) → k < length bidders → is_name (name_at bidders k) ≡ true
bidder_name bidders k are h =
    let count = length-map bidders (λ (bidder : List ℕ × Book). bidder.0) in
    let same = get_or-map (λ (bidder : List ℕ × Book). bidder.0) bidders k ([], record { goods = 0; bids = [] }) [] h in
    ap is_name (sym same) ∙ are.form k [] (omega (arith, count, h))

-- a bidder is found by its name
pub bidder_found : (bidders : Named) (k : ℕ) → AreNames (map (λ bidder. bidder.0) bidders) → k < length bidders → bidder_of bidders (name_at bidders k) ≡ Ok k
bidder_found bidders k are h =
    let place : place_of (name_at bidders k) bidders ≡ Some k = place_found (λ (bidder : List ℕ × Book). bidder.0) bidders ([], record { goods = 0; bids = [] }) k h (unlike_names (map (λ bidder. bidder.0) bidders) are) in
    let name = name_spelled (name_at bidders k) (bidder_name bidders k are h) in
    rw name (ap found place)
