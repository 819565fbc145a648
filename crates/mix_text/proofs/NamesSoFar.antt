-- Names that are copied one after the other: each is unlike those before it.
use Rattle.std.proofs.Common.{◌≡◌, ◌<◌, ℕ, zero, suc, List, [], ◌∷◌, length, map, take, get_or, sym, ◌∙◌, ap, arith, refl, subst, Bool, false, None}
use Rattle.std.specs.List.{list_any, position}
use Rattle.std.specs.Str.{bytes_eq}
use Rattle.std.proofs.lemmas.List.{get_or-map, length-map}
use Rattle.mix_bids.specs.Bids.{Book}
use Rattle.mix_text.specs.Bidders.{Named, name_at, place_of}
use Rattle.mix_text.specs.Names.{AreNames, is_among}
use Rattle.mix_text.proofs.Bids.{any_before_end}
use Rattle.mix_text.proofs.Entries.{position-map}
use Rattle.mix_text.proofs.Gathering.{Unlike, different_unlike}
use Rattle.mix_text.proofs.SoundAuctions.{not_alike, turned}

-- a name that isn't among these is unlike each of them
pub none_at : (y : List ℕ) (names : List (List ℕ)) (k : ℕ) → is_among y names ≡ false → k < length names → bytes_eq y (get_or names k []) ≡ false
none_at y [] k h l = absurd (omega (arith, l))
none_at y (z ∷ zs) zero h l = (not_alike (bytes_eq y z) (is_among y zs) h).0
none_at y (z ∷ zs) (suc k) h l = none_at y zs k (not_alike (bytes_eq y z) (is_among y zs) h).1 (omega (arith, l))

new_at : (names : List (List ℕ)) (k : ℕ) → Unlike names → k < length names → is_among (get_or names k []) (take k names) ≡ false
new_at [] k u l = absurd (omega (arith, l))
new_at (y ∷ ys) zero u l = refl
new_at (y ∷ ys) (suc k) u l = rw (turned y (get_or ys k []) (none_at y ys k u.0 (omega (arith, l)))) (new_at ys k u.1 (omega (arith, l)))

pub new_name : (names : List (List ℕ)) (k : ℕ) → AreNames names → k < length names → is_among (get_or names k []) (take k names) ≡ false
new_name names k n l = new_at names k (subst Unlike n.unlike (different_unlike names)) l

no_place : {X : Type 0} (p : X → Bool) (xs : List X) → list_any p xs ≡ false → position p xs ≡ None
no_place p xs h = let e = sym (any_before_end p xs) ∙ h in rw e refl

map-take : {X Y : Type 0} (f : X → Y) (k : ℕ) (xs : List X) → map f (take k xs) ≡ take k (map f xs)
map-take f zero xs = refl
map-take f (suc k) [] = refl
map-take f (suc k) (x ∷ xs) = ap (λ rest. f x ∷ rest) (map-take f k xs)

pub new_bidder : (bidders : Named) (k : ℕ) → AreNames (map (λ (bidder : List ℕ × Book). bidder.0) bidders) → k < length bidders → place_of (name_at bidders k) (take k bidders) ≡ None
new_bidder bidders k n l =
    let name : List ℕ × Book → List ℕ = λ bidder. bidder.0 in
    let here = get_or-map name bidders k ([], record { goods = 0; bids = [] }) [] l in
    let count = length-map bidders name in
    sym (position-map name (bytes_eq (name_at bidders k)) (take k bidders))
    ∙ ap (position (bytes_eq (name_at bidders k))) (map-take name k bidders)
    ∙ ap (λ m. position (bytes_eq m) (take k (map name bidders))) (sym here)
    ∙ no_place (bytes_eq (get_or (map name bidders) k [])) (take k (map name bidders)) (new_name (map name bidders) k n (omega (arith, count, l)))
