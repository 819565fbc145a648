-- A bidder leaves: no more is wanted.
use Rattle.std.proofs.Common.{◌≡◌, ℕ, zero, suc, ◌+◌, ◌≤◌, ◌<◌, ℤ, pos, ◌+ℤ◌, List, [], ◌∷◌, length, refl, sym, ap, ap₂, subst, ◌∙◌, arith, ⊎_elim, Option, Some, None}
use Rattle.std.specs.List.{remove}
use Rattle.std.proofs.lemmas.Bool.{cases_lt}
use Rattle.std.proofs.lemmas.Int.{ints}
use Rattle.std.proofs.lemmas.List.{ext_get_or}
use Rattle.std.proofs.lemmas.List.Edits.{get_or-remove_above, get_or-remove_below, length-remove}
use Rattle.mix_num.specs.Vectors.{Vector}
use Rattle.mix_bids.specs.Bids.{Book}
use Rattle.mix_market.specs.Lyapunov.{sum_of}
use Rattle.mix_text.specs.Auctions.{AuctionText, IsAuction}
use Rattle.mix_text.specs.Bidders.{list_at, place_of}
use Rattle.mix_text.specs.Caps.{cap_at}
use Rattle.mix_text.specs.Changes.{without, without_at, without_found}
use Rattle.mix_text.proofs.ChangedAuctions.{found_below}
use Rattle.mix_answer.specs.Refusals.{AreConvex}
use Rattle.mix_answer.specs.Utilities.{entrant_at, entrant_utility, utilities_of}
use Rattle.mix_answer.proofs.Entrants.{length-utilities, utility-there}
use Rattle.mix_law.specs.Clearings.{bidder_utility}
use Rattle.mix_clearing.specs.Utilities.{KeepLaws}
use Rattle.mix_clearing.specs.Scarcity.{WantsNoLess}
use Rattle.mix_clearing.proofs.FallingUtilities.{falls-where_lawful}
use Rattle.mix_scarcity.specs.Changes.{IsScarcerAuction}
use Rattle.mix_scarcity.proofs.AddedBids.{auction_laws}

abbrev nobody : List ℕ × Book
nobody = ([], record { goods = 0; bids = [] })

abbrev nothing : Vector → ℤ
nothing x = pos 0

-- the utilities added, without one of them
sum-without : (us : List (Vector → ℤ)) (k : ℕ) (x : Vector) → k < length us → sum_of us x ≡ sum_of (remove us k) x +ℤ bidder_utility us k x
sum-without [] k x h = absurd (omega arith)
sum-without (f ∷ us) zero x h = omega (arith, ints)
sum-without (f ∷ us) (suc k) x h = let a = sum-without us k x (omega arith) in omega (arith, ints)

-- with one more, no less is wanted
one_wants : (n : ℕ) (us : List (Vector → ℤ)) (k : ℕ) → 1 ≤ n → KeepLaws n us → k < length us → WantsNoLess n (sum_of (remove us k)) (sum_of us)
one_wants n us k some laws h x y below =
    let a = sum-without us k x h in
    let b = sum-without us k y h in
    let c = falls-where_lawful n (bidder_utility us k) some (laws k h) x y below in
    omega (arith, ints)

module _ (a : AuctionText) (sound : IsAuction a) (k : ℕ) (below : k < length a.bidders) where
  caps-below : k < length a.caps
  caps-below = let m = sound.caps.size in omega (arith, m, below)

  same_entrant : (i j : ℕ) → list_at (without_at a k).bidders j ≡ list_at a.bidders i → cap_at (without_at a k).caps j ≡ cap_at a.caps i → entrant_at (without_at a k) j ≡ entrant_at a i
  same_entrant i j list cap = ap₂ (λ (l : Book) (c : Option ℤ). record { list = l; cap = c }) list cap

  left : length (without_at a k).bidders + 1 ≡ length a.bidders
  left = let q = length-remove a.bidders k below in omega (arith, q, below)

  -- the utilities are those that were, without one
  utilities-left : utilities_of (without_at a k) ≡ remove (utilities_of a) k
  utilities-left =
      let m = length-utilities a in
      let l = length-utilities (without_at a k) in
      let there : k < length (utilities_of a) = omega (arith, m, below) in
      let r = length-remove (utilities_of a) k there in
      ext_get_or nothing (utilities_of (without_at a k)) (remove (utilities_of a) k) (omega (arith, m, l, r, left))
      (λ j h. ⊎_elim
      (λ b. utility-there (without_at a k) j (omega (arith, h, l))
      ∙ ap entrant_utility (same_entrant j j (ap (λ (x : List ℕ × Book). x.1) (get_or-remove_below a.bidders k nobody j b below)) (get_or-remove_below a.caps k None j b caps-below))
      ∙ sym (utility-there a j (omega (arith, h, l, left)))
      ∙ sym (get_or-remove_below (utilities_of a) k nothing j b there))
      (λ b. utility-there (without_at a k) j (omega (arith, h, l))
      ∙ ap entrant_utility (same_entrant (j + 1) j (ap (λ (x : List ℕ × Book). x.1) (get_or-remove_above a.bidders k nobody j b below)) (get_or-remove_above a.caps k None j b caps-below))
      ∙ sym (utility-there a (j + 1) (omega (arith, h, l, left)))
      ∙ sym (get_or-remove_above (utilities_of a) k nothing j b there))
      (cases_lt j k))

  dropped_at : AreConvex a → IsScarcerAuction (without_at a k) a
  dropped_at convex =
      let m = length-utilities a in
      let goods = sound.some_goods in
      let size = sound.supply.0 in
      record {
        goods = refl;
        wanted = subst (λ (us : List (Vector → ℤ)). WantsNoLess (length a.supply) (sum_of us) (sum_of (utilities_of a))) (sym utilities-left)
            (one_wants (length a.supply) (utilities_of a) k (omega (arith, goods, size)) (auction_laws a sound convex) (omega (arith, m, below)));
        less = λ i h. omega (arith, ints);
        higher = λ i h. omega (arith, ints);
      }

pub dropped_scarcer : (a : AuctionText) (name : List ℕ) → IsAuction a → AreConvex a → IsScarcerAuction (without a name) a
dropped_scarcer a name sound convex = at (place_of name a.bidders) refl
  where
    at : (place : Option ℕ) → place_of name a.bidders ≡ place → IsScarcerAuction (without_found a place) a
    at None e = record { goods = refl; wanted = λ x y h. omega (arith, ints); less = λ i h. omega (arith, ints); higher = λ i h. omega (arith, ints) }
    at (Some k) e = dropped_at a sound k (found_below name a.bidders k e) convex
