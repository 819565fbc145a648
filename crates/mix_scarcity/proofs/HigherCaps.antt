-- A higher cap: no less is wanted.
use Rattle.std.proofs.Common.{◌≡◌, ◌≢◌, ℕ, zero, suc, ◌≤◌, ◌<◌, ◌⊎◌, inl, inr, ℤ, pos, negsuc, ◌-ℤ◌, ◌≤ℤ◌, List, [], ◌∷◌, length, refl, sym, ap, subst, ◌∙◌, arith, Option, Some, None}
use Rattle.std.specs.Int.{int_min}
use Rattle.std.specs.Int.RustNames.{unsigned_abs}
use Rattle.std.proofs.lemmas.Int.{ints, clamps}
use Rattle.std.proofs.lemmas.List.{get_or-set_other, get_or-set_same}
use Rattle.mix_num.specs.Vectors.{Vector}
use Rattle.mix_bids.specs.Caps.{capped_utility, placed, placed_times, sum_of_first, units, utility_under}
use Rattle.mix_bids.specs.Offers.{gain}
use Rattle.mix_bids.specs.declared.bid.Bid.{Bid}
use Rattle.mix_bids.proofs.Lengths.{AreOver, first_over, over_of, rest_over}
use Rattle.mix_market.specs.Lyapunov.{IsBelow, sum_of}
use Rattle.mix_text.specs.Auctions.{AuctionText, IsAuction}
use Rattle.mix_text.specs.Bidders.{list_at}
use Rattle.mix_text.specs.Caps.{cap_at, with_cap}
use Rattle.mix_answer.specs.Utilities.{entrant_at, entrant_utility, utilities_of}
use Rattle.mix_answer.proofs.Entrants.{length-utilities, utility-there}
use Rattle.mix_answer.proofs.TrueRefusals.{list_at_ok}
use Rattle.mix_law.specs.Clearings.{bidder_utility}
use Rattle.mix_clearing.specs.Scarcity.{WantsNoLess}
use Rattle.mix_scarcity.specs.Changes.{IsScarcerAuction}
use Rattle.mix_scarcity.proofs.AddedBids.{gain-falls, same_entrant, same_wants}
use Rattle.mix_scarcity.proofs.EachWants.{all_want}

-- lists of which one is nowhere above the other
abbrev Under : List ℤ → List ℤ → Type 0
Under [] [] = Unit {0}
Under [] (u ∷ us) = ⊥
Under (v ∷ vs) [] = ⊥
Under (v ∷ vs) (u ∷ us) = (v ≤ℤ u) × Under vs us

placed-under : (v u : ℤ) (vs us : List ℤ) → v ≤ℤ u → Under vs us → Under (placed v vs) (placed u us)
placed-under v u [] [] h e = (h, tt)
placed-under v u [] (w ∷ us) h e = absurd e
placed-under v u (w ∷ vs) [] h e = absurd e
placed-under v u (w ∷ vs) (z ∷ us) h e = let p = e.0 in (omega (arith, ints, clamps), placed-under (int_min v w) (int_min u z) vs us (omega (arith, ints, clamps)) e.1)

times-under : (m : ℕ) (v u : ℤ) (vs us : List ℤ) → v ≤ℤ u → Under vs us → Under (placed_times m v vs) (placed_times m u us)
times-under zero v u vs us h e = e
times-under (suc m) v u vs us h e = placed-under v u (placed_times m v vs) (placed_times m u us) h (times-under m v u vs us h e)

units-under : (n : ℕ) (bs : List Bid) (x y : Vector) → AreOver n bs → IsBelow n x y → Under (units (λ b. gain b.values.items y) bs) (units (λ b. gain b.values.items x) bs)
units-under n [] x y over h = tt
units-under n (b ∷ bs) x y over h =
    let long = first_over n b bs over in
    times-under (unsigned_abs b.weight) (gain b.values.items y) (gain b.values.items x) (units (λ c. gain c.values.items y) bs) (units (λ c. gain c.values.items x) bs)
    (gain-falls n b.values.items x y (omega arith) h) (units-under n bs x y (rest_over n b bs over) h)

-- of a list that is nowhere above, the numbers from one count to a greater one add up to no more
first-under : (c d : ℕ) (vs us : List ℤ) → c ≤ d → Under vs us → (sum_of_first d vs -ℤ sum_of_first c vs) ≤ℤ (sum_of_first d us -ℤ sum_of_first c us)
first-under zero zero vs us h e = omega (arith, ints)
first-under zero (suc d) [] [] h e = omega (arith, ints)
first-under zero (suc d) [] (u ∷ us) h e = absurd e
first-under zero (suc d) (v ∷ vs) [] h e = absurd e
first-under zero (suc d) (v ∷ vs) (u ∷ us) h e = let p = e.0 in let r = first-under zero d vs us (omega arith) e.1 in omega (arith, ints)
first-under (suc c) zero vs us h e = absurd (omega arith)
first-under (suc c) (suc d) [] [] h e = omega (arith, ints)
first-under (suc c) (suc d) [] (u ∷ us) h e = absurd e
first-under (suc c) (suc d) (v ∷ vs) [] h e = absurd e
first-under (suc c) (suc d) (v ∷ vs) (u ∷ us) h e = let r = first-under c d vs us (omega arith) e.1 in omega (arith, ints)

capped-wants : (n c d : ℕ) (bs : List Bid) → AreOver n bs → c ≤ d → WantsNoLess n (capped_utility c bs) (capped_utility d bs)
capped-wants n c d bs over h x y below =
    let e = first-under c d (units (λ b. gain b.values.items y) bs) (units (λ b. gain b.values.items x) bs) h (units-under n bs x y over below) in
    omega (arith, ints)

caps-grow : (old new : ℤ) → pos 0 ≤ℤ old → old ≤ℤ new → unsigned_abs old ≤ unsigned_abs new
caps-grow (pos o) (pos m) s h = omega (arith, ints)
caps-grow (pos o) (negsuc m) s h = absurd (omega (arith, ints))
caps-grow (negsuc o) m s h = absurd (omega (arith, ints))

module _ (a : AuctionText) (sound : IsAuction a) (k : ℕ) (below : k < length a.bidders) (old new : ℤ) (had : cap_at a.caps k ≡ Some old) (more : old ≤ℤ new) where
  abbrev n : ℕ
  n = length a.goods

  abbrev b : AuctionText
  b = record a { caps = with_cap a.caps k new }

  abbrev bids : List Bid
  bids = (list_at a.bidders k).bids

  own_cap : cap_at b.caps k ≡ Some new
  own_cap = get_or-set_same a.caps k (Some new) None (let m = sound.caps.size in omega (arith, m, below))

  own_wants : WantsNoLess n (entrant_utility (entrant_at a k)) (entrant_utility (entrant_at b k))
  own_wants x y h =
      let over = over_of n bids (list_at_ok a k sound below).bids in
      let e = capped-wants n (unsigned_abs old) (unsigned_abs new) bids over (caps-grow old new (sound.caps.range k old had).0 more) x y h in
      let px = ap (λ (c : Option ℤ). utility_under c bids x) had in
      let py = ap (λ (c : Option ℤ). utility_under c bids y) had in
      let qx = ap (λ (c : Option ℤ). utility_under c bids x) own_cap in
      let qy = ap (λ (c : Option ℤ). utility_under c bids y) own_cap in
      omega (arith, ints)

  wants : (j : ℕ) → j < length a.bidders → (j ≡ k) ⊎ (j ≢ k) → WantsNoLess n (bidder_utility (utilities_of a) j) (bidder_utility (utilities_of b) j)
  wants j l (inr other) x y h =
      let same = same_entrant a b j refl (get_or-set_other a.caps k j (Some new) None other) in
      same_wants n (bidder_utility (utilities_of a) j) (bidder_utility (utilities_of b) j) (utility-there a j l ∙ ap entrant_utility (sym same) ∙ sym (utility-there b j l)) x y h
  wants j l (inl e) x y h =
      let P : ℕ → Type 0 = λ i. WantsNoLess n (entrant_utility (entrant_at a i)) (entrant_utility (entrant_at b i)) in
      let r = subst P (sym e) own_wants x y h in
      let f = utility-there a j l in
      let g = utility-there b j l in
      let fx = ap (λ (u : Vector → ℤ). u x) f in
      let fy = ap (λ (u : Vector → ℤ). u y) f in
      let gx = ap (λ (u : Vector → ℤ). u x) g in
      let gy = ap (λ (u : Vector → ℤ). u y) g in
      omega (arith, ints)

  same_or_other : (j : ℕ) → (j ≡ k) ⊎ (j ≢ k)
  same_or_other j = grind arith

  pub raised_scarcer : IsScarcerAuction a b
  raised_scarcer =
      let m = length-utilities a in
      let l = length-utilities b in
      record {
        goods = refl;
        wanted = subst (λ (i : ℕ). WantsNoLess i (sum_of (utilities_of a)) (sum_of (utilities_of b))) (sym sound.supply.0)
            (all_want n (utilities_of a) (utilities_of b) (omega (arith, m, l)) (λ j h. wants j (omega (arith, h, m)) (same_or_other j)) (λ j h i. absurd (omega (arith, h, i, m, l))));
        less = λ i h. omega (arith, ints);
        higher = λ i h. omega (arith, ints);
      }
