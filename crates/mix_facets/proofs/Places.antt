-- The places of the bids that pass a test lead to these bids.
use Rattle.std.proofs.Common.{◌≡◌, ℕ, zero, suc, ◌+◌, ◌≤◌, ◌<◌, Bool, true, false, cond, List, [], ◌∷◌, refl, arith, ap, length, get_or, filter}
use Rattle.mix_bids.specs.declared.bid.Bid.{Bid}
use Rattle.mix_facets.specs.Levels.{places}

pub length-places : (p : Bid → Bool) (k : ℕ) (bs : List Bid) → length (places p k bs) ≡ length (filter p bs)
length-places p k [] = refl
length-places p k (b ∷ bs) = at (p b) (length-places p (suc k) bs)
  where
    at : (t : Bool) → length (places p (suc k) bs) ≡ length (filter p bs) → length (cond t (k ∷ places p (suc k) bs) (places p (suc k) bs)) ≡ length (cond t (b ∷ filter p bs) (filter p bs))
    at true h = ap suc h
    at false h = h

-- a place and the bid there, over lists as the two sides of a test leave them
pub record IsPlaced (found : List ℕ) (off : ℕ) (bs kept : List Bid) (q : ℕ) : Type 0 where
  pub place : ℕ
  pub is : get_or found q 0 ≡ off + place
  pub below : place < length bs
  pub bid : (d : Bid) → get_or bs place d ≡ get_or kept q d

pub placed : (p : Bid → Bool) (off : ℕ) (bs : List Bid) (q : ℕ) → q < length (places p off bs) → IsPlaced (places p off bs) off bs (filter p bs) q
placed p off [] q h = absurd (omega arith)
placed p off (b ∷ bs) q h = at (p b) q h (λ r l. placed p (suc off) bs r l)
  where
    at : (t : Bool) (q : ℕ) → q < length (cond t (off ∷ places p (suc off) bs) (places p (suc off) bs)) → ((r : ℕ) → r < length (places p (suc off) bs) → IsPlaced (places p (suc off) bs) (suc off) bs (filter p bs) r) → IsPlaced (cond t (off ∷ places p (suc off) bs) (places p (suc off) bs)) off (b ∷ bs) (cond t (b ∷ filter p bs) (filter p bs)) q
    at true zero l f = record { place = 0; is = omega arith; below = omega arith; bid = λ d. refl }
    at true (suc q) l f =
        let r = f q (omega arith) in
        record { place = suc r.place; is = let e = r.is in omega arith; below = let m = r.below in omega arith; bid = r.bid }
    at false q l f =
        let r = f q l in
        record { place = suc r.place; is = let e = r.is in omega arith; below = let m = r.below in omega arith; bid = r.bid }

-- a test passes no more bids than there are
pub length-kept : (p : Bid → Bool) (bs : List Bid) → length (filter p bs) ≤ length bs
length-kept p [] = omega arith
length-kept p (b ∷ bs) = at (p b) (length-kept p bs)
  where
    at : (t : Bool) → length (filter p bs) ≤ length bs → length (cond t (b ∷ filter p bs) (filter p bs)) ≤ suc (length bs)
    at true h = omega arith
    at false h = omega arith
