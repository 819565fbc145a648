-- Where prices and values are multiplied together the best choices stay, so a step of a set's prices changes the indirect utility as it does at the scale 1.
use Rattle.std.proofs.Common.{◌≡◌, ℕ, suc, ◌*◌, ◌≤◌, cond, List, [], ◌∷◌, ℤ, pos, ◌+ℤ◌, ◌-ℤ◌, ◌*ℤ◌, refl, arith, ap, ap₂, ◌∙◌, map}
use Rattle.std.proofs.lemmas.Int.{ints}
use mathlib.Core.Path.{fun_ext}
use Rattle.mix_num.specs.Vectors.{Vector, Choices, plus, minus}
use Rattle.mix_num.proofs.Products.{*ℤ-difference, multiple_same}
use Rattle.mix_bids.specs.Offers.{Offers, best, gain, meets, offer, within}
use Rattle.mix_bids.specs.Bids.{weight_meeting, weight_within}
use Rattle.mix_bids.specs.Convexity.{bid_at, offers_at, utility_at}
use Rattle.mix_bids.specs.declared.bid.Bid.{Bid}
use Rattle.mix_bids.proofs.BestChoices.{leaves-true, leaves_offer}
use Rattle.mix_bids.proofs.Cases.{same_bool}
use Rattle.mix_bids.proofs.Lengths.{AreOver}
use Rattle.mix_bids.proofs.Multiples.{gain-times, offered_at, offered_once, offers_once, over_at, times, utility_once}
use Rattle.mix_bids.proofs.Weights.{utility_falls, utility_rises}

pub gain-multiple : (d : ℕ) (vs : Offers) (x : Vector) → gain (offers_at d vs) (times d x) ≡ pos d *ℤ gain vs x
gain-multiple d vs x =
    let one : d ≡ d * 1 = omega arith in
    ap (λ (e : ℕ). gain (offers_at e vs) (times d x)) one ∙ gain-times d 1 vs x ∙ ap (λ (us : Offers). pos d *ℤ gain us x) (offers_once vs)

-- the best choices at multiplied prices and values are those at the prices themselves
pub best-multiple : (d : ℕ) (vs : Offers) (x : Vector) (k : ℕ) → 1 ≤ d → best (offers_at d vs) (times d x) k ≡ best vs x k
best-multiple d vs x k some =
    let g = gain-multiple d vs x in
    same_bool (best (offers_at d vs) (times d x) k) (best vs x k)
    (λ h.
    let b = leaves-true (offer (offers_at d vs) k) (times d x k) (gain (offers_at d vs) (times d x)) h in
    let v = offered_once d vs k b.value b.offered in
    let m = b.leaves in
    let i = v.is in
    let e = *ℤ-difference (pos d) v.value (x k) in
    leaves_offer (offer vs k) (x k) (gain vs x) v.value v.offered (multiple_same d (v.value -ℤ x k) (gain vs x) some (omega (arith, ints))))
    (λ h.
    let b = leaves-true (offer vs k) (x k) (gain vs x) h in
    let m = ap (λ z. pos d *ℤ z) b.leaves in
    let e = *ℤ-difference (pos d) b.value (x k) in
    leaves_offer (offer (offers_at d vs) k) (times d x k) (gain (offers_at d vs) (times d x)) (pos d *ℤ b.value) (offered_at d vs k b.value b.offered) (omega (arith, ints)))

within-multiple : (n d : ℕ) (s : Choices) (bs : List Bid) (x : Vector) → 1 ≤ d → weight_within n s (map (bid_at d) bs) (times d x) ≡ weight_within n s bs x
within-multiple n d s [] x some = refl
within-multiple n d s (b ∷ bs) x some =
    let e : best (offers_at d b.values.items) (times d x) ≡ best b.values.items x = fun_ext (λ k. best-multiple d b.values.items x k some) in
    ap₂ (λ (c : Choices) (a : ℤ). cond (within (suc n) c s) b.weight (pos 0) +ℤ a) e (within-multiple n d s bs x some)

meeting-multiple : (n d : ℕ) (s : Choices) (bs : List Bid) (x : Vector) → 1 ≤ d → weight_meeting n s (map (bid_at d) bs) (times d x) ≡ weight_meeting n s bs x
meeting-multiple n d s [] x some = refl
meeting-multiple n d s (b ∷ bs) x some =
    let e : best (offers_at d b.values.items) (times d x) ≡ best b.values.items x = fun_ext (λ k. best-multiple d b.values.items x k some) in
    ap₂ (λ (c : Choices) (a : ℤ). cond (meets (suc n) c s) b.weight (pos 0) +ℤ a) e (meeting-multiple n d s bs x some)

-- so where a set's prices rise by one, or fall by one
pub falls-multiple : (n d : ℕ) (bs : List Bid) (x : Vector) (s : Choices) → AreOver n bs → 1 ≤ d
    → utility_at bs d (times d x) -ℤ utility_at bs d (plus (times d x) s) ≡ utility_at bs 1 x -ℤ utility_at bs 1 (plus x s)
falls-multiple n d bs x s o some =
    let a = utility_falls n (map (bid_at d) bs) (times d x) s (over_at n d bs o) in
    let b = utility_falls n bs x s o in
    let e = within-multiple n d s bs x some in
    let p = utility_once bs x in
    let q = utility_once bs (plus x s) in
    omega (arith, ints)

pub rises-multiple : (n d : ℕ) (bs : List Bid) (x : Vector) (s : Choices) → AreOver n bs → 1 ≤ d
    → utility_at bs d (minus (times d x) s) -ℤ utility_at bs d (times d x) ≡ utility_at bs 1 (minus x s) -ℤ utility_at bs 1 x
rises-multiple n d bs x s o some =
    let a = utility_rises n (map (bid_at d) bs) (times d x) s (over_at n d bs o) in
    let b = utility_rises n bs x s o in
    let e = meeting-multiple n d s bs x some in
    let p = utility_once bs x in
    let q = utility_once bs (minus x s) in
    omega (arith, ints)
