-- The first bid of a list and its levels, and one turn of a loop over choices.
use Rattle.std.proofs.Common.{◌≡◌, ℕ, ◌+◌, ◌*◌, Bool, true, false, cond, min, ◌||◌, List, ◌∷◌, ℤ, Option, Some, None, refl, arith, sym, ap, ap₂, ◌∙◌, filter_map, add-one}
use Rattle.std.specs.List.{cons_option}
use Rattle.mix_bids.specs.Leads.{negative_lead}
use Rattle.mix_bids.specs.Levels.{differences, has_lead, is_lead, level_bids}
use Rattle.mix_bids.specs.Cells.{level_leads, product_below, sum_below}
use Rattle.mix_bids.specs.Counted.{growth, is_among, level_lead}
use Rattle.mix_bids.specs.declared.bid.Bid.{Bid}
use Rattle.mix_bids.proofs.Uniques.{int_eq_swap}
use Rattle.mix_bids.proofs.CellPushes.{pair_stays}

among_option : (o : Option ℤ) (us : List ℤ) (u : ℤ) → is_among (cons_option o us) u ≡ (is_lead o u || is_among us u)
among_option None us u = refl
among_option (Some v) us u = ap (λ z. z || is_among us u) (int_eq_swap u v)

pub difference_first : (i j : ℕ) (d : ℤ) (b : Bid) (bs : List Bid) → is_among (differences i j (b ∷ bs)) d ≡ (is_lead (negative_lead b i j) d || is_among (differences i j bs) d)
difference_first i j d b bs = among_option (negative_lead b i j) (differences i j bs) d

pub lead_first : (i j : ℕ) (d : ℤ) (c : ℕ) (u : ℤ) (b : Bid) (bs : List Bid) → is_among (level_leads i j d c (b ∷ bs)) u ≡ (is_lead (level_lead i j d c b) u || is_among (level_leads i j d c bs) u)
lead_first i j d c u b bs = at (has_lead i j d b)
  where
    at : (t : Bool) → is_among (filter_map (λ b. negative_lead b c i) (cond t (b ∷ level_bids i j d bs) (level_bids i j d bs))) u ≡ (is_lead (cond t (negative_lead b c i) None) u || is_among (level_leads i j d c bs) u)
    at true = among_option (negative_lead b c i) (level_leads i j d c bs) u
    at false = refl

-- ---- counting

pub leads_first : (i j : ℕ) (d : ℤ) (c : ℕ) (b : Bid) (bs : List Bid) → level_leads i j d c (b ∷ bs) ≡ cons_option (level_lead i j d c b) (level_leads i j d c bs)
leads_first i j d c b bs = at (has_lead i j d b)
  where
    at : (t : Bool) → filter_map (λ b. negative_lead b c i) (cond t (b ∷ level_bids i j d bs) (level_bids i j d bs)) ≡ cons_option (cond t (negative_lead b c i) None) (level_leads i j d c bs)
    at true = refl
    at false = refl

-- ---- products

pub product_step : (m : ℕ) (f : ℕ → ℕ) (s t : ℕ) → s ≡ product_below m f → t ≡ f m → s * t ≡ product_below (m + 1) f
unfolding product_below
product_step m f s t e h = ap₂ (λ x y. x * y) e h ∙ ap (λ z. product_below z f) (sym (add-one m))

pub sum_turn : (m : ℕ) (f : ℕ → ℕ) → sum_below (m + 1) f ≡ sum_below m f + f m
unfolding sum_below
sum_turn m f = ap (λ z. sum_below z f) (add-one m)

pub product_none : (f : ℕ → ℕ) → 1 ≡ product_below 0 f
unfolding product_below
product_none f = refl

pub sum_none : (f : ℕ → ℕ) → sum_below 0 f ≡ 0
unfolding sum_below
sum_none f = refl

-- ---- growths

pub growth_none : (n : ℕ) (bs : List Bid) (b : Bid) (i j : ℕ) → negative_lead b i j ≡ None → 0 ≡ growth n bs b i j
unfolding growth
growth_none n bs b i j e = let s = pair_stays n i j bs b e in omega (arith, s)

-- a count that stops at a limit
pub capped_sum : (a g : ℕ) → min (min a 4194305 + g) 4194305 ≡ min (a + g) 4194305
capped_sum a g = omega arith
