-- How the number of cells is counted bid by bid, from what each bid of negative weight keeps. For proofs; no public clause rests on it.
use Rattle.std.specs.Prelude.{◌≡◌, ℕ, zero, suc, ◌+◌, ◌-◌, ◌<◌, ◌≤◌, Bool, true, cond, eqb, List, [], ◌∷◌, ◌++◌, ℤ, pos, Option, Some, None, get_or, int_lt, length, take}
use Rattle.std.specs.Option.{is_some}
use Rattle.std.specs.Ordering.{int_eq}
use Rattle.std.specs.Set.{distinct_count, is_member}
use Rattle.mix_num.specs.Vectors.{members}
use Rattle.mix_bids.specs.Offers.{offer}
use Rattle.mix_bids.specs.Bids.{AreBids, IsBid}
use Rattle.mix_bids.specs.Leads.{negative_lead}
use Rattle.mix_bids.specs.Levels.{has_lead, other}
use Rattle.mix_bids.specs.Shared.{bid_in, negatives, AreAgreements}
use Rattle.mix_bids.specs.Cells.{level_leads, pair_cells, product_below}
use Rattle.mix_bids.specs.declared.agreements.Agreement.{Agreement}
use Rattle.mix_bids.specs.declared.bid.Bid.{Bid}
use Rattle.mix_bids.specs.declared.counts.Counts.{Counts}

-- whether a number is in a list
abbrev pub is_among : List ℤ → ℤ → Bool
is_among us u = is_member int_eq us u

-- what a bid adds to a level's leads of c: its lead, if it is a bid of negative weight of the level that offers c
abbrev pub level_lead : ℕ → ℕ → ℤ → ℕ → Bid → Option ℤ
level_lead i j d c b = cond (has_lead i j d b) (negative_lead b c i) None

-- 1 where a number is there and isn't in the list
abbrev pub new_in : List ℤ → Option ℤ → ℕ
new_in us None = 0
new_in us (Some u) = cond (is_among us u) 0 1

-- by how much the cells of two choices grow with a bid
unfoldable pub growth : ℕ → List Bid → Bid → ℕ → ℕ → ℕ
growth n bs b i j = pair_cells n (bs ++ b ∷ []) i j - pair_cells n bs i j

-- ---- what a bid keeps

-- how many pairs of choices there are below m
abbrev pub triangle : ℕ → ℕ
triangle zero = 0
triangle (suc m) = triangle m + m

-- the cells of a level of i and j where the choice at place k among the others has the k-th number of leads
abbrev pub cells_of_leads : ℕ → ℕ → ℕ → List ℕ → ℕ
cells_of_leads n i j us = product_below (n - 1) (λ k. cond (eqb (other i j k) 0) 0 1 + get_or us k 0)

-- how many different leads each other choice has at the level of i and j of the bid b, if it has one, among the bids bs
pub record AreLeads (n : ℕ) (bs : List Bid) (b : Bid) (i j : ℕ) (us : List ℕ) : Type 0 where
  pub leads : (d : ℤ) → has_lead i j d b ≡ true → (k : ℕ) → k < n - 1 → get_or us k 0 ≡ distinct_count int_eq (level_leads i j d (other i j k) bs)

-- what a bid keeps of i and j
abbrev pub leads_at : Counts → ℕ → ℕ → List ℕ
leads_at counts i j = get_or counts.levels (triangle j + i) []

-- the numbers of leads at the levels of all pairs of choices
pub record IsCounted (n : ℕ) (bs : List Bid) (b : Bid) (counts : Counts) : Type 0 where
  pub at : (i j : ℕ) → i < j → j ≤ n → AreLeads n bs b i j (leads_at counts i j)

-- what the bid at a place keeps
abbrev pub counts_in : List Counts → ℕ → Counts
counts_in kept p = get_or kept p (record { levels = [] })

-- each bid of negative weight keeps how many there are among the bids up to it
pub record AreKept (n : ℕ) (bs : List Bid) (kept : List Counts) : Type 0 where
  pub size : length kept ≡ length (negatives bs)
  pub each : (p : ℕ) → p < length (negatives bs) → IsCounted n (take (suc p) (negatives bs)) (bid_in (negatives bs) p) (counts_in kept p)

-- what is known of a new bid b of negative weight, and of the bids bs before it: the set that b offers, what they keep, and their
-- agreements with b
pub record IsKnown (n : ℕ) (bs : List Bid) (b : Bid) (set : ℕ) (kept : List Counts) (rs : List Agreement) : Type 0 where
  pub least : 1 ≤ n
  pub most : n ≤ 8
  pub few : length bs < 400
  pub bids : AreBids n bs
  pub bid : IsBid n b
  pub negative : int_lt b.weight (pos 0) ≡ true
  pub offers : (c : ℕ) → c < 9 → members set c ≡ is_some (offer b.values.items c)
  pub counts : AreKept n bs kept
  pub agreements : AreAgreements (negatives bs) b rs
