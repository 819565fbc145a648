-- Counts of faults and of calls: when one has risen, and what a call owes it.
use Rattle.std.specs.Prelude.{◌≡◌, ◌≤◌, ◌+◌, ◌-◌, ◌^◌, ℕ, min, Result, OnOk, OnErr}

-- a count one higher, which stands still at the last value of 64 bits
abbrev pub next : ℕ → ℕ
next count = min (count + 1) (2 ^ 64 - 1)

-- the count rose: it is greater, or it stands at its last value
abbrev pub Rose : ℕ → ℕ → Type 0
Rose before now = next before ≤ now

-- the count never falls, a call that fails makes it rise, and one that doesn't leaves it as it was
pub record HasCause {T E : Type 0} (before now : ℕ) (result : Result T E) : Type 0 where
  pub later : before ≤ now
  pub failed : OnErr result (Rose before now)
  pub kept : OnOk result (now ≡ before)
