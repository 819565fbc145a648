use Rattle.std.proofs.Common.{◌≡◌, ◌++◌, [], drop, map}
use Rattle.mix_text.specs.Pages.{printed}
use Rattle.mix_run.specs.command.Trail.{step_row}
use Rattle.mix_run.proofs.command.trail.add_steps.Given as goal

-- the rows so far, and those of the long steps from here on, are the rows of all
abbrev pub invariant-loop-k : goal.invariant-loop-k
invariant-loop-k l = record {
  closed : l.page.fields ≡ [];
  so_far : l.page.ended ++ printed (map step_row (drop l.k l.steps)) ≡ l.fn.page.ended ++ printed (map step_row l.steps);
}
