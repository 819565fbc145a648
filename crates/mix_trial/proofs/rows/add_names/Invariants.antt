use Rattle.std.proofs.Common.{◌≡◌, ◌++◌, drop}
use Rattle.mix_trial.proofs.rows.add_names.Given as goal

-- the fields so far, and the names from here on, are the fields at first and all names
abbrev pub invariant-loop-k : goal.invariant-loop-k
invariant-loop-k l = record {
  ended : l.page.ended ≡ l.fn.page.ended;
  so_far : l.page.fields ++ drop l.k l.names ≡ l.fn.page.fields ++ l.names;
}
