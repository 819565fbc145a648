use Rattle.std.proofs.Common.{◌≡◌, ◌++◌, drop, map}
use Rattle.mix_trial.specs.Printing.{value_text}
use Rattle.mix_trial.proofs.rows.add_values.Given as goal

-- the fields so far, and the values from here on, are the fields at first and all values
abbrev pub invariant-loop-value : goal.invariant-loop-value
invariant-loop-value l = record {
  ended : l.page.ended ≡ l.fn.page.ended;
  so_far : l.page.fields ++ map value_text (drop l.value-index l.values) ≡ l.fn.page.fields ++ map value_text l.values;
}
