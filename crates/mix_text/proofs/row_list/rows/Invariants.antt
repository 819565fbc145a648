use Rattle.std.proofs.Common.{◌≡◌, ◌<◌, ℕ, List, Some, true}
use Rattle.csv.specs.Reading.{Reached, Ready, default_config, source_of, is_flexible}
use Rattle.csv.specs.declared.parser.State.TheVariants as st
use Rattle.csv.specs.declared.reader.Trim.TheVariants as trim
use Rattle.mix_text.specs.Rows.{rows_left, unmarked}
use Rattle.mix_text.proofs.row_list.rows.Given as goal

-- the list has the rows of the records up to here, which end where `left` is left of the text
abbrev pub invariant-loop-record : goal.invariant-loop-record
invariant-loop-record l = record {
  flexible : is_flexible l.record-iterator.rdr ≡ true;
  untrimmed : l.record-iterator.rdr.trim ≡ trim.None;
  ready : Ready l.record-iterator.rdr;
  turns : 0 < l.record-iterator.left;
  config : l.record-iterator.rdr.config ≡ default_config;
  left : List ℕ;
  source : source_of (λ s. Some s.now) l.record-iterator.rdr ≡ Some left;
  lines : List (List (List ℕ));
  list : l.list ≡ rows_left lines;
  reached : Reached default_config st.StartRecord (unmarked l.fn.text) lines l.record-iterator.rdr.state left;
}
