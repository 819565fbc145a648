use Rattle.std.proofs.Common.{Bor, List, ℕ, ◌∙◌, sym, refl, inl, inr, Some, ◌∷◌, [], ◌++◌, ap}
use Rattle.csv.specs.Reading.{Reached, default_config, error_kind, strip_bom}
use Rattle.csv.specs.Records.{fields_of}
use Rattle.csv.specs.declared.parser.State.TheVariants as st
use Rattle.csv.proofs.ReadFacts.{rows-end, rows-more}
use Rattle.mix_text.specs.Rows.{rows_left, unmarked}
use Rattle.mix_text.proofs.Marks.{strip_bom-unmarked}
use Rattle.mix_text.proofs.Records.{all-records, explains-memory, rows_left-more}
use Rattle.mix_text.proofs.row_list.rows.Goals as goal

pub loop-record-init : goal.loop-record-init
unfolding Reached
loop-record-init c =
    let reader = c.from_reader-reader.ensures in
    let settings = rw c.has_headers.ensures at c.flexible.ensures in
    let start = c.into_iter-record-iterator.ensures.into_iter_gives ∙ refl in
    let same_reader = c.into_byte_records-record-items.ensures.rdr in
    let text = unmarked c.args.text.now in
    rw (start, same_reader, c.new-2.ensures.items) (record {
      flexible = rw settings at reader.flexible;
      untrimmed = rw settings at reader.trim ∙ c.new.ensures.trim;
      ready = inr (inr (rw settings at reader.has_headers, reader.headers));
      turns = c.into_byte_records-record-items.ensures.left;
      config = rw settings at reader.config ∙ c.new.ensures.config;
      left = text;
      source = reader.source ∙ ap (λ (t : List ℕ). Some (strip_bom t)) c.without_marks.ensures ∙ ap Some (strip_bom-unmarked c.args.text.now);
      lines = [];
      list = refl;
      reached = (sym reader.state, refl);
    })

pub want_of_memory-requires : goal.want_of_memory-requires
want_of_memory-requires c =
    let before = c.loop-record.invariant in
    let step = rw (c.in-Some.is, c.in-Err.is) at (c.next.ensures.steps before.turns before.untrimmed) in
    explains-memory (λ (s : Bor (List ℕ)). Some s.now) c.loop-record.record-iterator.rdr c.next.new.self.rdr (error_kind c.in-Err.error) before.flexible (step.0 before.ready)

pub loop-record-preserved : goal.loop-record-preserved
loop-record-preserved c =
    let before = c.loop-record.invariant in
    let step = rw (c.in-Some.is, c.in-Ok.is) at (c.next.ensures.steps before.turns before.untrimmed) in
    let read = step.0 before.ready in
    let fields = fields_of c.in-Ok.line in
    let more = rows-more (λ (s : Bor (List ℕ)). Some s.now) c.loop-record.record-iterator.rdr c.next.new.self.rdr fields default_config st.StartRecord (unmarked c.args.text.now) before.left before.lines before.config before.source before.reached read.0 in
    record {
      flexible = step.3 ∙ before.flexible;
      untrimmed = read.0.3 ∙ before.untrimmed;
      ready = inl read.1;
      turns = read.2;
      config = read.0.2 ∙ before.config;
      left = more.0;
      source = more.1;
      lines = before.lines ++ (fields ∷ []);
      list = rw before.list at c.in_ok-add.ensures ∙ sym (rows_left-more before.lines fields);
      reached = more.2;
    }

pub returns : goal.returns
returns c =
    let before = c.loop-record.invariant in
    let last = rw c.in-None.is at ((c.next.ensures.steps before.turns before.untrimmed).0 before.ready) in
    let end = rows-end (λ (s : Bor (List ℕ)). Some s.now) c.loop-record.record-iterator.rdr c.next.new.self.rdr [] default_config before.left before.config before.source last in
    before.list ∙ ap rows_left (sym (all-records (unmarked c.args.text.now) before.lines c.loop-record.record-iterator.rdr.state before.left before.reached end))
