use Rattle.std.proofs.Common.{Bor, List, ℕ, ◌∙◌, sym, refl, inl, inr, Some, []}
use Rattle.csv.specs.Reading.{Reached, default_config, reader_state, strip_bom}
use Rattle.csv.specs.Records.{fields_of}
use Rattle.csv.specs.declared.parser.State.TheVariants as st
use Rattle.csv.proofs.ReadFacts.{rows-more}
use Rattle.command_core.proofs.Faults.{flexible-stops}
use Rattle.command_core.proofs.ScriptSizes.{next-few}
use Rattle.command_core.proofs.Shrinking.{Reached-shrinks}
use Rattle.command_core.proofs.piece.read_piece.Goals as goal

pub loop-records-init : goal.loop-records-init
unfolding Reached
loop-records-init c =
    let fr = c.from_reader-reader.ensures in
    let named = c.has_headers.ensures in
    let flex = c.flexible.ensures in
    record {
      plain = rw (flex, named) at fr.trim ∙ c.new.ensures.trim;
      ready = inr (inr (rw (flex, named) at fr.has_headers, fr.headers));
      flexible = rw flex at fr.flexible;
      config = rw (flex, named) at fr.config ∙ c.new.ensures.config;
      left = strip_bom c.args.piece.now;
      source = fr.source;
      reached = rw c.in_ok-records.ensures (sym fr.state, refl);
    }

pub loop-records-smaller : goal.loop-records-smaller
unfolding Reached
loop-records-smaller c =
    let inv = c.loop-records.invariant in
    let read = rw c.in-Ok-true.field-0-test at (c.in-Ok-true.ensures.reads inv.plain inv.ready) in
    let one = rows-more (λ (s : Bor (List ℕ)). Some s.now) c.loop-records.reader c.read_byte_record.new.self
    (fields_of c.read_byte_record.new.row) default_config
    (reader_state c.loop-records.reader) inv.left inv.left [] inv.config inv.source (refl, refl) read in
    rw (inv.source, one.1)
    (Reached-shrinks default_config (reader_state c.loop-records.reader) (reader_state c.read_byte_record.new.self)
    (fields_of c.read_byte_record.new.row) inv.left one.0 one.2)

pub loop-records-preserved : goal.loop-records-preserved
loop-records-preserved c =
    let inv = c.loop-records.invariant in
    let row = fields_of c.read_byte_record.new.row in
    let read = rw c.in-Ok-true.field-0-test at (c.in-Ok-true.ensures.reads inv.plain inv.ready) in
    let more = rows-more
    (λ (s : Bor (List ℕ)). Some s.now) c.loop-records.reader c.read_byte_record.new.self row default_config
    st.StartRecord
    (strip_bom c.args.piece.now) inv.left c.loop-records.records inv.config inv.source inv.reached read in
    record {
      plain = read.3 ∙ inv.plain;
      ready = inl (c.in-Ok-true.ensures.ready inv.plain);
      flexible = c.in-Ok-true.ensures.flexible ∙ inv.flexible;
      config = read.2 ∙ inv.config;
      left = more.0;
      source = more.1;
      reached = rw c.in_ok-push-in-Ok-true.ensures more.2;
    }

pub push-requires-clause-bytes : goal.push-requires-clause-bytes
push-requires-clause-bytes c =
    let inv = c.loop-records.invariant in
    (next-few (λ (s : Bor (List ℕ)). Some s.now) c.loop-records.reader c.read_byte_record.new.self c.args.piece.now
    inv.left c.loop-records.records (fields_of c.read_byte_record.new.row) c.requires inv.config inv.source
    inv.reached (rw c.in-Ok-true.field-0-test at (c.in-Ok-true.ensures.reads inv.plain inv.ready))).0

pub push-requires-clause-fields : goal.push-requires-clause-fields
push-requires-clause-fields c =
    let inv = c.loop-records.invariant in
    (next-few (λ (s : Bor (List ℕ)). Some s.now) c.loop-records.reader c.read_byte_record.new.self c.args.piece.now
    inv.left c.loop-records.records (fields_of c.read_byte_record.new.row) c.requires inv.config inv.source
    inv.reached (rw c.in-Ok-true.field-0-test at (c.in-Ok-true.ensures.reads inv.plain inv.ready))).1

pub not_read-requires : goal.not_read-requires
not_read-requires c =
    let inv = c.loop-records.invariant in
    flexible-stops
    (λ (s : Bor (List ℕ)). Some s.now) c.loop-records.reader c.read_byte_record.new.self c.in-Err.fault.kind
    inv.flexible
    (c.in-Err.ensures.why inv.ready)
