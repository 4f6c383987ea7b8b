-- The part of its script's output that a run writes.
use Rattle.std.proofs.Common.{◌≡◌, ℕ, ◌<◌, List, [], ◌∷◌, ◌++◌, Option, Some, None, Result, length, take, drop, refl, sym, ap, ◌∙◌, subst, inl, inr, append_assoc, arith}
use Rattle.std.specs.Prelude.{IfErr, IfOk}
use Rattle.std.specs.Io.KnownBytes.{Appends, Consumes, Keeps}
use Rattle.std.proofs.KnownBytes.{Appends-kept, Appends-nil, Consumes-whole}
use Rattle.std.proofs.Math.Seq.{take-append_seam}
use Rattle.std.proofs.lemmas.Result.{IfErr-weaker, IfOk-weaker}
use Rattle.std.proofs.lemmas.List.{take-append-drop}
use Rattle.std.proofs.lemmas.List.Concat.{flat_map-append}
use Rattle.book_core.specs.History.{History}
use Rattle.command_core.specs.Records.{AreScriptRecords, Record}
use Rattle.answer_core.specs.RecordBytes.{bytes_of}
use Rattle.stream_core.specs.Counted.{Sink, Source}
use Rattle.stream_core.specs.FailureCount.{greatest_count}
use Rattle.stream_core.specs.declared.fault.RunFault.{RunFault}
use Rattle.stream_core.specs.declared.fault.RunFault.TheVariants.{ReadFault, TooLong, NoMemory, WriteFault}
use Rattle.script_core.specs.Script.{AppendsFront, AreStatementsOf, Done, ExplainsRun, IsOutput, ReadsAnd, ReadsStatements, ReadsScript, RunsAll, Streams, Tells, WritesAll, WritesBefore, WritesWithin, output_of, start_of}
use Rattle.script_core.specs.Writing.{Answering, AnswersAll, ExplainsAnswering, behind}
use Rattle.script_core.specs.declared.outcome.Outcome.{Outcome}
use Rattle.script_core.proofs.OutputUniqueness.{one_list_of_dones, one_outcome}

-- ---- the answers to the records that were read

-- The statements of the records are the script's.
reads_and : (Writes : List Done → Sink → Sink → Type 0) (before after : Streams) (script : List ℕ)
    (records : List Record) → ReadsScript before.reader after.reader script → AreScriptRecords script records
    → Answering Writes (start_of records) before.writer after.writer → ReadsAnd Writes before after
reads_and Writes before after script records reads parsed (dones, (last, steps, over), writes) =
    let statements : AreStatementsOf script dones = record {
      records = records;
      parsed = parsed;
      finished = record { place = last; steps = steps; over = over };
    } in
    (dones, record { script = script; reads = reads; statements = statements }, writes)

explains_run : (before after : Streams) (script : List ℕ) (records : List Record) (fault : RunFault)
    → ReadsScript before.reader after.reader script → AreScriptRecords script records
    → before.writer.failures < greatest_count
    → ExplainsAnswering (start_of records) before.writer after.writer fault → ExplainsRun before after fault
explains_run before after script records ReadFault reads parsed room why = absurd why
explains_run before after script records TooLong reads parsed room why = absurd why
explains_run before after script records NoMemory reads parsed room why =
    inr (reads_and WritesBefore before after script records reads parsed why)
explains_run before after script records WriteFault reads parsed room why = (
  omega (arith, room, why.0),
  reads_and WritesWithin before after script records reads parsed why.1,
)

pub ok-run : (before after : Streams) (script : List ℕ) (records : List Record) (history : History)
    (result : Result Outcome RunFault)
    → ReadsScript before.reader after.reader script → AreScriptRecords script records
    → IfOk result (AnswersAll (start_of records) history before.writer after.writer)
    → IfOk result (RunsAll before after)
ok-run before after script records history result reads parsed =
    IfOk-weaker result (AnswersAll (start_of records) history before.writer after.writer) (RunsAll before after)
    (λ outcome all. reads_and (WritesAll outcome) before after script records reads parsed
    (all.0, (behind (start_of records) history, all.1, refl), all.2))

pub fault-run : (before after : Streams) (script : List ℕ) (records : List Record) (result : Result Outcome RunFault)
    → ReadsScript before.reader after.reader script → AreScriptRecords script records
    → before.writer.failures < greatest_count
    → IfErr result (ExplainsAnswering (start_of records) before.writer after.writer)
    → IfErr result (ExplainsRun before after)
fault-run before after script records result reads parsed room =
    IfErr-weaker result (ExplainsAnswering (start_of records) before.writer after.writer) (ExplainsRun before after)
    (λ fault. explains_run before after script records fault reads parsed room)

-- ---- a script that the reader has

-- The script that was read is the one that the reader had.
whole_script : (script : List ℕ) (before after : Source) (read : List ℕ) → before.unread ≡ Some script
    → ReadsScript before after read → read ≡ script
whole_script script before after read known reads =
    let consumed : Consumes (Some script) after.unread read =
    subst (λ bytes. Consumes bytes after.unread read) known reads.read in
    sym (Consumes-whole (Some script) after.unread read (λ bytes. bytes ≡ read) consumed reads.end refl)

-- The script's output is the answers to the statements that were read.
output_is : (script output : List ℕ) (before after : Source) (dones : List Done) → before.unread ≡ Some script
    → IsOutput script output → ReadsStatements before after dones → output ≡ output_of dones
output_is script output before after dones known o r =
    let same : r.script ≡ script = whole_script script before after r.script known r.reads in
    o.is ∙ ap output_of (one_list_of_dones script r.script o.dones dones (sym same) o.statements r.statements)

all-written : (before after : Streams) (outcome : Outcome) (script output : List ℕ) → RunsAll before after outcome
    → before.reader.unread ≡ Some script → IsOutput script output
    → Appends before.writer.written after.writer.written output
all-written before after outcome script output (dones, r, w) known o =
    subst (Appends before.writer.written after.writer.written)
    (sym (output_is script output before.reader after.reader dones known o r)) w.written

pub ok-written : (before after : Streams) (result : Result Outcome RunFault) → IfOk result (RunsAll before after)
    → (script output : List ℕ) → before.reader.unread ≡ Some script → IsOutput script output
    → IfOk result (λ _. Appends before.writer.written after.writer.written output)
ok-written before after result runs script output known o =
    IfOk-weaker result (RunsAll before after) (λ _. Appends before.writer.written after.writer.written output)
    (λ outcome all. all-written before after outcome script output all known o) runs

-- ---- prefixes of the output

front_at : (old new : Option (List ℕ)) (front rest bytes : List ℕ) → bytes ≡ front ++ rest → Appends old new front
    → AppendsFront old new bytes
front_at old new front rest bytes is written =
    (length front, subst (Appends old new) (sym (ap (take (length front)) is ∙ take-append_seam front rest)) written)

kept-front : (old new : Option (List ℕ)) (bytes : List ℕ) → Keeps old new → AppendsFront old new bytes
kept-front old new bytes kept = (0, Appends-kept old old new [] (Appends-nil old) kept)

-- The output, split at one answer.
output_about : (dones first later : List Done) (next : Done) → dones ≡ first ++ next ∷ later
    → output_of dones ≡ output_of first ++ (bytes_of next.answer ++ output_of later)
output_about dones first later next statements =
    ap output_of statements ∙ flat_map-append (λ (done : Done). bytes_of done.answer) first (next ∷ later)

split_at : (front bytes rest : List ℕ) (size : ℕ)
    → front ++ (bytes ++ rest) ≡ (front ++ take size bytes) ++ (drop size bytes ++ rest)
split_at front bytes rest size =
    ap (λ l. front ++ (l ++ rest)) (sym (take-append-drop size bytes))
    ∙ (ap (λ l. front ++ l) (append_assoc (take size bytes) (drop size bytes) rest)
    ∙ sym (append_assoc front (take size bytes) (drop size bytes ++ rest)))

before-front : (before after : Streams) (script output : List ℕ) → ReadsAnd WritesBefore before after
    → before.reader.unread ≡ Some script → IsOutput script output
    → AppendsFront before.writer.written after.writer.written output
before-front before after script output (dones, r, w) known o =
    front_at before.writer.written after.writer.written (output_of w.first)
    (bytes_of w.next.answer ++ output_of w.later) output
    (output_is script output before.reader after.reader dones known o r
    ∙ output_about dones w.first w.later w.next w.statements)
    w.written

within-front : (before after : Streams) (script output : List ℕ) → ReadsAnd WritesWithin before after
    → before.reader.unread ≡ Some script → IsOutput script output
    → AppendsFront before.writer.written after.writer.written output
within-front before after script output (dones, r, w) known o =
    front_at before.writer.written after.writer.written (output_of w.first ++ take w.size (bytes_of w.next.answer))
    (drop w.size (bytes_of w.next.answer) ++ output_of w.later) output
    (output_is script output before.reader after.reader dones known o r
    ∙ (output_about dones w.first w.later w.next w.statements
    ∙ split_at (output_of w.first) (bytes_of w.next.answer) (output_of w.later) w.size))
    w.written

stopped-front : (before after : Streams) (fault : RunFault) (script output : List ℕ) → ExplainsRun before after fault
    → before.reader.unread ≡ Some script → IsOutput script output
    → AppendsFront before.writer.written after.writer.written output
stopped-front before after ReadFault script output why known o =
    kept-front before.writer.written after.writer.written output why.1.1
stopped-front before after TooLong script output why known o =
    kept-front before.writer.written after.writer.written output why.1.1
stopped-front before after NoMemory script output (inl kept) known o =
    kept-front before.writer.written after.writer.written output kept
stopped-front before after NoMemory script output (inr stops) known o =
    before-front before after script output stops known o
stopped-front before after WriteFault script output why known o =
    within-front before after script output why.1 known o

pub fault-front : (before after : Streams) (result : Result Outcome RunFault) → IfErr result (ExplainsRun before after)
    → (script output : List ℕ) → before.reader.unread ≡ Some script → IsOutput script output
    → IfErr result (λ _. AppendsFront before.writer.written after.writer.written output)
fault-front before after result why script output known o =
    IfErr-weaker result (ExplainsRun before after) (λ _. AppendsFront before.writer.written after.writer.written output)
    (λ fault explained. stopped-front before after fault script output explained known o) why

-- ---- two runs

one_written : (text bytes : List ℕ) (one other : Option (List ℕ)) → Appends (Some text) one bytes
    → Appends (Some text) other bytes → one ≡ other
one_written text bytes None other p q = absurd p
one_written text bytes (Some x) None p q = absurd q
one_written text bytes (Some x) (Some y) p q = ap Some (p ∙ sym q)

pub one_run_of : (script text : List ℕ) (one one_after other other_after : Streams) (outcome reported : Outcome)
    → one.reader.unread ≡ Some script → one.writer.written ≡ Some text
    → other.reader.unread ≡ Some script → other.writer.written ≡ Some text
    → RunsAll one one_after outcome → RunsAll other other_after reported
    → (one_after.writer.written ≡ other_after.writer.written) × (outcome ≡ reported)
one_run_of script text one one_after other other_after outcome reported had given had' given' (ds, r, w) (es, s, v) =
    let same : r.script ≡ s.script =
    whole_script script one.reader one_after.reader r.script had r.reads
    ∙ sym (whole_script script other.reader other_after.reader s.script had' s.reads) in
    let dones : ds ≡ es = one_list_of_dones r.script s.script ds es same r.statements s.statements in
    let first : Appends (Some text) one_after.writer.written (output_of es) =
    subst (λ old. Appends old one_after.writer.written (output_of es)) given
    (subst (λ cs. Appends one.writer.written one_after.writer.written (output_of cs)) dones w.written) in
    let second : Appends (Some text) other_after.writer.written (output_of es) =
    subst (λ old. Appends old other_after.writer.written (output_of es)) given' v.written in (
      one_written text (output_of es) one_after.writer.written other_after.writer.written first second,
      one_outcome es outcome reported (subst (Tells outcome) dones w.tells) v.tells,
    )
