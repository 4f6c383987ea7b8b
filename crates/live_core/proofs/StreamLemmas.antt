-- The answers that are written while a script is read.
use Rattle.std.proofs.Common.{◌≡◌, ℕ, ◌+◌, ◌≤◌, ◌<◌, suc, List, [], ◌∷◌, ◌++◌, Option, None, Some, Result, drop, length, take, refl, sym, ap, ◌∙◌, subst, inl, inr, append_assoc, append-nil, arith}
use Rattle.std.specs.Prelude.{IfErr, IfOk}
use Rattle.std.specs.Io.KnownBytes.{Appends, Consumes, IsAtEnd}
use Rattle.std.proofs.KnownBytes.{Appends-nil, Appends-trans, Consumes-nil, Consumes-trans, Consumes-whole, Keeps-refl}
use Rattle.std.proofs.Math.Seq.{take-append_seam}
use Rattle.std.proofs.lemmas.List.{take-append-drop}
use Rattle.std.proofs.lemmas.List.Concat.{flat_map-append}
use Rattle.std.proofs.lemmas.Result.{IfErr-weaker, IfOk-weaker}
use Rattle.answer_core.specs.RecordBytes.{bytes_of}
use Rattle.stream_core.specs.Counted.{Sink, Source}
use Rattle.stream_core.specs.FailureCount.{greatest_count}
use Rattle.stream_core.specs.Faults.{ExplainsReadingOn, HasReadOn}
use Rattle.stream_core.specs.declared.fault.RunFault.{RunFault}
use Rattle.stream_core.specs.declared.fault.RunFault.TheVariants.{ReadFault, TooLong, NoMemory, WriteFault}
use Rattle.script_core.specs.Script.{AppendsFront, AreStatementsOf, Done, IsOutput, Streams, WritesWithin, output_of}
use Rattle.script_core.specs.declared.outcome.Outcome.{Outcome}
use Rattle.script_core.proofs.OutputUniqueness.{one_list_of_dones}
use Rattle.live_core.specs.Portions.{AnswersMore, AnswersRest, AreDone, ExplainsMore, ExplainsRest, ExplainsStop}
use Rattle.live_core.specs.Runs.{ExplainsRun, ReadsAll, ReadsSome, RunsAll, WritesUpTo}
use Rattle.live_core.specs.Standing.{Fed}
use Rattle.live_core.specs.declared.live.Live.{Live}
use Rattle.live_core.proofs.DoneLemmas.{first_done, mark-done}
use Rattle.live_core.proofs.FeedLemmas.{some-more}
use Rattle.live_core.proofs.SessionLemmas.{front-all, front-none}

-- ---- consecutive answers

output-both : (one other : List Done) → output_of (one ++ other) ≡ output_of one ++ output_of other
output-both one other = flat_map-append (λ (done : Done). bytes_of done.answer) one other

take-both : (front bytes : List ℕ) (size : ℕ) → take (length front + size) (front ++ bytes) ≡ front ++ take size bytes
take-both [] bytes size = ap (λ n. take n bytes) (omega arith)
take-both (x ∷ front) bytes size =
    let more : length (x ∷ front) + size ≡ suc (length front + size) = omega arith in
    ap (λ n. take n (x ∷ (front ++ bytes))) more ∙ ap (λ l. x ∷ l) (take-both front bytes size)

front-both : (old mid new : Option (List ℕ)) (one other : List ℕ) → Appends old mid one → AppendsFront mid new other
    → AppendsFront old new (one ++ other)
front-both old mid new one other written (size, more) = (
  length one + size,
  subst (Appends old new) (sym (take-both one other size))
      (Appends-trans old mid new one (take size other) written more),
)

within-both : (one other : List Done) (before mid after : Sink) → Appends before.written mid.written (output_of one)
    → WritesWithin other mid after → WritesWithin (one ++ other) before after
within-both one other before mid after written w =
    let part = take w.size (bytes_of w.next.answer) in
    let all : output_of (one ++ w.first) ++ part ≡ output_of one ++ (output_of w.first ++ part) =
    ap (λ l. l ++ part) (output-both one w.first) ∙ append_assoc (output_of one) (output_of w.first) part in
    record {
      first = one ++ w.first;
      next = w.next;
      later = w.later;
      statements = ap (λ l. one ++ l) w.statements ∙ sym (append_assoc one w.first (w.next ∷ w.later));
      size = w.size;
      short = w.short;
      written = subst (Appends before.written after.written) (sym all)
          (Appends-trans before.written mid.written after.written (output_of one) (output_of w.first ++ part) written
          w.written);
    }

-- ---- an unfinished run

-- These bytes were read and fed, and these statements were answered.
pub record IsRunTo (before now : Streams) (live : Live) : Type 0 where
  pub bytes : List ℕ
  pub dones : List Done
  pub read : Consumes before.reader.unread now.reader.unread bytes
  pub fed : Fed bytes dones live
  pub are : AreDone bytes dones
  pub written : Appends before.writer.written now.writer.written (output_of dones)

-- No statement is complete in no bytes.
none-done : AreDone [] []
none-done = mark-done [] [] [] 1 (inl refl) (λ later. refl)

pub run-none : (now : Streams) (live : Live) → Fed [] [] live → IsRunTo now now live
run-none now live fed = record {
  bytes = [];
  dones = [];
  read = Consumes-nil now.reader.unread;
  fed = fed;
  are = none-done;
  written = Appends-nil now.writer.written;
}

-- One more portion.
pub run-more : (before now next : Streams) (old new : Live) (portion : List ℕ) → (t : IsRunTo before now old)
    → Consumes now.reader.unread next.reader.unread portion
    → AnswersMore (t.bytes ++ portion) t.dones new now.writer next.writer → IsRunTo before next new
run-more before now next old new portion t read answers = record {
  bytes = t.bytes ++ portion;
  dones = t.dones ++ answers.more;
  read = Consumes-trans before.reader.unread now.reader.unread next.reader.unread t.bytes portion t.read read;
  fed = answers.fed;
  are = answers.are;
  written = subst (Appends before.writer.written next.writer.written) (sym (output-both t.dones answers.more))
      (Appends-trans before.writer.written now.writer.written next.writer.written (output_of t.dones)
      (output_of answers.more) t.written answers.written);
}

-- The whole script.
pub run-over : (before now after : Streams) (live : Live) (outcome : Outcome) → (t : IsRunTo before now live)
    → after.reader.unread ≡ now.reader.unread → IsAtEnd now.reader.unread
    → AnswersRest t.bytes t.dones outcome now.writer after.writer → RunsAll before after outcome
run-over before now after live outcome t same end rest = (
  t.dones ++ rest.more,
  (
    t.bytes,
    subst (λ o. Consumes before.reader.unread o t.bytes) (sym same) t.read,
    subst IsAtEnd (sym same) end,
    rest.are,
  ),
  record {
    written = subst (Appends before.writer.written after.writer.written) (sym (output-both t.dones rest.more))
        (Appends-trans before.writer.written now.writer.written after.writer.written (output_of t.dones)
        (output_of rest.more) t.written rest.written);
    tells = rest.tells;
  },
)

-- ---- why a run stopped

-- The run's answers, then a prefix of the answers to further statements.
stopped : (one other : List Done) (before now after : Streams) (fault : RunFault)
    → Appends before.writer.written now.writer.written (output_of one)
    → before.writer.failures ≤ now.writer.failures → before.writer.failures < greatest_count
    → ExplainsStop other now.writer after.writer fault → WritesUpTo (one ++ other) before after fault
stopped one other before now after ReadFault written counts room why = absurd why
stopped one other before now after TooLong written counts room why =
    subst (AppendsFront before.writer.written after.writer.written) (sym (output-both one other))
    (front-both before.writer.written now.writer.written after.writer.written (output_of one) (output_of other) written
    why)
stopped one other before now after NoMemory written counts room why =
    subst (AppendsFront before.writer.written after.writer.written) (sym (output-both one other))
    (front-both before.writer.written now.writer.written after.writer.written (output_of one) (output_of other) written
    why)
stopped one other before now after WriteFault written counts room (grown, within) =
    (omega (arith, grown, counts, room), within-both one other before.writer now.writer after.writer written within)

-- The run stopped in a portion.
pub run-stopped : (before now after : Streams) (live : Live) (portion : List ℕ) (fault : RunFault)
    → (t : IsRunTo before now live) → (left : Option (List ℕ)) → Consumes now.reader.unread left portion
    → before.writer.failures ≤ now.writer.failures → before.writer.failures < greatest_count
    → ExplainsMore (t.bytes ++ portion) t.dones now.writer after.writer fault → ExplainsRun before after fault
run-stopped before now after live portion fault t left read counts room (more, are, why) = (
  t.dones ++ more,
  inl (
    t.bytes ++ portion,
    (left, Consumes-trans before.reader.unread now.reader.unread left t.bytes portion t.read read),
    are,
  ),
  stopped t.dones more before now after fault t.written counts room why,
)

-- The run stopped at the end of the script.
pub run-stopped-rest : (before now after : Streams) (live : Live) (fault : RunFault) → (t : IsRunTo before now live)
    → after.reader.unread ≡ now.reader.unread → IsAtEnd now.reader.unread
    → before.writer.failures ≤ now.writer.failures → before.writer.failures < greatest_count
    → ExplainsRest t.bytes t.dones now.writer after.writer fault → ExplainsRun before after fault
run-stopped-rest before now after live fault t same end counts room (more, are, why) = (
  t.dones ++ more,
  inr (
    t.bytes,
    subst (λ o. Consumes before.reader.unread o t.bytes) (sym same) t.read,
    subst IsAtEnd (sym same) end,
    are,
  ),
  stopped t.dones more before now after fault t.written counts room why,
)

-- The run stopped in a read.
pub run-unread : (before now after : Streams) (live : Live) (limit : ℕ) (fault : RunFault)
    → (t : IsRunTo before now live) → after.writer ≡ now.writer → before.reader.failures ≤ now.reader.failures
    → before.reader.failures < greatest_count → ExplainsReadingOn [] limit now.reader after.reader fault
    → ExplainsRun before after fault
run-unread before now after live limit ReadFault t same counts room why = (
  t.dones,
  inl (t.bytes, (now.reader.unread, t.read), t.are),
  (
    omega (arith, why, counts, room),
    subst (λ (z : Sink). Appends before.writer.written z.written (output_of t.dones)) (sym same) t.written,
  ),
)
run-unread before now after live limit TooLong t same counts room (bytes, read, past) =
    let (more, are) = some-more t.bytes bytes t.dones live t.fed in (
      t.dones ++ more,
      inl (
        t.bytes ++ bytes,
        (
          after.reader.unread,
          Consumes-trans before.reader.unread now.reader.unread after.reader.unread t.bytes bytes t.read read,
        ),
        are,
      ),
      subst (λ (z : Sink). AppendsFront before.writer.written z.written (output_of (t.dones ++ more))) (sym same)
          (subst (AppendsFront before.writer.written now.writer.written) (sym (output-both t.dones more))
          (front-both before.writer.written now.writer.written now.writer.written (output_of t.dones) (output_of more)
          t.written (front-none now.writer.written now.writer.written (output_of more)
          (Keeps-refl now.writer.written)))),
    )
run-unread before now after live limit NoMemory t same counts room why = (
  t.dones,
  inl (t.bytes, (now.reader.unread, t.read), t.are),
  subst (λ (z : Sink). AppendsFront before.writer.written z.written (output_of t.dones)) (sym same)
      (front-all before.writer.written now.writer.written (output_of t.dones) t.written),
)
run-unread before now after live limit WriteFault t same counts room why = absurd why

-- The run stopped before anything was read.
pub run-unbegun : (now : Streams) → ExplainsRun now now NoMemory
run-unbegun now = (
  [],
  inl ([], (now.reader.unread, Consumes-nil now.reader.unread), none-done),
  front-none now.writer.written now.writer.written [] (Keeps-refl now.writer.written),
)

-- The run stopped after the last possible portion.
pub run-endless : (before now : Streams) (live : Live) → IsRunTo before now live → ExplainsRun before now TooLong
run-endless before now live t = (
  t.dones,
  inl (t.bytes, (now.reader.unread, t.read), t.are),
  front-all before.writer.written now.writer.written (output_of t.dones) t.written,
)

-- ---- a script that the reader has

whole_script : (script : List ℕ) (unread left : Option (List ℕ)) (read : List ℕ) → unread ≡ Some script
    → Consumes unread left read → IsAtEnd left → read ≡ script
whole_script script unread left read known consumed end =
    sym (Consumes-whole (Some script) left read (λ bytes. bytes ≡ read)
    (subst (λ bytes. Consumes bytes left read) known consumed) end refl)

-- The script's output is the answers to its statements.
output_is : (script output : List ℕ) (before after : Source) (dones : List Done) → before.unread ≡ Some script
    → IsOutput script output → ReadsAll before after dones → output ≡ output_of dones
output_is script output before after dones known o (read, consumed, end, are) =
    let same : read ≡ script = whole_script script before.unread after.unread read known consumed end in
    o.is ∙ ap output_of (one_list_of_dones script read o.dones dones (sym same) o.statements are)

all-written : (before after : Streams) (outcome : Outcome) (script output : List ℕ) → RunsAll before after outcome
    → before.reader.unread ≡ Some script → IsOutput script output
    → Appends before.writer.written after.writer.written output
all-written before after outcome script output (dones, reads, w) known o =
    subst (Appends before.writer.written after.writer.written)
    (sym (output_is script output before.reader after.reader dones known o reads)) w.written

pub ok-written : (before after : Streams) (result : Result Outcome RunFault) → IfOk result (RunsAll before after)
    → (script output : List ℕ) → before.reader.unread ≡ Some script → IsOutput script output
    → IfOk result (λ _. Appends before.writer.written after.writer.written output)
ok-written before after result runs script output known o =
    IfOk-weaker result (RunsAll before after) (λ _. Appends before.writer.written after.writer.written output)
    (λ outcome all. all-written before after outcome script output all known o) runs

-- The statements of a prefix of the script are its first statements.
output_begins : (script output : List ℕ) (before after : Source) (dones : List Done) → before.unread ≡ Some script
    → IsOutput script output → ReadsSome before after dones → (rest : List ℕ) × (output ≡ output_of dones ++ rest)
output_begins script output before after dones known o (inr all) =
    ([], output_is script output before after dones known o all ∙ sym (append-nil (output_of dones)))
output_begins script output before after dones known o (inl (bytes, (left, read), are)) =
    by left (subst (λ bytes'. Consumes bytes' left bytes) known read)
  where
    by : (left : Option (List ℕ)) → Consumes (Some script) left bytes
        → (rest : List ℕ) × (output ≡ output_of dones ++ rest)
    by None none = absurd none
    by (Some more) is =
        let (later, first) =
        first_done bytes more dones o.dones are (subst (λ l. AreStatementsOf l o.dones) is o.statements) in
        (output_of later, o.is ∙ (ap output_of first ∙ output-both dones later))

-- A prefix of some bytes is a prefix of these and more.
front-more : (old new : Option (List ℕ)) (bytes rest : List ℕ) → AppendsFront old new bytes
    → AppendsFront old new (bytes ++ rest)
front-more old new bytes rest (size, written) =
    (length (take size bytes), subst (Appends old new) (sym (take-front size bytes rest)) written)
  where
    take-front : (size : ℕ) (bytes rest : List ℕ) → take (length (take size bytes)) (bytes ++ rest) ≡ take size bytes
    take-front size bytes rest =
        ap (λ l. take (length (take size bytes)) (l ++ rest)) (sym (take-append-drop size bytes))
        ∙ (ap (take (length (take size bytes))) (append_assoc (take size bytes) (drop size bytes) rest)
        ∙ take-append_seam (take size bytes) (drop size bytes ++ rest))

-- The bytes that were written are a prefix of these answers.
up-to : (dones : List Done) (before after : Streams) (fault : RunFault) → WritesUpTo dones before after fault
    → AppendsFront before.writer.written after.writer.written (output_of dones)
up-to dones before after ReadFault (failed, written) =
    front-all before.writer.written after.writer.written (output_of dones) written
up-to dones before after TooLong why = why
up-to dones before after NoMemory why = why
up-to dones before after WriteFault (failed, w) =
    let part = take w.size (bytes_of w.next.answer) in
    let rest = drop w.size (bytes_of w.next.answer) ++ output_of w.later in
    let all : output_of dones ≡ (output_of w.first ++ part) ++ rest =
    ap output_of w.statements
    ∙ (output-both w.first (w.next ∷ w.later)
    ∙ (ap (λ l. output_of w.first ++ (l ++ output_of w.later)) (sym (take-append-drop w.size (bytes_of w.next.answer)))
    ∙ (ap (λ l. output_of w.first ++ l) (append_assoc part (drop w.size (bytes_of w.next.answer)) (output_of w.later))
    ∙ sym (append_assoc (output_of w.first) part rest)))) in
    subst (AppendsFront before.writer.written after.writer.written) (sym all)
    (front-more before.writer.written after.writer.written (output_of w.first ++ part) rest
    (front-all before.writer.written after.writer.written (output_of w.first ++ part) w.written))

pub fault-front : (before after : Streams) (result : Result Outcome RunFault) → IfErr result (ExplainsRun before after)
    → (script output : List ℕ) → before.reader.unread ≡ Some script → IsOutput script output
    → IfErr result (λ _. AppendsFront before.writer.written after.writer.written output)
fault-front before after result why script output known o =
    IfErr-weaker result (ExplainsRun before after)
    (λ _. AppendsFront before.writer.written after.writer.written output)
    (λ fault explained. by fault explained) why
  where
    by : (fault : RunFault) → ExplainsRun before after fault
        → AppendsFront before.writer.written after.writer.written output
    by fault (dones, reads, writes) =
        let (rest, is) = output_begins script output before.reader after.reader dones known o reads in
        subst (AppendsFront before.writer.written after.writer.written) (sym is)
        (front-more before.writer.written after.writer.written (output_of dones) rest
        (up-to dones before after fault writes))

-- The bytes that were read into an empty text.
pub read-portion : (unread left : Option (List ℕ)) (old text : List ℕ) → HasReadOn unread left old text → old ≡ []
    → Consumes unread left text
read-portion unread left old text (bytes, read, is) none =
    subst (Consumes unread left) (sym (is ∙ ap (λ l. l ++ bytes) none)) read
