-- The statements that a session has answered.
use Rattle.std.proofs.Common.{◌≡◌, ℕ, ◌+◌, ◌*◌, ◌≤◌, List, [], ◌∷◌, ◌++◌, Option, length, take, sym, ap, ◌∙◌, subst, arith}
use Rattle.std.specs.Io.KnownBytes.{Appends, Keeps}
use Rattle.std.proofs.KnownBytes.{Appends-kept, Appends-nil}
use Rattle.std.proofs.Math.Seq.{take-append_seam}
use Rattle.std.proofs.lemmas.List.{take_all}
use Rattle.std.proofs.lemmas.List.Concat.{flat_map-append}
use Rattle.command_core.specs.Records.{AreScriptRecords, Record}
use Rattle.command_core.proofs.ScriptSizes.{strip_bom-le}
use Rattle.command_core.proofs.Shrinking.{records-few}
use Rattle.csv.specs.Reading.{default_config, strip_bom}
use Rattle.csv.specs.declared.parser.State.TheVariants as st
use Rattle.stream_core.specs.Counted.{Sink}
use Rattle.stream_core.specs.declared.fault.RunFault.{RunFault}
use Rattle.stream_core.specs.declared.fault.RunFault.TheVariants.{ReadFault, TooLong, NoMemory, WriteFault}
use Rattle.answer_core.specs.RecordBytes.{bytes_of}
use Rattle.script_core.specs.Ledgers.{ledger_history}
use Rattle.script_core.specs.Script.{AppendsFront, Done, Steps, WritesBefore, output_of}
use Rattle.script_core.specs.Writing.{AnswersAll, AreRest, ExplainsAnswering}
use Rattle.script_core.specs.declared.outcome.Outcome.{Outcome}
use Rattle.live_core.specs.Portions.{ExplainsStop}
use Rattle.live_core.specs.Standing.{HasAnswered, StopsAnswering, place_of}
use Rattle.live_core.specs.declared.session.Session.{Session}

-- A text has at most two records for each byte.
pub text-few : (text : List ℕ) (records : List Record) → AreScriptRecords text records
    → length records ≤ 2 * length text
text-few text records (t, left, reached, none) =
    omega (
      arith,
      records-few default_config records st.StartRecord t (strip_bom text) left reached,
      strip_bom-le text,
    )

-- All statements were answered.
pub has-answered : (records : List Record) (old new : Session) (before after : Sink) (reported : Outcome)
    → AnswersAll (place_of old records) (ledger_history new.ledger) before after reported
    → new.number ≡ old.number + length records
    → new.outcome.commands ≡ old.outcome.commands + reported.commands
    → new.outcome.errors ≡ old.outcome.errors + reported.errors → HasAnswered records old new before after
has-answered records old new before after reported (dones, steps, writes) number commands errors = record {
  dones = dones;
  steps = subst
      (λ n. Steps (place_of old records) dones (record { history = ledger_history new.ledger; number = n; left = [] }))
      (sym number) steps;
  written = writes.written;
  commands = commands ∙ ap (λ n. old.outcome.commands + n) writes.tells.commands;
  errors = errors ∙ ap (λ n. old.outcome.errors + n) writes.tells.errors;
}

-- Answering stopped.
pub stops-answering : (records : List Record) (old : Session) (before after : Sink) (fault : RunFault)
    → ExplainsAnswering (place_of old records) before after fault → StopsAnswering records old before after fault
stops-answering records old before after ReadFault why = why
stops-answering records old before after TooLong why = absurd why
stops-answering records old before after NoMemory why = why
stops-answering records old before after WriteFault why = why

-- ---- prefixes

-- The empty prefix.
pub front-none : (before after : Option (List ℕ)) (bytes : List ℕ) → Keeps before after
    → AppendsFront before after bytes
front-none before after bytes kept = (0, Appends-kept before before after [] (Appends-nil before) kept)

-- The whole.
pub front-all : (before after : Option (List ℕ)) (bytes : List ℕ) → Appends before after bytes
    → AppendsFront before after bytes
front-all before after bytes written =
    (length bytes, subst (Appends before after) (sym (take_all (length bytes) bytes (omega arith))) written)

-- The answers to the first statements.
pub front-before : (dones : List Done) (before after : Sink) → WritesBefore dones before after
    → AppendsFront before.written after.written (output_of dones)
front-before dones before after w =
    let output : output_of dones ≡ output_of w.first ++ (bytes_of w.next.answer ++ output_of w.later) =
    ap output_of w.statements
    ∙ flat_map-append (λ (done : Done). bytes_of done.answer) w.first (w.next ∷ w.later) in (
      length (output_of w.first),
      subst (Appends before.written after.written)
          (sym (ap (take (length (output_of w.first))) output
          ∙ take-append_seam (output_of w.first) (bytes_of w.next.answer ++ output_of w.later)))
          w.written,
    )

-- The statements that wait for an answer, when answering stopped.
pub stops : (records : List Record) (old : Session) (before after : Sink) (fault : RunFault)
    → ((dones : List Done) × AreRest (place_of old records) dones) → StopsAnswering records old before after fault
    → (dones : List Done) × AreRest (place_of old records) dones × ExplainsStop dones before after fault
stops records old before after ReadFault some why = absurd why
stops records old before after TooLong (dones, rest) why =
    (dones, rest, front-none before.written after.written (output_of dones) why.1)
stops records old before after NoMemory some (dones, rest, writes) =
    (dones, rest, front-before dones before after writes)
stops records old before after WriteFault some (grown, (dones, rest, writes)) = (dones, rest, (grown, writes))
