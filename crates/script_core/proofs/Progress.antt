-- The part of its script that a run has executed.
use Rattle.std.proofs.Common.{◌≡◌, ℕ, suc, Bool, false, ◌||◌, inl, inr, ◌+◌, ◌<◌, ◌≤◌, List, [], ◌∷◌, ◌++◌, Option, length, take, drop, refl, sym, ap, subst, ◌∙◌, arith}
use Rattle.std.specs.Io.KnownBytes.{Appends}
use Rattle.std.proofs.lemmas.List.Concat.{flat_map-append}
use Rattle.std.proofs.lemmas.List.Sums.{sum_by-append}
use Rattle.std.proofs.KnownBytes.{Appends-kept, Appends-nil, Appends-trans}
use Rattle.std.proofs.lemmas.List.{take-append-drop, append-nil, length-append, length-drop, length-take, drop-drop, nil_from_length}
use Rattle.script_core.specs.Answer.{Answers}
use Rattle.command_core.specs.Records.{Record}
use Rattle.command_core.specs.Statement.{AreMembers, Member, States, Statement, begins_load, commands_in, placed_in, stated, opened_together}
use Rattle.answer_core.specs.RecordBytes.{bytes_of}
use Rattle.script_core.specs.Script.{Done, Place, Step, Steps, Tells, WritesAll, WritesBefore, output_of}
use Rattle.script_core.specs.Writing.{Answering, AnswersAll, ExplainsAnswering, behind}
use Rattle.script_core.proofs.FrontLemmas.{writes_before, writes_within}
use Rattle.book_core.specs.History.{History, IsLegal}
use Rattle.answer_core.specs.PrintedRecords.{errors_in}
use Rattle.stream_core.specs.Counted.{Sink}
use Rattle.stream_core.specs.Faults.{ExplainsWriting}
use Rattle.stream_core.specs.declared.fault.RunFault.{RunFault}
use Rattle.stream_core.specs.declared.fault.RunFault.TheVariants.{ReadFault, TooLong, NoMemory, WriteFault}
use Rattle.script_core.specs.declared.outcome.Outcome.{Outcome}

-- There are at most as many members as records.
members-few : (number : ℕ) (records : List Record) (members : List Member) → AreMembers number records members
    → length members ≤ length records
members-few number records [] are = omega arith
members-few number records (member ∷ more) (own, later, split, first, is, behind) =
    omega (
      arith,
      ap length split,
      length-append own later,
      ap length is.whole,
      members-few (number + length own) later more behind,
    )

placed-length : (has_load : Bool) (members : List Member) → length (placed_in has_load members) ≡ length members
placed-length has_load [] = refl
placed-length has_load (member ∷ more) = ap suc (placed-length (has_load || begins_load member) more)

block-few : (number : ℕ) (opening : Record) (body : List Record) (members : List Member)
    → AreMembers (number + 1) body members
    → commands_in (stated number (opened_together opening (placed_in false members))) ≤ 1 + length body
block-few number [] body members are = omega arith
block-few number (word ∷ []) body members are =
    omega (arith, placed-length false members, members-few (number + 1) body members are)
block-few number (word ∷ field ∷ fields) body members are = omega arith

-- A statement has at most as many commands as records.
pub commands-few : (number : ℕ) (own later : List Record) (statement : Statement) → States number own later statement
    → commands_in statement ≤ length own
commands-few number own later statement (inl o) = omega (arith, ap commands_in o.states, ap length o.whole)
commands-few number own later statement (inr (inl t)) =
    omega (
      arith,
      ap commands_in t.states,
      ap length t.whole,
      length-append t.body (t.last ∷ []),
      block-few number t.opening t.body t.members t.inside,
    )
commands-few number own later statement (inr (inr u)) = omega (arith, ap commands_in u.states, ap length u.whole)

-- The position before record `at` of the records that are left at `start`.
abbrev place_at : Place → History → ℕ → Place
place_at start history at = record { history = history; number = start.number + at; left = drop at start.left }

-- The statements before record `at` were executed, their answers were written, and this is their outcome.
pub record Progress (start : Place) (old now : Option (List ℕ)) (history : History) (at : ℕ)
    (outcome : Outcome) : Type 0 where
  pub dones : List Done
  pub steps : Steps start dones (place_at start history at)
  pub written : Appends old now (output_of dones)
  pub tells : Tells outcome dones

-- One more step at the end.
steps-more : (p q r : Place) (dones : List Done) (next : Done) → Steps p dones q → Step q next r
    → Steps p (dones ++ next ∷ []) r
steps-more p q r [] next e step = (r, subst (λ z. Step z next r) (sym e) step, refl)
steps-more p q r (d ∷ ds) next (mid, first, rest) step = (mid, first, steps-more mid q r ds next rest step)

output-more : (dones : List Done) (next : Done)
    → output_of (dones ++ next ∷ []) ≡ output_of dones ++ bytes_of next.answer
output-more dones next =
    flat_map-append (λ (done : Done). bytes_of done.answer) dones (next ∷ [])
    ∙ ap (λ bytes. output_of dones ++ bytes) (append-nil (bytes_of next.answer))

-- The statement at a position, by its records and its answer.
step-at : (start : Place) (before after : History) (at taken : ℕ) (statement : Statement)
    (answer : List Record) → taken ≤ length (drop at start.left)
    → States (start.number + at) (take taken (drop at start.left)) (drop taken (drop at start.left)) statement
    → Answers before (start.number + at) statement answer after
    → Step (place_at start before at) (record { statement = statement; answer = answer })
    (place_at start after (at + taken))
step-at start before after at taken statement answer within states answers =
    let rest : drop taken (drop at start.left) ≡ drop (at + taken) start.left = drop-drop taken at start.left in
    record {
      own = take taken (drop at start.left);
      taken = sym (take-append-drop taken (drop at start.left)) ∙ ap (λ l. take taken (drop at start.left) ++ l) rest;
      number = omega (arith, length-take taken (drop at start.left));
      states = subst (λ l. States (start.number + at) (take taken (drop at start.left)) l statement) rest states;
      answers = answers;
    }

-- Nothing was executed yet.
pub progress-none : (start : Place) (written : Option (List ℕ)) (outcome : Outcome) → outcome.commands ≡ 0
    → outcome.errors ≡ 0 → Progress start written written start.history 0 outcome
progress-none start written outcome no_commands no_errors = record {
  dones = [];
  steps = ap (λ n. record { history = start.history; number = n; left = start.left }) (omega arith);
  written = Appends-nil written;
  tells = record { commands = no_commands; errors = no_errors };
}

-- Everything was executed.
pub progress-over : (start : Place) (before now : Sink) (history : History) (at : ℕ) (outcome : Outcome)
    → length start.left ≤ at → at ≤ length start.left
    → Progress start before.written now.written history at outcome
    → AnswersAll start history before now outcome
progress-over start before now history at outcome all within p =
    let none : drop at start.left ≡ [] = nil_from_length (drop at start.left) (omega (arith, length-drop at start.left)) in
    let here : place_at start history at ≡ behind start history =
    ap (λ l. record { history = history; number = start.number + at; left = l }) none
    ∙ ap (λ n. record { history = history; number = start.number + n; left = [] }) (omega arith) in
    (p.dones, subst (λ place. Steps start p.dones place) here p.steps, record { written = p.written; tells = p.tells })

-- One more statement was executed.
pub progress-more : (start : Place) (old mid new : Option (List ℕ)) (before after : History) (at taken : ℕ)
    (sofar outcome : Outcome) (statement : Statement) (answer : List Record)
    → Progress start old mid before at sofar → taken ≤ length (drop at start.left)
    → States (start.number + at) (take taken (drop at start.left)) (drop taken (drop at start.left)) statement
    → Answers before (start.number + at) statement answer after → Appends mid new (bytes_of answer)
    → outcome.commands ≡ sofar.commands + commands_in statement → outcome.errors ≡ sofar.errors + errors_in answer
    → Progress start old new after (at + taken) outcome
progress-more start old mid new before after at taken sofar outcome statement answer p within states answers writes
    commands errors =
    let next : Done = record { statement = statement; answer = answer } in
    let dones = p.dones in
    record {
      dones = dones ++ next ∷ [];
      steps = steps-more start (place_at start before at)
          (place_at start after (at + taken)) dones next p.steps
          (step-at start before after at taken statement answer within states answers);
      written = subst (Appends old new) (sym (output-more dones next)) (Appends-trans old mid new _ _ p.written writes);
      tells = record {
        commands = omega (
          arith,
          sum_by-append (λ (done : Done). commands_in done.statement) dones (next ∷ []),
          p.tells.commands,
          commands,
        );
        errors = omega
            (arith, sum_by-append (λ (done : Done). errors_in done.answer) dones (next ∷ []), p.tells.errors, errors);
      };
    }

-- The answers to the statements before record `at` were written, and statements are left.
pub progress-begun : (start : Place) (before now : Sink) (history : History) (at : ℕ) (outcome : Outcome)
    → IsLegal start.history → at < length start.left → Progress start before.written now.written history at outcome
    → Answering WritesBefore start before now
progress-begun start before now history at outcome legal below p =
    writes_before start before now p.dones (place_at start history at) legal p.steps
    (omega (arith, length-drop at start.left)) p.written

-- Why writing a statement's answer stopped.
pub progress-stopped : (start : Place) (old mid new : Sink) (before after : History) (at taken : ℕ)
    (sofar : Outcome) (statement : Statement) (answer : List Record) (fault : RunFault)
    → IsLegal start.history → Progress start old.written mid.written before at sofar
    → taken ≤ length (drop at start.left)
    → States (start.number + at) (take taken (drop at start.left)) (drop taken (drop at start.left)) statement
    → Answers before (start.number + at) statement answer after → 0 < length (drop at start.left)
    → old.failures ≤ mid.failures
    → ExplainsWriting (bytes_of answer) mid new fault → ExplainsAnswering start old new fault
progress-stopped start old mid new before after at taken sofar statement answer ReadFault legal p within states answers
    more le why = why
progress-stopped start old mid new before after at taken sofar statement answer TooLong legal p within states answers
    more le why = why
progress-stopped start old mid new before after at taken sofar statement answer NoMemory legal p within states answers
    more le why =
    writes_before start old new p.dones (place_at start before at) legal p.steps more
    (Appends-kept old.written mid.written new.written (output_of p.dones) p.written why)
progress-stopped start old mid new before after at taken sofar statement answer WriteFault legal p within states answers
    more le (grown, (size, short, writes)) = (
      omega (arith, grown, le),
      writes_within start old new p.dones (record { statement = statement; answer = answer })
          (place_at start before at)
          (place_at start after (at + taken)) size legal p.steps
          (step-at start before after at taken statement answer within states answers) short
          (Appends-trans old.written mid.written new.written _ _ p.written writes),
    )
