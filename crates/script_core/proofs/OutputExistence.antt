-- All statements of some records can be executed.
use Rattle.std.proofs.Common.{◌≡◌, ℕ, false, zero, suc, ◌+◌, ◌<◌, ◌≤◌, List, [], ◌∷◌, ◌++◌, length, refl, sym, ap, ◌∙◌, subst, arith, inl, inr, length-append}
use Rattle.std.proofs.lemmas.Bool.{cases_lt}
use Rattle.std.proofs.lemmas.List.{nil_from_length}
use Rattle.book_core.specs.History.{History, IsLegal}
use Rattle.command_core.specs.Meaning.{Meaning, Refuse}
use Rattle.command_core.specs.Records.{Record}
use Rattle.command_core.specs.Refusal.{fault}
use Rattle.command_core.specs.Statement.{AreMembers, FirstStatement, Member, One, Statement, States, placed_in, stated, opened_together}
use Rattle.command_core.specs.declared.refusal.Refusal.TheVariants.{BadCommand, Unended}
use Rattle.command_core.proofs.RecordsExistence.{some_records}
use Rattle.command_core.proofs.StatementExistence.{some_statement}
use Rattle.script_core.specs.Answer.{Answers, IsAnswerTo}
use Rattle.script_core.specs.Script.{AreStatementsOf, Done, Finished, IsOutput, Place, Steps, output_of, start_of}
use Rattle.script_core.proofs.AnswerExistence.{Reply, answers_by, some_reply}
use Rattle.script_core.specs.Writing.{AreRest}
use Rattle.script_core.proofs.OutputUniqueness.{takes_one}
use Rattle.script_core.proofs.TogetherExistence.{some_block}

-- ---- one statement

-- The answer to a statement, and the legal history after it.
record Outcome (before : History) (number : ℕ) (statement : Statement) : Type 0 where
  answer : List Record
  after : History
  answers : Answers before number statement answer after
  legal : IsLegal after

one_outcome : (before : History) (number : ℕ) (meaning : Meaning) → IsLegal before → Outcome before number (One meaning)
one_outcome before number meaning legal =
    let reply : Reply (IsAnswerTo before number meaning) = some_reply before number meaning legal in
    record {
      answer = reply.reported.records;
      after = reply.after;
      answers = answers_by before number meaning reply;
      legal = reply.legal;
    }

-- A block is answered if its first record has the right form, otherwise refused.
block_outcome : (before : History) (number : ℕ) (opening : Record) (body : List Record) (members : List Member)
    → IsLegal before → AreMembers (number + 1) body members
    → Outcome before number (stated number (opened_together opening (placed_in false members)))
block_outcome before number [] body members legal are =
    one_outcome before number (Refuse (fault number BadCommand)) legal
block_outcome before number (word ∷ []) body members legal are =
    let (answer, after, answers, lawful) = some_block before (number + 1) body members legal are in
    record { answer = answer; after = after; answers = answers; legal = lawful }
block_outcome before number (word ∷ field ∷ fields) body members legal are =
    one_outcome before number (Refuse (fault number BadCommand)) legal

some_outcome : (before : History) (number : ℕ) (own later : List Record) (statement : Statement) → IsLegal before
    → States number own later statement → Outcome before number statement
some_outcome before number own later statement legal (inl o) =
    subst (Outcome before number) (sym o.states) (one_outcome before number o.meaning legal)
some_outcome before number own later statement legal (inr (inl t)) =
    subst (Outcome before number) (sym t.states)
    (block_outcome before number t.opening t.body t.members legal t.inside)
some_outcome before number own later statement legal (inr (inr u)) =
    subst (Outcome before number) (sym u.states) (one_outcome before number (Refuse (fault number Unended)) legal)

pub some_answer : (before : History) (number : ℕ) (statement : Statement) → IsLegal before
    → (own later : List Record) → States number own later statement
    → (answer : List Record) × (after : History) × Answers before number statement answer after
some_answer before number statement legal own later states =
    let outcome : Outcome before number statement = some_outcome before number own later statement legal states in
    (outcome.answer, outcome.after, outcome.answers)

-- ---- all statements

-- All statements from a position on.
record Rest (place : Place) : Type 0 where
  dones : List Done
  last : Place
  steps : Steps place dones last
  over : last.left ≡ []

fewer : (number : ℕ) (own later records : List Record) (statement : Statement) → States number own later statement
    → records ≡ own ++ later → length later < length records
fewer number own later records statement states is =
    let (first, rest, starts) = takes_one number own later statement states in
    let size : length records ≡ length own + length later = ap length is ∙ length-append own later in
    let some : length own ≡ suc (length rest) = ap length starts in
    omega arith

some_rest : (n : ℕ) (place : Place) → IsLegal place.history → length place.left ≤ n → Rest place
some_rest zero place legal few =
    record { dones = []; last = place; steps = refl; over = nil_from_length place.left (omega arith) }
some_rest (suc n) place legal few = elim (cases_lt 0 (length place.left)) [
  | inr none ↦ record { dones = []; last = place; steps = refl; over = nil_from_length place.left (omega arith) }
  | inl some ↦
      let first : FirstStatement place.number place.left = some_statement place.number place.left some in
      let outcome : Outcome place.history place.number first.statement =
      some_outcome place.history place.number first.own first.later first.statement legal first.states in
      let next : Place =
      record { history = outcome.after; number = place.number + length first.own; left = first.later } in
      let less : length first.later < length place.left =
      fewer place.number first.own first.later place.left first.statement first.states first.taken in
      let rest : Rest next = some_rest n next outcome.legal (omega arith) in
      record {
        dones = record { statement = first.statement; answer = outcome.answer } ∷ rest.dones;
        last = rest.last;
        steps = (
          next,
          record {
            own = first.own;
            taken = first.taken;
            number = refl;
            states = first.states;
            answers = outcome.answers;
          },
          rest.steps,
        );
        over = rest.over;
      }
]

none_is_legal : IsLegal []
none_is_legal n c e = cc e

-- All statements from a position on, after a legal history.
pub rest_done : (start : Place) → IsLegal start.history → (dones : List Done) × AreRest start dones
rest_done start legal =
    let rest : Rest start = some_rest (length start.left) start legal (omega arith) in
    (rest.dones, (rest.last, rest.steps, rest.over))

pub all_done : (records : List Record) → (dones : List Done) × Finished records dones
all_done records =
    let (dones, (last, steps, over)) = rest_done (start_of records) none_is_legal in
    (dones, record { place = last; steps = steps; over = over })

pub some_output : (script : List ℕ) → (output : List ℕ) × IsOutput script output
some_output script =
    let (records, parsed) = some_records script in
    let (dones, finished) = all_done records in
    let statements : AreStatementsOf script dones =
    record { records = records; parsed = parsed; finished = finished } in
    (output_of dones, record { dones = dones; statements = statements; is = refl })
