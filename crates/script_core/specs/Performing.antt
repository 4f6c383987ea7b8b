-- The outcome of executing a command: its answer, or why it has none.
use Rattle.std.specs.Prelude.{ℕ, ◌≡◌, ◌≤◌, ◌<◌, ◌+◌, ◌^◌, ◌++◌, All, IfOk, IsTrue, List, drop, length, take, true, Option, None, Result, Ok, Err, ⊤}
use Rattle.std.specs.Borrow.{Bor}
use Rattle.answer_core.specs.PrintedRecords.{IsPrintedAs, errors_in}
use Rattle.answer_core.specs.Unwritten.{Adds}
use Rattle.answer_core.specs.declared.answer.Answer.{Answer}
use Rattle.answer_core.specs.declared.answer.Answer.TheVariants as answer
use Rattle.book_core.specs.History.{History}
use Rattle.command_core.specs.Meaning.{Meaning, Agg, Anti, At, Check, Dip, Join, Load, Refuse, Rows}
use Rattle.command_core.specs.Records.{Record}
use Rattle.command_core.specs.declared.refusal.Fault.{Fault}
use Rattle.command_core.specs.Statement.{AreMembers, Member, Placed, Statement, States, commands_in, placed_in}
use Rattle.script_core.specs.Answer.{Answers, AnswersBlock, AnswersEach, AnswersOne, IsAnswerTo}
use Rattle.script_core.specs.declared.outcome.Outcome.{Outcome}
use Rattle.script_core.specs.Failure.{Failure, IsFailureOf}
use Rattle.row_core.specs.Rows.{RowsRise}
use Rattle.row_core.specs.Schema.{fits}
use Rattle.row_core.specs.declared.failure.Failure.TheVariants.{Refused, NoMemory}
use Rattle.row_core.specs.declared.row.Row.{Row}
use Rattle.row_core.specs.declared.schema.Column.{Column}
use Rattle.script_core.specs.Effects.{columns_or_fault, rows_or_fault, sides_or_fault}
use Rattle.version_core.specs.Limits.{version_limit}

-- A value is the one that is meant, and a refusal is the one that applies.
abbrev pub Gives : {S T : Type 0} → Result S Fault → (S → T → Type 0) → Result T Failure → Type 0
Gives {S} meant Is (Ok value) = (read : S) × (meant ≡ Ok read) × Is read value
Gives meant Is (Err failure) = IsFailureOf meant failure

-- A table's columns and rows, as the command of this number reads them: by ascending id, at most `version_limit` rows,
-- each fitting the columns.
pub record IsShown (number : ℕ) (history : History) (asof : Option ℕ) (table : List ℕ)
    (result : Result (Bor (List Column) × List Row) Failure) : Type 0 where
  pub gives : Gives (rows_or_fault number history asof table) (λ rows read. read.1 ≡ rows) result
  pub columns : IfOk result (λ read. columns_or_fault number history table ≡ Ok read.0.now)
  pub few : IfOk result (λ read. length read.1 ≤ version_limit)
  pub rise : IfOk result (λ read. RowsRise read.1)
  pub fit : IfOk result (λ read. All (λ row. IsTrue (fits read.0.now row.values)) read.1)

-- It fails as the comparison of these two tables does, whatever columns they are compared by.
abbrev pub FailsToCompare : ℕ → History → Option ℕ → List ℕ → List ℕ → Failure → Type 0
FailsToCompare number history asof left right failure =
    (on : List (List ℕ × List ℕ))
    → IsFailureOf (sides_or_fault number history asof (record { left = left; right = right; on = on })) failure

-- The commit that a query names.
abbrev pub asof_in : Meaning → Option ℕ
asof_in (Rows table asof) = asof
asof_in (At table point asof) = asof
asof_in (Dip table asof) = asof
asof_in (Join tables asof) = asof
asof_in (Anti tables asof) = asof
asof_in (Agg aggregate asof) = asof
asof_in (Check table parts instant asof body) = asof
asof_in other = None

-- The change is made as it is meant, and the answer is its commit's number; or nothing changes.
abbrev pub Changes : Result History Fault → History → History → Result Answer Failure → Type 0
Changes meant old new (Ok given) = (meant ≡ Ok new) × (given ≡ answer.Committed (length new))
Changes meant old new (Err failure) = IsFailureOf meant failure × (new ≡ old)

-- A value is the command's answer, and so is a refusal. Refused memory says nothing.
abbrev pub Performs : History → ℕ → Meaning → Result Answer Failure → History → Type 0
Performs before number meaning (Ok given) after = IsAnswerTo before number meaning given after
Performs before number meaning (Err (Refused fault)) after =
    IsAnswerTo before number meaning (answer.Refused fault) after
Performs before number meaning (Err NoMemory) after = ⊤

-- The records of an answer were printed, and the refusals among them counted.
pub record PrintsAnswer (answer : Answer) (old new : List ℕ) (reported : ℕ) : Type 0 where
  pub records : List Record
  pub are : IsPrintedAs answer records
  pub printed : Adds old new records
  pub errors : reported ≡ errors_in records

-- The same for an answer that is there, with the bytes of another printer appended.
pub record PrintsBefore {E : Type 0} (given : Result Answer E) (old later new : List ℕ) (reported : ℕ)
    : Type 0 where
  pub answer : Answer
  pub is : given ≡ Ok answer
  pub near : List ℕ
  pub own : PrintsAnswer answer old near reported
  pub joined : new ≡ near ++ later

-- The outcomes of the queries before and after a block's load can be added up.
pub record CanBeJoined (first last : Outcome) : Type 0 where
  pub before : first.errors ≤ first.commands
  pub behind : last.errors ≤ last.commands
  pub fits : first.commands + last.commands + 1 < 2 ^ 64

-- The load's answer was printed, then the answers of another printer to the queries after the load. All commands and
-- refusals of the block were counted.
pub record PrintsBehind {E : Type 0} (queries : Result (Outcome × Outcome) E) (load : Result Answer E)
    (old later new : List ℕ) (reported : Outcome) : Type 0 where
  pub queried : Outcome × Outcome
  pub queries_are : queries ≡ Ok queried
  pub errors : ℕ
  pub few : errors ≤ 1
  pub printed : PrintsBefore load old later new errors
  pub commands : reported.commands ≡ queried.0.commands + queried.1.commands + 1
  pub refusals : reported.errors ≡ queried.0.errors + queried.1.errors + errors

-- A command was answered, the records of its answer printed, and the refusals among them counted.
pub record PrintsOne (before : History) (number : ℕ) (meaning : Meaning) (after : History) (old new : List ℕ)
    (reported : ℕ) : Type 0 where
  pub answer : List Record
  pub answers : AnswersOne before number meaning answer after
  pub printed : Adds old new answer
  pub errors : reported ≡ errors_in answer

-- Commands of a block were answered in order, whatever history the block's load leads to. Their answers were printed.
-- None of them is a load that may be done.
pub record PrintsQueries (before : History) (placed : List Placed) (old new : List ℕ) (reported : Outcome)
    : Type 0 where
  pub answers : List Record
  pub each : (after : History) → AnswersEach before after placed answers
  pub printed : Adds old new answers
  pub commands : reported.commands ≡ length placed
  pub errors : reported.errors ≡ errors_in answers

-- The same for the commands in a section of a block. `number` is the number of the first record.
pub record PrintsSection (before : History) (number : ℕ) (records : List Record) (old new : List ℕ)
    (reported : Outcome) : Type 0 where
  pub printed : (members : List Member) → AreMembers number records members
      → PrintsQueries before (placed_in true members) old new reported
  pub few : reported.errors ≤ reported.commands
  pub fewer : reported.commands ≤ length records

-- All commands of a block were answered in order, and their answers printed.
pub record PrintsBlock (before : History) (placed : List Placed) (after : History) (old new : List ℕ)
    (reported : Outcome) : Type 0 where
  pub answers : List Record
  pub block : AnswersBlock before placed answers after
  pub printed : Adds old new answers
  pub commands : reported.commands ≡ length placed
  pub errors : reported.errors ≡ errors_in answers

-- A command with the word `load` asks for a load, or is refused.
abbrev pub AsksLoad : Meaning → Type 0
AsksLoad (Load name body) = ⊤
AsksLoad (Refuse wrong) = ⊤
AsksLoad meaning = ⊥

-- The answer that an outcome stands for. A refusal is an answer too.
abbrev pub IsAnswerOf : Result Answer Failure → Answer → Type 0
IsAnswerOf (Ok given) reported = reported ≡ given
IsAnswerOf (Err (Refused wrong)) reported = reported ≡ answer.Refused wrong
IsAnswerOf (Err NoMemory) reported = ⊥

-- A statement's answer was printed, and its commands and refusals were counted.
pub record PrintsStatement (before : History) (number : ℕ) (statement : Statement) (after : History)
    (old new : List ℕ) (reported : Outcome) : Type 0 where
  pub answer : List Record
  pub answers : Answers before number statement answer after
  pub printed : Adds old new answer
  pub commands : reported.commands ≡ commands_in statement
  pub errors : reported.errors ≡ errors_in answer

-- The first statement takes the first `taken` records, and was answered. `number` is the number of the first record.
pub record PrintsNext (records : List Record) (number : ℕ) (before after : History) (old new : List ℕ)
    (reported : Outcome) (taken : ℕ) : Type 0 where
  pub some : 0 < taken
  pub within : taken ≤ length records
  pub statement : Statement
  pub states : States number (take taken records) (drop taken records) statement
  pub prints : PrintsStatement before number statement after old new reported
