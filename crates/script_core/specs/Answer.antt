-- The answer to a command or a block of commands, the records that it is printed as, and the history after it.
use Rattle.std.specs.Prelude.{ℕ, ◌+◌, ◌≡◌, List, Result, Ok, Err, [], ◌∷◌, ◌++◌, All, false, length, nat_le, nat_lt, if◌then◌else◌}
use Rattle.book_core.specs.History.{History}
use Rattle.book_core.specs.Versions.{AreBetween, AreFromTo, log_of}
use Rattle.version_core.specs.declared.version.Version.{Version}
use Rattle.cert_core.specs.Verdict.{IsVerdict}
use Rattle.cert_core.specs.declared.verdict.Certificate.{Certificate}
use Rattle.cert_core.specs.declared.verdict.Verdict.{Verdict}
use Rattle.dip_core.specs.Division.{IsDip}
use Rattle.dip_core.specs.declared.item.Item.{Item}
use Rattle.match_core.specs.Items.{items_of}
use Rattle.match_core.specs.Columns.{MatchesOn}
use Rattle.join_core.specs.Join.{IsJoin}
use Rattle.join_core.specs.declared.rows.JoinRow.{JoinRow}
use Rattle.anti_core.specs.Anti.{IsAnti}
use Rattle.anti_core.specs.declared.rows.AntiRow.{AntiRow}
use Rattle.agg_core.specs.Agg.{IsAgg, rows_on}
use Rattle.agg_core.specs.declared.rows.AggRow.{AggRow}
use Rattle.command_core.specs.Fields.{both_ok}
use Rattle.command_core.specs.Meaning.{Meaning, Refuse, Make, Load, Update, Delete, Rows, At, Between, FromTo, Dip, Join, Anti, Agg, Check, Log}
use Rattle.row_core.specs.Name.{NamePair}
use Rattle.command_core.specs.Records.{Record}
use Rattle.command_core.specs.Statement.{Placed, Statement, One, Together, is_load}
use Rattle.command_core.specs.declared.aggregate.Aggregate.{Aggregate}
use Rattle.command_core.specs.declared.refusal.Fault.{Fault}
use Rattle.answer_core.specs.PrintedRecords.{IsPrintedAs, together_record}
use Rattle.answer_core.specs.declared.answer.Answer.{Answer}
use Rattle.answer_core.specs.declared.answer.Answer.TheVariants as answer
use Rattle.script_core.specs.Effects.{TableRows, aggregated_or_fault, claim_of, delete_in, load_in, make_in, rows_or_fault, sides_or_fault, update_in, versions_or_fault}

-- The answer is the dip of the items.
pub record IsDipOf (items : List Item) (given : Answer) : Type 0 where
  pub parts : List (List Item)
  pub dip : IsDip items parts
  pub is : given ≡ answer.Division (length items) parts

-- The answer is the join of two tables' rows that are equal in each pair of columns.
pub record IsJoinOf (left right : TableRows) (on : List NamePair) (given : Answer) : Type 0 where
  pub rows : List JoinRow
  pub joined : IsJoin (MatchesOn left.0 right.0 on) left.1 right.1 rows
  pub is : given ≡ answer.Join (record { left = left.1; right = right.1; rows = rows })

-- The answer is the anti-join of two tables' rows: the left rows, with the periods in which no right row holds that is
-- equal in each pair of columns.
pub record IsAntiOf (left right : TableRows) (on : List NamePair) (given : Answer) : Type 0 where
  pub rows : List AntiRow
  pub unmatched : IsAnti (MatchesOn left.0 right.0 on) left.1 right.1 rows
  pub is : given ≡ answer.Anti (record { left = left.1; rows = rows })

-- The answer is the aggregate of each group of a table's rows.
pub record IsAggOf (table : TableRows) (asked : Aggregate) (given : Answer) : Type 0 where
  pub rows : List AggRow
  pub aggregated : IsAgg table.0 asked.func asked.by table.1 rows
  pub is : given ≡ answer.Agg rows

-- The answer is the versions that the query asks for.
pub record IsVersions (Are : List Version → Type 0) (given : Answer) : Type 0 where
  pub versions : List Version
  pub asked : Are versions
  pub is : given ≡ answer.Versions versions

-- The answer is the verdict on a claimed division of the items.
pub record IsVerdictOn (items : List Item) (claim : List (List ℕ)) (certificate : Certificate)
    (given : Answer) : Type 0 where
  pub verdict : Verdict
  pub applies : IsVerdict items claim certificate verdict
  pub is : given ≡ answer.Verdict verdict

-- The command is refused, and changes nothing.
abbrev pub Refuses : History → Fault → Answer → History → Type 0
Refuses before wrong given after = (given ≡ answer.Refused wrong) × (after ≡ before)

-- The answer to a change is the number of its commit, or its refusal.
abbrev pub AnswersChange : History → Result History Fault → Answer → History → Type 0
AnswersChange before (Ok next) given after = (given ≡ answer.Committed (length next)) × (after ≡ next)
AnswersChange before (Err wrong) given after = Refuses before wrong given after

-- The answer to a query is the result for the rows that it reads, or its refusal. A query changes nothing.
abbrev pub AnswersQuery : {S : Type 0} → History → Result S Fault → (S → Answer → Type 0) → Answer → History → Type 0
AnswersQuery before (Ok read) Is given after = Is read given × (after ≡ before)
AnswersQuery before (Err wrong) Is given after = Refuses before wrong given after

-- The answer to a command after a history, and the history after the command. `number` is the number of its first
-- record.
abbrev pub IsAnswerTo : History → ℕ → Meaning → Answer → History → Type 0
IsAnswerTo before number (Refuse wrong) = Refuses before wrong
IsAnswerTo before number (Make name columns) = AnswersChange before (make_in number before name columns)
IsAnswerTo before number (Load name body) = AnswersChange before (load_in number before name body)
IsAnswerTo before number (Update name portion sets conds) =
    AnswersChange before (update_in number before name portion sets conds)
IsAnswerTo before number (Delete name portion conds) = AnswersChange before (delete_in number before name portion conds)
IsAnswerTo before number (Rows name asof) =
    AnswersQuery before (rows_or_fault number before asof name) (λ rows given. given ≡ answer.Rows rows)
IsAnswerTo before number (At name point asof) =
    AnswersQuery before (rows_or_fault number before asof name) (λ rows given. given ≡ answer.Rows (rows_on point rows))
IsAnswerTo before number (Between name first last) =
    AnswersQuery before (versions_or_fault number before (nat_lt last first) name)
    (λ _. IsVersions (AreBetween before (length before) first last name))
IsAnswerTo before number (FromTo name first end) =
    AnswersQuery before (versions_or_fault number before (nat_le end first) name)
    (λ _. IsVersions (AreFromTo before (length before) first end name))
IsAnswerTo before number (Dip name asof) =
    AnswersQuery before (rows_or_fault number before asof name) (λ rows. IsDipOf (items_of rows))
IsAnswerTo before number (Join tables asof) =
    AnswersQuery before (sides_or_fault number before asof tables) (λ sides. IsJoinOf sides.0 sides.1 tables.on)
IsAnswerTo before number (Anti tables asof) =
    AnswersQuery before (sides_or_fault number before asof tables) (λ sides. IsAntiOf sides.0 sides.1 tables.on)
IsAnswerTo before number (Agg asked asof) =
    AnswersQuery before (aggregated_or_fault number before asof asked) (λ table. IsAggOf table asked)
IsAnswerTo before number (Check name parts instant asof body) =
    AnswersQuery before (both_ok (rows_or_fault number before asof name) (claim_of (number + 1) body))
    (λ read. IsVerdictOn (items_of read.0) read.1 (record { parts = parts; instant = instant }))
IsAnswerTo before number Log = λ given after. (given ≡ answer.Log (log_of before)) × (after ≡ before)

-- These records are the command's answer.
abbrev pub AnswersOne : History → ℕ → Meaning → List Record → History → Type 0
AnswersOne before number meaning records after =
    (given : Answer) × IsAnswerTo before number meaning given after × IsPrintedAs given records

-- These records answer the commands of a block, in order, each after the history at the block's beginning. Only a load
-- leads to the history after the block.
abbrev pub AnswersEach : History → History → List Placed → List Record → Type 0
AnswersEach before after [] records = records ≡ []
AnswersEach before after (command ∷ more) records =
    (own later : List Record) × (records ≡ own ++ later)
    × AnswersOne before command.number command.meaning own (if is_load command.meaning then after else before)
    × AnswersEach before after more later

-- These records answer all commands of a block. Without a load, the block changes nothing.
pub record AnswersBlock (before : History) (commands : List Placed) (answers : List Record) (after : History)
    : Type 0 where
  pub each : AnswersEach before after commands answers
  pub unloaded : All (λ command. is_load command.meaning ≡ false) commands → after ≡ before

-- The answer to a block is the number of the commit that its queries read, then the answers to its commands.
pub record AnswersTogether (before : History) (commands : List Placed) (records : List Record) (after : History)
    : Type 0 where
  pub answers : List Record
  pub block : AnswersBlock before commands answers after
  pub printed : records ≡ together_record (length before) ∷ answers

-- The answer to a statement after a history, and the history after the statement. `number` is the number of its first
-- record.
abbrev pub Answers : History → ℕ → Statement → List Record → History → Type 0
Answers before number (One meaning) = AnswersOne before number meaning
Answers before number (Together commands) = AnswersTogether before commands
