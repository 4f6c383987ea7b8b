-- The records that answers are printed as.
use Rattle.std.specs.Prelude.{◌≡◌, ℕ, ◌+◌, ℤ, List, [], ◌∷◌, ◌++◌, Option, Some, None, codes, count_by, decimal, length, map}
use Rattle.std.specs.Fmt.{signed_decimal}
use Rattle.period_core.specs.Point.{point_text}
use Rattle.row_core.specs.declared.row.Row.{Row}
use Rattle.row_core.specs.declared.value.Value.{Value}
use Rattle.row_core.specs.declared.value.Value.TheVariants.{Int, Text}
use Rattle.book_core.specs.Words.{word_of}
use Rattle.book_core.specs.declared.log.Entry.{Entry}
use Rattle.version_core.specs.declared.version.Version.{Version}
use Rattle.cert_core.specs.declared.verdict.Verdict.{Verdict}
use Rattle.cert_core.specs.declared.verdict.Verdict.TheVariants.{WrongCount, EmptyPart, Unknown, Twice, Missing, Overlap, NotCrowded, Yes}
use Rattle.dip_core.specs.Division.{IsInstantOf}
use Rattle.dip_core.specs.declared.item.Item.{Item}
use Rattle.join_core.specs.declared.rows.JoinRow.{JoinRow}
use Rattle.anti_core.specs.declared.rows.AntiRow.{AntiRow}
use Rattle.agg_core.specs.declared.rows.AggRow.{AggRow}
use Rattle.command_core.specs.Records.{Record}
use Rattle.command_core.specs.Refusal.{refusal_text}
use Rattle.command_core.specs.Words.{begins}
use Rattle.command_core.specs.declared.refusal.Fault.{Fault}
use Rattle.answer_core.specs.JoinedRows.{JoinedRows, values_with}
use Rattle.answer_core.specs.UnmatchedRows.{UnmatchedRows}
use Rattle.answer_core.specs.declared.answer.Answer.{Answer}
use Rattle.answer_core.specs.declared.answer.Answer.TheVariants as answer

-- A refusal: the number of the refused record, and the refusal's name.
abbrev pub error_record : Fault → Record
error_record wrong = codes "error" ∷ decimal wrong.number ∷ refusal_text wrong.refusal ∷ []

-- The commit of an accepted change.
abbrev pub ok_record : ℕ → Record
ok_record commit = codes "ok" ∷ decimal commit ∷ []

-- The beginning of a block of commands: the commit that its queries read.
abbrev pub together_record : ℕ → Record
together_record commit = codes "together" ∷ decimal commit ∷ []

-- The end of a list of `count` records.
abbrev pub end_record : ℕ → Record
end_record count = codes "end" ∷ decimal count ∷ []

-- ---- rows and versions

-- A value: a number in decimal, a text as it was read.
abbrev pub value_text : Value → List ℕ
value_text (Int number) = signed_decimal number
value_text (Text bytes) = bytes

-- A row: its id, its period and its values.
abbrev pub row_record : Row → Record
row_record row =
    codes "row" ∷ decimal row.id ∷ point_text row.period.from ∷ point_text row.period.to ∷ map value_text row.values

-- One record for each row, then their number.
abbrev pub row_records : List Row → List Record
row_records rows = map row_record rows ++ end_record (length rows) ∷ []

-- The end of a system period, `-` if it is open.
abbrev pub end_text : Option ℕ → List ℕ
end_text None = codes "-"
end_text (Some commit) = decimal commit

-- A version: its row's id and period, its system period, and the row's values.
abbrev pub version_record : Version → Record
version_record v =
    codes "version" ∷ decimal v.row.id ∷ point_text v.row.period.from ∷ point_text v.row.period.to
    ∷ decimal v.sysfrom ∷ end_text v.systo ∷ map value_text v.row.values

-- One record for each version, then their number.
abbrev pub version_records : List Version → List Record
version_records versions = map version_record versions ++ end_record (length versions) ∷ []

-- A joined pair: the period that its rows share, and their ids.
abbrev pub join_front : JoinRow → Record
join_front row =
    codes "row" ∷ point_text row.period.from ∷ point_text row.period.to ∷ decimal row.left ∷ decimal row.right ∷ []

-- A joined pair, with the values of both rows.
abbrev pub join_record : List Row → List Row → JoinRow → Record
join_record left right row =
    join_front row
    ++ (map value_text (values_with left row.left) ++ map value_text (values_with right row.right))

-- One record for each joined pair, then their number.
abbrev pub join_records : JoinedRows → List Record
join_records joined = map (join_record joined.left joined.right) joined.rows ++ end_record (length joined.rows) ∷ []

-- A left row without a match: its id, the period without a match, and the row's values.
abbrev pub anti_record : List Row → AntiRow → Record
anti_record left row =
    codes "row" ∷ decimal row.id ∷ point_text row.period.from ∷ point_text row.period.to
    ∷ map value_text (values_with left row.id)

-- One record for each left row and period without a match, then their number.
abbrev pub anti_records : UnmatchedRows → List Record
anti_records unmatched = map (anti_record unmatched.left) unmatched.rows ++ end_record (length unmatched.rows) ∷ []

-- ---- aggregates

-- The value of a group; no field if all rows are one group.
abbrev pub group_fields : Option Value → Record
group_fields None = []
group_fields (Some value) = value_text value ∷ []

-- A group's aggregate: the group, a period, and the value at each instant of the period.
abbrev pub agg_record : AggRow → Record
agg_record row =
    codes "row"
    ∷ (group_fields row.group
    ++ point_text row.period.from ∷ point_text row.period.to ∷ signed_decimal row.value ∷ [])

-- One record for each group and period, then their number.
abbrev pub agg_records : List AggRow → List Record
agg_records rows = map agg_record rows ++ end_record (length rows) ∷ []

-- ---- the log

-- A commit: its number, who made it, the kind of change, its table, and how many versions it added and closed.
abbrev pub commit_record : Entry → Record
commit_record e =
    codes "commit" ∷ decimal e.number ∷ decimal e.by ∷ word_of e.kind ∷ e.table ∷ decimal e.added
    ∷ decimal e.closed ∷ []

-- One record for each commit, then their number.
abbrev pub commit_records : List Entry → List Record
commit_records entries = map commit_record entries ++ end_record (length entries) ∷ []

-- ---- divisions

-- An instant, or `-` for none.
abbrev pub instant_text : Option ℤ → List ℕ
instant_text None = codes "-"
instant_text (Some instant) = point_text instant

-- The size of a division: the numbers of its rows and parts, and its instant.
abbrev pub dip_record : ℕ → ℕ → Option ℤ → Record
dip_record rows parts instant = codes "dip" ∷ decimal rows ∷ decimal parts ∷ instant_text instant ∷ []

-- A part: its number, and the ids of its items.
abbrev pub part_record : ℕ → List Item → Record
part_record k part = codes "part" ∷ decimal k ∷ map (λ item. decimal item.id) part

-- One record for each part, numbered from `k` on.
abbrev pub part_records : ℕ → List (List Item) → List Record
part_records k [] = []
part_records k (part ∷ parts) = part_record k part ∷ part_records (k + 1) parts

-- The size of a division of `rows` rows, and its parts.
abbrev pub division_records : ℕ → List (List Item) → Option ℤ → List Record
division_records rows parts instant = dip_record rows (length parts) instant ∷ part_records 0 parts

-- A verdict: `yes`, or `no` with its name and its numbers.
abbrev pub verdict_record : Verdict → Record
verdict_record (WrongCount n) = codes "no" ∷ codes "WrongCount" ∷ decimal n ∷ []
verdict_record (EmptyPart k) = codes "no" ∷ codes "EmptyPart" ∷ decimal k ∷ []
verdict_record (Unknown id) = codes "no" ∷ codes "Unknown" ∷ decimal id ∷ []
verdict_record (Twice id) = codes "no" ∷ codes "Twice" ∷ decimal id ∷ []
verdict_record (Missing id) = codes "no" ∷ codes "Missing" ∷ decimal id ∷ []
verdict_record (Overlap a b) = codes "no" ∷ codes "Overlap" ∷ decimal a ∷ decimal b ∷ []
verdict_record (NotCrowded n) = codes "no" ∷ codes "NotCrowded" ∷ decimal n ∷ []
verdict_record Yes = codes "yes" ∷ []

-- ---- answers

-- The records of an answer. A division's records include its instant.
abbrev pub IsPrintedAs : Answer → List Record → Type 0
IsPrintedAs (answer.Refused fault) records = records ≡ error_record fault ∷ []
IsPrintedAs (answer.Committed commit) records = records ≡ ok_record commit ∷ []
IsPrintedAs (answer.Rows rows) records = records ≡ row_records rows
IsPrintedAs (answer.Versions versions) records = records ≡ version_records versions
IsPrintedAs (answer.Division rows parts) records =
    (instant : Option ℤ) × IsInstantOf parts instant × (records ≡ division_records rows parts instant)
IsPrintedAs (answer.Join joined) records = records ≡ join_records joined
IsPrintedAs (answer.Anti unmatched) records = records ≡ anti_records unmatched
IsPrintedAs (answer.Agg rows) records = records ≡ agg_records rows
IsPrintedAs (answer.Verdict verdict) records = records ≡ verdict_record verdict ∷ []
IsPrintedAs (answer.Log entries) records = records ≡ commit_records entries

-- How many records are refusals.
abbrev pub errors_in : List Record → ℕ
errors_in records = count_by (begins (codes "error")) records
