-- Answers, printed record by record.
use Rattle.std.proofs.Common.{◌≡◌, ℕ, zero, suc, ◌+◌, ◌<◌, ◌≤◌, ℤ, drop, take, min, unwrap_or, length-take, List, [], ◌∷◌, ◌++◌, Option, Some, false, length, refl, sym, ap, ◌∙◌, arith, append_assoc, append-nil, cond, map}
use Rattle.std.specs.Prelude.{codes, get_or, option_map, slice_get}
use Rattle.std.proofs.lemmas.List.Concat.{flat_map-append}
use Rattle.std.proofs.lemmas.List.Sums.{sum_by-cons}
use Rattle.std.proofs.lemmas.List.{drop-append-le, length-map}
use Rattle.std.proofs.lemmas.Option.{get_or_from_slice_get, slice_get-get_or, slice_get-map}
use Rattle.csv.specs.Writing.{row_text}
use Rattle.work_core.proofs.PieceLemmas.{piece-between}
use Rattle.work_core.specs.Pieces.{items_within}
use Rattle.work_core.specs.declared.range.Range.{Range}
use Rattle.row_core.specs.declared.row.Row.{Row}
use Rattle.table_core.proofs.PlaceLemmas.{take-one_more}
use Rattle.book_core.specs.declared.log.Entry.{Entry}
use Rattle.version_core.specs.declared.version.Version.{Version}
use Rattle.cert_core.specs.declared.verdict.Verdict.{Verdict}
use Rattle.cert_core.specs.declared.verdict.Verdict.TheVariants.{WrongCount, EmptyPart, Unknown, Twice, Missing, Overlap, NotCrowded, Yes}
use Rattle.dip_core.specs.Division.{part_at}
use Rattle.dip_core.specs.declared.item.Item.{Item}
use Rattle.command_core.specs.declared.refusal.Fault.{Fault}
use Rattle.agg_core.specs.declared.rows.AggRow.{AggRow}
use Rattle.answer_core.specs.JoinedRows.{JoinedRows}
use Rattle.answer_core.specs.UnmatchedRows.{UnmatchedRows}
use Rattle.answer_core.specs.PrintedRecords.{IsPrintedAs, agg_record, agg_records, anti_record, anti_records, commit_record, commit_records, dip_record, end_record, errors_in, join_record, join_records, part_record, part_records, row_record, row_records, verdict_record, version_record, version_records}
use Rattle.answer_core.specs.Unwritten.{Adds}
use Rattle.answer_core.specs.declared.answer.Answer.{Answer}
use Rattle.answer_core.specs.declared.answer.Answer.TheVariants as answer
use Rattle.command_core.specs.Records.{Record}
use Rattle.answer_core.specs.RecordBytes.{answer_writer, bytes_of}
use Rattle.command_core.specs.Words.{begins}

-- Some records, and then some more.
pub Adds-trans : (a b c : List ℕ) (xs ys : List Record) → Adds a b xs → Adds b c ys → Adds a c (xs ++ ys)
Adds-trans a b c xs ys first second =
    let all : bytes_of (xs ++ ys) ≡ bytes_of xs ++ bytes_of ys = flat_map-append (row_text answer_writer) xs ys in
    second ∙ ap (λ t. t ++ bytes_of ys) first
    ∙ (append_assoc a (bytes_of xs) (bytes_of ys) ∙ ap (λ t. a ++ t) (sym all))

-- There is one record for each part.
pub length-part_records : (k : ℕ) (parts : List (List Item)) → length (part_records k parts) ≡ length parts
length-part_records k [] = refl
length-part_records k (part ∷ parts) = ap suc (length-part_records (k + 1) parts)

-- The record of the part at index `i`.
part_records-at : (k : ℕ) (parts : List (List Item)) (i : ℕ) → i < length parts
    → get_or (part_records k parts) i [] ≡ part_record (k + i) (part_at parts i)
part_records-at k [] i within = absurd (omega (arith, within))
part_records-at k (part ∷ parts) zero within =
    let same : k ≡ k + 0 = omega arith in ap (λ n. part_record n part) same
part_records-at k (part ∷ parts) (suc i) within =
    let same : k + 1 + i ≡ k + suc i = omega arith in
    part_records-at (k + 1) parts i (omega (arith, within)) ∙ ap (λ n. part_record n (part_at parts i)) same

-- No part's record is a refusal.
errors_in-part_records : (k : ℕ) (parts : List (List Item)) → errors_in (part_records k parts) ≡ 0
errors_in-part_records k [] = refl
errors_in-part_records k (c ∷ cs) =
    omega (
      arith,
      sum_by-cons (λ (line : Record). cond (begins (codes "error") line) 1 0) (part_record k c)
          (part_records (k + 1) cs),
      errors_in-part_records (k + 1) cs,
    )

errors_in-division : (rows : ℕ) (parts : List (List Item)) (instant : Option ℤ)
    → errors_in (dip_record rows (length parts) instant ∷ part_records 0 parts) ≡ 0
errors_in-division rows parts instant =
    omega (
      arith,
      sum_by-cons (λ (line : Record). cond (begins (codes "error") line) 1 0)
          (dip_record rows (length parts) instant) (part_records 0 parts),
      errors_in-part_records 0 parts,
    )

-- The record at an item's index is the item's.
pub record_at-map : {T : Type 0} (record_of : T → Record) (xs : List T) (i : ℕ) (x : T) → slice_get xs i ≡ Some x
    → get_or (map record_of xs) i [] ≡ record_of x
record_at-map record_of xs i x is =
    get_or_from_slice_get (map record_of xs) i (record_of x) []
    (slice_get-map record_of xs i ∙ ap (option_map record_of) is)

-- The same for an item that is read at its index.
pub record_at-read : {T : Type 0} (record_of : T → Record) (xs : List T) (i : ℕ) (d : T) → i < length (map record_of xs)
    → get_or (map record_of xs) i [] ≡ record_of (get_or xs i d)
record_at-read record_of xs i d within =
    let inside : i < length xs = omega (arith, within, length-map xs record_of) in
    record_at-map record_of xs i (get_or xs i d) (slice_get-get_or xs i d inside)

-- The bytes of the records from index `from` on, and of one more.
pub bytes-next : (a b c : List ℕ) (records : List Record) (from k : ℕ)
    → from ≤ k → k < length records
    → b ≡ a ++ bytes_of (drop from (take k records))
    → c ≡ b ++ row_text answer_writer (get_or records k [])
    → c ≡ a ++ bytes_of (drop from (take (k + 1) records))
bytes-next a b c records from k le within first second =
    let front = drop from (take k records) in
    let line = get_or records k [] in
    let is : slice_get records k ≡ Some line = slice_get-get_or records k [] within in
    let enough : from ≤ length (take k records) = omega (arith, le, within, length-take k records) in
    let all : drop from (take (k + 1) records) ≡ front ++ line ∷ [] =
    ap (drop from) (sym (take-one_more records k line is)) ∙ drop-append-le from (take k records) (line ∷ []) enough in
    second
    ∙ (ap (λ t. t ++ row_text answer_writer line) first
    ∙ (append_assoc a (bytes_of front) (row_text answer_writer line)
    ∙ ap (λ t. a ++ t)
    (ap (λ t. bytes_of front ++ t) (sym (append-nil (row_text answer_writer line)))
    ∙ (sym (flat_map-append (row_text answer_writer) front (line ∷ []))
    ∙ ap bytes_of (sym all)))))

-- A part's record is at the part's index.
pub part_record-at : (parts : List (List Item)) (k : ℕ) (items : List Item)
    → k < length parts → items ≡ part_at parts k
    → get_or (part_records 0 parts) k [] ≡ part_record k items
part_record-at parts k items lt is =
    let same : 0 + k ≡ k = omega arith in
    part_records-at 0 parts k lt ∙ ap (λ n. part_record n (part_at parts k)) same ∙ ap (part_record k) (sym is)

-- The bytes of the records of a range.
pub bytes-piece : (a b : List ℕ) (records : List Record) (places : Range ℕ) (start end : ℕ)
    → b ≡ a ++ bytes_of (drop start (take end records))
    → end ≡ min (unwrap_or places.before (length records)) (length records)
    → start ≡ min (unwrap_or places.from 0) end
    → b ≡ a ++ bytes_of (items_within places records)
bytes-piece a b records places start end all before from =
    all ∙ ap (λ some. a ++ bytes_of some) (sym (piece-between places start end records before from))

-- A list of records without refusals, and its end.
errors_in-list : {T : Type 0} (record_of : T → Record) → ((x : T) → begins (codes "error") (record_of x) ≡ false)
    → (xs : List T) (count : ℕ)
    → errors_in (map record_of xs ++ end_record count ∷ []) ≡ 0
errors_in-list record_of quiet [] count = refl
errors_in-list record_of quiet (x ∷ xs) count =
    omega (
      arith,
      sum_by-cons (λ (line : Record). cond (begins (codes "error") line) 1 0) (record_of x)
          (map record_of xs ++ end_record count ∷ []),
      ap {B = ℕ} (λ b. cond b 1 0) (quiet x),
      errors_in-list record_of quiet xs count,
    )

errors_in-row_records : (rows : List Row) → errors_in (row_records rows) ≡ 0
errors_in-row_records rows = errors_in-list row_record (λ row. refl) rows (length rows)

errors_in-version_records : (versions : List Version) → errors_in (version_records versions) ≡ 0
errors_in-version_records versions = errors_in-list version_record (λ v. refl) versions (length versions)

errors_in-join_records : (joined : JoinedRows) → errors_in (join_records joined) ≡ 0
errors_in-join_records joined =
    errors_in-list (join_record joined.left joined.right) (λ row. refl) joined.rows (length joined.rows)

errors_in-anti_records : (unmatched : UnmatchedRows) → errors_in (anti_records unmatched) ≡ 0
errors_in-anti_records unmatched =
    errors_in-list (anti_record unmatched.left) (λ row. refl) unmatched.rows (length unmatched.rows)

errors_in-agg_records : (rows : List AggRow) → errors_in (agg_records rows) ≡ 0
errors_in-agg_records rows = errors_in-list agg_record (λ row. refl) rows (length rows)

errors_in-commit_records : (entries : List Entry) → errors_in (commit_records entries) ≡ 0
errors_in-commit_records entries = errors_in-list commit_record (λ e. refl) entries (length entries)

-- A verdict isn't a refusal.
errors_in-verdict : (v : Verdict) → errors_in (verdict_record v ∷ []) ≡ 0
errors_in-verdict (WrongCount n) = refl
errors_in-verdict (EmptyPart k) = refl
errors_in-verdict (Unknown id) = refl
errors_in-verdict (Twice id) = refl
errors_in-verdict (Missing id) = refl
errors_in-verdict (Overlap a b) = refl
errors_in-verdict (NotCrowded n) = refl
errors_in-verdict Yes = refl

-- Only the answer `Refused` has a refusal among its records.
pub errors_in-printed : (given : Answer) → ((fault : Fault) → given ≡ answer.Refused fault → ⊥)
    → (records : List Record) → IsPrintedAs given records → errors_in records ≡ 0
errors_in-printed (answer.Refused fault) other records is = absurd (other fault refl)
errors_in-printed (answer.Committed commit) other records is = ap errors_in is
errors_in-printed (answer.Rows rows) other records is = ap errors_in is ∙ errors_in-row_records rows
errors_in-printed (answer.Versions versions) other records is = ap errors_in is ∙ errors_in-version_records versions
errors_in-printed (answer.Division rows parts) other records (instant, of, is) =
    ap errors_in is ∙ errors_in-division rows parts instant
errors_in-printed (answer.Join joined) other records is = ap errors_in is ∙ errors_in-join_records joined
errors_in-printed (answer.Anti unmatched) other records is = ap errors_in is ∙ errors_in-anti_records unmatched
errors_in-printed (answer.Agg rows) other records is = ap errors_in is ∙ errors_in-agg_records rows
errors_in-printed (answer.Verdict verdict) other records is = ap errors_in is ∙ errors_in-verdict verdict
errors_in-printed (answer.Log entries) other records is = ap errors_in is ∙ errors_in-commit_records entries
