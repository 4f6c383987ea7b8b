-- A command has an answer.
use Rattle.std.proofs.Common.{◌≡◌, ℕ, ◌+◌, List, [], ◌∷◌, ◌++◌, Option, Some, None, Result, Ok, Err, length, refl}
use Rattle.std.specs.Prelude.{IfOk, nat_le, nat_lt, option_map}
use Rattle.row_core.specs.Refusals.{and_then, refused_or}
use Rattle.book_core.specs.History.{History, IsLegal, state_after}
use Rattle.book_core.specs.History as history
use Rattle.book_core.specs.State.{refusal_of}
use Rattle.book_core.specs.Versions.{AreBetween, AreFromTo, log_of}
use Rattle.book_core.specs.declared.refusal.BookRefused.{BookRefused}
use Rattle.book_core.specs.declared.change.Change.{Change}
use Rattle.version_core.specs.declared.version.Version.{Version}
use Rattle.book_core.specs.declared.change.Change.TheVariants as change
use Rattle.book_core.proofs.Applying.{IsLegal-push}
use Rattle.book_core.proofs.VersionsExistence.{some_between, some_from_to}
use Rattle.row_core.specs.declared.row.Row.{Row}
use Rattle.dip_core.specs.declared.item.Item.{Item}
use Rattle.dip_core.specs.Item as item
use Rattle.dip_core.proofs.DipExistence.{some_dip, some_instant}
use Rattle.dip_core.proofs.IdsLemmas.{HasDistinctIds-from_rising}
use Rattle.cert_core.specs.declared.verdict.Certificate.{Certificate}
use Rattle.cert_core.proofs.VerdictExistence.{some_verdict}
use Rattle.match_core.specs.Items.{items_of}
use Rattle.match_core.proofs.ItemIds.{IdsRise-items_of}
use Rattle.join_core.proofs.JoinExistence.{some_join}
use Rattle.anti_core.proofs.AntiExistence.{some_anti}
use Rattle.agg_core.proofs.AggExistence.{some_aggregate}
use Rattle.command_core.specs.Fields.{both_ok}
use Rattle.command_core.specs.Meaning.{Meaning, Refuse, Make, Load, Update, Delete, Rows, At, Between, FromTo, Dip, Join, Anti, Agg, Check, Log}
use Rattle.row_core.specs.Name.{NamePair}
use Rattle.command_core.specs.Records.{Record}
use Rattle.command_core.specs.Refusal.{fault}
use Rattle.command_core.specs.declared.aggregate.Aggregate.{Aggregate}
use Rattle.command_core.specs.declared.refusal.Fault.{Fault}
use Rattle.answer_core.specs.JoinedRows.{JoinedRows}
use Rattle.answer_core.specs.UnmatchedRows.{UnmatchedRows}
use Rattle.answer_core.specs.PrintedRecords.{IsPrintedAs, agg_records, anti_records, commit_records, division_records, error_record, join_records, ok_record, row_records, verdict_record, version_records}
use Rattle.answer_core.specs.declared.answer.Answer.{Answer}
use Rattle.answer_core.specs.declared.answer.Answer.TheVariants as answer
use Rattle.script_core.specs.Answer.{AnswersOne, AnswersChange, AnswersQuery, IsAggOf, IsAnswerTo, IsAntiOf, IsDipOf, IsJoinOf, IsVerdictOn, IsVersions, Refuses}
use Rattle.script_core.specs.Refusal.{book_refusal}
use Rattle.agg_core.specs.Agg.{rows_on}
use Rattle.script_core.specs.Effects.{TableRows, aggregated_or_fault, change_in, claim_of, columns_or_fault, delete_in, load_in, load_or_fault, make_in, pairs_or_fault, rows_or_fault, sides_or_fault, update_in, versions_or_fault}
use Rattle.script_core.proofs.AnswerUniqueness.{both_ok-first, not_Ok, rise-reported}

-- ---- an accepted change keeps the history legal

legal-one : (number : ℕ) (h : History) (c : Change) → IsLegal h → IfOk (change_in number h c) IsLegal
legal-one number h c legal = by_refusal (refusal_of (length h) (state_after h) c) refl where
  by_refusal : (refusal : Option BookRefused) → refusal_of (length h) (state_after h) c ≡ refusal
      → IfOk (refused_or (option_map (λ refused. fault number (book_refusal refused)) refusal)
      (h ++ record { by = 1; change = c } ∷ [])) IsLegal
  by_refusal None accepted = IsLegal-push h (record { by = 1; change = c }) legal accepted
  by_refusal (Some why) refused = tt

-- If each history that may follow is legal, so is the one that follows.
legal-then : {T : Type 0} (r : Result T Fault) (follow : T → Result History Fault)
    → ((x : T) → IfOk (follow x) IsLegal) → IfOk (and_then r follow) IsLegal
legal-then (Ok x) follow each = each x
legal-then (Err wrong) follow each = tt

-- ---- answers

-- An answer, and its records.
pub record Reported (Is : Answer → Type 0) : Type 0 where
  pub given : Answer
  pub is : Is given
  pub records : List Record
  pub printed : IsPrintedAs given records

-- The answer to a command and its records, and the legal history after it.
pub record Reply (Is : Answer → History → Type 0) : Type 0 where
  pub after : History
  pub reported : Reported (λ given. Is given after)
  pub legal : IsLegal after

refusal_reported : (before : History) (wrong : Fault) → Reported (λ given. Refuses before wrong given before)
refusal_reported before wrong =
    record { given = answer.Refused wrong; is = (refl, refl); records = error_record wrong ∷ []; printed = refl }

some_change : (before : History) (made : Result History Fault) → IsLegal before → IfOk made IsLegal
    → Reply (AnswersChange before made)
some_change before (Ok next) legal then = record {
  after = next;
  reported = record {
    given = answer.Committed (length next);
    is = (refl, refl);
    records = ok_record (length next) ∷ [];
    printed = refl;
  };
  legal = then;
}
some_change before (Err wrong) legal then = record { after = before; reported = refusal_reported before wrong; legal = legal }

some_query : {S : Type 0} (before : History) (read : Result S Fault) (Is : S → Answer → Type 0) → IsLegal before
    → ((s : S) → read ≡ Ok s → Reported (Is s)) → Reply (AnswersQuery before read Is)
some_query before (Ok s) Is legal each =
    let reported = each s refl in
    record {
      after = before;
      reported = record { given = reported.given; is = (reported.is, refl); records = reported.records; printed = reported.printed };
      legal = legal;
    }
some_query before (Err wrong) Is legal each =
    record { after = before; reported = refusal_reported before wrong; legal = legal }

rows_answer : (rows : List Row) → Reported (λ given. given ≡ answer.Rows rows)
rows_answer rows = record { given = answer.Rows rows; is = refl; records = row_records rows; printed = refl }

versions_answer : (Are : List Version → Type 0) → (versions : List Version) × Are versions → Reported (IsVersions Are)
versions_answer Are (versions, are) = record {
  given = answer.Versions versions;
  is = record { versions = versions; asked = are; is = refl };
  records = version_records versions;
  printed = refl;
}

some_dip_answer : (items : List Item) → item.IdsRise items → Reported (IsDipOf items)
some_dip_answer items rise =
    let (parts, dip) = some_dip items (HasDistinctIds-from_rising items rise) in
    let (instant, at) = some_instant items parts dip.divided in
    record {
      given = answer.Division (length items) parts;
      is = record { parts = parts; dip = dip; is = refl };
      records = division_records (length items) parts instant;
      printed = (instant, at, refl);
    }

some_join_answer : (left right : TableRows) (on : List NamePair) → Reported (IsJoinOf left right on)
some_join_answer left right on =
    let (rows, joined) = some_join left.0 right.0 on left.1 right.1 in
    let found : JoinedRows = record { left = left.1; right = right.1; rows = rows } in
    record {
      given = answer.Join found;
      is = record { rows = rows; joined = joined; is = refl };
      records = join_records found;
      printed = refl;
    }

some_anti_answer : (left right : TableRows) (on : List NamePair) → Reported (IsAntiOf left right on)
some_anti_answer left right on =
    let (rows, unmatched) = some_anti left.0 right.0 on left.1 right.1 in
    let found : UnmatchedRows = record { left = left.1; rows = rows } in
    record {
      given = answer.Anti found;
      is = record { rows = rows; unmatched = unmatched; is = refl };
      records = anti_records found;
      printed = refl;
    }

some_agg_answer : (table : TableRows) (asked : Aggregate) → Reported (IsAggOf table asked)
some_agg_answer table asked =
    let (rows, aggregated) = some_aggregate table.0 asked.func asked.by table.1 in
    record {
      given = answer.Agg rows;
      is = record { rows = rows; aggregated = aggregated; is = refl };
      records = agg_records rows;
      printed = refl;
    }

some_verdict_answer : (items : List Item) (claim : List (List ℕ)) (certificate : Certificate) → item.IdsRise items
    → Reported (IsVerdictOn items claim certificate)
some_verdict_answer items claim certificate rise =
    let (verdict, applies) = some_verdict items claim certificate rise in
    record {
      given = answer.Verdict verdict;
      is = record { verdict = verdict; applies = applies; is = refl };
      records = verdict_record verdict ∷ [];
      printed = refl;
    }

-- Without a refusal, none applied.
not_refused : {T E : Type 0} (refusal : Option E) (x y : T) → refused_or refusal x ≡ Ok y → refusal ≡ None
not_refused None x y e = refl
not_refused (Some why) x y e = absurd (not_Ok y why e)

none_mapped : {E F : Type 0} (f : E → F) (refusal : Option E) → option_map f refusal ≡ None → refusal ≡ None
none_mapped f None e = refl
none_mapped f (Some why) e = cc e

pub some_reply : (before : History) (number : ℕ) (meaning : Meaning) → IsLegal before
    → Reply (IsAnswerTo before number meaning)
some_reply before number (Refuse wrong) legal =
    record { after = before; reported = refusal_reported before wrong; legal = legal }
some_reply before number (Make name columns) legal =
    some_change before (make_in number before name columns) legal
    (legal-one number before (change.Make name columns) legal)
some_reply before number (Load name body) legal =
    some_change before (load_in number before name body) legal
    (legal-then (load_or_fault number before name body) _ (λ rows.
    legal-one number before (change.Load name rows) legal))
some_reply before number (Update name portion sets conds) legal =
    some_change before (update_in number before name portion sets conds) legal
    (legal-then (columns_or_fault number before name) _ (λ columns.
    legal-then (pairs_or_fault number columns sets) _ (λ settings.
    legal-then (pairs_or_fault number columns conds) _ (λ conditions.
    legal-one number before (change.Update name portion settings conditions) legal))))
some_reply before number (Delete name portion conds) legal =
    some_change before (delete_in number before name portion conds) legal
    (legal-then (columns_or_fault number before name) _ (λ columns.
    legal-then (pairs_or_fault number columns conds) _ (λ conditions.
    legal-one number before (change.Delete name portion conditions) legal)))
some_reply before number (Rows name asof) legal =
    some_query before (rows_or_fault number before asof name) (λ rows given. given ≡ answer.Rows rows) legal
    (λ rows read. rows_answer rows)
some_reply before number (At name point asof) legal =
    some_query before (rows_or_fault number before asof name) (λ rows given. given ≡ answer.Rows (rows_on point rows)) legal
    (λ rows read. rows_answer (rows_on point rows))
some_reply before number (Between name first last) legal =
    let Are = AreBetween before (length before) first last name in
    let refusal = history.between_refusal before (length before) (nat_lt last first) name in
    some_query before (versions_or_fault number before (nat_lt last first) name) (λ _. IsVersions Are) legal
    (λ s read. versions_answer Are
    (some_between before (length before) first last name legal (none_mapped _ refusal (not_refused _ tt s read))))
some_reply before number (FromTo name first end) legal =
    let Are = AreFromTo before (length before) first end name in
    let refusal = history.between_refusal before (length before) (nat_le end first) name in
    some_query before (versions_or_fault number before (nat_le end first) name) (λ _. IsVersions Are) legal
    (λ s read. versions_answer Are
    (some_from_to before (length before) first end name legal (none_mapped _ refusal (not_refused _ tt s read))))
some_reply before number (Dip name asof) legal =
    some_query before (rows_or_fault number before asof name) (λ rows. IsDipOf (items_of rows)) legal
    (λ rows read. some_dip_answer (items_of rows)
    (IdsRise-items_of rows (rise-reported number before asof name rows read)))
some_reply before number (Join tables asof) legal =
    some_query before (sides_or_fault number before asof tables) (λ sides. IsJoinOf sides.0 sides.1 tables.on) legal
    (λ sides read. some_join_answer sides.0 sides.1 tables.on)
some_reply before number (Anti tables asof) legal =
    some_query before (sides_or_fault number before asof tables) (λ sides. IsAntiOf sides.0 sides.1 tables.on) legal
    (λ sides read. some_anti_answer sides.0 sides.1 tables.on)
some_reply before number (Agg asked asof) legal =
    some_query before (aggregated_or_fault number before asof asked) (λ table. IsAggOf table asked) legal
    (λ table read. some_agg_answer table asked)
some_reply before number (Check name parts instant asof body) legal =
    let reported = rows_or_fault number before asof name in
    let claimed = claim_of (number + 1) body in
    let certificate : Certificate = record { parts = parts; instant = instant } in
    some_query before (both_ok reported claimed) (λ read. IsVerdictOn (items_of read.0) read.1 certificate) legal
    (λ read e. some_verdict_answer (items_of read.0) read.1 certificate
    (IdsRise-items_of read.0 (rise-reported number before asof name read.0 (both_ok-first reported claimed read.0 read.1 e))))
some_reply before number Log legal = record {
  after = before;
  reported = record {
    given = answer.Log (log_of before);
    is = (refl, refl);
    records = commit_records (log_of before);
    printed = refl;
  };
  legal = legal;
}

pub answers_by : (before : History) (number : ℕ) (meaning : Meaning) (reply : Reply (IsAnswerTo before number meaning))
    → AnswersOne before number meaning reply.reported.records reply.after
answers_by before number meaning reply = (reply.reported.given, reply.reported.is, reply.reported.printed)
