-- A command has only one answer.
use Rattle.std.proofs.Common.{◌≡◌, ℕ, ◌+◌, List, Option, Some, None, Result, Ok, Err, length, refl, sym, ap, ◌∙◌, subst}
use Rattle.std.specs.Prelude.{nat_le, nat_lt, unwrap_or}
use Rattle.row_core.specs.Refusals.{map_err, refused_or}
use Rattle.row_core.specs.Rows.{RowsRise}
use Rattle.row_core.specs.declared.row.Row.{Row}
use Rattle.book_core.specs.History.{History, rows_at}
use Rattle.book_core.specs.Versions.{AreBetween, AreFromTo}
use Rattle.version_core.specs.declared.version.Version.{Version}
use Rattle.book_core.proofs.VersionsUniqueness.{one_list}
use Rattle.book_core.proofs.RiseLemmas.{RowsRise-rows_at}
use Rattle.dip_core.specs.declared.item.Item.{Item}
use Rattle.dip_core.proofs.DipUniqueness.{one_dip, one_instant_of}
use Rattle.cert_core.specs.declared.verdict.Certificate.{Certificate}
use Rattle.dip_core.specs.Item as item
use Rattle.cert_core.proofs.VerdictUniqueness.{one_verdict}
use Rattle.match_core.specs.Items.{items_of}
use Rattle.match_core.proofs.ItemIds.{IdsRise-items_of}
use Rattle.join_core.specs.declared.rows.JoinRow.{JoinRow}
use Rattle.join_core.proofs.JoinExistence.{one_join}
use Rattle.anti_core.specs.declared.rows.AntiRow.{AntiRow}
use Rattle.anti_core.proofs.AntiExistence.{one_anti}
use Rattle.agg_core.proofs.OrderLemmas.{one_aggregate}
use Rattle.command_core.specs.Fields.{both_ok}
use Rattle.command_core.specs.Meaning.{Meaning, Refuse, Make, Load, Update, Delete, Rows, At, Between, FromTo, Dip, Join, Anti, Agg, Check, Log}
use Rattle.row_core.specs.Name.{NamePair}
use Rattle.command_core.specs.Records.{Record}
use Rattle.command_core.specs.declared.aggregate.Aggregate.{Aggregate}
use Rattle.command_core.specs.declared.refusal.Fault.{Fault}
use Rattle.answer_core.specs.PrintedRecords.{IsPrintedAs, division_records}
use Rattle.answer_core.specs.declared.answer.Answer.{Answer}
use Rattle.answer_core.specs.declared.answer.Answer.TheVariants as answer
use Rattle.script_core.specs.Answer.{AnswersOne, AnswersChange, AnswersQuery, IsAggOf, IsAnswerTo, IsAntiOf, IsDipOf, IsJoinOf, IsVerdictOn, IsVersions, Refuses}
use Rattle.agg_core.specs.Agg.{rows_on}
use Rattle.script_core.specs.Effects.{TableRows, aggregated_or_fault, claim_of, delete_in, load_in, make_in, rows_or_fault, sides_or_fault, update_in, versions_or_fault}

-- ---- the answers to queries

one_dip_of : (items : List Item) (one other : Answer) → IsDipOf items one → IsDipOf items other → one ≡ other
one_dip_of items one other p q =
    p.is ∙ (ap (answer.Division (length items)) (one_dip items p.parts q.parts p.dip q.dip) ∙ sym q.is)

one_versions : (Are : List Version → Type 0) → ((vs ws : List Version) → Are vs → Are ws → vs ≡ ws)
    → (one other : Answer) → IsVersions Are one → IsVersions Are other → one ≡ other
one_versions Are unique one other p q =
    p.is ∙ (ap answer.Versions (unique p.versions q.versions p.asked q.asked) ∙ sym q.is)

one_join_of : (left right : TableRows) (on : List NamePair) (one other : Answer) → IsJoinOf left right on one
    → IsJoinOf left right on other → one ≡ other
one_join_of left right on one other p q =
    p.is
    ∙ (ap (λ (rows : List JoinRow). answer.Join (record { left = left.1; right = right.1; rows = rows }))
    (one_join left.0 right.0 on left.1 right.1 p.rows q.rows p.joined q.joined)
    ∙ sym q.is)

one_anti_of : (left right : TableRows) (on : List NamePair) (one other : Answer) → IsAntiOf left right on one
    → IsAntiOf left right on other → one ≡ other
one_anti_of left right on one other p q =
    p.is
    ∙ (ap (λ (rows : List AntiRow). answer.Anti (record { left = left.1; rows = rows }))
    (one_anti left.0 right.0 on left.1 right.1 p.rows q.rows p.unmatched q.unmatched)
    ∙ sym q.is)

one_agg_of : (table : TableRows) (asked : Aggregate) (one other : Answer) → IsAggOf table asked one
    → IsAggOf table asked other → one ≡ other
one_agg_of table asked one other p q =
    p.is
    ∙ (ap answer.Agg
    (one_aggregate table.0 asked.func asked.by table.1 p.rows q.rows p.aggregated q.aggregated)
    ∙ sym q.is)

one_verdict_on : (items : List Item) (claim : List (List ℕ)) (certificate : Certificate) (one other : Answer)
    → item.IdsRise items → IsVerdictOn items claim certificate one → IsVerdictOn items claim certificate other
    → one ≡ other
one_verdict_on items claim certificate one other rise p q =
    p.is ∙ (ap answer.Verdict (one_verdict items claim certificate p.verdict q.verdict rise p.applies q.applies)
    ∙ sym q.is)

-- ---- rows are read in ascending order

same_Ok : {T E : Type 0} (x y : T) → ◌≡◌ {A = Result T E} (Ok x) (Ok y) → x ≡ y
same_Ok x y e = cc

pub not_Ok : {T E : Type 0} (x : T) (why : E) → ◌≡◌ {A = Result T E} (Err why) (Ok x) → ⊥
not_Ok x why e = cc e

given-ok : {S E F : Type 0} (rename : E → F) (refusal : Option E) (x y : S)
    → map_err rename (refused_or refusal x) ≡ Ok y → x ≡ y
given-ok {S} {E} {F} rename None x y e = same_Ok {T = S} {E = F} x y e
given-ok rename (Some why) x y e = absurd (not_Ok y (rename why) e)

pub both_ok-first : {S T E : Type 0} (r : Result S E) (q : Result T E) (x : S) (y : T)
    → both_ok r q ≡ Ok (x, y) → r ≡ Ok x
both_ok-first (Err why) q x y e = absurd (not_Ok (x, y) why e)
both_ok-first (Ok v) (Err why) x y e = absurd (not_Ok (x, y) why e)
both_ok-first {S} {T} {E} (Ok v) (Ok w) x y e = ap (λ (p : S × T). Ok p.0) (same_Ok {T = S × T} {E = E} (v, w) (x, y) e)

pub rise-reported : (number : ℕ) (h : History) (asof : Option ℕ) (name : List ℕ) (rows : List Row)
    → rows_or_fault number h asof name ≡ Ok rows → RowsRise rows
rise-reported number h asof name rows e =
    subst RowsRise (given-ok _ _ (rows_at h (unwrap_or asof (length h)) name) rows e)
    (RowsRise-rows_at h (unwrap_or asof (length h)) name)

-- ---- answers

-- Two pairs of an answer and a history are equal.
abbrev Same : Answer → Answer → History → History → Type 0
Same one other f g = (one ≡ other) × (f ≡ g)

one_refusal : (before : History) (wrong : Fault) (one other : Answer) (f g : History)
    → Refuses before wrong one f → Refuses before wrong other g → Same one other f g
one_refusal before wrong one other f g p q = (p.0 ∙ sym q.0, p.1 ∙ sym q.1)

one_change : (before : History) (made : Result History Fault) (one other : Answer) (f g : History)
    → AnswersChange before made one f → AnswersChange before made other g → Same one other f g
one_change before (Ok next) one other f g p q = (p.0 ∙ sym q.0, p.1 ∙ sym q.1)
one_change before (Err wrong) one other f g p q = one_refusal before wrong one other f g p q

one_query : {S : Type 0} (before : History) (read : Result S Fault) (Is : S → Answer → Type 0)
    → ((s : S) → read ≡ Ok s → (one other : Answer) → Is s one → Is s other → one ≡ other)
    → (one other : Answer) (f g : History)
    → AnswersQuery before read Is one f → AnswersQuery before read Is other g → Same one other f g
one_query before (Ok s) Is unique one other f g p q = (unique s refl one other p.0 q.0, p.1 ∙ sym q.1)
one_query before (Err wrong) Is unique one other f g p q = one_refusal before wrong one other f g p q

one_given : (before : History) (number : ℕ) (meaning : Meaning) (one other : Answer) (f g : History)
    → IsAnswerTo before number meaning one f → IsAnswerTo before number meaning other g → Same one other f g
one_given before number (Refuse wrong) one other f g p q = one_refusal before wrong one other f g p q
one_given before number (Make name columns) one other f g p q =
    one_change before (make_in number before name columns) one other f g p q
one_given before number (Load name body) one other f g p q =
    one_change before (load_in number before name body) one other f g p q
one_given before number (Update name portion sets conds) one other f g p q =
    one_change before (update_in number before name portion sets conds) one other f g p q
one_given before number (Delete name portion conds) one other f g p q =
    one_change before (delete_in number before name portion conds) one other f g p q
one_given before number (Rows name asof) one other f g p q =
    one_query before (rows_or_fault number before asof name) (λ rows given. given ≡ answer.Rows rows)
    (λ rows read one other p q. p ∙ sym q) one other f g p q
one_given before number (At name point asof) one other f g p q =
    one_query before (rows_or_fault number before asof name) (λ rows given. given ≡ answer.Rows (rows_on point rows))
    (λ rows read one other p q. p ∙ sym q) one other f g p q
one_given before number (Between name first last) one other f g p q =
    let Are = AreBetween before (length before) first last name in
    one_query before (versions_or_fault number before (nat_lt last first) name) (λ _. IsVersions Are)
    (λ _ read. one_versions Are (one_list before (length before) name _)) one other f g p q
one_given before number (FromTo name first end) one other f g p q =
    let Are = AreFromTo before (length before) first end name in
    one_query before (versions_or_fault number before (nat_le end first) name) (λ _. IsVersions Are)
    (λ _ read. one_versions Are (one_list before (length before) name _)) one other f g p q
one_given before number (Dip name asof) one other f g p q =
    one_query before (rows_or_fault number before asof name) (λ rows. IsDipOf (items_of rows))
    (λ rows read. one_dip_of (items_of rows)) one other f g p q
one_given before number (Join tables asof) one other f g p q =
    one_query before (sides_or_fault number before asof tables) (λ sides. IsJoinOf sides.0 sides.1 tables.on)
    (λ sides read. one_join_of sides.0 sides.1 tables.on) one other f g p q
one_given before number (Anti tables asof) one other f g p q =
    one_query before (sides_or_fault number before asof tables) (λ sides. IsAntiOf sides.0 sides.1 tables.on)
    (λ sides read. one_anti_of sides.0 sides.1 tables.on) one other f g p q
one_given before number (Agg asked asof) one other f g p q =
    one_query before (aggregated_or_fault number before asof asked) (λ table. IsAggOf table asked)
    (λ table read. one_agg_of table asked) one other f g p q
one_given before number (Check name parts instant asof body) one other f g p q =
    let reported = rows_or_fault number before asof name in
    let claimed = claim_of (number + 1) body in
    let certificate : Certificate = record { parts = parts; instant = instant } in
    one_query before (both_ok reported claimed) (λ read. IsVerdictOn (items_of read.0) read.1 certificate)
    (λ read e one other. one_verdict_on (items_of read.0) read.1 certificate one other
    (IdsRise-items_of read.0 (rise-reported number before asof name read.0 (both_ok-first reported claimed read.0 read.1 e))))
    one other f g p q
one_given before number Log one other f g p q = (p.0 ∙ sym q.0, p.1 ∙ sym q.1)

-- ---- their records

one_print : (given : Answer) (one other : List Record) → IsPrintedAs given one → IsPrintedAs given other
    → one ≡ other
one_print (answer.Refused fault) one other p q = p ∙ sym q
one_print (answer.Committed commit) one other p q = p ∙ sym q
one_print (answer.Rows rows) one other p q = p ∙ sym q
one_print (answer.Versions versions) one other p q = p ∙ sym q
one_print (answer.Division rows parts) one other (s, at, is) (t, at', is') =
    is ∙ (ap (division_records rows parts) (one_instant_of parts s t at at') ∙ sym is')
one_print (answer.Join joined) one other p q = p ∙ sym q
one_print (answer.Anti unmatched) one other p q = p ∙ sym q
one_print (answer.Agg rows) one other p q = p ∙ sym q
one_print (answer.Verdict verdict) one other p q = p ∙ sym q
one_print (answer.Log entries) one other p q = p ∙ sym q

pub one_answer : (before : History) (number : ℕ) (meaning : Meaning) (a b : List Record) (f g : History)
    → AnswersOne before number meaning a f → AnswersOne before number meaning b g → (a ≡ b) × (f ≡ g)
one_answer before number meaning a b f g (one, is, printed) (other, is', printed') =
    let same = one_given before number meaning one other f g is is' in (
      one_print other a b (subst (λ given. IsPrintedAs given a) same.0 printed) printed',
      same.1,
    )
