-- How queries are answered.
use Rattle.std.proofs.Common.{◌≡◌, ◌∙◌, ◌+◌, ℕ, List, None, Result, Ok, Err, ap, refl, sym, subst, true}
use Rattle.agg_core.specs.Agg.{rows_on}
use Rattle.book_core.specs.History.{History}
use Rattle.cert_core.specs.declared.verdict.Certificate.{Certificate}
use Rattle.command_core.specs.Fields.{both_ok}
use Rattle.command_core.specs.Meaning.{Meaning, Agg, Anti, At, Check, Dip, Join, Rows}
use Rattle.command_core.specs.Statement.{is_allowed}
use Rattle.command_core.specs.declared.refusal.Fault.{Fault}
use Rattle.match_core.specs.Items.{items_of}
use Rattle.answer_core.specs.declared.answer.Answer.{Answer}
use Rattle.answer_core.specs.declared.answer.Answer.TheVariants as answer
use Rattle.script_core.specs.Answer.{AnswersQuery, IsAggOf, IsAnswerTo, IsAntiOf, IsDipOf, IsJoinOf, IsVerdictOn}
use Rattle.script_core.specs.Effects.{aggregated_or_fault, claim_of, rows_or_fault, sides_or_fault}
use Rattle.script_core.specs.Performing.{asof_in, Gives, Performs}
use Rattle.script_core.specs.Failure.{Failure, IsFailureOf}
use Rattle.row_core.specs.declared.failure.Failure.TheVariants.{Refused, NoMemory}
use Rattle.script_core.proofs.Comparing.{aggregated-failed, both_ok-failed, sides-failed}

-- A query is answered by the result for the rows that it reads, or by its refusal.
query-answered : {S : Type 0} (number : ℕ) (meaning : Meaning) (before : History) (meant : Result S Fault)
    (Is : S → Answer → Type 0) (outcome : Result Answer Failure)
    → ((given : Answer) → AnswersQuery before meant Is given before → IsAnswerTo before number meaning given before)
    → Gives meant Is outcome → Performs before number meaning outcome before
query-answered number meaning before meant Is (Ok given) answers (read, same, is) =
    answers given (subst (λ m. AnswersQuery before m Is given before) (sym same) (is, refl))
query-answered number meaning before meant Is (Err (Refused wrong)) answers same =
    answers (answer.Refused wrong)
    (subst (λ m. AnswersQuery before m Is (answer.Refused wrong) before) (sym same) (refl, refl))
query-answered number meaning before meant Is (Err NoMemory) answers gives = tt

-- A query that fails before it reads has the refusal that its reading would have, and changes nothing.
pub query-failed : {S : Type 0} (number : ℕ) (meaning : Meaning) (before after : History) (meant : Result S Fault)
    (Is : S → Answer → Type 0) (failure : Failure) (outcome : Result Answer Failure)
    → ((given : Answer) → AnswersQuery before meant Is given before → IsAnswerTo before number meaning given before)
    → outcome ≡ Err failure → after ≡ before → IsFailureOf meant failure
    → Performs before number meaning outcome after
query-failed number meaning before after meant Is failure outcome answers is same failed =
    subst (λ (h : History). Performs before number meaning outcome h) (sym same)
    (subst (λ (o : Result Answer Failure). Performs before number meaning o before) (sym is)
    (query-answered number meaning before meant Is (Err failure) answers failed))

-- The same for a failure that applies to all tables of the commit that the query names, or for refused memory.
pub unread-fails : (number : ℕ) (meaning : Meaning) (h : History) (failure : Failure) (outcome : Result Answer Failure)
    → is_allowed true meaning ≡ true → outcome ≡ Err failure
    → ((table : List ℕ) → IsFailureOf (rows_or_fault number h (asof_in meaning) table) failure)
    → (asof_in meaning ≡ None → failure ≡ NoMemory) → Performs h number meaning outcome h
unread-fails number (Rows table asof) h failure outcome allowed is fails newest =
    query-failed number (Rows table asof) h h (rows_or_fault number h asof table) (λ rows given. given ≡ answer.Rows rows)
    failure outcome (λ given it. it) is refl (fails table)
unread-fails number (At table point asof) h failure outcome allowed is fails newest =
    query-failed number (At table point asof) h h (rows_or_fault number h asof table)
    (λ rows given. given ≡ answer.Rows (rows_on point rows)) failure outcome (λ given it. it) is refl (fails table)
unread-fails number (Dip table asof) h failure outcome allowed is fails newest =
    query-failed number (Dip table asof) h h (rows_or_fault number h asof table) (λ rows. IsDipOf (items_of rows)) failure
    outcome (λ given it. it) is refl (fails table)
unread-fails number (Join tables asof) h failure outcome allowed is fails newest =
    query-failed number (Join tables asof) h h (sides_or_fault number h asof tables)
    (λ sides. IsJoinOf sides.0 sides.1 tables.on) failure outcome (λ given it. it) is refl
    (sides-failed number h asof tables failure (fails tables.left))
unread-fails number (Anti tables asof) h failure outcome allowed is fails newest =
    query-failed number (Anti tables asof) h h (sides_or_fault number h asof tables)
    (λ sides. IsAntiOf sides.0 sides.1 tables.on) failure outcome (λ given it. it) is refl
    (sides-failed number h asof tables failure (fails tables.left))
unread-fails number (Agg asked asof) h failure outcome allowed is fails newest =
    query-failed number (Agg asked asof) h h (aggregated_or_fault number h asof asked) (λ table. IsAggOf table asked)
    failure outcome (λ given it. it) is refl (aggregated-failed number h asof asked failure (fails asked.table))
unread-fails number (Check table parts instant asof body) h failure outcome allowed is fails newest =
    let certificate : Certificate = record { parts = parts; instant = instant } in
    let reported = rows_or_fault number h asof table in
    let claimed = claim_of (number + 1) body in
    query-failed number (Check table parts instant asof body) h h (both_ok reported claimed)
    (λ read. IsVerdictOn (items_of read.0) read.1 certificate) failure outcome (λ given it. it) is refl
    (both_ok-failed reported claimed failure (fails table))
unread-fails number other h failure outcome allowed is fails newest =
    subst (λ (o : Result Answer Failure). Performs h number other o h)
    (sym (is ∙ ap Err (newest refl))) tt
