use Rattle.std.proofs.Common.{◌≡◌, ◌+◌, ◌++◌, ◌∷◌, ◌∙◌, [], List, Some, Ok, Err, ℕ, ap, sym, arith, drop}
use Rattle.std.specs.List.{slice_get}
use Rattle.row_core.specs.Refusals.{map_err}
use Rattle.std.proofs.lemmas.Result.{err_from_is_err_and}
use Rattle.book_core.specs.Rows.{Pair}
use Rattle.command_core.specs.Pairs.{TextPair}
use Rattle.command_core.specs.PairsIn.{pairs_in}
use Rattle.command_core.specs.Refusal.{fault}
use Rattle.command_core.specs.declared.refusal.Refusal.{Refusal}
use Rattle.command_core.proofs.Cutting.{drop-slice_get, slice_get-there}
use Rattle.row_core.specs.declared.schema.Column.{Column}
use Rattle.script_core.specs.Failure.{Failure, IsFailureOf, IsRecordFailure}
use Rattle.script_core.specs.Effects.{pair_read, pairs_read, pairs_or_fault}
use Rattle.row_core.specs.declared.failure.Failure.TheVariants.{Refused, NoMemory}
use Rattle.script_core.proofs.Loading.{behind, behind-next, behind-refused}
use Rattle.script_core.proofs.pairs.read_pairs.Goals as goal
use Rattle.script_core.proofs.pairs.read_pairs.Goals.{in-Some+in_ok-value+in_ok-push, in_default}

-- One more value was read.
next_value : (columns : List Column) (texts : List TextPair) (place : ℕ) (text : TextPair) (had : List Pair)
    (pair : Pair) → slice_get texts place ≡ Some text → pair_read columns text ≡ Ok pair
    → behind had (pairs_read columns (drop place texts)) ≡ behind (had ++ pair ∷ [])
    (pairs_read columns (drop (place + 1) texts))
next_value columns texts place text had pair e good =
    ap (λ l. behind had (pairs_read columns l)) (drop-slice_get texts place text e)
    ∙ behind-next had (pair_read columns text) pair (pairs_read columns (drop (place + 1) texts)) good

no_value : (columns : List Column) (texts : List TextPair) (place : ℕ) (text : TextPair) (had : List Pair)
    (refusal : Refusal) → slice_get texts place ≡ Some text → pair_read columns text ≡ Err refusal
    → behind had (pairs_read columns (drop place texts)) ≡ Err refusal
no_value columns texts place text had refusal e bad =
    ap (λ l. behind had (pairs_read columns l)) (drop-slice_get texts place text e)
    ∙ behind-refused had (pair_read columns text) refusal (pairs_read columns (drop (place + 1) texts)) bad

-- A text is refused.
value_failed : (number : ℕ) (columns : List Column) (texts : List TextPair) (place : ℕ) (text : TextPair)
    (had : List Pair) (failure : Failure) → slice_get texts place ≡ Some text
    → pairs_read columns texts ≡ behind had (pairs_read columns (drop place texts))
    → IsRecordFailure number (pair_read columns text) failure
    → IsFailureOf (pairs_or_fault number columns texts) failure
value_failed number columns texts place text had (Refused wrong) e is (refusal, bad, same) =
    ap (map_err (fault number)) (is ∙ no_value columns texts place text had refusal e bad) ∙ ap Err (sym same)
value_failed number columns texts place text had NoMemory e is h = tt

pub returns-in_err-value : goal.returns-in_err-value
returns-in_err-value c =
    let p = err_from_is_err_and c.from_residual.result c.from_residual.ensures.1 in
    let pair = c.in-Some.pair in
    rw (p.1, p.2)
    (value_failed c.args.number c.args.schema.now (pairs_in c.args.texts) c.loop-place.place
    (pair.0, pair.1.now) c.loop-place.pairs c.in_err-value.field-0.0
    (sym c.in-Some.ensures) c.loop-place.invariant c.in_err-value.ensures)

pub loop-place-preserved : goal.loop-place-preserved
loop-place-preserved c =
    let texts = pairs_in c.args.texts in
    let place = c.loop-place.place in
    elim c.match-get.branch [
      | in-Some+in_ok-value+in_ok-push w ↦ (
          let pair = w.in-Some.pair in
          let more = next_value c.args.schema.now texts place (pair.0, pair.1.now) c.loop-place.pairs
          (pair.0, w.in_ok-value.value) (sym w.in-Some.ensures) w.in_ok-value.ensures in
          rw (w.pairs-is, w.in_ok-push.ensures.ok) (c.loop-place.invariant ∙ more))
      | in_default w ↦ absurd
          (slice_get-there texts place (omega (arith, c.loop-place-test.true, c.len-place-end.ensures))
          (sym w.in_default.ensures))
    ]
