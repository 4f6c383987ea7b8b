use Rattle.std.proofs.Common.{◌+◌, ◌++◌, [], false, length, true}
use Rattle.std.specs.Prelude.{flat_map, unwrap_or}
use Rattle.std.specs.Option.{option_copied}
use Rattle.std.proofs.lemmas.Result.{err_from_is_err_and}
use Rattle.version_core.specs.Rows.{drafts_of}
use Rattle.version_core.specs.Shown.{shown}
use Rattle.book_core.specs.Bound.{Does, portion_parts, rows_changed}
use Rattle.book_core.specs.Rows.{is_touched}
use Rattle.book_core.specs.State.{full_tests, pair_tests}
use Rattle.book_core.proofs.Portions.{pairs-refused, parts-then}
use Rattle.book_core.proofs.apply.bind_portion.Goals as goal

pub returns-in_err-bound-clause-refused : goal.returns-in_err-bound-clause-refused
returns-in_err-bound-clause-refused c =
    let p = err_from_is_err_and c.from_residual.result c.from_residual.ensures.1 in
    let schema = c.args.table.now.schema in
    let versions = c.args.table.now.versions in
    let sets = option_copied c.args.sets in
    rw (p.1, p.2)
    (pairs-refused (flat_map (pair_tests schema) (unwrap_or sets [] ++ c.args.conds.now))
    (full_tests c.args.commits (length versions + length
    (portion_parts schema c.args.portion sets c.args.conds.now (shown c.args.commits versions))))
    c.in_err-bound.field-0.0 (rw c.schema.ensures at c.in_err-bound.ensures.refused))

pub returns-then-is_full_by_parts-clause-refused : goal.returns-then-is_full_by_parts-clause-refused
returns-then-is_full_by_parts-clause-refused c =
    let schema = c.args.table.now.schema in
    let versions = c.args.table.now.versions in
    let sets = option_copied c.args.sets in
    let bound : Does (is_touched schema c.args.portion c.args.conds.now)
    (portion_parts schema c.args.portion sets c.args.conds.now) (rows_changed c.in_ok-bound.bound) =
    rw c.schema.ensures at c.in_ok-bound.ensures.bound in
    parts-then (flat_map (pair_tests schema) (unwrap_or sets [] ++ c.args.conds.now)) c.args.commits (length versions)
    (drafts_of (rows_changed c.in_ok-bound.bound) (shown c.args.commits versions))
    (portion_parts schema c.args.portion sets c.args.conds.now (shown c.args.commits versions))
    c.is_full_by_parts.result true (rw c.schema.ensures at c.in_ok-bound.ensures.refused)
    (bound.new (shown c.args.commits versions)) (rw c.versions.ensures at c.is_full_by_parts.ensures)
    c.if-is_full_by_parts.true

pub returns-else-is_full_by_parts-clause-refused : goal.returns-else-is_full_by_parts-clause-refused
returns-else-is_full_by_parts-clause-refused c =
    let schema = c.args.table.now.schema in
    let versions = c.args.table.now.versions in
    let sets = option_copied c.args.sets in
    let bound : Does (is_touched schema c.args.portion c.args.conds.now)
    (portion_parts schema c.args.portion sets c.args.conds.now) (rows_changed c.in_ok-bound.bound) =
    rw c.schema.ensures at c.in_ok-bound.ensures.bound in
    parts-then (flat_map (pair_tests schema) (unwrap_or sets [] ++ c.args.conds.now)) c.args.commits (length versions)
    (drafts_of (rows_changed c.in_ok-bound.bound) (shown c.args.commits versions))
    (portion_parts schema c.args.portion sets c.args.conds.now (shown c.args.commits versions))
    c.is_full_by_parts.result false (rw c.schema.ensures at c.in_ok-bound.ensures.refused)
    (bound.new (shown c.args.commits versions)) (rw c.versions.ensures at c.is_full_by_parts.ensures)
    c.if-is_full_by_parts.false
