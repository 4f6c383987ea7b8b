use Rattle.std.proofs.Common.{◌≡◌, sym, ◌∙◌, ap, ◌+◌, ◌||◌, ltb, leb, length, arith}
use Rattle.std.specs.List.{list_all}
use Rattle.row_core.specs.Schema.{fits}
use Rattle.version_core.specs.Limits.{version_limit}
use Rattle.book_core.specs.Limits.{commit_limit}
use Rattle.book_core.specs.StoredTables.{table_at}
use Rattle.book_core.proofs.Refusals.{load_wrong, load_full, load_taken}
use Rattle.book_core.proofs.apply.load_refusal.Goals as goal

pub returns-then-not-all_fit : goal.returns-then-not-all_fit
returns-then-not-all_fit c = λ name.
    (load_wrong c.args.commits name c.args.rows.now (table_at c.args.commits c.args.table.now)
    (sym (ap (λ s. list_all (λ d. fits s d.values) c.args.rows.now) c.schema.ensures)
    ∙ sym c.all_fit.ensures ∙ c.if-not-all_fit.true))

pub returns-then-is_full : goal.returns-then-is_full
returns-then-is_full c = λ name.
    let versions = ap length c.versions.ensures in
    let many : length c.args.table.now.versions + length c.args.rows.now ≡ c.len.result +
    c.len-else-not-all_fit.result = omega (arith, versions) in
    (load_full c.args.commits name c.args.rows.now (table_at c.args.commits c.args.table.now)
    (sym (ap (λ s. list_all (λ d. fits s d.values) c.args.rows.now) c.schema.ensures)
    ∙ sym c.all_fit.ensures ∙ c.if-not-all_fit.false)
    (ap (λ n. leb commit_limit c.args.commits || ltb version_limit n) many ∙ sym c.is_full.ensures ∙ c.if-is_full.true))

pub returns-else-is_full : goal.returns-else-is_full
returns-else-is_full c = λ name.
    let versions = ap length c.versions.ensures in
    let many : length c.args.table.now.versions + length c.args.rows.now ≡ c.len.result +
    c.len-else-not-all_fit.result = omega (arith, versions) in
    (load_taken c.args.commits name c.args.rows.now (table_at c.args.commits c.args.table.now)
    (sym (ap (λ s. list_all (λ d. fits s d.values) c.args.rows.now) c.schema.ensures)
    ∙ sym c.all_fit.ensures ∙ c.if-not-all_fit.false)
    (ap (λ n. leb commit_limit c.args.commits || ltb version_limit n) many ∙ sym c.is_full.ensures
    ∙ c.if-is_full.false))
