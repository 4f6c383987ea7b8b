use Rattle.std.proofs.Common.{◌≡◌, sym, ◌∙◌, length, arith, None}
use Rattle.book_core.specs.History.{state_after}
use Rattle.book_core.specs.State.{table_of}
use Rattle.book_core.proofs.Refusals.{none_from, make_many, make_full, make_taken, length-state}
use Rattle.book_core.proofs.book.Book.table_refusal.Goals as goal

pub returns-then-len-ge-TABLE_LIMIT : goal.returns-then-len-ge-TABLE_LIMIT
returns-then-len-ge-TABLE_LIMIT c = λ schema.
    let absent : table_of (state_after c.args.self.now) c.args.name ≡ None =
    none_from _ c.table.result c.table.ensures.absent (sym c.is_some.ensures ∙ c.if-is_some.false) in
    let tables : length (state_after c.args.self.now) ≡ length c.self.inside.tables.items =
    length-state _ _ _ c.self.invariant.kept c.self.view_is in
    let counted = c.self.inside.tables.ok.0 in
    (make_many (length c.args.self.now) (state_after c.args.self.now) c.args.name schema absent
    (omega (arith, tables, counted)))

pub returns-then-commits-ge-COMMIT_LIMIT : goal.returns-then-commits-ge-COMMIT_LIMIT
returns-then-commits-ge-COMMIT_LIMIT c = λ schema.
    let absent : table_of (state_after c.args.self.now) c.args.name ≡ None =
    none_from _ c.table.result c.table.ensures.absent (sym c.is_some.ensures ∙ c.if-is_some.false) in
    let tables : length (state_after c.args.self.now) ≡ length c.self.inside.tables.items =
    length-state _ _ _ c.self.invariant.kept c.self.view_is in
    let counted = c.self.inside.tables.ok.0 in
    (make_full (length c.args.self.now) (state_after c.args.self.now) c.args.name schema absent
    (omega (arith, tables, counted)) (omega (arith, c.commits.ensures.count)))

pub returns-else-commits-ge-COMMIT_LIMIT : goal.returns-else-commits-ge-COMMIT_LIMIT
returns-else-commits-ge-COMMIT_LIMIT c = λ schema.
    let absent : table_of (state_after c.args.self.now) c.args.name ≡ None =
    none_from _ c.table.result c.table.ensures.absent (sym c.is_some.ensures ∙ c.if-is_some.false) in
    let tables : length (state_after c.args.self.now) ≡ length c.self.inside.tables.items =
    length-state _ _ _ c.self.invariant.kept c.self.view_is in
    let counted = c.self.inside.tables.ok.0 in
    (make_taken (length c.args.self.now) (state_after c.args.self.now) c.args.name schema absent
    (omega (arith, tables, counted)) (omega (arith, c.commits.ensures.count)))
