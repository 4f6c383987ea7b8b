use Rattle.std.proofs.Common.{◌≡◌, ◌∷◌, ◌++◌, [], sym, ◌∙◌, ap, length, arith, Err, None}
use Rattle.book_core.specs.Bound.{IsMade}
use Rattle.book_core.specs.State.{refusal_of, table_named}
use Rattle.book_core.specs.History.{state_after}
use Rattle.book_core.specs.StoredTables.{kept_table, kept_tables_after}
use Rattle.book_core.proofs.Accepted.{accepted-both, failed}
use Rattle.book_core.proofs.Applying.{few, room, AreKept-push, newest_of}
use Rattle.book_core.proofs.Making.{bound-none, kept-bound, portion-of, room-portion}
use Rattle.book_core.proofs.Tables.{well_named}
use Rattle.book_core.proofs.Logging.{entry_same, log-push, named_entry, new_entry}
use Rattle.book_core.proofs.KeyFound.{overlap-named, unbroken-named}
use Rattle.book_core.proofs.book.Book.apply.Goals as goal
use Rattle.book_core.proofs.book.Book.apply.Goals.{Joined-drop, Joined-drop-2, in-Some, in-None}

pub change_table-made-requires-clause-few : goal.change_table-made-requires-clause-few
change_table-made-requires-clause-few c =
    omega (
      arith,
      few (length c.args.self.now) (state_after c.args.self.now) c.args.change (sym c.in-Ok.ensures.refused),
      c.commits-commits.ensures.count,
    )

pub change_tables-made-requires-clause-few : goal.change_tables-made-requires-clause-few
change_tables-made-requires-clause-few c =
    omega (
      arith,
      few (length c.args.self.now) (state_after c.args.self.now) c.args.change (sym c.in-Ok.ensures.refused),
      c.commits-commits.ensures.count,
    )

pub entry_of-entry-requires : goal.entry_of-entry-requires
entry_of-entry-requires c =
    omega (
      arith,
      few (length c.args.self.now) (state_after c.args.self.now) c.args.change (sym c.in-Ok.ensures.refused),
      c.commits-commits.ensures.count,
    )

pub change_table-made-requires-clause-room : goal.change_table-made-requires-clause-room
change_table-made-requires-clause-room c =
    let now = c.args.self.now in
    let ts = c.self.inside.tables.items in
    let m = kept-bound _ now ts c.args.change c.in-Ok.bound c.self.invariant.kept c.self.view_is c.in-Ok.ensures.bound in
    rw c.table_of-table.ensures
    (room-portion (length now) c.args.change ts c.in-Some.portion
    (portion-of c.args.change (kept_table (table_named c.args.change) ts) c.in-Some.portion (rw c.in-Some.is at m))
    (rw (ap length (sym c.self.view_is)) (well_named _ ts (table_named c.args.change) c.self.invariant.kept))
    (room (length now) (state_after now) ts c.args.change
    (newest_of _ now ts c.self.invariant.kept c.self.view_is) (sym c.in-Ok.ensures.refused)))

pub change_table-made-requires-clause-well : goal.change_table-made-requires-clause-well
change_table-made-requires-clause-well c =
    rw (c.table_of-table.ensures, c.commits-commits.ensures.count ∙ ap length (sym c.self.view_is))
    (well_named _ c.self.inside.tables.items (table_named c.args.change) c.self.invariant.kept)

pub change_table-made-requires-clause-unbroken : goal.change_table-made-requires-clause-unbroken
change_table-made-requires-clause-unbroken c =
    rw c.table_of-table.ensures
    (unbroken-named _ c.args.self.now c.self.inside.tables.items
    (table_named c.args.change) c.self.invariant.kept c.self.view_is)

pub change_tables-made-requires-clause-room : goal.change_tables-made-requires-clause-room
change_tables-made-requires-clause-room c =
    rw (c.commits-commits.ensures.count)
    (room (length c.args.self.now) (state_after c.args.self.now) c.self.inside.tables.items c.args.change
    (newest_of _ c.args.self.now c.self.inside.tables.items c.self.invariant.kept
    c.self.view_is) (sym c.in-Ok.ensures.refused))

pub change_tables-made-requires-clause-well : goal.change_tables-made-requires-clause-well
change_tables-made-requires-clause-well c =
    rw (c.commits-commits.ensures.count ∙ ap length (sym c.self.view_is))
    (well_named _ c.self.inside.tables.items (table_named c.args.change) c.self.invariant.kept)

pub change_tables-made-requires-clause-unbroken : goal.change_tables-made-requires-clause-unbroken
change_tables-made-requires-clause-unbroken c =
    unbroken-named _ c.args.self.now c.self.inside.tables.items
    (table_named c.args.change) c.self.invariant.kept c.self.view_is

pub change_tables-made-requires-clause-bound : goal.change_tables-made-requires-clause-bound
change_tables-made-requires-clause-bound c =
    let ts = c.self.inside.tables.items in
    bound-none c.args.change (kept_table (table_named c.args.change) ts) c.in-Ok.bound c.in-None.is
    (kept-bound _ c.args.self.now ts c.args.change c.in-Ok.bound c.self.invariant.kept c.self.view_is
    c.in-Ok.ensures.bound)

-- ---- the change is refused

refused : (c : Joined-drop)
    → IsMade c.commits-commits.result c.args.change c.self.inside.tables.items c.match-bound.self-inside.tables.items
    c.match-bound.made
refused c =
    let ts = c.self.inside.tables.items in
    let m = kept-bound _ c.args.self.now ts c.args.change c.in-Ok.bound c.self.invariant.kept c.self.view_is
    c.in-Ok.ensures.bound in
    elim c.match-bound.branch [
      | in-Some w ↦
          let portion = portion-of c.args.change (kept_table (table_named c.args.change) ts) w.in-Some.portion
          (rw w.in-Some.is at m) in
          rw (w.self-inside-is, w.made-is)
          (w.change_table-made.ensures c.args.change (sym c.table_of-table.ensures) portion.of
          (rw c.table_of-table.ensures portion.same))
      | in-None w ↦ rw (w.self-inside-is, w.made-is) w.change_tables-made.ensures
    ]

pub invariant_of-self-in-Err-made : goal.invariant_of-self-in-Err-made
invariant_of-self-in-Err-made c =
    let tables = rw c.in-Err-made.is at (refused c).kept in
    let history : c.match-bound.self-inside.history.all ≡ c.self.inside.history.all =
    elim c.match-bound.branch [
      | in-Some w ↦ ap (λ i. i.history.all) w.self-inside-is
      | in-None w ↦ ap (λ i. i.history.all) w.self-inside-is
    ] in
    let log : c.match-bound.self-inside.log.items ≡ c.self.inside.log.items =
    elim c.match-bound.branch [
      | in-Some w ↦ ap (λ i. i.log.items) w.self-inside-is ∙ c.reserve.ensures.items
      | in-None w ↦ ap (λ i. i.log.items) w.self-inside-is ∙ c.reserve.ensures.items
    ] in
    rw (history, tables, log) c.self.invariant

pub returns-in-Err-made-clause-refused : goal.returns-in-Err-made-clause-refused
returns-in-Err-made-clause-refused c =
    let commits = c.commits-commits.ensures.count ∙ ap length (sym c.self.view_is) in
    let overlap = rw c.in-Err-made.is at (refused c).overlap in
    (failed (length c.args.self.now)
    (state_after c.args.self.now) c.args.change c.in-Err-made.why (Err c.overlap_failure.result)
    (sym c.in-Ok.ensures.refused) (ap Err c.overlap_failure.ensures)
    (λ is. sym
    (overlap-named _ c.args.self.now c.self.inside.tables.items c.args.change
    c.commits-commits.result c.self.invariant.kept c.self.view_is commits) ∙ overlap is)).refused

pub returns-in-Err-made-clause-accepted : goal.returns-in-Err-made-clause-accepted
returns-in-Err-made-clause-accepted c =
    let commits = c.commits-commits.ensures.count ∙ ap length (sym c.self.view_is) in
    let overlap = rw c.in-Err-made.is at (refused c).overlap in
    (failed (length c.args.self.now)
    (state_after c.args.self.now) c.args.change c.in-Err-made.why (Err c.overlap_failure.result)
    (sym c.in-Ok.ensures.refused) (ap Err c.overlap_failure.ensures)
    (λ is. sym
    (overlap-named _ c.args.self.now c.self.inside.tables.items c.args.change
    c.commits-commits.result c.self.invariant.kept c.self.view_is commits) ∙ overlap is)).accepted

-- ---- the change is made

made : (c : Joined-drop-2)
    → IsMade c.commits-commits.result c.args.change c.self.inside.tables.items c.match-bound.self-inside.tables.items
    c.match-bound.made
made c =
    let ts = c.self.inside.tables.items in
    let m = kept-bound _ c.args.self.now ts c.args.change c.in-Ok.bound c.self.invariant.kept c.self.view_is
    c.in-Ok.ensures.bound in
    elim c.match-bound.branch [
      | in-Some w ↦
          let portion = portion-of c.args.change (kept_table (table_named c.args.change) ts) w.in-Some.portion
          (rw w.in-Some.is at m) in
          rw (w.self-inside-is, w.made-is)
          (w.change_table-made.ensures c.args.change (sym c.table_of-table.ensures) portion.of
          (rw c.table_of-table.ensures portion.same))
      | in-None w ↦ rw (w.self-inside-is, w.made-is) w.change_tables-made.ensures
    ]

-- it is accepted
accepted : (c : Joined-drop-2)
    → refusal_of (length c.args.self.now) (state_after c.args.self.now) c.args.change ≡ None
accepted c =
    let commits = c.commits-commits.ensures.count ∙ ap length (sym c.self.view_is) in
    let apart = rw c.in-Ok-made.is at (made c).apart in
    accepted-both (length c.args.self.now) (state_after c.args.self.now) c.args.change (sym c.in-Ok.ensures.refused)
    (sym (overlap-named _ c.args.self.now c.self.inside.tables.items c.args.change
    c.commits-commits.result c.self.invariant.kept c.self.view_is commits) ∙ apart)

pub returns-clause-refused : goal.returns-clause-refused
returns-clause-refused c = rw (accepted c) tt

pub invariant_of-self-2 : goal.invariant_of-self-2
invariant_of-self-2 c =
    let commits = c.commits-commits.ensures.count ∙ ap length (sym c.self.view_is) in
    let tables = rw c.in-Ok-made.is at (made c).ok in
    let added = rw c.in-Ok-made.is at (made c).added in
    let closed = rw c.in-Ok-made.is at (made c).closed in
    let log : c.match-bound.self-inside.log.items ≡ c.self.inside.log.items =
    elim c.match-bound.branch [
      | in-Some w ↦ ap (λ i. i.log.items) w.self-inside-is ∙ c.reserve.ensures.items
      | in-None w ↦ ap (λ i. i.log.items) w.self-inside-is ∙ c.reserve.ensures.items
    ] in
    let entry : c.entry_of-entry.result ≡ new_entry
    _ c.args.by c.args.change c.self.inside.tables.items =
    entry_same c.commits-commits.result
    _ c.args.by c.in-Ok-made.counts.added c.in-Ok-made.counts.closed
    c.args.change c.self.inside.tables.items c.entry_of-entry.result commits added closed
    (named_entry c.commits-commits.result c.args.by c.in-Ok-made.counts.added c.in-Ok-made.counts.closed c.args.change
    c.change_kind-kind.result c.table_of-table.result c.entry_of-entry.result c.change_kind-kind.ensures
    c.table_of-table.ensures c.entry_of-entry.ensures) in
    record {
      kept = AreKept-push _ c.args.self.now _
          c.self.inside.tables.items c.match-bound.self-inside.tables.items
          (record { by = c.args.by; change = c.args.change })
          c.self.invariant.kept c.self.view_is (accepted c)
          (tables ∙ ap (λ m. kept_tables_after m c.self.inside.tables.items c.args.change) commits)
          c.followed_by-history.ensures;
      logged = log-push _ c.args.self.now _
          c.self.inside.tables.items c.self.inside.log.items c.push.new.self.items
          (record { by = c.args.by; change = c.args.change }) c.self.invariant
          c.self.view_is (accepted c) c.followed_by-history.ensures
          (c.in-Ok-push.ensures.items ∙ ap (λ l. l ++ c.entry_of-entry.result ∷ []) log
          ∙ ap (λ e. c.self.inside.log.items ++ e ∷ []) entry);
    }
