-- The rows of every state are ordered by rising id, whatever the changes were.
use Rattle.std.proofs.Common.{ℕ, ◌+◌, ◌≤◌, List, [], ◌∷◌, ◌++◌, length, take, true, false, not, cond, Some, arith}
use Rattle.std.specs.Prelude.{filter, fold, option_map, unwrap_or, bytes_eq}
use Rattle.std.specs.List.{AllByRecursion}
use Rattle.row_core.specs.Rows.{RowsRise}
use Rattle.row_core.specs.declared.row.Row.{Row}
use Rattle.table_core.specs.Numbered.{numbered}
use Rattle.book_core.specs.Rows.{drafts_of, removes}
use Rattle.book_core.specs.declared.change.Change.{Change}
use Rattle.book_core.specs.declared.change.Change.TheVariants.{Make, Load, Update, Delete}
use Rattle.book_core.specs.History.{History, rows_at, state_after}
use Rattle.book_core.specs.State.{State, Table, applied, at_table, changed, rows_of, table_of}
use Rattle.book_core.proofs.Ids.{RiseIn, RiseIn-filter, RiseIn-lower, numbered_rise}
use Rattle.book_core.proofs.Sound.{rising-rows}

RiseIn-append : (lo mid hi : ℕ) (xs ys : List Row) → lo ≤ mid → mid ≤ hi → RiseIn lo mid xs → RiseIn mid hi ys
    → RiseIn lo hi (xs ++ ys)
RiseIn-append lo mid hi [] ys low high first second = RiseIn-lower mid lo hi ys low second
RiseIn-append lo mid hi (r ∷ rs) ys low high first second =
    let within : r.id ≤ mid = first.1 in
    (first.0, omega (arith, within, high), RiseIn-append r.id mid hi rs ys within high first.2 second)

-- a table's rows are ordered by rising id, up to the number of ids that it has used
abbrev Rises : Table → Type 0
Rises t = RiseIn 0 t.used t.rows

Rises-changed : (c : Change) (t : Table) → Rises t → Rises (changed c t)
Rises-changed c t rises =
    RiseIn-append 0 t.used (t.used + length (drafts_of c t.schema t.rows))
    (filter (λ row. not (removes c t.schema row)) t.rows) (numbered t.used (drafts_of c t.schema t.rows))
    (omega arith) (omega arith)
    (RiseIn-filter (λ row. not (removes c t.schema row)) 0 t.used t.rows rises)
    (numbered_rise t.used (drafts_of c t.schema t.rows))

Rises-at_table : (name : List ℕ) (c : Change) (s : State) → AllByRecursion Rises s
    → AllByRecursion Rises (at_table name (changed c) s)
Rises-at_table name c [] all = tt
Rises-at_table name c (t ∷ ts) all =
    elim (bytes_eq t.name name) as
    (λ b. AllByRecursion Rises (cond b (changed c t ∷ ts) (t ∷ at_table name (changed c) ts))) [
      | true ↦ (Rises-changed c t all.0, all.1)
      | false ↦ (all.0, Rises-at_table name c ts all.1)
    ]

Rises-push : (s : State) (t : Table) → AllByRecursion Rises s → Rises t → AllByRecursion Rises (s ++ t ∷ [])
Rises-push [] t all rises = (rises, tt)
Rises-push (u ∷ us) t all rises = (all.0, Rises-push us t all.1 rises)

Rises-after : (c : Change) (s : State) → AllByRecursion Rises s → AllByRecursion Rises (applied s c)
Rises-after (Make table schema) s all =
    Rises-push s (record { name = table; schema = schema; used = 0; rows = [] }) all tt
Rises-after (Load table rows) s all = Rises-at_table table (Load table rows) s all
Rises-after (Update table portion sets conds) s all = Rises-at_table table (Update table portion sets conds) s all
Rises-after (Delete table portion conds) s all = Rises-at_table table (Delete table portion conds) s all

Rises-from : (s : State) (h : History) → AllByRecursion Rises s
    → AllByRecursion Rises (fold (λ s c. applied s c.change) s h)
Rises-from s [] all = all
Rises-from s (c ∷ cs) all = Rises-from (applied s c.change) cs (Rises-after c.change s all)

none_rises : RowsRise []
none_rises k d h = absurd (omega arith)

RowsRise-named : (name : List ℕ) (s : State) → AllByRecursion Rises s → RowsRise (rows_of s name)
RowsRise-named name [] all = none_rises
RowsRise-named name (t ∷ ts) all =
    elim (bytes_eq t.name name) as
    (λ b. RowsRise (unwrap_or (option_map (λ (u : Table). u.rows) (cond b (Some t) (table_of ts name))) [])) [
      | true ↦ rising-rows 0 t.used t.rows all.0
      | false ↦ RowsRise-named name ts all.1
    ]

pub RowsRise-rows_at : (h : History) (n : ℕ) (name : List ℕ) → RowsRise (rows_at h n name)
RowsRise-rows_at h n name = RowsRise-named name (state_after (take n h)) (Rises-from [] (take n h) tt)
