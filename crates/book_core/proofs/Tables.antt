-- The table that a book finds.
use Rattle.std.proofs.Common.{◌≡◌, ℕ, List, [], length, Option, Some, None, sym, ◌∙◌, ap}
use Rattle.std.specs.Prelude.{IfSome, option_copied}
use Rattle.std.specs.Borrow.{Bor}
use Rattle.book_core.specs.History.{History}
use Rattle.book_core.specs.StoredTables.{kept_table, StoredTable, kept_tables_from, AreKept, IsSound, IsTableOf, IsWellKept}
use Rattle.book_core.proofs.Reading.{table_of-newest, rows_at-found}
use Rattle.book_core.proofs.Ids.{found_well, all_well_kept}
use Rattle.book_core.proofs.Sound.{all_sound, found_sound}

-- the table that was found is the one with that name
pub IsTableOf-found : (h now : History) (ts asked : List StoredTable) (name : List ℕ) (o : Option (Bor StoredTable))
    → AreKept h ts → h ≡ now → asked ≡ ts → option_copied o ≡ kept_table name asked
    → IfSome o (λ t. IsTableOf now name t.now)
IsTableOf-found h now ts asked name None k v e f = tt
IsTableOf-found h now ts asked name (Some t) k v e f =
    let tables : asked ≡ kept_tables_from 0 [] now = e ∙ k.tables ∙ ap (kept_tables_from 0 []) v in record {
      newest = table_of-newest now asked name (Some t.now) tables f;
      past = λ n b. sym (rows_at-found now asked name n t.now tables b f);
      well = let all = found_well (length now) name (kept_tables_from 0 [] now) (all_well_kept now) in
          let here : IfSome (kept_table name asked) (IsWellKept (length now)) = rw tables all in
          rw (← f) at here;
      sound = let all = found_sound name (kept_tables_from 0 [] now) (all_sound now (rw v at k.legal)) in
          let here : IfSome (kept_table name asked) IsSound = rw tables all in
          rw (← f) at here;
    }

-- the table with a name is well kept
pub well_named : (h : History) (ts : List StoredTable) (name : List ℕ) → AreKept h ts
    → IfSome (kept_table name ts) (IsWellKept (length h))
well_named h ts name k = rw k.tables (found_well (length h) name (kept_tables_from 0 [] h) (all_well_kept h))
