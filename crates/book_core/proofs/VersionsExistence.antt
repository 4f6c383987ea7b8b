-- If the versions of a table may be read, they exist.
use Rattle.std.proofs.Common.{◌≡◌, ℕ, ◌-◌, ◌<◌, ◌≤◌, List, [], ◌∷◌, length, Bool, false, Option, Some, None, refl, sym, ap, arith, subst}
use Rattle.std.specs.Prelude.{IfSome, is_none, nat_le, nat_lt}
use Rattle.std.proofs.lemmas.Bool.{both_ways, leb-false, ltb-false}
use Rattle.version_core.specs.Shown.{versions_as_of}
use Rattle.version_core.specs.declared.version.Version.{Version}
use Rattle.book_core.specs.History.{History, IsLegal, state_after, between_refusal}
use Rattle.book_core.specs.StoredTables.{StoredTable, IsSound, IsTableOf, IsWellKept, kept_tables_from, kept_table}
use Rattle.book_core.specs.State.{table_of}
use Rattle.book_core.specs.Versions.{AreBetween, AreFromTo, IsAfter}
use Rattle.book_core.specs.declared.refusal.VersionsRefused.TheVariants.{BadPeriod, Future, NoTable}
use Rattle.book_core.proofs.Applying.{first_of-none}
use Rattle.book_core.proofs.Ids.{all_well_kept, found_well}
use Rattle.book_core.proofs.Past.{seen_are}
use Rattle.book_core.proofs.Reading.{rows_at-found, table_of-newest}
use Rattle.book_core.proofs.Sound.{all_sound, found_sound}

-- the table with a name, in a legal history
some_table : (h : History) (name : List ℕ) → IsLegal h → is_none (table_of (state_after h) name) ≡ false
    → (t : StoredTable) × IsTableOf h name t
some_table h name legal there = by_kept (kept_table name (kept_tables_from 0 [] h)) refl where
  by_kept : (o : Option StoredTable) → o ≡ kept_table name (kept_tables_from 0 [] h) → (t : StoredTable)
      × IsTableOf h name t
  by_kept None f =
      absurd (both_ways (is_none (table_of (state_after h) name)) there
      (ap is_none (table_of-newest h (kept_tables_from 0 [] h) name None refl f)))
  by_kept (Some t) f = (
    t,
    record {
      newest = table_of-newest h (kept_tables_from 0 [] h) name (Some t) refl f;
      past = λ n le. sym (rows_at-found h (kept_tables_from 0 [] h) name n t refl le f);
      well = subst (λ o. IfSome o (IsWellKept (length h))) (sym f)
          (found_well (length h) name (kept_tables_from 0 [] h) (all_well_kept h));
      sound = subst (λ o. IfSome o IsSound) (sym f) (found_sound name (kept_tables_from 0 [] h) (all_sound h legal));
    },
  )

-- the premises under which versions may be read
record MayRead (h : History) (at : ℕ) (is_bad : Bool) (name : List ℕ) : Type 0 where
  within : at ≤ length h
  right : is_bad ≡ false
  table : StoredTable
  is_table : IsTableOf h name table

may_read : (h : History) (at : ℕ) (is_bad : Bool) (name : List ℕ) → IsLegal h
    → between_refusal h at is_bad name ≡ None → MayRead h at is_bad name
may_read h at is_bad name legal none =
    let none_applies =
    first_of-none
    ((nat_lt (length h) at, Future) ∷ (is_bad, BadPeriod) ∷ (is_none (table_of (state_after h) name), NoTable) ∷ [])
    none in
    let (t, is) = some_table h name legal none_applies.1.1.0 in
    record { within = ltb-false (length h) at none_applies.0; right = none_applies.1.0; table = t; is_table = is }

pub some_between : (h : History) (at m n : ℕ) (name : List ℕ) → IsLegal h
    → between_refusal h at (nat_lt n m) name ≡ None → (versions : List Version) × AreBetween h at m n name versions
some_between h at m n name legal none =
    let may = may_read h at (nat_lt n m) name legal none in (
      versions_as_of at m n may.table.versions,
      seen_are h name may.table at m n (λ v. (v.sysfrom ≤ n) × IsAfter v.systo m)
          (versions_as_of at m n may.table.versions) may.is_table may.within (λ v p. p) (λ v p. p) refl,
    )

pub some_from_to : (h : History) (at m n : ℕ) (name : List ℕ) → IsLegal h
    → between_refusal h at (nat_le n m) name ≡ None → (versions : List Version) × AreFromTo h at m n name versions
some_from_to h at m n name legal none =
    let may = may_read h at (nat_le n m) name legal none in
    let some : m < n = leb-false n m may.right in (
      versions_as_of at m (n - 1) may.table.versions,
      seen_are h name may.table at m (n - 1) (λ v. (v.sysfrom < n) × IsAfter v.systo m)
          (versions_as_of at m (n - 1) may.table.versions) may.is_table may.within
          (λ v p. let x = p.0 in (omega (arith, x, some), p.1))
          (λ v p. let x = p.0 in (omega (arith, x, some), p.1)) refl,
    )
