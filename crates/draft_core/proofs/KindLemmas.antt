-- Kinds of columns, and of the values in them.
use Rattle.std.proofs.Common.{◌≡◌, ℕ, zero, suc, ◌+◌, ◌<◌, ◌≤◌, ◌==◌, List, [], ◌∷◌, Bool, true, false, ◌&&◌, length, map, get_or, refl, ap, sym, ◌∙◌, arith}
use Rattle.std.specs.Prelude.{IsTrue, pos, ◌↔◌}
use Rattle.std.specs.List.{list_all}
use Rattle.std.proofs.lemmas.List.{get_or-map, length-map}
use Rattle.std.proofs.lemmas.List.Elements.{All-head, All-tail}
use Rattle.period_core.specs.declared.period.Period.{Period}
use Rattle.draft_core.specs.Columns.{AreLong, kind_of_column, kinds_fit, rows_by_column, values_at, values_of_column}
use Rattle.row_core.specs.Schema.{fits}
use Rattle.row_core.specs.Value.{kind_of, same_kind}
use Rattle.draft_core.specs.declared.column_values.ColumnValues.{ColumnValues}
use Rattle.draft_core.specs.declared.column_values.ColumnValues.TheVariants as column
use Rattle.row_core.specs.declared.draft.Draft.{Draft}
use Rattle.row_core.specs.declared.schema.Column.{Column}
use Rattle.row_core.specs.declared.value.Kind.{Kind}
use Rattle.row_core.specs.declared.value.Kind.TheVariants as kind
use Rattle.row_core.specs.declared.value.Value.TheVariants.{Int, Text}

-- a kind is its column's
abbrev pub is_fit_kind : Column → Kind → Bool
is_fit_kind column kind = same_kind column.kind kind

-- a column's values are of its kind
kind_at : (c : ColumnValues) (place : ℕ) → place < length (values_of_column c)
    → kind_of (get_or (values_of_column c) place (Int (pos 0))) ≡ kind_of_column c
kind_at (column.Numbers numbers) place inside =
    ap kind_of (get_or-map Int numbers.items place (pos 0) (Int (pos 0))
    (omega (arith, inside, length-map numbers.items Int)))
kind_at (column.Texts texts) place inside =
    ap kind_of (get_or-map Text texts place [] (Int (pos 0)) (omega (arith, inside, length-map texts Text)))

-- a row fits if its columns do
row-fits : (count place : ℕ) (schema : List Column) (columns : List ColumnValues) → AreLong count columns
    → place < count
    → fits schema (values_at (map values_of_column columns) place) ≡ kinds_fit schema (map kind_of_column columns)
row-fits count place [] [] long inside = refl
row-fits count place [] (c ∷ cs) long inside = refl
row-fits count place (s ∷ ss) [] long inside = refl
row-fits count place (s ∷ ss) (c ∷ cs) long inside =
    let size : count ≤ length (values_of_column c) = All-head (λ x. count ≤ length (values_of_column x)) c cs long in
    ap (λ kind. same_kind s.kind kind && fits ss (values_at (map values_of_column cs) place))
    (kind_at c place (omega (arith, inside, size)))
    ∙ ap (λ b. same_kind s.kind (kind_of_column c) && b)
    (row-fits count place ss cs (All-tail (λ x. count ≤ length (values_of_column x)) c cs long) inside)

both : (b : Bool) → (b && b) ≡ b
both true = refl
both false = refl

only : (b : Bool) → (b && true) ≡ b
only true = refl
only false = refl

-- the same of all rows, if there are any
pub rows-fit : (count place : ℕ) (ps : List Period) (schema : List Column) (columns : List ColumnValues)
    → AreLong count columns → place + length ps ≤ count → 0 < length ps
    → list_all {X = Draft} (λ d. fits schema d.values) (rows_by_column place ps (map values_of_column columns))
    ≡ kinds_fit schema (map kind_of_column columns)
rows-fit count place [] schema columns long within some = absurd (omega (arith, some))
rows-fit count place (p ∷ []) schema columns long within some =
    ap (λ b. b && true) (row-fits count place schema columns long (omega (arith, within)))
    ∙ only (kinds_fit schema (map kind_of_column columns))
rows-fit count place (p ∷ q ∷ qs) schema columns long within some =
    ap (λ b. b && list_all {X = Draft} (λ d. fits schema d.values)
    (rows_by_column (suc place) (q ∷ qs) (map values_of_column columns)))
    (row-fits count place schema columns long (omega (arith, within)))
    ∙ ap (λ b. kinds_fit schema (map kind_of_column columns) && b)
    (rows-fit count (suc place) (q ∷ qs) schema columns long (omega (arith, within)) (omega arith))
    ∙ both (kinds_fit schema (map kind_of_column columns))

-- the test of a column's kind, by index
pub kind_there : (columns : List Column) (values : List ColumnValues) (i : ℕ) (s : Column) (c : ColumnValues) (k : Kind)
    → i < length values → s ≡ get_or columns i s → c ≡ get_or values i c → k ≡ kind_of_column c
    → is_fit_kind (get_or columns i s) (get_or (map kind_of_column values) i k) ≡ is_fit_kind s k
kind_there columns values i s c k inside at_column at_values is =
    ap (λ x. is_fit_kind x (get_or (map kind_of_column values) i k)) (sym at_column)
    ∙ ap (is_fit_kind s) (get_or-map kind_of_column values i c k inside ∙ ap kind_of_column (sym at_values) ∙ sym is)

-- a kind equals itself
pub same_kind-self : (one other : Kind) → one ≡ other → same_kind one other ≡ true
same_kind-self kind.Int kind.Int same = refl
same_kind-self kind.Text kind.Text same = refl
same_kind-self kind.Int kind.Text same = absurd (cc)
same_kind-self kind.Text kind.Int same = absurd (cc)

-- `false` decides what doesn't hold
pub false-where_not : {P : Type 0} → (P → ⊥) → IsTrue false ↔ P
false-where_not not_so = (λ wrong. let never : false ≡ true = wrong in absurd (cc), λ p. absurd (not_so p))

-- a number that is not 0
pub not-zero : (n : ℕ) → (n == 0) ≡ false → 0 < n
not-zero zero e = absurd (cc)
not-zero (suc n) e = omega arith

-- a row has a value in each column
pub length-values : (columns : List ColumnValues) (place : ℕ)
    → length (values_at (map values_of_column columns) place) ≡ length columns
length-values [] place = refl
length-values (c ∷ cs) place = ap suc (length-values cs place)
