-- The values of a column of two tables, with the current classes of their rows.
use Rattle.std.specs.Prelude.{◌≡◌, ◌↔◌, ◌⊎◌, ℕ, ◌+◌, ◌-◌, ◌<◌, ◌≤◌, List, ◌++◌, length, map, All, AllPairs, Bool, true, false, Contains, Option, Some, None, IsPermutation, IsSorted, filter, replicate, slice_get, slice_index, slice_index_or, take}
use Rattle.std.specs.Borrow.{Bor}
use Rattle.std.specs.Global.{Vec}
use Rattle.std.specs.Ordering.{is_eq, is_lt, ordering_then, nat_cmp}
use Rattle.std.specs.declared.cmp.Ordering.{Ordering}
use Rattle.row_core.specs.Value.{kind_of}
use Rattle.row_core.specs.declared.row.Row.{Row}
use Rattle.row_core.specs.declared.value.Kind.{Kind}
use Rattle.row_core.specs.declared.value.Value.{Value}
use Rattle.match_core.specs.declared.cells.Cell.{Cell}
use Rattle.match_core.specs.ClassedPlaces.{placed_from}
use Rattle.match_core.specs.declared.row_items.ClassedPlace.{ClassedPlace}
use Rattle.match_core.specs.declared.side_column.SideColumn.{SideColumn}
use Rattle.list_core.specs.Chunks.{all_in}
use Rattle.work_core.specs.Ranges.{has}
use Rattle.work_core.specs.declared.range.Range.{Range}

-- The rows' values in the column at index `place`.
abbrev pub column_at : ℕ → List Row → List (Option Value)
column_at place rows = map (λ row. slice_get row.values place) rows

-- The left rows' values in one column, followed by the right rows' values in another.
abbrev pub values_at : ℕ → ℕ → List Row → List Row → List (Option Value)
values_at left_place right_place lefts rights = column_at left_place lefts ++ column_at right_place rights

-- There is a value, and it is of the kind.
abbrev pub IsOfKind : Kind → Option Value → Type 0
IsOfKind kind None = ⊥
IsOfKind kind (Some value) = kind_of value ≡ kind

-- The values of a side's rows.
abbrev pub column_in : SideColumn → List (Option Value)
column_in side = column_at side.place side.rows.now

-- The current classes of rows; all are of class 0 if no classes are given.
abbrev pub so_far : Option (Bor (List ℕ)) → List Row → List ℕ
so_far None rows = replicate (length rows) 0
so_far (Some classes) rows = classes.now

-- The current classes of a side's rows.
abbrev pub classes_in : SideColumn → List ℕ
classes_in side = so_far side.classes side.rows.now

-- The sort key of a row with this class, value and index.
pub record IsCell {V : Type 0} (IsOf : Value → V → Type 0) (class : ℕ) (value : Value) (place : ℕ) (cell : Cell V)
    : Type 0 where
  pub class_is : cell.class ≡ class
  pub value_is : IsOf value cell.value
  pub place_is : cell.place ≡ place

-- The sort key of the row at an index, from its current class and its value in the column.
pub record IsCellAt {V : Type 0} (IsOf : Value → V → Type 0) (classes : List ℕ) (column : List (Option Value))
    (place : ℕ) (cell : Cell V) : Type 0 where
  pub value : Value
  pub there : slice_get column place ≡ Some (Some value)
  pub made : IsCell IsOf (slice_index classes place) value place cell

-- The order of sort keys: by class, then by value.
abbrev pub cell_cmp : {V : Type 0} → (V → V → Ordering) → Cell V → Cell V → Ordering
cell_cmp cmp a b = ordering_then (nat_cmp a.class b.class) (cmp a.value b.value)

-- One sort key comes before another.
abbrev pub is_before : {V : Type 0} → (V → V → Ordering) → Cell V → Cell V → Bool
is_before cmp a b = is_lt (cell_cmp cmp a b)

-- Some sort key belongs to the row at index `i`.
abbrev pub HasPlace : {V : Type 0} → List (Cell V) → ℕ → Type 0
HasPlace {V} cells i = (cell : Cell V) × Contains cells cell × (cell.place ≡ i)

-- The current class and the index of a sort key's row.
abbrev pub spot_of : {V : Type 0} → Cell V → ClassedPlace
spot_of cell = record { class = cell.class; place = cell.place }

-- The sort keys of the rows at the given indices, in the same order.
pub record AreCellsAt {V : Type 0} (IsOf : Value → V → Type 0) (classes : List ℕ) (column : List (Option Value))
    (places : List ClassedPlace) (cells : List (Cell V)) : Type 0 where
  pub own : All (λ (cell : Cell V). IsCellAt IsOf classes column cell.place cell) cells
  pub spots : map spot_of cells ≡ places

-- The sort keys within a range.
abbrev pub cells_in : {V : Type 0} → (V → V → Ordering) → Range (Cell V) → List (Cell V) → List (Cell V)
cells_in {V} cmp range cells = filter (λ (cell : Cell V). has (cell_cmp cmp) range cell) cells

-- The same sort keys in ascending order.
pub record AreInOrder {V : Type 0} (cmp : V → V → Ordering) (made cells : List (Cell V)) : Type 0 where
  pub same : IsPermutation made cells
  pub rise : IsSorted (cell_cmp cmp) cells

-- The sort keys of all rows of a side, in ascending order. Each is the key of its row, and each row has one.
pub record AreSorted {V : Type 0} (cmp : V → V → Ordering) (IsOf : Value → V → Type 0) (classes : List ℕ)
    (column : List (Option Value)) (cells : List (Cell V)) : Type 0 where
  pub own : All (λ (cell : Cell V). IsCellAt IsOf classes column cell.place cell) cells
  pub each : (i : ℕ) → i < length column → HasPlace cells i
  pub spots : IsPermutation (placed_from 0 classes) (map spot_of cells)
  pub rise : IsSorted (cell_cmp cmp) cells

-- The rows of both sort keys have the same current class and the same value.
abbrev pub same_cell : {V : Type 0} → (V → V → Ordering) → Cell V → Cell V → Bool
same_cell cmp a b = is_eq (cell_cmp cmp a b)

-- Sort keys of the same row are equal.
abbrev pub AgreeOnPlaces : {V : Type 0} → (V → V → Ordering) → List (Cell V) → Type 0
AgreeOnPlaces {V} cmp cells = (i j : ℕ) (d : Cell V) → i < length cells → j < length cells
    → (slice_index_or cells i d).place ≡ (slice_index_or cells j d).place
    → same_cell cmp (slice_index_or cells i d) (slice_index_or cells j d) ≡ true

-- Each sort key comes before all later ones.
abbrev pub AreRising : {V : Type 0} → (V → V → Ordering) → List (Cell V) → Type 0
AreRising {V} cmp cells = AllPairs (λ (a b : Cell V). is_before cmp a b ≡ true) cells

-- The rank of the key's row is the index of the equal key in `firsts`.
pub record HasRank {V : Type 0} (cmp : V → V → Ordering) (ranks : List ℕ) (firsts : List (Cell V)) (cell : Cell V)
    : Type 0 where
  pub within : slice_index ranks cell.place < length firsts
  pub same : (d : Cell V) → same_cell cmp (slice_index_or firsts (slice_index ranks cell.place) d) cell ≡ true

-- The ranks of the sort keys' rows are indices of their keys in `firsts`.
abbrev pub AreRanksOf : {V : Type 0} → (V → V → Ordering) → List (Cell V) → List ℕ → List (Cell V) → Type 0
AreRanksOf cmp cells ranks firsts = All (HasRank cmp ranks firsts) cells

-- An index with the rank of its sort key: the key's row, and the index of the equal key in `firsts`.
pub record IsRankedPlace {V : Type 0} (cmp : V → V → Ordering) (firsts : List (Cell V)) (cell : Cell V)
    (at : ClassedPlace) : Type 0 where
  pub place_is : at.place ≡ cell.place
  pub within : at.class < length firsts
  pub same : (d : Cell V) → same_cell cmp (slice_index_or firsts at.class d) cell ≡ true

-- The rows of the first `i` sort keys are ranked by `firsts`, and `places` has their indices; the last key of `firsts`
-- equals the last of these keys.
pub record AreRankedUpto {V : Type 0} (cmp : V → V → Ordering) (cells : List (Cell V)) (i : ℕ) (firsts : List (Cell V))
    (ranks : List ℕ) (places : List ClassedPlace) : Type 0 where
  pub rise : AreRising cmp firsts
  pub none : i ≡ 0 → length firsts ≡ 0
  pub last : (k j : ℕ) (d : Cell V) → k + 1 ≡ length firsts → j + 1 ≡ i
      → same_cell cmp (slice_index_or firsts k d) (slice_index_or cells j d) ≡ true
  pub ranked : (k : ℕ) (d : Cell V) → k < i → HasRank cmp ranks firsts (slice_index_or cells k d)
  pub count : length places ≡ i
  pub placed : (k : ℕ) (d : Cell V) (e : ClassedPlace) → k < i
      → IsRankedPlace cmp firsts (slice_index_or cells k d) (slice_index_or places k e)

-- The number of sort keys in the lists before the list at index `number`.
abbrev pub count_before : {V : Type 0} → ℕ → List (Vec (Cell V)) → ℕ
count_before number lists = length (all_in (take number lists))

-- A sort key doesn't come before the last of the others, if there is one.
abbrev pub IsFromLast : {V : Type 0} → (V → V → Ordering) → List (Cell V) → Cell V → Type 0
IsFromLast {V} cmp others cell = (k : ℕ) (d : Cell V) → k + 1 ≡ length others
    → is_before cmp cell (slice_index_or others k d) ≡ false

-- The last sort key of a list equals another one.
abbrev pub HasLast : {V : Type 0} → (V → V → Ordering) → List (Cell V) → Cell V → Type 0
HasLast {V} cmp others cell = (last : Cell V) × ((slice_get others (length others - 1) ≡ Some last)
    × (same_cell cmp last cell ≡ true))

-- The new list is the old one if its last key equals `cell`, or has `cell` appended. It is ascending, and `rank` is
-- its last index.
pub record IsEntered {V : Type 0} (cmp : V → V → Ordering) (old : List (Cell V)) (cell : Cell V) (new : List (Cell V))
    (rank : ℕ) : Type 0 where
  pub kept : (k : ℕ) (d : Cell V) → k < length old → slice_index_or new k d ≡ slice_index_or old k d
  pub more : length old ≤ length new
  pub last : rank + 1 ≡ length new
  pub same : (d : Cell V) → same_cell cmp (slice_index_or new rank d) cell ≡ true
  pub rise : AreRising cmp new

-- A row's current class and its value agree with the sort key of its rank.
pub record IsRankAt {V : Type 0} (cmp : V → V → Ordering) (IsOf : Value → V → Type 0) (classes : List ℕ)
    (column : List (Option Value)) (ranks : List ℕ) (firsts : List (Cell V)) (i : ℕ) : Type 0 where
  pub cell : Cell V
  pub at : IsCellAt IsOf classes column i cell
  pub within : slice_index ranks i < length firsts
  pub same : (d : Cell V) → same_cell cmp (slice_index_or firsts (slice_index ranks i) d) cell ≡ true

-- The ranks of a side's rows, and for each rank the sort key of its rows, in ascending order.
pub record AreRanked {V : Type 0} (cmp : V → V → Ordering) (IsOf : Value → V → Type 0) (classes : List ℕ)
    (column : List (Option Value)) (ranks : List ℕ) (firsts : List (Cell V)) : Type 0 where
  pub count : length ranks ≡ length column
  pub each : (i : ℕ) → i < length column → IsRankAt cmp IsOf classes column ranks firsts i
  pub rise : AreRising cmp firsts

-- The ranks of a side's rows, and the indices of the rows with their ranks.
pub record AreRankedAndPlaced {V : Type 0} (cmp : V → V → Ordering) (IsOf : Value → V → Type 0) (classes : List ℕ)
    (column : List (Option Value)) (ranks : List ℕ) (firsts : List (Cell V)) (places : List ClassedPlace)
    : Type 0 where
  pub ranked : AreRanked cmp IsOf classes column ranks firsts
  pub placed : IsPermutation (placed_from 0 ranks) places

-- The left keys before index `left` come before a right key, and the one at `left` doesn't.
pub record IsNextTo {V : Type 0} (cmp : V → V → Ordering) (lefts rights : List (Cell V)) (right left : ℕ)
    : Type 0 where
  pub before : (d : Cell V) → All (λ cell. is_before cmp cell (slice_index_or rights right d) ≡ true) (take left lefts)
  pub next : (d : Cell V) → left < length lefts
      → is_before cmp (slice_index_or lefts left d) (slice_index_or rights right d) ≡ false

-- The number of a right sort key: the index of the equal left key, or the key's own index past all left ones if no
-- left key is equal.
abbrev pub IsNumberOf : {V : Type 0} → (V → V → Ordering) → List (Cell V) → List (Cell V) → ℕ → ℕ → Type 0
IsNumberOf {V} cmp lefts rights right number =
    ((number < length lefts)
    × ((d : Cell V) → same_cell cmp (slice_index_or lefts number d) (slice_index_or rights right d) ≡ true))
    ⊎ ((number ≡ length lefts + right)
    × ((d : Cell V) → All (λ cell. same_cell cmp cell (slice_index_or rights right d) ≡ false) lefts))

-- The numbers of all right sort keys.
pub record AreMatched {V : Type 0} (cmp : V → V → Ordering) (lefts rights : List (Cell V)) (numbers : List ℕ)
    : Type 0 where
  pub count : length numbers ≡ length rights
  pub each : (i : ℕ) → i < length rights → IsNumberOf cmp lefts rights i (slice_index numbers i)

-- The class of each right row is the number of its rank.
abbrev pub AreNumbered : List ℕ → List ℕ → List ℕ → Type 0
AreNumbered ranks numbers classes = (i : ℕ) → i < length ranks
    → slice_index classes i ≡ slice_index numbers (slice_index ranks i)

-- Two rows have the same new class exactly if they had the same old class and have the same value.
abbrev pub Refines : List ℕ → List (Option Value) → List ℕ → Type 0
Refines old column new = (i j : ℕ) → i < length old → j < length old
    → (slice_index new i ≡ slice_index new j)
    ↔ ((slice_index old i ≡ slice_index old j) × (slice_get column i ≡ slice_get column j))
