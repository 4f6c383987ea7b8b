-- Rows as items whose classes are the numbers of their groups.
use Rattle.std.specs.Prelude.{None, slice_index_or, ◌≡◌, ◌+◌, ◌-◌, ◌<◌, ◌≤◌, ◌⊎◌, ℕ, ℤ, List, length, map, All, AllPairs, Contains, false, Option, Some, slice_get}
use Rattle.std.specs.List.{AllZip}
use Rattle.std.specs.declared.cmp.Ordering.TheVariants.{Less}
use Rattle.std.specs.Ordering.{is_lt}
use Rattle.row_core.specs.ValueOrder.{maybe_cmp}
use Rattle.row_core.specs.declared.row.Row.{Row}
use Rattle.row_core.specs.declared.value.Value.{Value}
use Rattle.dip_core.specs.declared.item.Item.{Item}
use Rattle.round_core.specs.declared.plateau.Plateau.{Plateau}
use Rattle.round_core.specs.declared.measure.Measure.{Measure}
use Rattle.round_core.specs.Plateaus.{ArePlateaus, of_class}
use Rattle.agg_core.specs.Entries.{entry_row, entry_value}
use Rattle.agg_core.specs.Groups.{rows_of_group}
use Rattle.agg_core.specs.declared.entries.Entry.{Entry}
use Rattle.agg_core.specs.declared.rows.AggRow.{AggRow}

-- A row with its amount, as an item of a class.
abbrev pub amount_item : (Row → ℤ) → ℕ → Row → Item
amount_item amount_of class row = record { period = row.period; id = row.id; class = class; amount = amount_of row }

-- The order of groups: the group without a value first, and the others by value.
abbrev pub GroupBefore : Option Value → Option Value → Type 0
GroupBefore a b = maybe_cmp a b ≡ Less

-- Each group comes before all later ones.
abbrev pub RisesByGroup : List (Option Value) → Type 0
RisesByGroup groups = AllPairs GroupBefore groups

-- No group comes after this one.
abbrev pub AreNotAfter : List (Option Value) → Option Value → Type 0
AreNotAfter groups group = All (λ g. is_lt (maybe_cmp group g) ≡ false) groups

-- The group is the last one.
abbrev pub IsLast : List (Option Value) → Option Value → Type 0
IsLast groups group = slice_get groups (length groups - 1) ≡ Some group

-- The class is the number of the last group, which has the value; earlier groups keep their numbers.
pub record IsClassOf (value : Value) (old new : List (Option Value)) (class : ℕ) : Type 0 where
  pub rise : RisesByGroup new
  pub last : class + 1 ≡ length new
  pub at : slice_get new class ≡ Some (Some value)
  pub kept : (c : ℕ) (g : Option Value) → slice_get old c ≡ Some g → slice_get new c ≡ Some g
  pub added : (g : Option Value) → Contains new g → Contains old g ⊎ (g ≡ Some value)

-- An entry's row as an item. Its class is the number of the group with the entry's value.
pub record IsNumberedItem {K : Type 0} (value_of : K → Value) (all : List Row) (amount_of : Row → ℤ)
    (groups : List (Option Value)) (entry : Entry K) (x : Item) : Type 0 where
  pub is : x ≡ amount_item amount_of x.class (entry_row all entry)
  pub at : slice_get groups x.class ≡ Some (Some (entry_value value_of entry))

-- The rows of entries as items, in ascending order of class, and the groups of their values.
pub record AreItemsByGroup {K : Type 0} (value_of : K → Value) (all : List Row) (amount_of : Row → ℤ)
    (entries : List (Entry K)) (items : List Item) (groups : List (Option Value)) : Type 0 where
  pub classes : AllPairs (λ (a b : Item). a.class ≤ b.class) items
  pub rise : RisesByGroup groups
  pub each : AllZip (IsNumberedItem value_of all amount_of groups) entries items
  pub listed : (g : Option Value) → Contains groups g
      → (e : Entry K) × Contains entries e × (Some (entry_value value_of e) ≡ g)

-- Rows as items, in ascending order of class. The items of class `c` are the rows of group number `c`. Each row is of
-- one of the groups, which are in ascending order.
pub record IsGrouping (amount_of : Row → ℤ) (group_of : Row → Option Value) (rows : List Row) (items : List Item)
    (groups : List (Option Value)) : Type 0 where
  pub classes : AllPairs (λ (a b : Item). a.class ≤ b.class) items
  pub count : length items ≡ length rows
  pub within : All (λ (x : Item). x.class < length groups) items
  pub rise : RisesByGroup groups
  pub listed : (row : Row) → Contains rows row → Contains groups (group_of row)
  pub of_classes : (c : ℕ) (g : Option Value) → slice_get groups c ≡ Some g
      → of_class c items ≡ map (amount_item amount_of c) (rows_of_group group_of g rows)

-- The row of a constant interval; its class is the number of its group.
abbrev pub agg_row_of : List (Option Value) → Plateau → AggRow
agg_row_of groups plateau = record {
  group = slice_index_or groups plateau.class None;
  period = plateau.period;
  value = plateau.value;
}

-- A row for each constant interval of items whose classes are the numbers of groups, in order.
pub record ArePlateauRows (measure : Measure) (items : List Item) (groups : List (Option Value))
    (answer : List AggRow) : Type 0 where
  pub plateaus : List Plateau
  pub all : ArePlateaus measure items plateaus
  pub is : answer ≡ map (agg_row_of groups) plateaus
