-- What a change does to versions, before it is done.
use Rattle.std.specs.Prelude.{◌≡◌, ℕ, List, flat_map, slice_get}
use Rattle.std.specs.List.{filter_map}
use Rattle.row_core.specs.declared.draft.Draft.{Draft}
use Rattle.version_core.specs.OpenVersions.{current, is_taken, places_from}
use Rattle.version_core.specs.Rows.{parts_of, parts_of_all}
use Rattle.version_core.specs.declared.change.RowsChange.{RowsChange}
use Rattle.version_core.specs.declared.version.Version.{Version}
use Rattle.version_core.specs.declared.planning.Plan.{Plan}

-- the versions at some positions
abbrev pub picked : List Version → List ℕ → List Version
picked vs places = filter_map (slice_get vs) places

-- what replaces the rows at some positions
abbrev pub parts_at : RowsChange → List Version → List ℕ → List Draft
parts_at c vs places = flat_map (λ v. parts_of c v.row) (picked vs places)

-- the plan has the rows that replace those that the change removes, and the positions of the removed ones
pub record IsPlanOf (c : RowsChange) (vs : List Version) (plan : Plan) : Type 0 where
  pub parts : plan.parts ≡ parts_of_all c (current vs)
  pub taken : plan.taken.items ≡ places_from (is_taken c) 0 vs
