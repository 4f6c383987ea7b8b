-- Rows without ids, however they are stored.
use Rattle.std.specs.Prelude.{◌≡◌, ◌⊎◌, List, []}
use Rattle.draft_core.specs.Columns.{AlikeRows, Takes}
use Rattle.row_core.specs.declared.draft.Draft.{Draft}
use Rattle.draft_core.specs.declared.drafts.Form.{Form}
use Rattle.draft_core.specs.declared.drafts.Form.TheVariants as form
use Rattle.row_core.specs.declared.value.Kind.{Kind}

-- the rows
abbrev pub drafts_in : Form → List Draft
drafts_in (form.Alike columns) = columns.rows
drafts_in (form.Apart drafts) = drafts.items

-- they are stored by column
abbrev pub AreAlike : Form → Type 0
AreAlike (form.Alike columns) = Unit {0}
AreAlike (form.Apart drafts) = ⊥

-- a row of these kinds can be added by column
abbrev pub TakesRow : Form → List Kind → Type 0
TakesRow (form.Alike columns) kinds = Takes columns kinds
TakesRow (form.Apart drafts) kinds = ⊥

-- other rows can be added to the columns: they are empty, or the columns accept their kinds
abbrev pub CanFollow : AlikeRows → Form → Type 0
CanFollow columns (form.Alike more) = (more.rows ≡ []) ⊎ Takes columns more.kinds
CanFollow columns (form.Apart drafts) = ⊥

-- other rows can be added by column
abbrev pub TakesRows : Form → Form → Type 0
TakesRows (form.Alike columns) more = CanFollow columns more
TakesRows (form.Apart drafts) more = ⊥
