-- Drafts borrowed from a list.
use Rattle.std.specs.Prelude.{pos, [], get_or}
use Rattle.std.specs.Int.Signed.{lt_z_yes}
use Rattle.row_core.specs.declared.draft.Draft.{Draft}
use Rattle.draft_core.specs.declared.draft_ref.DraftRef.{DraftRef}

-- a placeholder for an index past the last; it is never borrowed
abbrev pub no_draft : Draft
no_draft = record { period = record { from = pos 0; to = pos 1; ordered = lt_z_yes tt }; values = [] }

-- the draft that is borrowed
abbrev pub lent_draft : DraftRef → Draft
lent_draft lent = get_or lent.drafts.now lent.place no_draft
