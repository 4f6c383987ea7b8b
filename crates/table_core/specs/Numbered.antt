-- Drafts with ids.
use Rattle.std.specs.Prelude.{ℕ, ◌+◌, List, [], ◌∷◌}
use Rattle.row_core.specs.declared.draft.Draft.{Draft}
use Rattle.row_core.specs.declared.row.Row.{Row}

-- the row of a draft and an id
abbrev pub row_of : ℕ → Draft → Row
row_of id draft = record { id = id; period = draft.period; values = draft.values }

-- a row without its id
abbrev pub unnumbered : Row → Draft
unnumbered row = record { period = row.period; values = row.values }

-- drafts as rows, with the ids after the `used` ones
abbrev pub numbered : ℕ → List Draft → List Row
numbered used [] = []
numbered used (d ∷ ds) = row_of (used + 1) d ∷ numbered (used + 1) ds

-- drafts as rows with these ids
abbrev pub with_ids : List ℕ → List Draft → List Row
with_ids [] drafts = []
with_ids (id ∷ ids) [] = []
with_ids (id ∷ ids) (d ∷ ds) = row_of id d ∷ with_ids ids ds
