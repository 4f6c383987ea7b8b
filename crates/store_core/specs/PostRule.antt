-- The rule of a post, over its word, its slot and the note in it. The word is the gate: 0 means open.
use Rattle.std.specs.Prelude.{◌≡◌, ℕ, [], ◌∷◌, Option, IfSome}
use mathlib.Core.Option.{some}
use Rattle.atomic_table.specs.Table.{State, Me}
use Rattle.store_core.specs.Passes.{IsNoteOf}
use Rattle.store_core.specs.declared.pass.Note.{Note}
use Rattle.store_core.specs.declared.store.Store.{Store}

-- the note in the post, if there is one, is of this store
abbrev pub IsOfStore : Store → Option Note → Type 0
IsOfStore s lies = IfSome lies (IsNoteOf s)

-- the rule: while the gate is open, the slot is in place, and the note in it is of the store
pub record KeepsNotesOf (s : Store) (t : State (Option Note) Store) : Type 0 where
  pub gate : ℕ
  pub words : t.words ≡ gate ∷ []
  pub home : gate ≡ 0 → (lies : Option Note) × (t.homes ≡ some lies ∷ []) × IsOfStore s lies

-- a caller that shut the gate and found it open has the slot
abbrev pub TakesSlot : Me (Option Note) Store → ℕ → Me (Option Note) Store → Type 0
TakesSlot before found after =
    found ≡ 0 → (lies : Option Note) × (after.1 ≡ (0, lies) ∷ []) × IsOfStore before.0 lies
