-- What a pass knows, and what each call of the store replies to it.
use Rattle.std.specs.Prelude.{◌≡◌, ◌⊎◌, ℕ, ◌+◌, List, [], ◌∷◌, ◌++◌, length, slice_get, Ok, Err, Option, None, Some, Result}
use mathlib.Core.List.{IsPrefix}
use Rattle.row_core.specs.declared.failure.Failure.{Failure}
use Rattle.row_core.specs.declared.failure.Failure.TheVariants.{Refused, NoMemory}
use Rattle.book_core.specs.declared.change.Change.{Change}
use Rattle.book_core.specs.History.{History, IsLegal}
use Rattle.book_core.specs.Versions.{log_of}
use Rattle.book_core.specs.declared.commit.Commit.{Commit}
use Rattle.book_core.specs.declared.log.Entry.{Entry}
use Rattle.turn_core.specs.Entries.{own, AreOfCallers}
use Rattle.turn_core.specs.Seats.{IsSeatOf, view_of}
use Rattle.turn_core.specs.declared.view.View.{View}
use Rattle.store_core.specs.Histories.{by_of, commit, refusal_after, RefusesCommit}
use Rattle.store_core.specs.Snapshots.{Shows}
use Rattle.store_core.specs.declared.pass.Note.{Note}
use Rattle.store_core.specs.declared.pass.Pass.{Pass}
use Rattle.store_core.specs.declared.refusal.PassSpent.{PassSpent}
use Rattle.store_core.specs.declared.refusal.SnapshotRefused.{SnapshotRefused}
use Rattle.store_core.specs.declared.refusal.SnapshotRefused.TheVariants as snapshot
use Rattle.store_core.specs.declared.refusal.StoreRefused.{StoreRefused}
use Rattle.store_core.specs.declared.refusal.StoreRefused.TheVariants as store
use Rattle.store_core.specs.declared.snapshot.Snapshot.{Snapshot}
use Rattle.store_core.specs.declared.store.Store.{Store}

-- what its seat knows
abbrev pub view : Pass → View Commit
view p = view_of p.seat

-- the history that it has seen
abbrev pub seen : Pass → History
seen p = (view p).seen

-- its own accepted changes
abbrev pub mine : Pass → History
mine p = (view p).mine

-- its number
abbrev pub pass_number : Pass → ℕ
pass_number p = (view p).number

-- how many passes its store has
abbrev pub passes_of : Pass → ℕ
passes_of p = (view p).mark

-- how many calls it has left
abbrev pub calls_left : Pass → ℕ
calls_left p = p.left

-- the pass is one of this store
abbrev pub IsPassOf : Store → Pass → Type 0
IsPassOf s p = IsSeatOf s.turn p.seat

-- what a pass knows after a call: it has seen all that it had seen, and maybe more, in one legal history, which has
-- each of its own changes once, and otherwise only changes of other passes
pub record Sees (p q : Pass) : Type 0 where
  pub number : pass_number q ≡ pass_number p
  pub passes : passes_of q ≡ passes_of p
  pub before : IsPrefix (seen p) (seen q)
  pub legal : IsLegal (seen q)
  pub own : own by_of (pass_number q) (seen q) ≡ mine q
  pub numbered : AreOfCallers by_of (passes_of q) (seen q)

-- the same of a call that counts, with the changes of its own that it added
pub record Counts (p q : Pass) (added : History) : Type 0 where
  pub left : calls_left q + 1 ≡ calls_left p
  pub sees : Sees p q
  pub mine : mine q ≡ mine p ++ added

-- the pass has no call left, and nothing changed
abbrev pub IsSpent : Pass → Pass → Type 0
IsSpent p q = (calls_left p ≡ 0) × (q ≡ p)

-- the reply to a pass that commits a change: its change is the last one that it has seen, accepted in the state before
-- it; or it is refused after all that the pass has seen, for a reason or for lack of memory
abbrev pub Commits : Pass → Change → Result ℕ (Failure StoreRefused) → Pass → Type 0
Commits p change (Ok n) q = Counts p q (commit (pass_number p) change ∷ [])
    × ((before : History)
    × (seen q ≡ before ++ commit (pass_number p) change ∷ []) × (refusal_after before change ≡ None))
    × (n ≡ length (seen q))
Commits p change (Err (Refused store.PassSpent)) q = IsSpent p q
Commits p change (Err (Refused (store.Book why))) q = Counts p q [] × (refusal_after (seen q) change ≡ Some why)
Commits p change (Err NoMemory) q = Counts p q [] × RefusesCommit (seen q) change NoMemory

-- the reply to a pass that takes a snapshot: one of all that it has seen
abbrev pub TakesSnapshot : Pass → Option ℕ → Result Snapshot (Failure SnapshotRefused) → Pass → Type 0
TakesSnapshot p n (Ok s) q = Counts p q [] × Shows (seen q) n (Ok s)
TakesSnapshot p n (Err (Refused snapshot.PassSpent)) q = IsSpent p q
TakesSnapshot p n (Err (Refused snapshot.Future)) q = Counts p q [] × Shows (seen q) n (Err (Refused record {}))
TakesSnapshot p n (Err NoMemory) q = Counts p q [] × Shows (seen q) n (Err NoMemory)

-- the reply to a pass that reads the log: the log of all that it has seen
abbrev pub ReadsLog : Pass → Result (List Entry) (Failure PassSpent) → Pass → Type 0
ReadsLog p (Ok log) q = Counts p q [] × (log ≡ log_of (seen q))
ReadsLog p (Err (Refused spent)) q = IsSpent p q
ReadsLog p (Err NoMemory) q = Counts p q []

-- a new pass with this number, of n passes, with this many calls; it has seen nothing and made nothing
pub record IsFresh (k n calls : ℕ) (p : Pass) : Type 0 where
  pub number : pass_number p ≡ k
  pub passes : passes_of p ≡ n
  pub left : calls_left p ≡ calls
  pub seen : seen p ≡ []
  pub mine : mine p ≡ []

-- the passes of a new store: n of them, each with this many calls; the one at index i has the number i + 1
pub record AreNew (n calls : ℕ) (s : Store) (ps : List Pass) : Type 0 where
  pub count : length ps ≡ n
  pub each : (i : ℕ) (p : Pass) → slice_get ps i ≡ Some p → IsPassOf s p × IsFresh (i + 1) n calls p

-- what a note says: the number of the pass that made it, what that pass had seen, and its own changes
abbrev pub note_view : Note → View Commit
note_view n = view_of n.seat

-- the note is of a pass of this store
abbrev pub IsNoteOf : Store → Note → Type 0
IsNoteOf s n = IsSeatOf s.turn n.seat

-- the note says what the pass knows; the pass doesn't change
pub record MakesNote (s : Store) (p q : Pass) (n : Note) : Type 0 where
  pub pass : IsPassOf s q
  pub note : IsNoteOf s n
  pub left : calls_left q ≡ calls_left p
  pub same : view q ≡ view p
  pub number : (note_view n).source ≡ pass_number p
  pub seen : (note_view n).seen ≡ seen p
  pub mine : (note_view n).mine ≡ mine p

-- the pass has seen all that it had seen, and all that the note says, in one legal history that one of the two had
-- seen; it has the changes of both, each once. The pass's own changes and its calls stay
pub record Hears (s : Store) (p : Pass) (n : Note) (q : Pass) : Type 0 where
  pub pass : IsPassOf s q
  pub left : calls_left q ≡ calls_left p
  pub mine : mine q ≡ mine p
  pub sees : Sees p q
  pub heard : IsPrefix (note_view n).seen (seen q)
  pub one : (seen q ≡ seen p) ⊎ (seen q ≡ (note_view n).seen)
  pub theirs : own by_of (note_view n).source (note_view n).seen ≡ (note_view n).mine
