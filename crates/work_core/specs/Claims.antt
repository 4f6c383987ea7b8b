-- The rule of the word that workers draw numbers from: the numbers drawn are all those below it, each once.
use Rattle.std.specs.Prelude.{◌≡◌, ℕ, ◌+◌, ◌-◌, ◌≤◌, max, List, [], ◌∷◌, ◌++◌, length, slice_index, sum_by}
use mathlib.Core.Option.{some}
use lib.ListN.{get_elem?}
use Rattle.atomic_table.specs.Table.{State, Me, Step}
use Rattle.work_core.specs.Counting.{times, times_below}
use Rattle.work_core.specs.Limits.{worker_limit, draw_limit, word_limit}
use Rattle.work_core.specs.declared.claim_view.ClaimView.{ClaimView}

-- a view with this many parts, this many draws left, a number that the word has reached, and the numbers drawn
abbrev pub view_of : ℕ → ℕ → ℕ → List ℕ → ClaimView
view_of parts room least drawn = record { parts = parts; room = room; least = least; drawn = drawn }

-- each worker and the caller that joins them has a part, and a seat with all parts knows all draws
abbrev pub all_parts : ℕ
all_parts = worker_limit + 1

-- together the views have all parts, and know each number below the word as drawn once, and no other number
pub record AreClaims (word : ℕ) (views : List ClaimView) : Type 0 where
  pub parts : sum_by (λ v. v.parts) views ≡ all_parts
  pub room : sum_by (λ v. v.room) views + word ≡ word_limit
  pub once : (x : ℕ) → sum_by (λ v. times x v.drawn) views ≡ times_below x word
  pub reached : (id : ℕ) (v : ClaimView) → get_elem? views id ≡ some v → v.least ≤ word
  pub idle : (id : ℕ) (v : ClaimView) → get_elem? views id ≡ some v → v.parts ≡ 0 → v.drawn ≡ []

-- the rule of a table of one word
abbrev pub IsClaimed : {S : Type 0} → State S ClaimView → Type 0
IsClaimed s = (length s.words ≡ 1) × AreClaims (slice_index s.words 0) s.views

-- the view before any number is drawn
abbrev pub first_view : ClaimView
first_view = view_of all_parts word_limit 0 []

-- the view of a new worker
abbrev pub worker_view : ClaimView
worker_view = view_of 1 draw_limit 0 []

-- a view after a worker's view was split off
abbrev pub view_left : ClaimView → ClaimView
view_left v = view_of (v.parts - 1) (v.room - draw_limit) v.least v.drawn

-- the view of the worker
abbrev pub view_given : ClaimView → ClaimView
view_given v = worker_view

-- what two views know together
abbrev pub joined_view : ClaimView → ClaimView → ClaimView
joined_view v w = view_of (v.parts + w.parts) (v.room + w.room) (max v.least w.least) (v.drawn ++ w.drawn)

-- what the second of them knows afterwards: nothing
abbrev pub spent_view : ClaimView
spent_view = view_of 0 0 0 []

-- the view after a draw that found this number
abbrev pub view_after : ClaimView → ℕ → ClaimView
view_after v found = view_of v.parts (v.room - 1) (found + 1) (v.drawn ++ found ∷ [])

-- a draw: the number found is drawn, and isn't less than the number that the word was known to have reached
abbrev pub Draws : {S : Type 0} → Step S → Me S ClaimView → ℕ → Me S ClaimView → Type 0
Draws st m found m' = (m'.0 ≡ view_after m.0 found) × (m'.1 ≡ m.1) × (m.0.least ≤ found)
