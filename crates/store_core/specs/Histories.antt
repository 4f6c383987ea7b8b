-- The history of a store: the passes' changes, and the effect of one more.
use Rattle.std.specs.Prelude.{◌≡◌, ℕ, [], ◌∷◌, ◌++◌, length, take, Option, None, Some, Result, Ok, Err, refl, ◌⊎◌}
use Rattle.std.proofs.Common.{sym, ◌∙◌, ap}
use mathlib.Core.Path.{path_j'}
use Rattle.std.specs.Coded.{Π_prop, →_prop, Unit-prop}
use Rattle.row_core.specs.declared.failure.Failure.{Failure}
use Rattle.row_core.specs.declared.failure.Failure.TheVariants.{Refused, NoMemory}
use Rattle.book_core.specs.declared.change.Change.{Change}
use Rattle.book_core.specs.History.{History, IsLegal, state_after}
use Rattle.book_core.specs.State.{refusal_of}
use Rattle.book_core.specs.declared.refusal.BookRefused.{BookRefused}
use Rattle.book_core.specs.declared.refusal.BookRefused.TheVariants.{KeyOverlap}
use Rattle.book_core.specs.declared.commit.Commit.{Commit}

-- the number of the pass that made a change
abbrev pub by_of : Commit → ℕ
by_of c = c.by

-- a change of the pass with this number
abbrev pub commit : ℕ → Change → Commit
commit by change = record { by = by; change = change }

-- why a change is refused after a history, if it is
abbrev pub refusal_after : History → Change → Option BookRefused
refusal_after h change = refusal_of (length h) (state_after h) change

-- the change is refused for the first reason that applies after the history; it is `NoMemory` only if no reason
-- applies, or if the test of keys would refuse the change
abbrev pub RefusesCommit : History → Change → Failure BookRefused → Type 0
RefusesCommit h change (Refused why) = refusal_after h change ≡ Some why
RefusesCommit h change NoMemory = (refusal_after h change ≡ None) ⊎ (refusal_after h change ≡ Some KeyOverlap)

-- the effect of a pass's change on the history, and the reply: it is accepted, and the reply is the number of changes
-- with it, or the history stays
abbrev pub CommitsTo : History → ℕ → Change → Result ℕ (Failure BookRefused) → History → Type 0
CommitsTo h by change (Ok n) k = (refusal_after h change ≡ None) × (k ≡ h ++ commit by change ∷ []) × (n ≡ length k)
CommitsTo h by change (Err why) k = (k ≡ h) × RefusesCommit h change why

-- a proof that an option has no value is unique, so that a type may record that a history is legal
module _ {T : Type 0} where
  abbrev IsNo : Option T → Type 0
  IsNo None = Unit {0}
  IsNo (Some x) = ⊥

  no_value : (o : Option T) → IsNo o → o ≡ None
  no_value None c = refl
  no_value (Some x) c = absurd c

  IsNo-prop : (o : Option T) → IsProp (IsNo o)
  IsNo-prop None = Unit-prop
  IsNo-prop (Some x) = λ c d. absurd c

  is_no : (o : Option T) → o ≡ None → IsNo o
  is_no o e = path_j' (λ o e. IsNo o) tt e

  round : (o : Option T) (e : o ≡ None) → no_value o (is_no o e) ≡ e
  unfolding no_value is_no
  round o e = path_j' (λ o e. no_value o (is_no o e) ≡ e) refl e

  none-prop : (o : Option T) → IsProp (o ≡ None)
  none-prop o p q = sym (round o p) ∙ ap (no_value o) (IsNo-prop o (is_no o p) (is_no o q)) ∙ round o q

-- a proof that a history is legal is unique
pub IsLegal-prop : (h : History) → IsProp (IsLegal h)
IsLegal-prop h = Π_prop (λ n. Π_prop (λ c. →_prop (none-prop (refusal_of n (state_after (take n h)) c.change))))
