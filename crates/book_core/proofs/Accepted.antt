-- Which changes are refused for overlaps of keys.
use Rattle.std.proofs.Common.{◌≡◌, ℕ, Bool, true, false, Option, Some, None, refl, ap, ◌∙◌, inl, inr}
use Rattle.std.specs.Prelude.{Result, Err, IfNone, IfSome, IsOkUnless, ◌≢◌}
use Rattle.row_core.specs.Refusals.{map_refused}
use Rattle.row_core.specs.declared.failure.Failure.{Failure}
use Rattle.row_core.specs.declared.failure.Failure.TheVariants.{Refused, NoMemory}
use Rattle.book_core.specs.declared.change.Change.{Change}
use Rattle.version_core.specs.declared.keys.KeyOverlap as keys
use Rattle.book_core.specs.State.{State, first_refusal, leaves_overlap, or_overlap, refusal_of, table_named, table_of, IsRefusedAs, overlap_refusal}
use Rattle.book_core.specs.declared.refusal.BookRefused.{BookRefused}
use Rattle.book_core.specs.declared.refusal.BookRefused.TheVariants.{KeyOverlap}

first-of_none : (o : Option BookRefused) (overlap : Bool) → or_overlap o overlap ≡ None → o ≡ None
first-of_none None overlap h = refl
first-of_none (Some refused) overlap h = cc

none-of_overlap : (o : Option BookRefused) (overlap : Bool) → or_overlap o overlap ≡ None → overlap ≡ false
none-of_overlap None true h = cc
none-of_overlap None false h = refl
none-of_overlap (Some refused) overlap h = cc

-- an accepted change is not refused by the earlier tests, and leaves no overlap
pub first-none : (n : ℕ) (s : State) (c : Change) → refusal_of n s c ≡ None → first_refusal n s c ≡ None
first-none n s c h = first-of_none (first_refusal n s c) (leaves_overlap c (table_of s (table_named c))) h

pub overlap-none : (n : ℕ) (s : State) (c : Change) → refusal_of n s c ≡ None
    → leaves_overlap c (table_of s (table_named c)) ≡ false
overlap-none n s c h = none-of_overlap (first_refusal n s c) (leaves_overlap c (table_of s (table_named c))) h

-- a change that neither refuses is accepted
pub accepted-both : (n : ℕ) (s : State) (c : Change) → first_refusal n s c ≡ None
    → leaves_overlap c (table_of s (table_named c)) ≡ false → refusal_of n s c ≡ None
accepted-both n s c h k =
    ap (λ o. or_overlap o (leaves_overlap c (table_of s (table_named c)))) h ∙ ap (or_overlap None) k

-- rows with the same key overlap
overlap-refused : (n : ℕ) (s : State) (c : Change) → first_refusal n s c ≡ None
    → leaves_overlap c (table_of s (table_named c)) ≡ true → refusal_of n s c ≡ Some KeyOverlap
overlap-refused n s c h k =
    ap (λ o. or_overlap o (leaves_overlap c (table_of s (table_named c)))) h ∙ ap (or_overlap None) k

-- ---- a change that is not made after those tests

pub record IsFailed (refusal : Option BookRefused) (result : Result ℕ (Failure BookRefused)) : Type 0 where
  pub refused : IfSome refusal (IsRefusedAs result)
  pub accepted : IfNone refusal (IsOkUnless result NoMemory)

pub failed : (n : ℕ) (s : State) (c : Change) (why : Failure keys.KeyOverlap) (result : Result ℕ (Failure BookRefused))
    → first_refusal n s c ≡ None → result ≡ Err (map_refused overlap_refusal why)
    → (why ≢ NoMemory → leaves_overlap c (table_of s (table_named c)) ≡ true)
    → IsFailed (refusal_of n s c) result
failed n s c (Refused key) result h e overlap =
    rw (overlap-refused n s c h (overlap (λ same. cc)), e) (record { refused = inl refl; accepted = tt })
failed n s c NoMemory result h e overlap = by_overlap (leaves_overlap c (table_of s (table_named c))) refl where
  by_overlap : (overlap : Bool) → leaves_overlap c (table_of s (table_named c)) ≡ overlap
      → IsFailed (refusal_of n s c) result
  by_overlap true k = rw (overlap-refused n s c h k, e) (record { refused = inr (refl, refl); accepted = tt })
  by_overlap false k = rw (accepted-both n s c h k, e) (record { refused = tt; accepted = refl })
