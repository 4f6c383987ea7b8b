-- The steps of a post keep its rule.
use Rattle.std.proofs.Common.{◌≡◌, ℕ, List, [], ◌∷◌, length, slice_index, slice_set, Option, refl, ap, sym, ◌∙◌, arith}
use mathlib.Core.Logic.{dite}
use mathlib.Core.Option.{some}
use native.Mathlib.Decide.{ℕ_discrete}
use lib.ListN.{get_elem?}
use Rattle.atomic_table.specs.Table.{keeps, takes, gives, put_back, Allows, Arrives}
use Rattle.store_core.specs.PostRule.{IsOfStore, KeepsNotesOf, TakesSlot}
use Rattle.store_core.specs.declared.pass.Note.{Note}
use Rattle.store_core.specs.declared.store.Store.{Store}

-- the only slot, once it is set
set_only : {A : Type 0} (hs : List A) (x : A) → length hs ≡ 1 → slice_set hs 0 x ≡ x ∷ []
set_only [] x one = absurd (omega arith)
set_only (h ∷ []) x one = refl
set_only (h ∷ k ∷ hs) x one = absurd (omega arith)

-- a caller shuts the gate; it has the slot if the gate was open
pub may_shut : (slots : ℕ) (s : Store)
    → Arrives (KeepsNotesOf s) slots 0 (λ _. 1) (TakesSlot (s, []))
may_shut slots s t r _ _ =
    let found : slice_index t.words 0 ≡ r.gate = ap (λ ws. slice_index ws 0) r.words in
    let shut : slice_set t.words 0 1 ≡ 1 ∷ [] = ap (λ ws. slice_set ws 0 1) r.words in
    dite (ℕ_discrete r.gate 0)
    (λ at_home. let lies = r.home at_home in (
      s,
      takes 0 lies.0,
      ap (λ hs. get_elem? hs 0) lies.1,
      record { gate = 1; words = shut; home = λ e. absurd (omega arith) },
      λ _. (lies.0, refl, lies.2),
    ))
    (λ out. (
      s,
      keeps,
      tt,
      record { gate = 1; words = shut; home = λ e. absurd (omega arith) },
      λ e. absurd (out (sym found ∙ e)),
    ))

-- the caller with the slot opens the gate, with a note of the store in the slot, or without one
pub may_reopen : (slots id : ℕ) (s v : Store) (lies : Option Note) (taken : List (ℕ × Option Note)) → slots ≡ 1
    → taken ≡ (0, lies) ∷ [] → IsOfStore s lies
    → Allows (KeepsNotesOf s) slots id (v, taken) 0 (λ _. 0) (λ _ _. Unit {0})
may_reopen slots id s v lies taken one has of t r wide _ _ = (
  v,
  gives,
  tt,
  record {
    gate = 0;
    words = ap (λ ws. slice_set ws 0 0) r.words;
    home = λ _. (lies, ap (put_back t.homes) has ∙ set_only t.homes (some lies) (wide ∙ one), of);
  },
  tt,
)
