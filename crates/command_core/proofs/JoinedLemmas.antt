-- The items of consecutive lists.
use Rattle.std.proofs.Common.{◌≡◌, ℕ, ◌+◌, ◌-◌, ◌<◌, ◌≤◌, List, ◌∷◌, Some, length, drop, drop-drop, slice_get, ap, ◌∙◌, arith, length-append}
use Rattle.list_core.proofs.PlaceLemmas.{slice_get-before}
use Rattle.command_core.specs.Seams.{joined}
use Rattle.command_core.proofs.BatchLemmas.{joined-rest}
use Rattle.command_core.proofs.Cutting.{drop-slice_get}

-- An item of the first list, and the items after it.
pub from_first : {X : Type 0} (lists rest : List (List X)) (list : List X) (i : ℕ) (x : X) → lists ≡ list ∷ rest
    → i < length list → slice_get list i ≡ Some x → drop i (joined lists) ≡ x ∷ drop (i + 1) (joined lists)
from_first lists rest list i x e inside at =
    drop-slice_get (joined lists) i x
    (ap (λ l. slice_get (joined l) i) e ∙ slice_get-before list (joined rest) i inside ∙ at)

-- The items from one after the first list on.
pub from_later : {X : Type 0} (lists rest : List (List X)) (list : List X) (i size : ℕ) → lists ≡ list ∷ rest
    → size ≡ length list → size ≤ i → i < length (joined lists)
    → (drop (i - size) (joined rest) ≡ drop i (joined lists)) × (i - size < length (joined rest))
from_later lists rest list i size e same past inside =
    let whole : length list + (i - size) ≡ i = omega (arith, past, same) in (
      ap (drop (i - size)) (joined-rest lists rest list e)
          ∙ drop-drop (i - size) (length list) (joined lists)
          ∙ ap (λ n. drop n (joined lists)) whole,
      omega (arith, past, same, inside, ap (λ l. length (joined l)) e, length-append list (joined rest)),
    )
