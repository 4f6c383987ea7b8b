-- A change that isn't made is refused by name, or memory is.
use Rattle.std.proofs.Common.{ℕ, Option, Result, ap}
use Rattle.std.specs.Prelude.{option_map}
use Rattle.row_core.specs.Refusals.{refused_or}
use Rattle.row_core.specs.declared.failure.Failure as row
use Rattle.row_core.specs.declared.failure.Failure.TheVariants.{Refused, NoMemory}
use Rattle.book_core.specs.declared.change.Change.{Change}
use Rattle.book_core.specs.History.{History}
use Rattle.book_core.specs.declared.refusal.BookRefused.{BookRefused}
use Rattle.store_core.specs.Histories.{RefusesCommit, refusal_after}
use Rattle.command_core.specs.Refusal.{fault}
use Rattle.command_core.specs.declared.refusal.Fault.{Fault}
use Rattle.script_core.specs.Failure.{IsFailureOf, failure_at}
use Rattle.script_core.specs.Refusal.{book_refusal}

-- The history after a change, or the change's refusal.
abbrev meant_by : ℕ → History → Option BookRefused → Result History Fault
meant_by number next refusal =
    refused_or (option_map (λ refused. fault number (book_refusal refused)) refusal) next

-- Whatever refuses a change, the failure is the one that is meant.
pub change-failure : (number : ℕ) (h : History) (change : Change) (why : row.Failure BookRefused) (next : History)
    → RefusesCommit h change why
    → IsFailureOf (meant_by number next (refusal_after h change)) (failure_at number book_refusal why)
change-failure number h change (Refused name) next is = ap (meant_by number next) is
change-failure number h change NoMemory next is = tt
