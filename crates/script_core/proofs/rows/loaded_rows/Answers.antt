use Rattle.std.proofs.Common.{◌≡◌, IfOk, List, MatchResult, Ok, Result, subst, ℕ}
use Rattle.std.specs.List.{enumerate_from}
use Rattle.std.specs.declared.alloc.AllocError.{AllocError}
use Rattle.work_core.specs.Pieces.{items_within}
use Rattle.work_core.specs.declared.range.Range.{Range}
use Rattle.row_core.specs.declared.draft.Draft.{Draft}
use Rattle.command_core.specs.Lines.{lines_in}
use Rattle.command_core.specs.declared.refusal.Fault.{Fault}
use Rattle.script_core.specs.Failure.{IsFailureOf}
use Rattle.script_core.specs.Effects.{loaded_row}
use Rattle.script_core.specs.Loads.{drafts_or_fault}
use Rattle.script_core.proofs.Ranges.{ranges-all}
use Rattle.script_core.proofs.rows.loaded_rows.Goals as goal

pub returns : goal.returns
returns g c =
    let columns = c.args.schema.now in
    let numbered = enumerate_from c.args.number (lines_in c.args.lines) in
    let post : Range ℕ → ℕ → Result (Result (List Draft) Fault) AllocError → Type 0 =
    λ places n read. Range ℕ
    × IfOk read (λ (own : Result (List Draft) Fault). drafts_or_fault columns (items_within places numbered) ≡ own) in
    subst (λ (meant : Result (List Draft) Fault).
    MatchResult c.in_one_list.result (λ rows. meant ≡ Ok rows) (IsFailureOf meant))
    (ranges-all (loaded_row columns) numbered post c.in_ok-shares.shares.cuts.items c.in_ok-ranges.ranges.items
    (λ places n own given. given.1) c.in_ok-ranges.ensures)
    c.in_one_list.ensures
