use Rattle.std.proofs.Common.{IfOk, List, Result, subst, sym, ℕ}
use Rattle.std.specs.declared.alloc.AllocError.{AllocError}
use Rattle.std.proofs.lemmas.Result.{IfOk-weaker}
use Rattle.work_core.specs.declared.range.Range.{Range}
use Rattle.grid_core.specs.Bundles.{items_in}
use Rattle.round_core.specs.Plateaus.{ArePlateaus}
use Rattle.round_core.specs.declared.plateau.Plateau.{Plateau}
use Rattle.round_core.proofs.ClassLemmas.{plateaus-all, rise-from_grouped}
use Rattle.round_core.proofs.plateaus.plateaus_of.Goals as goal

pub returns : goal.returns
returns g c =
    let items = c.args.items.now in
    let post : Range ℕ → ℕ → Result (List Plateau) AllocError → Type 0 =
    λ classes n plateaus. Range ℕ × IfOk plateaus (λ (some : List Plateau). ArePlateaus c.args.measure (items_in classes items) some) in
    IfOk-weaker c.of_all.result _ _
    (λ plateaus e.
    subst (ArePlateaus c.args.measure items) (sym e)
    (plateaus-all c.args.measure items post c.in_ok-shares.shares.cuts.items c.in_ok-lists.lists.items
    (rise-from_grouped items c.requires.grouped) (λ classes n some given. given.1) c.in_ok-lists.ensures))
    c.of_all.ensures
