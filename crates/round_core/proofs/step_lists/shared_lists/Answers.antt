use Rattle.std.proofs.Common.{IfOk, Result, subst, sym, ℕ}
use Rattle.std.specs.Global.{Vec}
use Rattle.std.specs.declared.alloc.AllocError.{AllocError}
use Rattle.std.proofs.lemmas.Result.{IfOk-weaker}
use Rattle.work_core.specs.Pieces.{items_within}
use Rattle.work_core.specs.declared.range.Range.{Range}
use Rattle.round_core.specs.ClassLists.{AreStepLists}
use Rattle.round_core.specs.declared.class_steps.ClassSteps.{ClassSteps}
use Rattle.round_core.proofs.StepListLemmas.{shares-lists}
use Rattle.round_core.proofs.step_lists.shared_lists.Goals as goal

pub returns : goal.returns
returns g c =
    let items = c.args.items.now in
    let post : Range ℕ → ℕ → Result (Vec ClassSteps) AllocError → Type 0 =
    λ places n lists. Range ℕ × IfOk lists (λ (some : Vec ClassSteps). AreStepLists (items_within places items) some.items) in
    IfOk-weaker c.in_one_list.result _ _
    (λ lists e.
    subst (AreStepLists items) (sym e)
    (shares-lists items post c.in_ok-shares.shares.cuts.items c.in_ok-lists.lists.items c.requires.grouped
    (λ places n lists given. given.1) c.in_ok-lists.ensures))
    c.in_one_list.ensures
