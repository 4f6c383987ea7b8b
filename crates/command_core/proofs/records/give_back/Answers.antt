use Rattle.std.proofs.Common.{◌≡◌, ◌∙◌, Some, ap, arith, drop, drop-drop, slice_get, sym}
use Rattle.std.specs.Prelude.{option_copied}
use Rattle.command_core.specs.Seams.{joined}
use Rattle.command_core.proofs.BatchLemmas.{joined-rest}
use Rattle.command_core.proofs.Cutting.{drop-slice_get}
use Rattle.command_core.proofs.records.give_back.Goals as goal

pub loop-first-preserved : goal.loop-first-preserved
loop-first-preserved c =
    let items = c.loop-first.batches.items in
    let all = joined c.args.batches.now.items in
    let first = c.in-Some.first.now in
    let here : slice_get items 0 ≡ Some first =
    ap (λ l. slice_get l 0) (sym c.deref.ensures.value) ∙ sym c.first.ensures.value ∙ ap option_copied c.in-Some.is in (
      omega (arith, c.if-passed-gone.false, c.loop-first.invariant.0),
      ap joined c.remove.ensures.by_index.2
          ∙ joined-rest items (drop 1 items) first (drop-slice_get items 0 first here)
          ∙ ap (λ n. drop n (joined items)) (sym c.len-len.ensures)
          ∙ ap (λ l. drop c.len-len.result l) c.loop-first.invariant.1
          ∙ drop-drop c.len-len.result c.loop-first.gone all,
    )
