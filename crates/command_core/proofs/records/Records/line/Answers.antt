use Rattle.std.proofs.Common.{ℕ, ◌≡◌, ◌+◌, ◌∙◌, ap, arith, drop, length, length-drop, slice_get, sym}
use Rattle.list_core.proofs.PlaceLemmas.{slice_get-drop}
use Rattle.command_core.specs.Seams.{joined}
use Rattle.command_core.proofs.records.Records.line.Goals as goal

pub overflow_add-self-inside : goal.overflow_add-self-inside
overflow_add-self-inside c =
    let records = joined c.self.inside.batches.items in
    omega (
      arith,
      c.requires,
      c.self.invariant,
      length-drop c.self.inside.passed records,
      ap length c.self.view_is,
    )

pub returns : goal.returns
returns c =
    let records = joined c.self.inside.batches.items in
    let at : ℕ = c.self.inside.passed + c.args.place in
    let first : at + 0 ≡ at = omega arith in
    sym (ap (λ l. slice_get l c.args.place) c.self.view_is)
    ∙ slice_get-drop c.self.inside.passed records c.args.place
    ∙ sym (slice_get-drop at records 0 ∙ ap (slice_get records) first)
    ∙ ap (λ l. slice_get (drop at (joined l)) 0) (sym c.deref.ensures.value)
    ∙ ap (λ l. slice_get l 0) c.line_and_rest.ensures
