use Rattle.std.proofs.Common.{◌∙◌, List, Option, ℕ, ap, sym}
use Rattle.std.specs.Option.{option_or}
use Rattle.std.specs.Prelude.{option_map}
use denote.Ref.{Bor}
use Rattle.command_core.specs.Seams.{joined, last}
use Rattle.command_core.proofs.BatchLemmas.{last-more, option_map-or}
use Rattle.command_core.proofs.piece.last_of.Goals as goal

pub loop-batch-preserved : goal.loop-batch-preserved
loop-batch-preserved c =
    let text : Bor (List ℕ) → List ℕ = λ s. s.now in
    ap (option_map text) c.or-last.ensures
    ∙ option_map-or text c.last_field.result c.loop-batch.last
    ∙ ap (λ (o : Option (List ℕ)). option_or o (option_map text c.loop-batch.last)) c.last_field.ensures
    ∙ ap (λ (o : Option (List ℕ)). option_or (last (joined c.batch-item.result)) o) c.loop-batch.invariant
    ∙ sym (last-more c.args.batches.now c.loop-batch.batch-index c.batch-item.result c.loop-batch-test.true
    c.batch-item.is)
