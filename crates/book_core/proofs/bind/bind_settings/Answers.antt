use Rattle.std.proofs.Common.{◌∙◌, None, Some, ap, arith, length, refl}
use Rattle.std.proofs.lemmas.List.{length-set}
use Rattle.version_core.proofs.WantedLemmas.{none-set}
use Rattle.version_core.specs.Wanted.{with_set}
use Rattle.row_core.proofs.RefusalLemmas.{allowed_here}
use Rattle.book_core.specs.State.{pair_tests}
use Rattle.book_core.proofs.BoundLemmas.{settings-more}
use Rattle.book_core.proofs.bind.bind_settings.Goals as goal

pub loop-pair-init : goal.loop-pair-init
loop-pair-init c = record {
  decides = refl;
  width = ap length c.new-bound.ensures;
  set = λ values. ap (λ l. with_set l values) c.new-bound.ensures ∙ none-set 16 values;
}

pub set-requires : goal.set-requires
set-requires c = omega (arith, c.loop-pair.invariant.width, c.in-Ok.ensures.few)

pub loop-pair-preserved : goal.loop-pair-preserved
loop-pair-preserved c = record {
  decides = allowed_here (pair_tests c.args.schema.now) c.args.sets.now c.loop-pair.pair-index c.pair-item.result
      None _ c.loop-pair-test.true c.pair-item.is c.in-Ok.ensures.refused refl c.loop-pair.invariant.decides;
  width = ap length c.set.ensures
      ∙ length-set c.loop-pair.bound c.in-Ok.column (Some c.pair-item.result.1) ∙ c.loop-pair.invariant.width;
  set = λ values. ap (λ l. with_set l values) c.set.ensures
      ∙ settings-more c.args.schema.now c.args.sets.now c.loop-pair.bound c.loop-pair.pair-index c.in-Ok.column
      c.pair-item.result c.loop-pair-test.true c.pair-item.is c.in-Ok.ensures.column
      (omega (arith, c.loop-pair.invariant.width, c.in-Ok.ensures.few)) c.loop-pair.invariant.set values;
}
