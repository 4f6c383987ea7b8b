use Rattle.std.proofs.Common.{◌≡◌, ◌&&◌, ◌∙◌, None, ap, arith, length, refl, sym}
use Rattle.version_core.proofs.WantedLemmas.{none-wanted}
use Rattle.version_core.specs.Wanted.{are_wanted}
use Rattle.row_core.proofs.RefusalLemmas.{allowed_here}
use Rattle.book_core.specs.State.{pair_tests}
use Rattle.book_core.proofs.BoundLemmas.{conds-more}
use Rattle.book_core.proofs.bind.bind_conds.Goals as goal
use Rattle.book_core.proofs.bind.bind_conds.Goals.{then-want, else-want}

pub loop-pair-init : goal.loop-pair-init
loop-pair-init c = record {
  decides = refl;
  width = ap length c.new-wanted.ensures;
  met = λ values. ap (λ l. are_wanted l values) c.new-wanted.ensures ∙ none-wanted 16 values;
}

pub want-requires : goal.want-requires
want-requires c = omega (arith, c.loop-pair.invariant.width, c.in-Ok.ensures.few)

pub loop-pair-preserved : goal.loop-pair-preserved
loop-pair-preserved c =
    let is : c.if-want.agree ≡ (c.want.result && c.loop-pair.agree) =
    elim c.if-want.branch [
      | then-want w ↦ w.agree-is ∙ sym (ap (λ b. b && c.loop-pair.agree) w.if-want.true)
      | else-want w ↦ w.agree-is ∙ w.if-want.false ∙ sym (ap (λ b. b && c.loop-pair.agree) w.if-want.false)
    ] in
    record {
      decides = allowed_here (pair_tests c.args.schema.now) c.args.conds.now c.loop-pair.pair-index c.pair-item.result
          None _ c.loop-pair-test.true c.pair-item.is c.in-Ok.ensures.refused refl c.loop-pair.invariant.decides;
      width = c.want.ensures.width ∙ c.loop-pair.invariant.width;
      met = λ values. ap (λ b. b && are_wanted c.want.new.wanted values) is
          ∙ conds-more c.args.schema.now c.args.conds.now c.loop-pair.wanted c.want.new.wanted c.loop-pair.agree
          c.want.result c.loop-pair.pair-index c.in-Ok.column c.pair-item.result c.loop-pair-test.true c.pair-item.is
          c.in-Ok.ensures.column c.want.ensures.wanted c.loop-pair.invariant.met values;
    }
