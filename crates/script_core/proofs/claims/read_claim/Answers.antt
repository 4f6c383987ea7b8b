use Rattle.std.proofs.Common.{◌∙◌, ap, arith, length}
use Rattle.std.proofs.lemmas.Result.{err_from_is_err_and}
use Rattle.command_core.specs.Lines.{fields_in, lines_in}
use Rattle.script_core.specs.Effects.{claim_of, part_of}
use Rattle.script_core.proofs.Loading.{behind-failed, behind-more}
use Rattle.script_core.proofs.claims.read_claim.Goals as goal

pub returns-in_err-push_part : goal.returns-in_err-push_part
returns-in_err-push_part c =
    let p = err_from_is_err_and c.from_residual.result c.from_residual.ensures.1 in
    rw (p.1, p.2)
    (behind-failed part_of c.args.number c.loop-place.place c.loop-place.line-iterator c.next.new.self
    (fields_in c.in-Some.line) c.loop-place.claim (claim_of c.args.number (lines_in c.args.lines))
    c.in_err-push_part.field-0.0 c.in-Some.ensures.steps c.loop-place.invariant.1 c.in_err-push_part.ensures)

pub loop-place-preserved : goal.loop-place-preserved
loop-place-preserved c =
    let part = c.in_ok-push_part.ensures in (
      omega (arith, c.loop-place.invariant.0, ap length c.in-Some.ensures.steps),
      rw part.2
          (c.loop-place.invariant.1
          ∙ behind-more part_of c.args.number c.loop-place.place c.loop-place.line-iterator c.next.new.self
          (fields_in c.in-Some.line) c.loop-place.claim part.0 c.in-Some.ensures.steps part.1),
    )
