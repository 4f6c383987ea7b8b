use Rattle.std.proofs.Common.{◌≡◌, ◌∙◌, arith, false, length, subst, sym}
use Rattle.std.specs.Prelude.{IfSome, Option}
use Rattle.std.proofs.lemmas.Option.{slice_get_past}
use Rattle.match_core.specs.declared.cells.Cell.{Cell}
use Rattle.match_core.specs.Cells.{is_before}
use Rattle.match_core.proofs.NumberLemmas.{before_more}
use Rattle.match_core.proofs.numbering.first_from.Goals as goal

pub loop-at-preserved : goal.loop-at-preserved
loop-at-preserved g c =
    let inside = c.loop-at-test.true in
    record {
      within = omega (arith, inside);
      before = before_more g.V.Ord.cmp g.met.V.Ord.total c.args.lefts.now c.loop-at.at c.args.cell.now
          c.index-lefts-at.result inside c.index-lefts-at.is c.loop-at.invariant.before
          (sym c.is_before.ensures ∙ c.if-not-is_before.false);
    }

pub returns-clause-next : goal.returns-clause-next
returns-clause-next g c =
    let lefts = c.args.lefts.now in
    subst (λ (o : Option (Cell g.row.V.Denot)). IfSome o (λ x. is_before g.V.Ord.cmp x c.args.cell.now ≡ false))
    (sym (slice_get_past lefts (length lefts) (omega arith))) tt
