use Rattle.std.proofs.Common.{◌≡◌, ◌∙◌, arith, false, get_or, inr, refl, subst, sym}
use Rattle.std.proofs.lemmas.List.{get_or_read}
use Rattle.match_core.specs.declared.cells.Cell.{Cell}
use Rattle.match_core.specs.Cells.{is_before, same_cell}
use Rattle.match_core.proofs.NumberLemmas.{none_same}
use Rattle.match_core.proofs.numbering.number_of.Goals as goal
use Rattle.match_core.proofs.numbering.number_of.Goals.{else-left-lefts-via-then-left-lefts+else-is_same_cell, else-left-lefts-via-else-left-lefts}

pub returns-else-left-lefts : goal.returns-else-left-lefts
returns-else-left-lefts g c =
    let cmp = g.V.Ord.cmp in
    let lefts = c.args.lefts.now in
    let rights = c.args.rights.now in
    let left = c.args.left in
    let right = c.args.right in
    let Differs = λ (d : Cell g.row.V.Denot). (is_before cmp (get_or lefts left d) (get_or rights right d) ≡ false)
    × (same_cell cmp (get_or lefts left d) (get_or rights right d) ≡ false) in
    inr (
      refl,
      λ d.
          none_same cmp g.met.V.Ord.total lefts left (get_or rights right d) d c.requires.within c.requires.rise
          (c.requires.before.before d)
          (λ less. elim c.else-left-lefts.branch as (λ _. Differs d) [
            | else-left-lefts-via-then-left-lefts+else-is_same_cell w ↦ (
                let x = w.index-lefts-left.result in
                let y = w.index-rights-right.result in (
                  c.requires.before.next d less,
                  subst (λ z. same_cell cmp z (get_or rights right d) ≡ false)
                      (get_or_read lefts left x less w.index-lefts-left.is d)
                      (subst (λ z. same_cell cmp x z ≡ false)
                      (get_or_read rights right y c.requires.right w.index-rights-right.is d)
                      (sym w.is_same_cell.ensures ∙ w.if-is_same_cell.false)),
                ))
            | else-left-lefts-via-else-left-lefts w ↦ absurd (
                let over = w.if-left-lefts.false in omega (arith, over, less))
          ]),
    )
