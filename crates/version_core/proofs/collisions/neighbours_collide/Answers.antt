use Rattle.std.proofs.Common.{◌≡◌, ◌∙◌, ◌||◌, ◌-◌, ◌+◌, Bool, sym, ap, drop, arith}
use Rattle.version_core.specs.Collisions.{collide}
use Rattle.draft_core.specs.Lent.{lent_draft}
use Rattle.draft_core.specs.declared.draft_ref.DraftRef.{DraftRef}
use Rattle.version_core.specs.KeyOrder.{have_neighbours}
use Rattle.version_core.proofs.PairLemmas.{neighbours-next, neighbours-end}
use Rattle.version_core.proofs.collisions.neighbours_collide.Goals as goal

pub loop-i-preserved : goal.loop-i-preserved
loop-i-preserved c =
    let test : DraftRef → DraftRef → Bool = λ a b. collide c.args.key.now (lent_draft a) (lent_draft b) in
    let back : c.loop-i.i + 1 - 1 ≡ c.loop-i.i = omega arith in
    let within = c.loop-i-test.true in
    ap (λ n. have_neighbours test (drop n c.args.rows.now)) back
    ∙ ap (λ t. t || have_neighbours test (drop c.loop-i.i c.args.rows.now)) (sym c.if-collide.false ∙ c.collide.ensures)
    ∙ sym (neighbours-next test c.args.rows.now c.loop-i.i c.index-rows-i.result c.index-rows-i-in-loop-i.result
    (omega arith) (omega arith) c.index-rows-i.is c.index-rows-i-in-loop-i.is)
    ∙ c.loop-i.invariant

pub returns : goal.returns
returns c =
    let past = c.loop-i-test.false in
    sym (neighbours-end (λ (a b : DraftRef). collide c.args.key.now (lent_draft a) (lent_draft b)) c.args.rows.now
    c.loop-i.i
    (omega arith) (omega arith)) ∙ c.loop-i.invariant
