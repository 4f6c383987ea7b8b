use Rattle.std.proofs.Common.{[], List, ℕ, refl}
use denote.Ref.{Bor}
use Rattle.command_core.proofs.SeamLemmas.{no_seams, seams-more}
use Rattle.command_core.proofs.seams.are_seams.Goals as goal

pub loop-place-preserved : goal.loop-place-preserved
loop-place-preserved c =
    seams-more (λ (p : Bor (List ℕ)). p.now) c.args.pieces.now c.args.lists.now c.loop-place.place
    record { ref_ptr = (0, 0); now = [] } c.index-lists-place.result c.loop-place.auto.place c.loop-place-test.true
    c.requires c.index-lists-place.is c.loop-place.invariant (c.if-not-is_seam.ensures.0 refl)

pub returns-then-not-is_seam : goal.returns-then-not-is_seam
returns-then-not-is_seam c = (
  λ none. cc none,
  λ all.
      absurd (no_seams (λ (p : Bor (List ℕ)). p.now) c.args.pieces.now c.args.lists.now c.loop-place.place
      record { ref_ptr = (0, 0); now = [] } c.index-lists-place.result c.loop-place.auto.place
      c.loop-place-test.true c.requires c.index-lists-place.is
      (λ seam. cc (c.if-not-is_seam.ensures.1 seam)) all),
)
