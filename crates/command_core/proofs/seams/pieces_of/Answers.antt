use Rattle.std.proofs.Common.{Bor, List, ℕ, ◌∙◌, ◌++◌, ◌∷◌, [], ap, arith, length, length-append, map, take-append-drop}
use Rattle.command_core.specs.Seams.{joined}
use Rattle.command_core.proofs.SeamLemmas.{joined-more}
use Rattle.command_core.proofs.seams.pieces_of.Goals as goal

pub loop-left-preserved : goal.loop-left-preserved
loop-left-preserved c =
    let text = λ (p : Bor (List ℕ)). p.now in
    let pieces = c.loop-left.pieces.items in
    let piece = c.split_at.result.0 in
    let back = c.split_at.result.1.now in (
      ap (λ l. joined (map text l) ++ back) c.in_ok-push.ensures.items
          ∙ joined-more text pieces piece back
          ∙ ap (λ l. joined (map text pieces) ++ l)
          (rw (c.split_at.ensures.front, c.split_at.ensures.back)
          (take-append-drop c.in-Some.cut c.loop-left.rest.now))
          ∙ c.loop-left.invariant.0,
      omega (
        arith,
        c.loop-left.invariant.1,
        c.loop-left-test.true,
        ap (λ (l : List (Bor (List ℕ))). length l) c.in_ok-push.ensures.items,
        length-append pieces (piece ∷ []),
      ),
    )
