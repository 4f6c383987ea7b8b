use Rattle.std.proofs.Common.{◌<◌, ◌∙◌, arith, length, sym}
use Rattle.std.proofs.lemmas.List.{take_all}
use Rattle.command_core.specs.PairsIn.{name_pairs_in}
use Rattle.command_core.proofs.Cutting.{slice_get-there, take-slice_get}
use Rattle.script_core.proofs.pairs.name_pairs.Goals as goal
use Rattle.script_core.proofs.pairs.name_pairs.Goals.{in-Some+in_ok-push, in_default}

pub loop-place-preserved : goal.loop-place-preserved
loop-place-preserved c =
    let pairs = name_pairs_in c.args.names in
    let place = c.loop-place.place in
    let lt : place < length pairs = omega (arith, c.loop-place-test.true, c.len-place-end.ensures) in
    elim c.match-get.branch [
      | in-Some+in_ok-push w ↦
          rw (w.pairs-is, w.in_ok-push.ensures.items, c.loop-place.invariant)
          (sym (take-slice_get pairs place w.in-Some.pair (sym w.in-Some.ensures)))
      | in_default w ↦ absurd (slice_get-there pairs place lt (sym w.in_default.ensures))
    ]

pub returns : goal.returns
returns c = c.loop-place.invariant ∙ take_all c.loop-place.place (name_pairs_in c.args.names)
    (omega (arith, c.loop-place-test.false, c.len-place-end.ensures))
