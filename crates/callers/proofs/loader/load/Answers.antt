use Rattle.std.proofs.Common.{◌≡◌, ◌==◌, ◌≤◌, length, ap, arith}
use Rattle.store_core.specs.Histories.{by_of}
use Rattle.store_core.specs.Passes.{mine, note_view, seen, view}
use Rattle.callers.proofs.Heard.{own-within}
use Rattle.callers.proofs.loader.load.Goals as goal

pub returns-clause-seen : goal.returns-clause-seen
returns-clause-seen g c =
    let pass = c.loop-number.pass in
    let own : length (mine pass) ≤ length (seen pass) =
    own-within (λ e. by_of e == (view pass).source) (seen pass) (mine pass) pass.seat.own in
    let same : length (note_view c.note.result).seen ≡ length (seen pass) = ap length c.note.ensures.seen in
    let made = c.loop-number.invariant.commits in
    omega (arith, own, same, made, c.loop-number-test.false)
