use Rattle.std.proofs.Common.{[]}
use Rattle.list_core.proofs.RisingLemmas.{Contains-head}
use Rattle.merge_core.proofs.ErrLemmas.{on_err}
use Rattle.merge_core.proofs.join.push_hit.Goals as goal

pub returns-in_err-add_made-clause-hit : goal.returns-in_err-add_made-clause-hit
returns-in_err-add_made-clause-hit g c =
    on_err _ c.from_residual.result
    (c.in-Some.hit, (c.in-Some.ensures.exactly c.in-Some.hit).0 (Contains-head c.in-Some.hit []))
