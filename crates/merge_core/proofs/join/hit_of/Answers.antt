use Rattle.std.proofs.Common.{rules, []}
use Rattle.list_core.proofs.RisingLemmas.{Contains-head}
use Rattle.merge_core.proofs.HitLemmas.{hit_alone}
use Rattle.merge_core.proofs.join.hit_of.Goals as goal

pub returns : goal.returns
returns c =
    hit_alone c.args.x.now c.args.y.now _
    (record {
      left_in = Contains-head c.args.x.now [];
      right_in = Contains-head c.args.y.now [];
      matches = search rules;
      shared = c.in_ok-period.ensures.instants;
    })
