use Rattle.std.proofs.Common.{rules, refl, []}
use Rattle.list_core.proofs.RisingLemmas.{Contains-head}
use Rattle.merge_core.proofs.MeetLemmas.{meet_alone}
use Rattle.merge_core.proofs.meets.meet_of.Goals as goal

pub returns : goal.returns
returns c =
    meet_alone c.args.x.now c.args.y.now _
    (record {
      first = c.args.x.now;
      second = c.args.y.now;
      first_in = Contains-head c.args.x.now [];
      second_in = Contains-head c.args.y.now [];
      same_id = search rules;
      left = refl;
      shared = c.in_ok-period.ensures.instants;
    })
