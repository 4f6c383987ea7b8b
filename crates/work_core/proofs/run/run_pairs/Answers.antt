use Rattle.work_core.proofs.Places.{values_at_places}
use Rattle.work_core.proofs.run.run_pairs.Goals as goal

pub returns : goal.returns
returns g c =
    let places = c.in_ok-places.places.items in
    values_at_places g.W.PairWork c.args.job.now places c.at_places.result c.in_ok-places.ensures.are
    c.at_places.ensures
