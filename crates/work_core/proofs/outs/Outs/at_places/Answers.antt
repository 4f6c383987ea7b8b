use Rattle.work_core.proofs.PresentValues.{places-present_values}
use Rattle.work_core.proofs.outs.Outs.at_places.Goals as goal

pub returns : goal.returns
returns g c = places-present_values c.args.places.items c.requires
