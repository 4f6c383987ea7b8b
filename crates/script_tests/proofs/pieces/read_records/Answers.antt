use Rattle.std.proofs.Common.{◌+◌, ◌<◌, ◌^◌, List, [], arith, length, subst, sym}
use Rattle.command_core.specs.Records.{Record}
use Rattle.command_core.specs.Seams.{AreOfFront}
use Rattle.command_core.proofs.FrontLemmas.{front-none}
use Rattle.script_tests.proofs.pieces.read_records.Goals as goal

pub read_rest-requires-after_bounds : goal.read_rest-requires-after_bounds
read_rest-requires-after_bounds g c κs within = (
  [],
  subst (λ (l : List Record). AreOfFront [] l c.args.script.now) (sym c.new.ensures) (front-none c.args.script.now),
  omega (arith, c.requires),
)
