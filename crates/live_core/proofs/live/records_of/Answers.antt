use Rattle.std.proofs.Common.{List, [], arith, subst, sym}
use Rattle.std.proofs.lemmas.Result.{IfOk-weaker}
use Rattle.command_core.specs.Records.{Record}
use Rattle.command_core.specs.Seams.{AreOfFront}
use Rattle.command_core.proofs.FrontLemmas.{front-none}
use Rattle.live_core.proofs.live.records_of.Goals as goal

pub read_rest-requires-after_bounds : goal.read_rest-requires-after_bounds
read_rest-requires-after_bounds g c κs within = (
  [],
  subst (λ (l : List Record). AreOfFront [] l c.args.text.now) (sym c.new.ensures) (front-none c.args.text.now),
  omega (arith, c.requires),
)

pub returns : goal.returns
returns g c =
    let front = subst (λ (l : List Record). AreOfFront [] l c.args.text.now) (sym c.new.ensures)
    (front-none c.args.text.now) in
    IfOk-weaker c.read_rest.result _ _ (λ records goes_on. goes_on [] front) c.read_rest.ensures
