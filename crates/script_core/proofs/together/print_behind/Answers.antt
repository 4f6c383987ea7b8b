use Rattle.std.proofs.Common.{refl}
use Rattle.script_core.proofs.together.print_behind.Goals as goal

pub returns : goal.returns
returns g c = record {
  queried = (c.in_ok-before.before, c.in_ok-before.behind);
  queries_are = c.in_ok-before.was;
  errors = c.in_ok-errors.errors;
  few = c.in_ok-errors.ensures.few;
  printed = c.in_ok-errors.ensures.printed;
  commands = refl;
  refusals = refl;
}
