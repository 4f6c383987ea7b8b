use Rattle.std.proofs.Common.{◌≡◌, ◌+◌, length}
use Rattle.store_core.specs.Passes.{IsPassOf, calls_left, mine}
use Rattle.callers.proofs.loader.load.Given as goal

-- the table and the first rows took a call and a commit each
abbrev pub invariant-loop-number : goal.invariant-loop-number
invariant-loop-number g l = record {
  pass : IsPassOf l.store l.pass;
  calls : calls_left l.pass + (1 + l.number) ≡ calls_left l.fn.pass;
  commits : length (mine l.pass) ≡ length (mine l.fn.pass) + (1 + l.number);
}
