use Rattle.std.proofs.Common.{◌<◌, take, length}
use Rattle.std.specs.Prelude.{All}
use Rattle.cert_core.proofs.check.first_empty.Given as goal

-- no part before `number` is empty
abbrev pub invariant-loop-number : goal.invariant-loop-number
invariant-loop-number l = All (λ part. 0 < length part) (take l.number l.claim)
