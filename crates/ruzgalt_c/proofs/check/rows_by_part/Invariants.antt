use Rattle.std.proofs.Common.{take}
use Rattle.ruzgalt_c.specs.Check.{AreRowsByPart}
use Rattle.ruzgalt_c.proofs.check.rows_by_part.Given as goal

-- The rows before index `k` are in the lists.
abbrev pub invariant-loop-k : goal.invariant-loop-k
invariant-loop-k l = AreRowsByPart (take l.k l.part) l.parts l.lists.items
