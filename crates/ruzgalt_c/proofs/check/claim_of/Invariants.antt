use Rattle.std.proofs.Common.{◌≡◌, map, take}
use Rattle.std.specs.Global.{Vec}
use Rattle.std.proofs.Common.{ℕ}
use Rattle.ruzgalt_c.proofs.check.claim_of.Given as goal

-- The parts are the lists already visited.
abbrev pub invariant-loop-list : goal.invariant-loop-list
invariant-loop-list l = l.claim ≡ map (λ (list : Vec ℕ). list.items) (take l.list-index l.lists)
