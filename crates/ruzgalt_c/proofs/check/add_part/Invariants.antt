use Rattle.std.proofs.Common.{◌≡◌, [], ◌∷◌, ◌++◌, take}
use Rattle.ruzgalt_c.proofs.check.add_part.Given as goal

-- The last part has the ids already visited.
abbrev pub invariant-loop-id : goal.invariant-loop-id
invariant-loop-id l = l.claim ≡ l.fn.claim ++ take l.id-index l.ids ∷ []
