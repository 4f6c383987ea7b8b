-- The claim is the old one and a last part, with the ids of the fields before index `place`.
use Rattle.std.proofs.Common.{◌≡◌, ℕ, List, [], ◌∷◌, ◌++◌, drop}
use Rattle.command_core.specs.Lines.{fields_in}
use Rattle.script_core.specs.Effects.{naturals_in}
use Rattle.script_core.proofs.Loading.{behind}
use Rattle.script_core.proofs.claims.push_part.Given as goal

abbrev pub invariant-loop-place : goal.invariant-loop-place
invariant-loop-place l =
    (ids : List ℕ) × (l.claim ≡ l.fn.claim ++ ids ∷ [])
    × (naturals_in (drop 1 (fields_in l.line)) ≡ behind ids (naturals_in (drop l.place (fields_in l.line))))
