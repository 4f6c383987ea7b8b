use Rattle.std.proofs.Common.{List, ℕ}
use Rattle.std.specs.Prelude.{option_map}
use denote.Ref.{Bor}
use Rattle.command_core.proofs.SeamLemmas.{last-flat}
use Rattle.command_core.proofs.batch.Batch.last_field.Goals as goal

pub returns : goal.returns
returns c =
    last-flat c.self.inside.ends.items c.self.inside.fields c.args.self.now
    (option_map (λ (s : Bor (List ℕ)). s.now) c.last.result) c.self.invariant c.self.view_is c.last.ensures
