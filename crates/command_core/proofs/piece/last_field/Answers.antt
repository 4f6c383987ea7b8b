use Rattle.std.proofs.Common.{◌∙◌, List, Option, ℕ, ap, sym}
use Rattle.std.specs.Option.{option_or}
use Rattle.std.specs.Prelude.{option_map}
use denote.Ref.{Bor}
use Rattle.command_core.specs.Seams.{joined, last}
use Rattle.command_core.proofs.BatchLemmas.{last-joined, option_map-or}
use Rattle.command_core.proofs.piece.last_field.Goals as goal

pub returns : goal.returns
returns c =
    let text : Bor (List ℕ) → List ℕ = λ s. s.now in
    ap (option_map text) c.or.ensures
    ∙ option_map-or text c.last_field.result c.last_of.result
    ∙ ap (λ (o : Option (List ℕ)). option_or o (option_map text c.last_of.result)) c.last_field.ensures
    ∙ ap (λ (o : Option (List ℕ)). option_or (last (joined c.args.behind.now)) o) c.last_of.ensures
    ∙ sym (last-joined (joined c.args.full.now) c.args.behind.now)
