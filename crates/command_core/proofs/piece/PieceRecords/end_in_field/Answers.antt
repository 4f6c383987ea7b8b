use Rattle.std.proofs.Common.{◌∙◌, ◌≡◌, ◌≢◌, ◌++◌, ap, subst, sym, List, ℕ, Option, Some, None, refl}
use Rattle.std.specs.Prelude.{IfSome, option_map}
use denote.Ref.{Bor}
use Rattle.command_core.proofs.SeamLemmas.{not_line}
use Rattle.command_core.specs.Seams.{joined, last}
use Rattle.command_core.proofs.piece.PieceRecords.end_in_field.Goals.{After-last_field}
use Rattle.command_core.proofs.piece.PieceRecords.end_in_field.Goals as goal

-- If there is a field, it doesn't end with a line feed.
abbrev Holds : Option (List ℕ) → Type 0
Holds found = IfSome found (λ field. last field ≢ Some 10)

-- The field that was found is the last of all.
found_is : (c : After-last_field)
    → option_map (λ (s : Bor (List ℕ)). s.now) c.last_field.result ≡ last (joined c.args.self.now)
found_is c =
    c.last_field.ensures
    ∙ ap (λ l. last (joined (joined l ++ c.self.inside.last))) c.deref.ensures.value
    ∙ ap (λ records. last (joined records)) c.self.view_is

pub returns-in-Some : goal.returns-in-Some
returns-in-Some c =
    let field = c.in-Some.field.now in
    let at : Some field ≡ last (joined c.args.self.now) =
    sym (ap (option_map (λ (s : Bor (List ℕ)). s.now)) c.in-Some.is)
    ∙ found_is (goal.at.returns-in-Some c).After-last_field in
    let ends = not_line field c.ends_line.result c.ends_line.ensures in
    (λ whole. subst Holds at (ends.0 whole), λ holds. ends.1 (subst Holds (sym at) holds))

pub returns-in-None : goal.returns-in-None
returns-in-None c =
    let at : None ≡ last (joined c.args.self.now) =
    sym (ap (option_map (λ (s : Bor (List ℕ)). s.now)) c.in-None.is)
    ∙ found_is (goal.at.returns-in-None c).After-last_field in
    (λ whole. subst Holds at tt, λ holds. refl)
