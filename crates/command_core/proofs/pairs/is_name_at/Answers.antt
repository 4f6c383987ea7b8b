use Rattle.std.proofs.Common.{◌≡◌, ◌∙◌, List, ℕ, Result, Ok, Err, subst, sym}
use Rattle.std.specs.Option.{IfSome}
use Rattle.std.specs.Result.{is_ok, result_ok}
use Rattle.row_core.specs.Name.{is_name, name_of}
use Rattle.command_core.proofs.NamedColumns.{none-named, some-named}
use Rattle.command_core.proofs.pairs.is_name_at.Goals as goal

-- A text is parsed if and only if it is a name.
parsed : {E : Type 0} (text : List ℕ) (r : Result (List ℕ) E) → result_ok r ≡ name_of text → is_ok r ≡ is_name text
parsed text (Ok name) e = sym ((some-named text name e).0)
parsed text (Err why) e = sym (none-named text e)

pub returns-in-Some : goal.returns-in-Some
returns-in-Some c =
    let field = c.in-Some.field.now in
    let same = c.is_ok.ensures.value ∙ parsed field c.parse.result c.parse.ensures in
    subst (λ o. IfSome o (λ text. c.is_ok.result ≡ is_name text)) c.in-Some.ensures same
