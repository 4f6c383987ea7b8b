use Rattle.std.proofs.Common.{◌∙◌, ap, sym}
use Rattle.std.specs.Option.{ok_or}
use Rattle.std.specs.Prelude.{codes}
use Rattle.row_core.specs.Refusals.{and_then, map_ok}
use Rattle.command_core.specs.Fields.{both_ok, name_in}
use Rattle.command_core.specs.Lines.{fields_in}
use Rattle.command_core.specs.Pairs.{compared_by, name_pairs, paired_behind}
use Rattle.command_core.specs.Records.{Record}
use Rattle.command_core.specs.declared.refusal.Refusal.TheVariants.{BadCommand}
use Rattle.command_core.proofs.Cutting.{rest-from}
use Rattle.command_core.proofs.FieldLemmas.{compared-two}
use Rattle.command_core.proofs.fields.compared.Goals as goal

pub returns-in-Some : goal.returns-in-Some
returns-in-Some c =
    let line = fields_in c.args.line in
    let it = c.in-Some-Some in
    let rest = rest-from line (fields_in c.range.result) c.len.result 3 c.len.ensures c.range.ensures in
    let paired = c.in-Some.ensures ∙ ap (paired_behind (codes "on")) rest in
    let follow =
    λ (names : Record).
    map_ok compared_by (both_ok (both_ok (name_in it.left.now) (name_in it.right.now)) (name_pairs names)) in
    let whole = compared-two line it.left.now it.right.now (sym it.ensures) (sym it.ensures') in
    c.names_and_pairs.ensures ∙ (ap (λ o. and_then (ok_or o BadCommand) follow) paired ∙ sym whole)
