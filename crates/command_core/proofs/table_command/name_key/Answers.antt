use Rattle.std.proofs.Common.{◌∙◌, ◌∷◌, ◌++◌, [], ap, sym, take}
use Rattle.command_core.specs.Lines.{fields_in}
use Rattle.command_core.proofs.Cutting.{take-slice_get}
use Rattle.command_core.proofs.NamedColumns.{key_named-fails, key_named-more, none-named, some-named}
use Rattle.command_core.proofs.table_command.name_key.Goals as goal

pub returns-in_default-parse : goal.returns-in_default-parse
returns-in_default-parse c =
    let text = c.in-Some.text.now in
    sym c.loop-place.invariant.left
    ∙ key_named-fails (fields_in c.args.key) c.loop-place.place text (sym c.in-Some.ensures)
    (none-named text c.in_default-parse.ensures)

pub loop-place-preserved : goal.loop-place-preserved
loop-place-preserved c =
    let key = fields_in c.args.key in
    let place = c.loop-place.place in
    let text = c.in-Some.text.now in
    let named = some-named text c.in-Ok.name c.in-Ok.ensures in
    record {
      left = key_named-more key place text (sym c.in-Some.ensures) named.0 ∙ c.loop-place.invariant.left;
      named =
          c.in_ok-push.ensures.items ∙ ap (λ l. l ++ c.in-Ok.name ∷ []) c.loop-place.invariant.named
          ∙ ap (λ name. take place key ++ name ∷ []) named.1
          ∙ sym (take-slice_get key place text (sym c.in-Some.ensures));
    }
