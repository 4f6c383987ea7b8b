use Rattle.std.proofs.Common.{◌∙◌, ◌<◌, ◌++◌, ◌∷◌, [], List, ℕ, ap, arith, get_or, length, sym, take}
use Rattle.std.specs.Borrow.{Bor}
use Rattle.row_core.specs.declared.value.Kind.{Kind}
use Rattle.row_core.specs.declared.value.Kind.TheVariants.{Int}
use Rattle.command_core.specs.TableCommand.{raw_of}
use Rattle.command_core.proofs.NamedColumns.{all_named-fails, all_named-more, none-named, raw_of-more, some-named}
use Rattle.command_core.proofs.table_command.name_columns.Goals as goal

-- A default for reading past the columns.
abbrev no_column : Bor (List ℕ) × Kind
no_column = (record { ref_ptr = (0, 0); now = [] }, Int)

pub returns-in_default : goal.returns-in_default
returns-in_default c =
    let raw = c.args.raw.now in
    let place = c.loop-name.name-index in
    let lt : place < length raw = omega (arith, c.loop-name-test.true, c.loop-name.auto.name-index-end) in
    sym c.loop-name.invariant.left
    ∙ all_named-fails raw place no_column lt (none-named (get_or raw place no_column).0.now c.in_default.ensures)

pub loop-name-preserved : goal.loop-name-preserved
loop-name-preserved c =
    let raw = c.args.raw.now in
    let place = c.loop-name.name-index in
    let lt : place < length raw = omega (arith, c.loop-name-test.true, c.loop-name.auto.name-index-end) in
    let column = get_or raw place no_column in
    let named = some-named column.0.now c.in-Ok.name c.in-Ok.ensures in
    record {
      left = all_named-more raw place no_column lt named.0 ∙ c.loop-name.invariant.left;
      named =
          c.in_ok-push.ensures.items
          ∙ (ap (λ l. l ++ (c.in-Ok.name, column.1) ∷ []) c.loop-name.invariant.named
          ∙ (ap (λ name. raw_of (take place raw) ++ (name, column.1) ∷ []) named.1
          ∙ raw_of-more raw place no_column lt));
    }
