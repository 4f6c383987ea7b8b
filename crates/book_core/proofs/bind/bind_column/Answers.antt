use Rattle.std.proofs.Common.{◌∙◌, [], None, arith, sym}
use Rattle.std.specs.Prelude.{bytes_eq}
use Rattle.std.proofs.lemmas.List.Quantifiers.{position-Some}
use Rattle.row_core.specs.declared.schema.Column.{Column}
use Rattle.book_core.proofs.bind.bind_column.Goals as goal

pub returns-then-is_of-clause-few : goal.returns-then-is_of-clause-few
returns-then-is_of-clause-few c =
    let first : Column = record { name = []; kind = c.kind.result; key = None } in
    let inside = (position-Some (λ (column : Column). bytes_eq column.name c.args.pair.now.0) c.args.schema.now
    c.in-Some.column first (sym c.column.ensures ∙ c.in-Some.is)).0 in
    omega (arith, inside, c.width.ensures.schema.few)
