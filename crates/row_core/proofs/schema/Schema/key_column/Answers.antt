use Rattle.std.proofs.Common.{◌∙◌, ap, arith, length, sym}
use Rattle.std.specs.Prelude.{is_some, slice_get}
use Rattle.row_core.specs.Schema.{key_of, key_place}
use Rattle.row_core.proofs.KeyLemmas.{key_place-is, slice_get-key_of}
use Rattle.row_core.proofs.schema.Schema.key_column.Goals as goal

pub unreachable-requires : goal.unreachable-requires
unreachable-requires c =
    let lengths = ap (λ columns. length (key_of columns)) c.self.view_is in
    let is = key_place-is c.self.inside.columns.items c.args.i c.self.invariant (omega (arith, lengths)) in
    let none = ap is_some
    (sym c.in-None.is ∙ c.key_place.ensures ∙ ap (λ columns. key_place columns c.args.i) c.deref.ensures.value) in
    cc (none ∙ is)

pub returns : goal.returns
returns c =
    let lengths = ap (λ columns. length (key_of columns)) c.self.view_is in
    ap (λ columns. slice_get (key_of columns) c.args.i) (sym c.self.view_is)
    ∙ slice_get-key_of c.self.inside.columns.items c.args.i c.self.invariant (omega (arith, lengths))
    ∙ ap (λ columns. key_place columns c.args.i) (sym c.deref.ensures.value) ∙ sym c.key_place.ensures ∙ c.in-Some.is
