use Rattle.std.proofs.Common.{◌∙◌, ◌++◌, [], ◌∷◌, ap, arith, sym, take}
use Rattle.std.proofs.lemmas.List.{take_more}
use Rattle.std.proofs.lemmas.Option.{get_or_from_slice_get}
use Rattle.row_core.specs.Schema.{key_of}
use Rattle.row_core.proofs.schema.Schema.key_places.Goals as goal

pub loop-i-preserved : goal.loop-i-preserved
loop-i-preserved c =
    let key = key_of c.args.self.now in
    let bound = c.loop-i-test.true in
    let here = get_or_from_slice_get key c.loop-i.i c.key_column.result 0 c.key_column.ensures in
    c.in_ok-push.ensures.items ∙ ap (λ l. l ++ c.key_column.result ∷ []) c.loop-i.invariant
    ∙ ap (λ n. take c.loop-i.i key ++ n ∷ []) (sym here)
    ∙ sym (take_more key c.loop-i.i 0 (omega (arith, c.key_len-i-end.ensures)))
