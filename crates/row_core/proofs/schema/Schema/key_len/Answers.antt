use Rattle.std.proofs.Common.{◌∙◌, ap, length, sym}
use Rattle.std.specs.Prelude.{count_by}
use Rattle.row_core.specs.Schema.{is_in_key, key_of}
use Rattle.row_core.proofs.KeyLemmas.{length-key_of}
use Rattle.row_core.proofs.schema.Schema.key_len.Goals as goal

pub returns : goal.returns
returns c =
    c.count_in_key.ensures.count ∙ ap (count_by is_in_key) c.deref.ensures.value
    ∙ sym (length-key_of c.self.inside.columns.items c.self.invariant)
    ∙ ap (λ columns. length (key_of columns)) c.self.view_is
