use Rattle.std.proofs.Common.{[], ◌∷◌, ◌++◌, ◌∙◌, ap, append-nil, append_assoc, get_or, sym, take}
use Rattle.csv.specs.Writing.{escaped}
use Rattle.answer_core.specs.RecordBytes.{answer_writer}
use Rattle.answer_core.proofs.FieldLemmas.{escaped_so_far}
use Rattle.answer_core.proofs.record_text.push_escaped.Goals as goal

pub loop-byte-init : goal.loop-byte-init
unfolding escaped
loop-byte-init c = sym (append-nil c.args.text.now.items)

pub loop-byte-preserved : goal.loop-byte-preserved
loop-byte-preserved c =
    let field = c.args.field.now in
    let i = c.loop-byte.byte-index in
    let old = c.args.text.now.items in
    let last = escaped answer_writer (get_or field i 0 ∷ []) in
    c.in_ok-push_byte.ensures
    ∙ (ap (λ t. t ++ last) c.loop-byte.invariant
    ∙ (append_assoc old (escaped answer_writer (take i field)) last
    ∙ ap (λ t. old ++ t) (sym (escaped_so_far field i c.loop-byte-test.true))))
