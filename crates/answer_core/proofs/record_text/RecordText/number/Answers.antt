use Rattle.std.proofs.Common.{◌≡◌, ℕ, List, false, subst, sym, ◌∙◌}
use Rattle.csv.specs.Writing.{needs_quotes}
use Rattle.answer_core.specs.RecordBytes.{answer_writer}
use Rattle.answer_core.proofs.FieldLemmas.{decimal_plain}
use Rattle.answer_core.proofs.record_text.RecordText.number.Goals as goal

pub push_plain-requires : goal.push_plain-requires
push_plain-requires c =
    subst (λ (bytes : List ℕ). needs_quotes answer_writer bytes ≡ false)
    (sym (c.as_bytes.ensures.value ∙ c.format.ensures.text)) (decimal_plain c.args.number c.ranges.number.fits)
