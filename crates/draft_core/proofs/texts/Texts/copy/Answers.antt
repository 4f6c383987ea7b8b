use Rattle.std.proofs.Common.{◌∙◌}
use Rattle.draft_core.proofs.TextsLemmas.{same_texts}
use Rattle.draft_core.proofs.texts.Texts.copy.Goals as goal

pub invariant_of-result : goal.invariant_of-result
invariant_of-result c =
    same_texts c.self.inside.ends.items c.self.inside.bytes.items c.in_ok-from_slice-2.field-0.items
    c.in_ok-from_slice.field-0.items (c.in_ok-from_slice-2.ensures.items ∙ c.deref-2.ensures.value)
    (c.in_ok-from_slice.ensures.items ∙ c.deref.ensures.value) c.self.invariant
