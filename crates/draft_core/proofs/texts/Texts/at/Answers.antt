use Rattle.std.proofs.Common.{ℕ, ◌≡◌, ◌∙◌, List, Some, arith, ap, length, slice_get, sym}
use Rattle.list_core.proofs.CutLemmas.{length-cut}
use Rattle.list_core.specs.Cut.{cut}
use Rattle.row_core.specs.Texts.{IsText}
use Rattle.draft_core.proofs.TextsLemmas.{AreTexts, text-there}
use Rattle.draft_core.proofs.texts.Texts.at.Goals as goal

-- a part of equal ends and bytes is a text
part-text : (ends bytes ends' bytes' text : List ℕ) (i : ℕ) → AreTexts ends bytes → ends' ≡ ends → bytes' ≡ bytes
    → slice_get (cut 0 ends' bytes') i ≡ Some text → IsText text
part-text ends bytes ends' bytes' text i are e b there =
    text-there (cut 0 ends bytes) i text are.1
    (ap (λ l. slice_get (cut 0 ends l) i) (sym b) ∙ ap (λ l. slice_get (cut 0 l bytes') i) (sym e) ∙ there)

pub part_at-requires-clause-place : goal.part_at-requires-clause-place
part_at-requires-clause-place c =
    let size = length-cut 0 c.self.inside.ends.items c.self.inside.bytes.items in
    omega (arith, c.requires, size, ap length c.self.view_is, ap length c.deref-2.ensures.value)

pub from_utf8_unchecked-requires : goal.from_utf8_unchecked-requires
from_utf8_unchecked-requires c =
    (part-text c.self.inside.ends.items c.self.inside.bytes.items c.deref-2.result.now c.deref.result.now
    c.part_at.result.now c.args.place c.self.invariant c.deref-2.ensures.value c.deref.ensures.value
    c.part_at.ensures).1

pub returns-clause-short : goal.returns-clause-short
returns-clause-short c =
    let is =
    part-text c.self.inside.ends.items c.self.inside.bytes.items c.deref-2.result.now c.deref.result.now
    c.part_at.result.now c.args.place c.self.invariant c.deref-2.ensures.value c.deref.ensures.value
    c.part_at.ensures in
    omega (arith, is.0, ap length c.from_utf8_unchecked.ensures)
