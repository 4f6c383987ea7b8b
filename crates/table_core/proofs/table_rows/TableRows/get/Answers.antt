use Rattle.std.proofs.Common.{◌∙◌, ◌≤◌, ap, sym, length, arith}
use Rattle.std.specs.Arc.{arc_value}
use Rattle.std.specs.Prelude.{slice_get}
use Rattle.std.proofs.lemmas.Option.{slice_get_past}
use Rattle.table_core.specs.Numbered.{numbered}
use Rattle.table_core.proofs.NumberedLemmas.{length-numbered}
use Rattle.table_core.proofs.table_rows.TableRows.get.Goals as goal

pub returns-then-place-len : goal.returns-then-place-len
returns-then-place-len c =
    sym c.numbered_at.ensures
    ∙ ap (λ drafts. slice_get (numbered 0 drafts) c.args.place) c.deref-then-place-len.ensures
    ∙ ap (λ rows. slice_get rows c.args.place) c.self.view_is

pub returns-else-place-len : goal.returns-else-place-len
returns-else-place-len c =
    let drafts = arc_value c.self.inside.drafts in
    let all = length-numbered 0 drafts in
    let counted = ap length c.deref.ensures in
    let past : length (numbered 0 drafts) ≤ c.args.place =
    omega (arith, c.if-place-len.false, c.len.ensures, counted, all) in
    sym (slice_get_past (numbered 0 drafts) c.args.place past) ∙ ap (λ rows. slice_get rows c.args.place) c.self.view_is
