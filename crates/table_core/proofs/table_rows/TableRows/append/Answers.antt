use Rattle.std.proofs.Common.{◌≡◌, ◌+◌, ◌∙◌, ◌++◌, ap, length, arith}
use Rattle.std.specs.Arc.{arc_value}
use Rattle.std.proofs.lemmas.Result.{on_ok_weaker}
use Rattle.table_core.specs.Numbered.{numbered}
use Rattle.table_core.proofs.NumberedLemmas.{length-numbered, numbered-append}
use Rattle.table_core.proofs.table_rows.TableRows.append.Goals as goal

pub returns-clause-ok : goal.returns-clause-ok
returns-clause-ok c =
    let before = arc_value c.self.inside.drafts in
    let more = c.args.more in
    let used : 0 + length before ≡ length c.args.self.now =
    omega (arith, length-numbered 0 before, ap length c.self.view_is) in
    on_ok_weaker c.append.result
    (λ e. ap (numbered 0) e ∙ numbered-append 0 before more
    ∙ ap (λ n. numbered 0 before ++ numbered n more) used
    ∙ ap (λ rows. rows ++ numbered (length c.args.self.now) more) c.self.view_is) c.append.ensures.ok
