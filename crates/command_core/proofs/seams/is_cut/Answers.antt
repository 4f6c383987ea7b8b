use Rattle.std.proofs.Common.{◌≡◌, ◌∙◌, [], ap, append-nil, arith, drop, false, subst, sym, true}
use Rattle.std.proofs.lemmas.Bool.{not-false, not-true}
use Rattle.std.proofs.lemmas.List.{length-drop}
use Rattle.csv.specs.Reading.{strip_bom}
use Rattle.command_core.specs.Seams.{last}
use Rattle.command_core.proofs.FrontLemmas.{unmarked-more}
use Rattle.command_core.proofs.seams.is_cut.Goals as goal

pub returns-then-ends_line-clause-yes : goal.returns-then-ends_line-clause-yes
returns-then-ends_line-clause-yes c plain =
    let text = c.args.text.now in
    let at = c.args.at in
    let behind = c.split_at.ensures.back in
    record {
      ends = ap last (sym c.split_at.ensures.front) ∙ c.if-ends_line.ensures;
      unmarked = λ more.
          unmarked-more (drop at text) more (omega (arith, c.requires, length-drop at text))
          (subst (λ l. strip_bom l ≡ l) behind (c.is_marked.ensures.0 (not-true c.is_marked.result plain)));
    }

pub returns-then-ends_line-clause-no : goal.returns-then-ends_line-clause-no
returns-then-ends_line-clause-no c = λ marked cut.
    let behind = c.split_at.ensures.back in
    let plain : strip_bom (drop c.args.at c.args.text.now) ≡ drop c.args.at c.args.text.now =
    subst (λ l. strip_bom l ≡ l) (append-nil (drop c.args.at c.args.text.now)) (cut.unmarked []) in
    let never : true ≡ false =
    sym (not-false c.is_marked.result marked)
    ∙ c.is_marked.ensures.1 (subst (λ l. strip_bom l ≡ l) (sym behind) plain) in
    absurd (cc)
