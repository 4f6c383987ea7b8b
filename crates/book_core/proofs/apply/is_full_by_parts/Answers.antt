use Rattle.std.proofs.Common.{◌≡◌, ℕ, ◌+◌, ◌≤◌, ◌<◌, ◌||◌, ◌∙◌, ap, sym, length, leb, ltb, false, arith}
use Rattle.std.proofs.lemmas.Bool.Decides.{nat_tests}
use Rattle.version_core.specs.Limits.{version_limit}
use Rattle.version_core.specs.Rows.{parts_of_all}
use Rattle.version_core.specs.Shown.{shown}
use Rattle.version_core.specs.declared.change.RowsChange.TheVariants.{Portion}
use Rattle.book_core.specs.Limits.{commit_limit}
use Rattle.book_core.proofs.Shown.{shown-current}
use Rattle.book_core.proofs.apply.is_full_by_parts.Goals as goal

-- if the upper bound doesn't exceed the limit
room : (n used parts : ℕ) → n < commit_limit → used + parts ≤ version_limit
    → (leb commit_limit n || ltb version_limit (used + parts)) ≡ false
room n used parts h k = grind (arith, nat_tests)

pub returns-then-most_parts-used : goal.returns-then-most_parts-used
returns-then-most_parts-used c =
    let versions = c.args.versions.now in
    let change = Portion c.in-Some.change in
    let shows = ap (λ rows. length (parts_of_all change rows)) (shown-current c.args.commits versions c.requires) in
    let most = c.most_parts.ensures c.in-Some.change in
    rw c.in-Some.is
    (sym (room c.args.commits (length versions) (length (parts_of_all change (shown c.args.commits versions)))
    (omega arith) (omega (arith, shows, most, c.len-used.ensures))))

pub returns-else-most_parts-used : goal.returns-else-most_parts-used
returns-else-most_parts-used c =
    let versions = c.args.versions.now in
    rw c.in-Some.is
    (c.is_full.ensures
    ∙ ap (λ n. leb commit_limit c.args.commits || ltb version_limit (n + c.count_parts.result)) c.len-used.ensures
    ∙ ap (λ n. leb commit_limit c.args.commits || ltb version_limit (length versions + n))
    (c.count_parts.ensures
    ∙ ap (λ rows. length (parts_of_all (Portion c.in-Some.change) rows))
    (sym (shown-current c.args.commits versions c.requires))))
