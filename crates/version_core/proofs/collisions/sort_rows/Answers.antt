use Rattle.std.proofs.Common.{◌≡◌, rules}
use Rattle.std.specs.Ordering.{is_lt}
use Rattle.std.proofs.lemmas.Fn.{always_returns_same}
use Rattle.std.proofs.lemmas.List.Sorted.{ranks_by}
use Rattle.draft_core.specs.Lent.{lent_draft}
use Rattle.version_core.specs.KeyOrder.{row_cmp}
use Rattle.version_core.proofs.KeyOrderLemmas.{row_total}
use Rattle.version_core.proofs.collisions.sort_rows.Goals as goal

pub returns-clause-sorted : goal.returns-clause-sorted
returns-clause-sorted c =
    c.sort_unstable_by.ensures.sorted (λ a b. is_lt (row_cmp c.args.key.now (lent_draft a) (lent_draft b)))
    (ranks_by (row_total c.args.key.now) lent_draft)
    (always_returns_same _
    (λ a r. is_lt r ≡ is_lt (row_cmp c.args.key.now (lent_draft a.0.now) (lent_draft a.1.0.now))) _
    (λ a r g called. (search rules, search rules)))
