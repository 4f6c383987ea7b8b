use Rattle.std.proofs.Common.{ℕ, IfOk, Result}
use Rattle.std.specs.declared.alloc.AllocError.{AllocError}
use Rattle.std.proofs.lemmas.Result.{IfOk-weaker}
use Rattle.work_core.specs.Shares.{Gives}
use Rattle.work_core.specs.declared.range.Range.{Range}
use Rattle.grid_core.specs.Bundles.{items_in}
use Rattle.join_core.specs.declared.found.FoundRows.{FoundRows}
use Rattle.join_core.specs.Found.{IsFound}
use Rattle.join_core.proofs.FoundLemmas.{all_found, fits_all, is_found}
use Rattle.join_core.proofs.bundle_joins.rows_of_classes.Goals as goal

pub of_all-requires : goal.of_all-requires
of_all-requires g c =
    let left = c.args.left.now in
    let right = c.args.right.now in
    let found = c.in_ok-found.found.items in
    let post : Range ℕ → ℕ → Result FoundRows AllocError → Type 0 =
    λ r n found. Range ℕ × IfOk found (IsFound (items_in r left) (items_in r right)) in
    fits_all left right found
    (all_found left right c.requires.left_rise c.requires.right_rise c.requires.left_ids (Gives post)
    c.in_ok-shares.shares.cuts.items found c.in_ok-found.ensures (λ r x is. is.1.1))
    c.requires.left_few c.requires.right_few

pub returns : goal.returns
returns g c =
    let left = c.args.left.now in
    let right = c.args.right.now in
    let found = c.in_ok-found.found.items in
    let post : Range ℕ → ℕ → Result FoundRows AllocError → Type 0 =
    λ r n found. Range ℕ × IfOk found (IsFound (items_in r left) (items_in r right)) in
    let together = all_found left right c.requires.left_rise c.requires.right_rise c.requires.left_ids (Gives post)
    c.in_ok-shares.shares.cuts.items found c.in_ok-found.ensures (λ r x is. is.1.1) in
    IfOk-weaker c.of_all.result _ _ (λ all is. is_found left right all found is.0 is.1 together) c.of_all.ensures
