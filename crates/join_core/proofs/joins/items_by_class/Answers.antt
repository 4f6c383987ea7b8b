use Rattle.std.proofs.Common.{None, ◌≡◌, ℕ, List, length}
use Rattle.row_core.specs.declared.row.Row.{Row}
use Rattle.row_core.specs.Rows.{RowsRise}
use Rattle.dip_core.specs.declared.item.Item.{Item}
use Rattle.match_core.specs.Items.{AreItemsByClass, items_with}
use Rattle.match_core.specs.Columns.{MatchesOn, columns_refusal}
use Rattle.match_core.proofs.Tell.{classes_tell}
use Rattle.join_core.specs.Join.{RowBefore}
use Rattle.join_core.specs.JoinSides.{IsSideOf}
use Rattle.join_core.proofs.ItemLemmas.{rows-permutation}
use Rattle.join_core.proofs.MovedSide.{moved_distinct, moved_least, moved_len, moved_made}
use Rattle.join_core.proofs.RowLemmas.{IsJoin-of_items}
use Rattle.join_core.proofs.joins.items_by_class.Goals as goal

-- The items that are made of rows with their classes are that side.
side_made : (rows : List Row) (classes : List ℕ) (items : List Item) → AreItemsByClass rows classes items
    → length classes ≡ length rows → RowsRise rows → IsSideOf rows items
side_made rows classes items made count rise =
    let side = moved_made rows classes items made count in
    record {
      count = moved_len rows classes items side;
      rise = made.rise;
      ids = moved_distinct rows classes items side rise;
      least = moved_least rows classes items side;
    }

pub returns : goal.returns
returns g c =
    let lefts = c.args.left.rows.now in
    let rights = c.args.right.rows.now in
    let ones = c.in_ok-classes.classes.left.items in
    let others = c.in_ok-classes.classes.right.items in
    let left = c.in_ok-both.both.0.items in
    let right = c.in_ok-both.both.1.items in
    let one = moved_made lefts ones left c.in_ok-both.ensures.left c.in_ok-classes.ensures.left in
    let other = moved_made rights others right c.in_ok-both.ensures.right c.in_ok-classes.ensures.right in
    let tell = classes_tell c.args.left.schema.now c.args.right.schema.now lefts rights c.args.on.now ones others
    c.in_ok-classes.ensures.left c.in_ok-classes.ensures.tell in
    let allowed : columns_refusal c.args.left.schema.now c.args.right.schema.now c.args.on.now ≡ None = cc in (
      allowed,
      record {
        left = side_made lefts ones left c.in_ok-both.ensures.left c.in_ok-classes.ensures.left c.args.left.rise;
        right = side_made rights others right c.in_ok-both.ensures.right c.in_ok-classes.ensures.right c.args.right.rise;
        join = λ found h.
            IsJoin-of_items (MatchesOn c.args.left.schema.now c.args.right.schema.now c.args.on.now) lefts rights ones others
            one.enough other.enough tell found
            (rows-permutation (items_with lefts ones) (items_with rights others) left right one.moved other.moved RowBefore
            found h);
      },
    )
