use Rattle.std.proofs.Common.{◌+◌, refl}
use Rattle.join_core.specs.Found.{both_made}
use Rattle.join_core.proofs.FoundLemmas.{finding_end, finding_more, finding_start, front-ids, rest-ids}
use Rattle.ruzgalt_c.proofs.join.rows_of_bundles.Goals as goal

pub bundles-init : goal.bundles-init
bundles-init c = (
  record { made = 0; left_parts = 0; right_parts = 0 },
  finding_start c.args.left.now c.args.right.now c.new-rows.result.items
      (record { made = 0; left_parts = 0; right_parts = 0 }) c.new-rows.ensures.items refl c.requires.left_rise
      c.requires.right_rise,
)

pub add_rows_of_bundle-requires-clause-left_ids : goal.add_rows_of_bundle-requires-clause-left_ids
add_rows_of_bundle-requires-clause-left_ids c =
    front-ids c.bundles.lefts.now c.parted_behind.result.0.now c.parted_behind.result.1.now
    c.parted_behind.ensures.whole
    (rest-ids c.args.left.now c.bundles.invariant.1.front_left c.bundles.lefts.now c.bundles.invariant.1.left_is
    c.requires.left_ids)

pub add_rows_of_bundle-requires-clause-right_ids : goal.add_rows_of_bundle-requires-clause-right_ids
add_rows_of_bundle-requires-clause-right_ids c =
    front-ids c.bundles.rights.now c.parted_behind-in-Some.result.0.now c.parted_behind-in-Some.result.1.now
    c.parted_behind-in-Some.ensures.whole
    (rest-ids c.args.right.now c.bundles.invariant.1.front_right c.bundles.rights.now c.bundles.invariant.1.right_is
    c.requires.right_ids)

pub bundles-preserved : goal.bundles-preserved
bundles-preserved c =
    let found = c.bundles.invariant in
    let more = c.in_ok-add_rows_of_bundle.ensures in (
      both_made found.0 more.1.0,
      finding_more c.args.left.now c.args.right.now c.bundles.lefts.now c.bundles.rights.now
          c.parted_behind.result.0.now c.parted_behind.result.1.now c.parted_behind-in-Some.result.0.now
          c.parted_behind-in-Some.result.1.now (c.last_class-class.result + 1) c.parted_behind.ensures
          c.parted_behind-in-Some.ensures c.bundles.rows.items found.0 found.1 c.add_rows_of_bundle.new.rows.items
          more.1.0 (both_made found.0 more.1.0) c.requires.left_ids more.0 more.1.1 refl,
    )

pub add_rows_of_bundle-requires-2-clause-right_ids : goal.add_rows_of_bundle-requires-2-clause-right_ids
add_rows_of_bundle-requires-2-clause-right_ids c =
    rest-ids c.args.right.now c.bundles.invariant.1.front_right c.bundles.rights.now c.bundles.invariant.1.right_is
    c.requires.right_ids

pub returns : goal.returns
returns c =
    let found = c.bundles.invariant in
    let more = c.in_ok-add_rows_of_bundle-2.ensures in
    (finding_end c.args.left.now c.args.right.now c.bundles.lefts.now c.bundles.rights.now c.bundles.rows.items
    found.0 found.1 _ more.1.0 (both_made found.0 more.1.0) c.requires.left_ids more.0 more.1.1 refl).rows
