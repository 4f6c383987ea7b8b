use Rattle.std.proofs.Common.{◌+◌}
use Rattle.join_core.proofs.FoundLemmas.{finding_end, finding_more, finding_start, finding-fits, front-ids, last-fits, rest-ids}
use Rattle.join_core.proofs.bundle_joins.rows_of_bundles.Goals as goal

pub bundles-init : goal.bundles-init
bundles-init g c =
    finding_start c.args.left.now c.args.right.now c.new-rows.result.items c.none-advances.result
    c.new-rows.ensures.items c.none-advances.ensures c.requires.left_rise c.requires.right_rise

pub add_rows_of_bundle-requires-clause-left_ids : goal.add_rows_of_bundle-requires-clause-left_ids
add_rows_of_bundle-requires-clause-left_ids g c κs within =
    front-ids c.bundles.lefts.now c.parted_behind.result.0.now c.parted_behind.result.1.now
    c.parted_behind.ensures.whole
    (rest-ids c.args.left.now c.bundles.invariant.front_left c.bundles.lefts.now c.bundles.invariant.left_is
    c.requires.left_ids)

pub add_rows_of_bundle-requires-clause-right_ids : goal.add_rows_of_bundle-requires-clause-right_ids
add_rows_of_bundle-requires-clause-right_ids g c κs within =
    front-ids c.bundles.rights.now c.parted_behind-in-Some.result.0.now c.parted_behind-in-Some.result.1.now
    c.parted_behind-in-Some.ensures.whole
    (rest-ids c.args.right.now c.bundles.invariant.front_right c.bundles.rights.now c.bundles.invariant.right_is
    c.requires.right_ids)

pub plus-advances-requires : goal.plus-advances-requires
plus-advances-requires g c =
    finding-fits c.args.left.now c.args.right.now c.bundles.lefts.now c.bundles.rights.now
    c.parted_behind.result.0.now c.parted_behind.result.1.now c.parted_behind-in-Some.result.0.now
    c.parted_behind-in-Some.result.1.now (c.last_class-class.result + 1) c.parted_behind.ensures
    c.parted_behind-in-Some.ensures c.bundles.rows.items c.bundles.advances c.bundles.invariant c.in_ok-more.more
    c.in_ok-more.ensures.advances c.requires.left_few c.requires.right_few

pub bundles-preserved : goal.bundles-preserved
bundles-preserved g c =
    finding_more c.args.left.now c.args.right.now c.bundles.lefts.now c.bundles.rights.now
    c.parted_behind.result.0.now c.parted_behind.result.1.now c.parted_behind-in-Some.result.0.now
    c.parted_behind-in-Some.result.1.now (c.last_class-class.result + 1) c.parted_behind.ensures
    c.parted_behind-in-Some.ensures c.bundles.rows.items c.bundles.advances c.bundles.invariant
    c.add_rows_of_bundle.new.rows.items c.in_ok-more.more c.plus-advances.result c.requires.left_ids
    c.in_ok-more.ensures.rows c.in_ok-more.ensures.advances c.plus-advances.ensures

pub add_rows_of_bundle-requires-2-clause-right_ids : goal.add_rows_of_bundle-requires-2-clause-right_ids
add_rows_of_bundle-requires-2-clause-right_ids g c κs within =
    rest-ids c.args.right.now c.bundles.invariant.front_right c.bundles.rights.now c.bundles.invariant.right_is
    c.requires.right_ids

pub plus-requires : goal.plus-requires
plus-requires g c =
    last-fits c.args.left.now c.args.right.now c.bundles.lefts.now c.bundles.rights.now c.bundles.rows.items
    c.bundles.advances c.bundles.invariant c.in_ok-more-2.more c.in_ok-more-2.ensures.advances
    c.requires.left_few c.requires.right_few

pub returns : goal.returns
returns g c =
    finding_end c.args.left.now c.args.right.now c.bundles.lefts.now c.bundles.rights.now c.bundles.rows.items
    c.bundles.advances c.bundles.invariant _ c.in_ok-more-2.more _ c.requires.left_ids c.in_ok-more-2.ensures.rows
    c.in_ok-more-2.ensures.advances c.plus.ensures
