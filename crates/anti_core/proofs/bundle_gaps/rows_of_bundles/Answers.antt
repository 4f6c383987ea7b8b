use Rattle.std.proofs.Common.{◌+◌}
use Rattle.grid_core.proofs.BundleLemmas.{from-rise, low-distinct, none_first}
use Rattle.anti_core.proofs.BundleLemmas.{bundling_start, bundling_from, bundling_more, bundling_end}
use Rattle.std.proofs.Common.{length, ap, arith}
use Rattle.std.proofs.lemmas.List.{length-append}
use Rattle.anti_core.proofs.BundleLemmas.{fewer_behind}
use Rattle.anti_core.proofs.bundle_gaps.rows_of_bundles.Goals as goal

pub bundles-init : goal.bundles-init
bundles-init g c =
    bundling_start c.args.left.now c.args.right.now c.in_ok-rows.rows.items c.in_ok-rows.ensures.items
    c.requires.left_rise c.requires.right_rise c.requires.ids

pub parted_behind-requires-in-Some : goal.parted_behind-requires-in-Some
parted_behind-requires-in-Some g c =
    from-rise c.in-Some.first.now.class c.bundles.rights.now c.items_from-matching.result.now c.items_from-matching.ensures
    c.bundles.invariant.right_rise

pub rows_of_items-requires-clause-ids : goal.rows_of_items-requires-clause-ids
rows_of_items-requires-clause-ids g c = λ κs outlives.
    low-distinct (c.last_class-class.result + 1) c.bundles.lefts.now c.parted_behind.result.0.now
    c.parted_behind.result.1.now c.parted_behind.ensures c.bundles.invariant.ids

pub bundles-preserved : goal.bundles-preserved
bundles-preserved g c =
    bundling_more c.args.left.now c.args.right.now c.bundles.lefts.now c.items_from-matching.result.now
    c.parted_behind.result.0.now c.parted_behind.result.1.now c.parted_behind-in-Some.result.0.now
    c.parted_behind-in-Some.result.1.now (c.last_class-class.result + 1) c.bundles.rows.items c.in_ok-found.found.items
    c.append.new.self.items c.parted_behind.ensures c.parted_behind-in-Some.ensures c.in_ok-found.ensures
    c.in_ok-append.ensures.items
    (bundling_from c.args.left.now c.args.right.now c.bundles.lefts.now c.bundles.rights.now
    c.items_from-matching.result.now c.in-Some.first.now c.bundles.rows.items c.in-Some.ensures.value
    c.items_from-matching.ensures c.bundles.invariant)

pub returns : goal.returns
returns g c =
    bundling_end c.args.left.now c.args.right.now c.bundles.lefts.now c.bundles.rights.now c.bundles.rows.items
    (none_first c.bundles.lefts.now c.in_default.ensures.value) c.bundles.invariant

pub rows_of_items-requires-clause-left_few : goal.rows_of_items-requires-clause-left_few
rows_of_items-requires-clause-left_few g c = λ κs outlives.
    let whole = ap length c.parted_behind.ensures.whole in
    let both = length-append c.parted_behind.result.0.now c.parted_behind.result.1.now in
    let few = c.bundles.invariant.left_few in
    omega (arith, whole, both, few)

pub bundles-smaller : goal.bundles-smaller
bundles-smaller g c =
    fewer_behind c.last_class-class.result c.in-Some.first.now c.bundles.lefts.now c.parted_behind.result.0.now
    c.parted_behind.result.1.now c.in-Some.ensures.value c.last_class-class.ensures c.parted_behind.ensures
