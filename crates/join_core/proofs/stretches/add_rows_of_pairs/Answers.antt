use Rattle.std.proofs.Common.{◌≡◌, ◌+◌, ◌*◌, ◌≤◌, length, arith}
use Rattle.work_core.specs.Limits.{pair_limit}
use Rattle.grid_core.specs.GridLaws.{few_pairs}
use Rattle.join_core.proofs.StretchLemmas.{AddsFirstPairs-more, AddsFirstPairs-none, stretch-fits, stretches-fit}
use Rattle.join_core.proofs.stretches.add_rows_of_pairs.Goals as goal

pub loop-first-init : goal.loop-first-init
loop-first-init g c = (
  omega arith,
  c.count-count.ensures,
  AddsFirstPairs-none c.args.pairs.now.left.now c.args.pairs.now.right.now
      c.args.rows.now.items,
)

pub turns_of-turns-requires : goal.turns_of-turns-requires
turns_of-turns-requires g c =
    let w = c.args.pairs.now in
    let inside : c.loop-first.first + c.stretch_len-len.result ≤ length w.left.now * length w.right.now =
    c.stretch_len-len.ensures.inside in
    let len : length c.in_ok-outs.outs ≡ c.stretch_len-len.result = c.in_ok-outs.ensures.len in
    let all : length w.left.now * length w.right.now ≤ pair_limit =
    few_pairs (length w.left.now) (length w.right.now) w.left_few w.right_few in
    let few : length c.in_ok-outs.outs ≤ pair_limit = omega (arith, inside, len, all) in
    stretch-fits w.left.now w.right.now c.loop-first.first c.in_ok-outs.outs w.left_small
    w.right_small c.in_ok-outs.ensures.each few

pub overflow_add-turns : goal.overflow_add-turns
overflow_add-turns g c =
    let w = c.args.pairs.now in
    let inside : c.loop-first.first + c.stretch_len-len.result ≤ length w.left.now * length w.right.now =
    c.stretch_len-len.ensures.inside in
    let len : length c.in_ok-outs.outs ≡ c.stretch_len-len.result = c.in_ok-outs.ensures.len in
    let all : length w.left.now * length w.right.now ≤ pair_limit =
    few_pairs (length w.left.now) (length w.right.now) w.left_few w.right_few in
    let few : c.loop-first.first + length c.in_ok-outs.outs ≤ pair_limit = omega (arith, inside, len, all) in
    let so_far = c.loop-first.invariant.2 in
    let fits = stretches-fit w.left.now w.right.now c.loop-first.first so_far.added c.loop-first.turns
    c.in_ok-outs.outs so_far.are w.left_small w.right_small c.in_ok-outs.ensures.each few in
    let added = c.turns_of-turns.ensures in
    omega (arith, fits, added)

pub loop-first-preserved : goal.loop-first-preserved
loop-first-preserved g c =
    let w = c.args.pairs.now in
    let inside : c.loop-first.first + c.stretch_len-len.result ≤ length w.left.now * length w.right.now =
    c.stretch_len-len.ensures.inside in
    let count : c.count-count.result ≡ length w.left.now * length w.right.now = c.loop-first.invariant.1 in (
      omega (arith, inside, count),
      c.loop-first.invariant.1,
      AddsFirstPairs-more w.left.now w.right.now c.loop-first.first c.args.rows.now.items c.loop-first.rows.items
          c.loop-first.turns c.in_ok-outs.outs c.add_rows.new.rows.items c.turns_of-turns.result
          c.stretch_len-len.result c.loop-first.invariant.2 c.in_ok-outs.ensures.len c.in_ok-outs.ensures.each
          c.in_ok-add_rows.ensures c.turns_of-turns.ensures,
    )
