use Rattle.std.proofs.Common.{◌≡◌, ◌++◌, ◌∙◌, ap, arith, drop, min, take, unwrap_or}
use Rattle.answer_core.specs.RecordBytes.{bytes_of}
use Rattle.answer_core.proofs.Printing.{bytes-next, bytes-piece}
use Rattle.answer_core.proofs.ranges.print_range.Goals as goal

pub print_at-requires : goal.print_at-requires
print_at-requires g c =
    omega (arith, c.loop-index-test.true, c.places_within-start.ensures.within, c.len.ensures)

pub loop-index-preserved : goal.loop-index-preserved
loop-index-preserved g c =
    let before = c.loop-index.invariant.upto in
    record {
      upto = (omega (arith, before.0), omega (arith, c.loop-index-test.true));
      printed = bytes-next c.args.text.now c.loop-index.text c.print_at.new.text (g.L.RecordList.records c.args.list.now)
          c.places_within-start.result.0 c.loop-index.index before.0
          (omega (arith, c.loop-index-test.true, c.places_within-start.ensures.within, c.len.ensures))
          c.loop-index.invariant.printed c.in_ok-print_at.ensures;
    }

pub returns : goal.returns
returns g c =
    let records = g.L.RecordList.records c.args.list.now in
    let start = c.places_within-start.result.0 in
    let end = c.places_within-start.result.1 in
    let last : c.loop-index.index ≡ end = omega (arith, c.loop-index-test.false, c.loop-index.invariant.upto) in
    bytes-piece c.args.text.now c.loop-index.text records c.args.range start end
    (c.loop-index.invariant.printed ∙ ap (λ n. c.args.text.now ++ bytes_of (drop start (take n records))) last)
    (c.places_within-start.ensures.before ∙ ap (λ n. min (unwrap_or c.args.range.before n) n) c.len.ensures)
    c.places_within-start.ensures.from
