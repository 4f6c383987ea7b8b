use Rattle.std.proofs.Common.{arith, length}
use Rattle.list_core.proofs.CutLemmas.{EndsAt-part, slice_get-cut}
use Rattle.list_core.proofs.cut.part_at.Goals as goal

pub slice_bounds-result-count : goal.slice_bounds-result-count
slice_bounds-result-count g c =
    rw c.start_of.ensures
    (EndsAt-part 0 c.args.ends.now (length c.args.items.now) c.args.place c.requires.ends c.requires.place).0

pub slice_bounds-result-start : goal.slice_bounds-result-start
slice_bounds-result-start g c = slice_bounds-result-count g c

pub slice_bounds-result-end : goal.slice_bounds-result-end
slice_bounds-result-end g c =
    (EndsAt-part 0 c.args.ends.now (length c.args.items.now) c.args.place c.requires.ends c.requires.place).1

pub offset_bounds-items-start_of : goal.offset_bounds-items-start_of
offset_bounds-items-start_of g c =
    let part =
    EndsAt-part 0 c.args.ends.now (length c.args.items.now) c.args.place c.requires.ends c.requires.place in
    omega (arith, c.start_of.ensures, part.0, part.1)

pub returns : goal.returns
returns g c =
    rw c.start_of.ensures (slice_get-cut 0 c.args.ends.now c.args.items.now c.args.place c.requires.place)
