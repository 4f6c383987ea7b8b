use Rattle.std.proofs.Common.{◌∙◌, ◌≤◌, ◌-◌, ap, sym, arith, get_or, take, drop, length, subst, Some}
use Rattle.list_core.proofs.CutLemmas.{EndsAt-part, slice_get-cut}
use Rattle.cert_core.proofs.claim.part_of.Goals as goal
use Rattle.cert_core.proofs.claim.part_of.Goals.{After-start_at-start}

bounds : (c : After-start_at-start) → (c.start_at-start.result ≤ get_or c.args.ends.now c.args.number 0)
    × (get_or c.args.ends.now c.args.number 0 ≤ length c.args.ids.now)
bounds c =
    subst (λ n. (n ≤ get_or c.args.ends.now c.args.number 0)
    × (get_or c.args.ends.now c.args.number 0 ≤ length c.args.ids.now))
    (sym c.start_at-start.ensures)
    (EndsAt-part 0 c.args.ends.now (length c.args.ids.now) c.args.number c.requires.ends c.requires.there)

pub offset_bounds-ids-start : goal.offset_bounds-ids-start
offset_bounds-ids-start c = let h = bounds c in omega (arith, h.0, h.1)

pub slice_bounds-result-count : goal.slice_bounds-result-count
slice_bounds-result-count c = (bounds c).0

pub slice_bounds-result-start : goal.slice_bounds-result-start
slice_bounds-result-start c = (bounds c).0

pub slice_bounds-result-end : goal.slice_bounds-result-end
slice_bounds-result-end c = (bounds c).1

pub returns : goal.returns
returns c =
    slice_get-cut 0 c.args.ends.now c.args.ids.now c.args.number c.requires.there
    ∙ ap (λ n. Some (take (get_or c.args.ends.now c.args.number 0 - n) (drop n c.args.ids.now)))
    (sym c.start_at-start.ensures)
