use Rattle.std.proofs.Common.{arith, ◌≡◌, ◌∙◌, ◌+◌, ◌-◌, Vec, Global, ap}
use Rattle.work_core.specs.declared.shares.Cut.{Cut}
use Rattle.work_core.proofs.CutLemmas.{moved, next_part, one_more}
use Rattle.work_core.proofs.ShareLemmas.{few_cuts}
use Rattle.work_core.proofs.shares.cut_at.Goals.{in-Some-value_behind+in_ok-push, in_default-value_behind}
use Rattle.work_core.proofs.shares.cut_at.Goals as goal

pub loop-part-preserved : goal.loop-part-preserved
loop-part-preserved g c =
    let cmp = g.T.Ord.cmp in
    let cuts = c.loop-part.cuts.items in
    let before = c.args.parts - c.loop-part.part in
    let behind = c.args.parts - (c.loop-part.part + 1) in
    let fewer : behind + 1 ≡ before = omega (arith, c.loop-part-test.true) in
    let so = next_part cmp c.args.workers before behind c.loop-part.some c.loop-part.left cuts c.loop-part.last fewer
    c.loop-part.invariant in
    elim c.match-value_behind.branch [
      | in-Some-value_behind+in_ok-push w ↦
          let cut : Cut g.row.T.Denot = record { at = w.in-Some-value_behind.at; workers = c.loop-part.some + 1 } in
          let more = one_more cmp g.met.T.Ord.total c.args.workers behind (c.loop-part.some + 1) c.loop-part.left cuts
          c.loop-part.last cut so w.in-Some-value_behind.ensures (omega arith) (omega arith) in
          moved cmp c.args.workers behind
          (ap (λ (l : Vec (Cut g.row.T.Denot) Global). l.items) w.cuts-is ∙ w.in_ok-push.ensures.items) w.last-is w.some-is
          w.left-is more
      | in_default-value_behind w ↦
          moved cmp c.args.workers behind (ap (λ (l : Vec (Cut g.row.T.Denot) Global). l.items) w.cuts-is) w.last-is w.some-is
          w.left-is so
    ]

pub invariant_of-result-2-clause-few : goal.invariant_of-result-2-clause-few
invariant_of-result-2-clause-few g c =
    let was = c.loop-part.invariant in
    let few = few_cuts c.args.workers c.loop-part.cuts.items was.cut.some in
    let fits = c.ranges.workers.fits in
    omega (arith, few, was.shared, fits)
