use Rattle.std.proofs.Common.{◌+◌, ◌≤ℤ◌, ◌<ℤ◌, sym, subst, arith}
use Rattle.std.proofs.lemmas.Int.{ints}
use Rattle.join_core.proofs.CrowdSweep.{IsSweeping, sweeping_more, sweeping_same, sweeping_end}
use Rattle.join_core.proofs.crowds.most_at_once.Goals.{then-lt, else-lt}
use Rattle.join_core.proofs.crowds.most_at_once.Goals as goal

pub loop-i-preserved : goal.loop-i-preserved
loop-i-preserved c =
    let starts = c.args.starts.now in
    let ends = c.args.ends.now in
    let i = c.loop-i.i in
    let k = c.loop-i.most in
    let s = c.index-starts-i.result in
    let e = c.index-ends-i.result in
    elim c.if-lt.branch [
      | then-lt w ↦
          (let less : s <ℤ e = grind (arith, ints, c.lt.ensures, w.if-lt) in
          subst (IsSweeping starts ends (i + 1)) (sym w.most-is)
          (sweeping_more starts ends i k s e c.requires.len c.loop-i-test.true c.requires.starts_rise
          c.requires.ends_rise (sym c.index-starts-i.is) (sym c.index-ends-i.is) c.loop-i.invariant less))
      | else-lt w ↦
          (let no_less : e ≤ℤ s = grind (arith, ints, c.lt.ensures, w.if-lt) in
          subst (IsSweeping starts ends (i + 1)) (sym w.most-is)
          (sweeping_same starts ends i k s e c.requires.len c.loop-i-test.true c.requires.starts_rise
          c.requires.ends_rise (sym c.index-starts-i.is) (sym c.index-ends-i.is) c.loop-i.invariant no_less))
    ]

pub returns-clause-most : goal.returns-clause-most
returns-clause-most c =
    sweeping_end c.args.starts.now c.args.ends.now c.loop-i.i c.loop-i.most c.requires.len c.requires.starts_rise
    c.requires.ends_rise c.loop-i-test.false c.loop-i.invariant
