use Rattle.std.proofs.Common.{◌<◌, ◌≤◌, ◌∙◌, arith, length, sym}
use Rattle.command_core.specs.Lines.{fields_in}
use Rattle.command_core.proofs.JoinedLemmas.{from_first, from_later}
use Rattle.command_core.proofs.line_iter.line_and_rest.Goals as goal

pub returns-then-left-len : goal.returns-then-left-len
returns-then-left-len c =
    let inside : c.loop-first.left < length c.in-Some.first.now = omega (arith, c.if-left-len.true, c.len.ensures) in
    sym c.loop-first.invariant.0
    ∙ from_first c.loop-first.rest.now c.in-Some.others.now c.in-Some.first.now c.loop-first.left (fields_in c.line.result)
    c.in-Some.ensures.cases.0 inside c.line.ensures

pub loop-first-preserved : goal.loop-first-preserved
loop-first-preserved c =
    let past : c.len-left.result ≤ c.loop-first.left =
    omega (arith, c.if-left-len.false, c.len.ensures, c.len-left.ensures) in
    let later = from_later c.loop-first.rest.now c.in-Some.others.now c.in-Some.first.now c.loop-first.left c.len-left.result
    c.in-Some.ensures.cases.0 c.len-left.ensures past c.loop-first.invariant.1 in
    (later.0 ∙ c.loop-first.invariant.0, later.1)
