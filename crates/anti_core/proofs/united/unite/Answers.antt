use Rattle.std.proofs.Common.{◌≡◌, ◌∙◌, ◌<◌, ◌≤◌, arith, drop, length, subst, sym, take}
use Rattle.std.proofs.lemmas.List.{length-set}
use Rattle.anti_core.specs.United.{IsUnion}
use Rattle.anti_core.proofs.InPlaceLemmas.{placed_cut, placed_end, placed_joined, placed_start}
use Rattle.anti_core.proofs.UnitedLemmas.{IsUniting}
use Rattle.anti_core.proofs.united.unite.Goals as goal
use Rattle.anti_core.proofs.united.unite.Goals.{in-Some-merged, in_default-merged}

pub loop-i-init : goal.loop-i-init
loop-i-init c =
    let items = c.args.items.now.items in
    let start = placed_start items c.deref.result.now c.in-Some.first.now c.plain-last.result c.deref.ensures.value
    c.in-Some.ensures.value c.plain-last.ensures c.requires in
    let some : 0 < length items = start.0 in
    let len : c.len-i-end.result ≡ length items = c.len-i-end.ensures ∙ c.args.items.now.ok.0 in
    (len, omega arith, omega (arith, some, len), start.1)

pub loop-i-preserved : goal.loop-i-preserved
loop-i-preserved c =
    let items = c.args.items.now.items in
    let now = c.loop-i.items.items in
    let i = c.loop-i.i in
    let count = c.loop-i.count in
    let last = c.loop-i.last in
    let len : c.len-i-end.result ≡ length now = c.loop-i.invariant.0 in
    let before : count < i = c.loop-i.invariant.1 in
    let test = c.loop-i-test.true in
    let inside : i < length now = omega (arith, test, len) in
    let sweep : IsUniting items (drop i now) last (take count now) = c.loop-i.invariant.3 in
    elim c.match-merged.branch [
      | in-Some-merged w ↦
          rw (w.items-is, w.last-is, w.count-is) (
            len,
            omega (arith, before),
            omega (arith, test),
            placed_joined items now i count last c.index.result.now w.in-Some-merged.both inside c.index.ensures
                w.in-Some-merged.ensures.0 w.in-Some-merged.ensures.1 sweep,
          )
      | in_default-merged w ↦
          rw (w.items-is, w.last-is, w.count-is) (
            len ∙ sym (length-set now count last),
            omega (arith, before),
            omega (arith, test),
            placed_cut items now i count last c.index.result.now w.plain-last-in_default-merged.result before inside c.index.ensures
                w.in_default-merged.ensures w.plain-last-in_default-merged.ensures sweep,
          )
    ]

pub returns : goal.returns
returns c =
    let now = c.loop-i.items.items in
    let len : c.len-i-end.result ≡ length now = c.loop-i.invariant.0 in
    let before : c.loop-i.count < c.loop-i.i = c.loop-i.invariant.1 in
    let most : c.loop-i.i ≤ c.len-i-end.result = c.loop-i.invariant.2 in
    let end = c.loop-i-test.false in
    subst (IsUnion c.args.items.now.items) (sym c.truncate.ensures.items)
    (placed_end c.args.items.now.items now c.loop-i.i c.loop-i.count c.loop-i.last (omega (arith, end, len))
    (omega (arith, before, most, len)) c.loop-i.invariant.3)
