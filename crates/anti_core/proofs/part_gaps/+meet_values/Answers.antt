use Rattle.std.proofs.Common.{ℕ, ◌+◌, ◌/◌, ◌≤◌, arith}
use Rattle.std.proofs.lemmas.Result.{IfOk-weaker}
use Rattle.anti_core.proofs.SupplyLemmas.{against-back, against-front, halves-met, one-met, two-met}
use Rattle.anti_core.proofs.part_gaps.+meet_values.Goals as goal

pub returns-then-count-eq1 : goal.returns-then-count-eq1
returns-then-count-eq1 t c = λ rights start inside against.
    (let p = c.args.part.items.now in
    IfOk-weaker c.meet_gaps-then-count-eq1.result _ _
    (λ met h.
    one-met p rights start c.args.values.now c.args.from c.args.count c.in_ok-whole.field-0 c.in-Some.only.now met
    c.if-count-eq1.true inside c.in-Some.ensures against c.in_ok-whole.ensures
    (λ right more a b. h p right more c.requires.tell a b))
    c.meet_gaps-then-count-eq1.ensures.both)

pub returns-then-count-eq2 : goal.returns-then-count-eq2
returns-then-count-eq2 t c = λ rights start inside against.
    (let p = c.args.part.items.now in
    IfOk-weaker c.meet_gaps-then-count-eq2.result _ _
    (λ met h.
    two-met p rights start c.args.values.now c.args.from c.args.count c.in-Some-get.one.now
    c.in-Some-get-2.other.now met c.if-count-eq2.true inside c.in-Some-get.ensures c.in-Some-get-2.ensures against
    (λ right more a b. h p right more c.requires.tell a b))
    c.meet_gaps-then-count-eq2.ensures.both)

pub returns : goal.returns
returns t c = λ rights start inside against.
    (let p = c.args.part.items.now in
    let values = c.args.values.now in
    let count = c.args.count in
    let half : ℕ = c.args.count / 2 in
    let fewer : half ≤ count = omega arith in
    IfOk-weaker c.meet_gaps-2.result _ _
    (λ met h.
    halves-met p rights start count half c.in_ok-front.front c.in_ok-back.back met fewer
    (c.in_ok-front.ensures rights start (omega (arith, fewer, inside))
    (against-front p rights start values c.args.from count half fewer against))
    (c.in_ok-back.ensures rights (start + half) (omega (arith, fewer, inside))
    (against-back p rights start values c.args.from count half fewer against))
    (λ right more a b. h p right more c.requires.tell a b))
    c.meet_gaps-2.ensures.both)

pub meet_values-requires : goal.meet_values-requires
meet_values-requires t c = (omega arith, (omega arith, (omega arith, c.requires.tell)))

pub meet_values-requires-2 : goal.meet_values-requires-2
meet_values-requires-2 t c = (omega arith, (omega arith, (omega arith, c.requires.tell)))
