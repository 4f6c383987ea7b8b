use Rattle.std.proofs.Common.{arith, ℕ, ◌≡◌, ◌∙◌, [], ap, length}
use Rattle.turn_core.specs.Steps.{sole, following, fresh}
use Rattle.turn_core.proofs.SeatSteps.{may_deal}
use Rattle.turn_core.proofs.Dealt.{following-next, view_from-last, each-push}
use Rattle.turn_core.proofs.turn.Turn.deal.Goals as goal

pub split_seat-next-requires : goal.split_seat-next-requires
split_seat-next-requires g c =
    let v = c.loop-number.invariant.5 in
    let number = ap (λ m. m.0.number) v in
    let spare = ap (λ m. m.0.spare) v in
    let left = ap (λ m. m.0.left) v in
    let low = c.loop-number.invariant.0 in
    let more = c.loop-number-test.true in (
      c.loop-number.invariant.4,
      let n = c.args.self.now.words in omega arith,
      may_deal _ _ _ _ _ _ (omega arith) (omega arith) (omega arith),
    )

pub loop-number-preserved : goal.loop-number-preserved
loop-number-preserved g c =
    let inv = c.loop-number.invariant in
    let v = ap (λ m. m.0) inv.5 in
    let split = c.split_seat-next.ensures in
    let n = c.loop-number.number in
    let seats = c.args.seats in
    let low = inv.0 in
    let more = c.loop-number-test.true in
    let count = inv.2 in
    let len = c.push_reserved.ensures.len in
    let long = c.loop-number.list.ok.0 in (
      omega arith,
      omega arith,
      omega arith,
      c.push_reserved.ensures.capacity ∙ inv.3,
      split.3 ∙ inv.4,
      split.4 ∙ (λ i. ((ap following v ∙ following-next n seats) i, [])),
      each-push _ _ _ _ c.push_reserved.ensures.items inv.6 (
        split.0 ∙ inv.4,
        ap (λ m. m.0) split.2 ∙ (ap sole v
            ∙ ap (λ (k : ℕ). fresh k seats) (omega arith)),
      ),
    )

pub returns-clause-each : goal.returns-clause-each
returns-clause-each g c =
    let inv = c.loop-number.invariant in
    let v = ap (λ m. m.0) inv.5 in
    let seats = c.args.seats in
    let n = c.loop-number.number in
    let up = inv.1 in
    let done = c.loop-number-test.false in
    let count = inv.2 in
    let long = c.loop-number.list.ok.0 in
    let last : n ≡ seats = omega arith in
    each-push _ _ _ _ c.push_reserved-2.ensures.items inv.6 (
      inv.4,
      v
          ∙ view_from-last n (length c.loop-number.list.items) seats last (omega arith),
    )
