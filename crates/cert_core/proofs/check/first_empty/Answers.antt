use Rattle.std.proofs.Common.{◌≡◌, ◌<◌, [], length, take, subst, ap, arith, ◌∙◌, Some}
use Rattle.std.specs.Prelude.{All}
use Rattle.std.proofs.lemmas.List.{take_all, nil_from_length}
use Rattle.std.proofs.lemmas.List.Elements.{All-more}
use Rattle.std.proofs.lemmas.Option.{get_or_from_slice_get}
use Rattle.cert_core.proofs.ClaimLemmas.{filled_before}
use Rattle.cert_core.proofs.check.first_empty.Goals as goal

pub returns-then-is_empty : goal.returns-then-is_empty
returns-then-is_empty c =
    let none : length c.part.result.now ≡ 0 = grind arith in
    record {
      empty = c.part.ensures ∙ ap (λ part. Some part) (nil_from_length c.part.result.now none);
      first = λ j less. filled_before c.args.claim.now c.loop-number.number j c.loop-number.invariant less;
    }

pub loop-number-preserved : goal.loop-number-preserved
loop-number-preserved c =
    let some : 0 < length c.part.result.now = grind arith in
    All-more (λ part. 0 < length part) c.args.claim.now c.loop-number.number []
    (omega (arith, c.len-number-end.ensures)) c.loop-number.invariant
    (rw (get_or_from_slice_get c.args.claim.now c.loop-number.number c.part.result.now [] c.part.ensures) some)

pub returns : goal.returns
returns c =
    let all : take c.loop-number.number c.args.claim.now ≡ c.args.claim.now =
    take_all c.loop-number.number c.args.claim.now (omega (arith, c.len-number-end.ensures)) in
    subst (All (λ part. 0 < length part)) all c.loop-number.invariant
