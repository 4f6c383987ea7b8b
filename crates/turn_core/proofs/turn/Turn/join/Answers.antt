use Rattle.std.proofs.Common.{arith, inl, inr, ⊎_elim, ◌≡◌, ◌<◌, ◌≤◌, ◌∙◌, sym, ap, subst}
use mathlib.Core.List.{IsPrefix}
use Rattle.turn_core.proofs.EntryLemmas.{longer-one}
use Rattle.turn_core.specs.Entries.{own, AreOfCallers}
use Rattle.turn_core.proofs.SeatSteps.{may_join, may_learn}
use Rattle.turn_core.proofs.turn.Turn.join.Goals as goal

pub join_seat-requires : goal.join_seat-requires
join_seat-requires g c = (
  c.requires.turn.0,
  c.requires.turn.1,
  c.args.other.empty,
  let n = c.args.self.now.words in omega arith,
  may_join _ _ _ _ _ _ _ _ c.requires.number c.args.seat.now.rests,
)

pub load-requires : goal.load-requires
load-requires g c = (
  c.join_seat.ensures.0 ∙ c.requires.turn.0,
  let n = c.args.self.now.words in omega arith,
  may_learn _ _ _ _ _ _ _,
)

pub invariant_of-seat : goal.invariant_of-seat
invariant_of-seat g c =
    let learned = c.load.ensures.2 in
    let same = learned.0 ∙ c.join_seat.ensures.2 in
    let number = ap (λ m. m.0.number) same in
    let view = sym (ap (λ m. m.0) learned.0) in
    let old = c.args.seat.now in
    record {
      number_is = old.number_is ∙ sym number;
      rests = ap (λ m. m.0.stage) same ∙ old.rests;
      empty = ap (λ m. m.1) same ∙ old.empty;
      source = λ p. ap (λ m. m.0.source) same ∙ (old.source (subst (λ k. 0 < k) number p) ∙ sym number);
      within = subst (λ v. v.number ≤ v.mark) (sym (ap (λ m. m.0) same)) old.within;
      own = subst (λ v. own g.S.Kept.by v.source v.seen ≡ v.mine) view learned.3;
      numbered = subst (λ v. AreOfCallers g.S.Kept.by v.mark v.seen) view
          (learned.4 (subst (λ k. 0 < k) (sym (ap (λ m. m.0.number) c.join_seat.ensures.2)) c.requires.number));
    }

pub returns-clause-one : goal.returns-clause-one
returns-clause-one g c =
    let learned = c.load.ensures.2 in
    let seen = ap (λ m. m.0.seen) (learned.0 ∙ c.join_seat.ensures.2) in
    let heard = subst (λ m. IsPrefix m.0.heard m.0.seen) c.join_seat.ensures.2 learned.2 in
    ⊎_elim (λ h. inl (seen ∙ h)) (λ h. inr (seen ∙ h)) (longer-one _ _ heard)
