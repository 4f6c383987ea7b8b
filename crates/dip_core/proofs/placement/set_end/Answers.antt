use Rattle.std.proofs.Common.{arith, ◌≡◌, ◌++◌, ◌∷◌, [], length, refl, set, sym, subst, inl, inr}
use Rattle.std.specs.Prelude.{IsPermutation}
use Rattle.dip_core.specs.Placing.{added}
use Rattle.dip_core.specs.Heap.{Ending, HoldLastEnds}
use Rattle.dip_core.proofs.EndsLemmas.{HoldLastEnds-opened, HoldLastEnds-permutation, HoldLastEnds-set}
use Rattle.dip_core.proofs.placement.set_end.Goals as goal

pub returns-in_ok-push-clause-last_ends : goal.returns-in_ok-push-clause-last_ends
returns-in_ok-push-clause-last_ends c = λ parts x end was.
    let ends = c.args.ends.now.ends in
    let new : Ending = record { end = c.args.end; number = c.args.number } in
    let long : length ends ≡ length parts = was.long in
    let last : c.args.number ≡ length parts = omega (arith, c.if-number-len.true, c.len.ensures, long) in
    let hold : HoldLastEnds (added parts (length parts) x) (ends ++ new ∷ []) =
    HoldLastEnds-opened parts ends x new (sym end) last was in
    let same : IsPermutation (ends ++ new ∷ []) c.sift_up.new.ends.ends =
    subst (λ zs. IsPermutation zs c.sift_up.new.ends.ends) c.in_ok-push.ensures.ends c.sift_up.ensures.same in
    subst (λ n. HoldLastEnds (added parts n x) c.sift_up.new.ends.ends) (sym last)
    (HoldLastEnds-permutation (added parts (length parts) x) (ends ++ new ∷ []) c.sift_up.new.ends.ends same hold)

pub returns-else-number-len-clause-last_ends : goal.returns-else-number-len-clause-last_ends
returns-else-number-len-clause-last_ends c = λ parts x end was.
    let ends = c.args.ends.now.ends in
    let new : Ending = record { end = c.args.end; number = c.args.number } in
    let same : IsPermutation (set ends 0 new) c.sift_down.new.ends.ends =
    subst (λ zs. IsPermutation zs c.sift_down.new.ends.ends) c.replace_first.ensures.ends c.sift_down.ensures.same in
    elim c.requires.next [
      | inl is ↦ absurd (omega (arith, is, c.if-number-len.false, c.len.ensures))
      | inr first ↦
          HoldLastEnds-permutation (added parts c.args.number x) (set ends 0 new) c.sift_down.new.ends.ends same
          (HoldLastEnds-set parts ends c.args.number x new first.0 first.1 (sym end) refl was)
    ]
