use Rattle.std.proofs.Common.{◌≡◌, ◌+◌, ◌++◌, ℕ, zero, suc, List, [], ◌∷◌, Some, refl, sym, subst, ap, ◌∙◌, arith, append-nil}
use Rattle.std.specs.Prelude.{slice_get}
use Rattle.dip_core.specs.Division.{part_at}
use Rattle.work_core.specs.declared.name.PairName.{PairName}
use Rattle.join_core.specs.declared.join_pairs.JoinOut.{JoinOut}
use Rattle.join_core.specs.declared.rows.JoinRow.{JoinRow}
use Rattle.join_core.specs.PairValues.{IsPairValue, row_of_hit, rows_in, turns_in}
use Rattle.join_core.proofs.StretchLemmas.{AddsFirstPairs-more, IsValueAt}
use Rattle.ruzgalt_c.proofs.join.add_rows_of_pairs.Goals as goal

pub loop-number-preserved : goal.loop-number-preserved
loop-number-preserved c =
    let lefts = c.args.pairs.now.left.now in
    let rights = c.args.pairs.now.right.now in
    let n = c.loop-number.number in
    let out : JoinOut JoinRow = c.in_ok-out.out in
    let value : IsValueAt lefts rights n out =
    subst (λ (p : PairName). ∥ IsPairValue row_of_hit (part_at lefts p.left) (part_at rights p.right) out ∥₁)
    c.name.ensures c.in_ok-out.ensures in
    let each : (i : ℕ) (o : JoinOut JoinRow) → slice_get (out ∷ []) i ≡ Some o → IsValueAt lefts rights (n + i) o =
    elim [
      | zero ↦ λ o h.
          let same : out ≡ o = cc in
          let e : n ≡ n + 0 = omega arith in
          subst (λ k. IsValueAt lefts rights k o) e (subst (IsValueAt lefts rights n) same value)
      | (suc i) ↦ λ o h. cc
    ] in
    let rows : List JoinRow = c.loop-number.rows.items in
    let more : c.extend_from_slice.new.self.items ≡ rows ++ rows_in (out ∷ []) =
    c.in_ok-extend_from_slice.ensures.items
    ∙ ap (λ (l : List JoinRow). rows ++ l) (c.deref.ensures.value ∙ sym (append-nil out.hits.items)) in (
      c.loop-number.invariant.0 + turns_in (out ∷ []),
      AddsFirstPairs-more lefts rights n c.args.rows.now.items rows c.loop-number.invariant.0 (out ∷ [])
          c.extend_from_slice.new.self.items (turns_in (out ∷ [])) 1 c.loop-number.invariant.1 refl each more refl,
    )
