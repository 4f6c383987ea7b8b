-- The pairs of a join, one stretch at a time.
use Rattle.std.proofs.Common.{◌≡◌, ℕ, ◌+◌, ◌*◌, ◌/◌, ◌%◌, ◌^◌, ◌<◌, ◌≤◌, List, [], ◌++◌, length, Some, refl, sym, subst, ap, ◌∙◌, inl, inr, arith, append-nil, append_assoc, length-append}
use Rattle.std.specs.Prelude.{slice_get}
use Rattle.std.proofs.lemmas.List.Sums.{sum_by-append}
use Rattle.dip_core.specs.declared.item.Item.{Item}
use Rattle.dip_core.specs.Item.{item_limit}
use Rattle.dip_core.specs.Division.{all_of, part_at}
use Rattle.dip_core.proofs.PartedLemmas.{length-part_at}
use Rattle.work_core.specs.Limits.{pair_limit}
use Rattle.join_core.specs.declared.join_pairs.JoinOut.{JoinOut}
use Rattle.join_core.specs.declared.rows.JoinRow.{JoinRow}
use Rattle.join_core.specs.PairValues.{IsPairValue, AreFirstValues, AreOfFirstPairs, AddsFirstPairs, row_of_hit, rows_in, turns_in}
use Rattle.join_core.proofs.ListLemmas.{slice_get-append_cases}
use Rattle.join_core.proofs.LoopLemmas.{rows_in-append}
use Rattle.join_core.proofs.TurnLemmas.{few-turns, few-turns_of}

-- The value of a pair, by its number.
abbrev pub IsValueAt : List (List Item) → List (List Item) → ℕ → JoinOut JoinRow → Type 0
IsValueAt ps qs i o = ∥ IsPairValue row_of_hit (part_at ps (i / length qs)) (part_at qs (i % length qs)) o ∥₁

-- the values of the first pairs, and of the pairs after them
values-more : (ps qs : List (List Item)) (n : ℕ) (outs new : List (JoinOut JoinRow)) → length outs ≡ n → AreFirstValues ps qs outs
    → ((i : ℕ) (o : JoinOut JoinRow) → slice_get new i ≡ Some o → IsValueAt ps qs (n + i) o)
    → AreFirstValues ps qs (outs ++ new)
values-more ps qs n outs new len values each i o h = elim (slice_get-append_cases outs new i o h) [
  | inl before ↦ values i o before
  | inr behind ↦
      let e : i ≡ n + behind.0 = behind.1 ∙ ap (λ k. k + behind.0) len in
      subst (λ k. IsValueAt ps qs k o) (sym e) (each behind.0 o behind.2)
]

-- after one more stretch
pub AreOfFirstPairs-more : (ps qs : List (List Item)) (n : ℕ) (rows : List JoinRow) (turns : ℕ) (new : List (JoinOut JoinRow))
    (rows' : List JoinRow) (turns' count : ℕ) → AreOfFirstPairs ps qs n rows turns → length new ≡ count
    → ((i : ℕ) (o : JoinOut JoinRow) → slice_get new i ≡ Some o → IsValueAt ps qs (n + i) o)
    → rows' ≡ rows ++ rows_in new → turns' ≡ turns_in new → AreOfFirstPairs ps qs (n + count) rows' (turns + turns')
AreOfFirstPairs-more ps qs n rows turns new rows' turns' count is len each more added =
    let l : length is.outs ≡ n = is.len in
    let all : turns_in (is.outs ++ new) ≡ turns_in is.outs + turns_in new =
    sum_by-append (λ (out : JoinOut JoinRow). out.turns) is.outs new in
    record {
      outs = is.outs ++ new;
      len = length-append is.outs new ∙ ap (λ k. k + length new) l ∙ ap (λ k. n + k) len;
      values = values-more ps qs n is.outs new l is.values each;
      rows_are = more ∙ ap (λ r. r ++ rows_in new) is.rows_are ∙ sym (rows_in-append is.outs new);
      turns_are = ap (λ k. k + turns') is.turns_are ∙ ap (λ k. turns_in is.outs + k) added ∙ sym all;
    }

-- the same after rows that were there
pub AddsFirstPairs-more : (ps qs : List (List Item)) (n : ℕ) (old rows : List JoinRow) (turns : ℕ)
    (new : List (JoinOut JoinRow)) (rows' : List JoinRow) (turns' count : ℕ) → AddsFirstPairs ps qs n old rows turns
    → length new ≡ count → ((i : ℕ) (o : JoinOut JoinRow) → slice_get new i ≡ Some o → IsValueAt ps qs (n + i) o)
    → rows' ≡ rows ++ rows_in new → turns' ≡ turns_in new
    → AddsFirstPairs ps qs (n + count) old rows' (turns + turns')
AddsFirstPairs-more ps qs n old rows turns new rows' turns' count adds len each more added = record {
  added = adds.added ++ rows_in new;
  split = more ∙ ap (λ (l : List JoinRow). l ++ rows_in new) adds.split ∙ append_assoc old adds.added (rows_in new);
  are = AreOfFirstPairs-more ps qs n adds.added turns new (adds.added ++ rows_in new) turns' count adds.are len each refl
      added;
}

-- before all pairs
pub AddsFirstPairs-none : (ps qs : List (List Item)) (rows : List JoinRow) → AddsFirstPairs ps qs 0 rows rows 0
AddsFirstPairs-none ps qs rows = record {
  added = [];
  split = sym (append-nil rows);
  are = record { outs = []; len = refl; values = λ i o h. cc; rows_are = refl; turns_are = refl };
}

-- pairs have few advances
few-of : (ps qs : List (List Item)) (n : ℕ) (outs : List (JoinOut JoinRow)) → length (all_of ps) ≤ item_limit
    → length (all_of qs) ≤ item_limit
    → ((i : ℕ) (o : JoinOut JoinRow) → slice_get outs i ≡ Some o → IsValueAt ps qs (n + i) o)
    → turns_in outs ≤ length outs * 2_000_000
few-of ps qs n outs hp hq each =
    few-turns outs (λ i o h.
    let l = length-part_at ps ((n + i) / length qs) in
    let r = length-part_at qs ((n + i) % length qs) in
    few-turns_of (part_at ps ((n + i) / length qs)) (part_at qs ((n + i) % length qs)) o (omega (arith, l, hp))
    (omega (arith, r, hq)) (each i o h))

-- the advances of a stretch fit 64 bits
pub stretch-fits : (ps qs : List (List Item)) (n : ℕ) (outs : List (JoinOut JoinRow)) → length (all_of ps) ≤ item_limit
    → length (all_of qs) ≤ item_limit
    → ((i : ℕ) (o : JoinOut JoinRow) → slice_get outs i ≡ Some o → IsValueAt ps qs (n + i) o)
    → length outs ≤ pair_limit → turns_in outs < 2 ^ 64
stretch-fits ps qs n outs hp hq each few = let most = few-of ps qs n outs hp hq each in omega (arith, most, few)

-- together with the advances of all pairs before it
pub stretches-fit : (ps qs : List (List Item)) (n : ℕ) (rows : List JoinRow) (turns : ℕ) (new : List (JoinOut JoinRow))
    → AreOfFirstPairs ps qs n rows turns
    → length (all_of ps) ≤ item_limit → length (all_of qs) ≤ item_limit
    → ((i : ℕ) (o : JoinOut JoinRow) → slice_get new i ≡ Some o → IsValueAt ps qs (n + i) o)
    → n + length new ≤ pair_limit → turns + turns_in new < 2 ^ 64
stretches-fit ps qs n rows turns new is hp hq each few =
    let now = few-of ps qs n new hp hq each in
    let before = few-of ps qs 0 is.outs hp hq
    (λ i o h. let e : i ≡ 0 + i = omega arith in subst (λ k. IsValueAt ps qs k o) e (is.values i o h)) in
    let l : length is.outs ≡ n = is.len in
    let t : turns ≡ turns_in is.outs = is.turns_are in
    omega (arith, now, before, l, t, few)

-- after all pairs of two divisions, given as equal lists
pub AddsFirstPairs-of : (us vs ps qs : List (List Item)) (old new : List JoinRow) (turns : ℕ) → us ≡ ps → vs ≡ qs
    → AddsFirstPairs us vs (length us * length vs) old new turns
    → AddsFirstPairs ps qs (length ps * length qs) old new turns
AddsFirstPairs-of us vs ps qs old new turns e f is =
    subst (λ (l : List (List Item)). AddsFirstPairs ps l (length ps * length l) old new turns) f
    (subst (λ (l : List (List Item)). AddsFirstPairs l vs (length l * length vs) old new turns) e is)
