-- Loops over the values of pairs.
use Rattle.std.proofs.Common.{◌≡◌, ℕ, ◌+◌, ◌<◌, ◌≤◌, List, [], ◌∷◌, ◌++◌, length, take, get_or, Some, sym, ap, ◌∙◌, arith, append_assoc, append-nil}
use Rattle.std.specs.Prelude.{slice_get}
use Rattle.std.proofs.lemmas.List.{take_more}
use Rattle.std.proofs.lemmas.List.Concat.{flat_map-append}
use Rattle.std.proofs.lemmas.List.Sums.{sum_by_more, sum_by_more_le}
use Rattle.std.proofs.lemmas.Option.{slice_get_within, get_or_from_slice_get}
use Rattle.join_core.specs.declared.join_pairs.JoinOut.{JoinOut}
use Rattle.join_core.specs.declared.rows.JoinRow.{JoinRow}
use Rattle.join_core.specs.PairValues.{rows_in, turns_in}

-- the rows of two lists of values
pub rows_in-append : (xs ys : List (JoinOut JoinRow)) → rows_in (xs ++ ys) ≡ rows_in xs ++ rows_in ys
rows_in-append xs ys = flat_map-append (λ (o : JoinOut JoinRow). o.hits.items) xs ys

-- one more value
pub rows_in-more : (outs : List (JoinOut JoinRow)) (i : ℕ) (o : JoinOut JoinRow) (old before after : List JoinRow)
    → slice_get outs i ≡ Some o → before ≡ old ++ rows_in (take i outs) → after ≡ before ++ o.hits.items
    → after ≡ old ++ rows_in (take (i + 1) outs)
rows_in-more outs i o old before after at was now =
    let inside : i < length outs = slice_get_within outs i o at in
    let front : take (i + 1) outs ≡ take i outs ++ o ∷ [] =
    take_more outs i o inside ∙ ap (λ (v : JoinOut JoinRow). take i outs ++ v ∷ []) (get_or_from_slice_get outs i o o at) in
    now ∙ ap (λ l. l ++ o.hits.items) was ∙ append_assoc old (rows_in (take i outs)) o.hits.items
    ∙ ap (λ l. old ++ l)
    (sym (ap rows_in front ∙ rows_in-append (take i outs) (o ∷ [])
    ∙ ap (λ l. rows_in (take i outs) ++ l) (append-nil o.hits.items)))

-- the advances until now, and of one more value
pub turns_in-more : (outs : List (JoinOut JoinRow)) (i : ℕ) (o : JoinOut JoinRow) → slice_get outs i ≡ Some o
    → turns_in (take (i + 1) outs) ≡ turns_in (take i outs) + o.turns
turns_in-more outs i o at =
    sum_by_more (λ (out : JoinOut JoinRow). out.turns) outs i o (slice_get_within outs i o at)
    ∙ ap (λ (v : JoinOut JoinRow). turns_in (take i outs) + v.turns) (get_or_from_slice_get outs i o o at)

-- they are no more than all advances
pub turns_in-more_le : (outs : List (JoinOut JoinRow)) (i : ℕ) (o : JoinOut JoinRow) → slice_get outs i ≡ Some o
    → turns_in (take i outs) + o.turns ≤ turns_in outs
turns_in-more_le outs i o at =
    let most = sum_by_more_le (λ (out : JoinOut JoinRow). out.turns) outs i o (slice_get_within outs i o at) in
    let e : (get_or outs i o).turns ≡ o.turns = ap (λ (v : JoinOut JoinRow). v.turns) (get_or_from_slice_get outs i o o at) in
    omega (arith, most, e)
