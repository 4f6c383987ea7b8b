-- The advances of all pairs of two divisions.
use Rattle.std.proofs.Common.{◌≡◌, ℕ, suc, ◌+◌, ◌*◌, ◌<◌, ◌≤◌, List, [], ◌∷◌, ◌++◌, length, min, take, drop, All, get_or, Some, refl, sym, subst, ap, ◌∙◌, arith, suc-mul, length-append, length-drop}
use Rattle.std.specs.Prelude.{slice_get}
use Rattle.std.proofs.Math.Logic.{∥∥₁_elim, ∥∥₁_map}
use Rattle.std.proofs.lemmas.List.{take-append-drop}
use Rattle.std.proofs.lemmas.List.Elements.{All-head, All-tail}
use Rattle.std.proofs.lemmas.List.Sums.{sum_by-append, sum_by-cons, sum_by-le}
use Rattle.std.proofs.lemmas.Option.{slice_get-get_or}
use Rattle.list_core.proofs.PlaceLemmas.{slice_get-drop}
use Rattle.dip_core.specs.declared.item.Item.{Item}
use Rattle.dip_core.specs.Item.{item_limit}
use Rattle.dip_core.specs.Division.{all_of, part_at}
use Rattle.merge_core.specs.Hits.{AreAdvances}
use Rattle.join_core.specs.declared.join_pairs.JoinOut.{JoinOut}
use Rattle.join_core.specs.declared.rows.JoinRow.{JoinRow}
use Rattle.join_core.specs.Join.{IsWithin}
use Rattle.join_core.specs.PairValues.{IsPairValue, AreFirstValues, row_of_hit, turns_in}
use Rattle.join_core.proofs.ListLemmas.{within_take}
use Rattle.join_core.proofs.PairLemmas.{value_of}
use Rattle.join_core.proofs.ValueLemmas.{le_prop, AreAdvances-opened}

-- one more value
pub turns_in-cons : (o : JoinOut JoinRow) (outs : List (JoinOut JoinRow)) → turns_in (o ∷ outs) ≡ o.turns + turns_in outs
turns_in-cons o outs = sum_by-cons (λ (out : JoinOut JoinRow). out.turns) o outs

-- the advances of one left part with all right parts
row-within : (p : List Item) (qs : List (List Item)) (outs : List (JoinOut JoinRow)) → length outs ≡ length qs → 0 < length p
    → All (λ q. 0 < length q) qs
    → ((r : ℕ) (o : JoinOut JoinRow) → slice_get outs r ≡ Some o → AreAdvances p (part_at qs r) o.turns)
    → (length qs ≤ turns_in outs) × (turns_in outs ≤ length qs * length p + length (all_of qs))
row-within p [] [] len some filled each = (omega arith, omega arith)
row-within p [] (o ∷ outs) len some filled each = absurd (omega arith)
row-within p (q ∷ qs) [] len some filled each = absurd (omega arith)
row-within p (q ∷ qs) (o ∷ outs) len some filled each =
    let rest = row-within p qs outs (omega arith) some (All-tail (λ q. 0 < length q) q qs filled)
    (λ r x h. each (suc r) x h) in
    let now = each 0 o refl in
    let least : min (length p) (length q) ≤ o.turns = now.at_least in
    let most : o.turns ≤ length p + length q = now.at_most in
    let first : 0 < length q = All-head (λ q. 0 < length q) q qs filled in
    let split : turns_in (o ∷ outs) ≡ o.turns + turns_in outs = turns_in-cons o outs in (
      omega (arith, rest.0, split, least, first, some),
      omega (arith, rest.1, split, most, suc-mul (length qs) (length p), length-append q (all_of qs)),
    )

-- no values have no advances
none-turns : (outs : List (JoinOut JoinRow)) → length outs ≡ 0 → turns_in outs ≡ 0
none-turns [] e = refl
none-turns (o ∷ outs) e = absurd (omega arith)

-- a product with a sum
pub mul-add : (a b c : ℕ) → a * (b + c) ≡ a * b + a * c
mul-add a b c = grind arith

-- the advances of all pairs, by the numbers of their parts
turns-within : (ps qs : List (List Item)) (outs : List (JoinOut JoinRow)) → length outs ≡ length ps * length qs
    → All (λ p. 0 < length p) ps → All (λ q. 0 < length q) qs
    → ((l r : ℕ) (o : JoinOut JoinRow) → r < length qs → slice_get outs (l * length qs + r) ≡ Some o
    → AreAdvances (part_at ps l) (part_at qs r) o.turns)
    → IsWithin (length ps) (length qs) (length (all_of ps)) (length (all_of qs)) (turns_in outs)
turns-within [] qs outs len lefts rights each =
    let e : turns_in outs ≡ 0 = none-turns outs (let z : 0 * length qs ≡ 0 = omega arith in len ∙ z) in
    record { at_least = omega (arith, e); at_most = omega (arith, e) }
turns-within (p ∷ ps) qs outs len lefts rights each =
    let m : ℕ = length qs in
    let whole : take m outs ++ drop m outs ≡ outs = take-append-drop m outs in
    let enough : length outs ≡ length qs + length ps * length qs =
    omega (arith, len, suc-mul (length ps) (length qs)) in
    let behind : length (drop m outs) ≡ length ps * length qs = omega (arith, length-drop m outs, enough) in
    let before : length (take m outs) ≡ length qs =
    omega (arith, behind, enough, length-append (take m outs) (drop m outs), ap length whole) in
    let first = row-within p qs (take m outs) before (All-head (λ p. 0 < length p) p ps lefts) rights
    (λ r o h.
    let at = within_take outs (length qs) r o h in
    let zeroth : r ≡ 0 * length qs + r = omega arith in
    each 0 r o at.0 (subst (λ n. slice_get outs n ≡ Some o) zeroth at.1)) in
    let after = turns-within ps qs (drop m outs) behind (All-tail (λ p. 0 < length p) p ps lefts) rights
    (λ l r o inside h.
    let at = sym (slice_get-drop (length qs) outs (l * length qs + r)) ∙ h in
    let next : length qs + (l * length qs + r) ≡ suc l * length qs + r = omega (arith, suc-mul l (length qs)) in
    each (suc l) r o inside (subst (λ n. slice_get outs n ≡ Some o) next at)) in
    let split : turns_in outs ≡ turns_in (take m outs) + turns_in (drop m outs) =
    sym (ap turns_in whole) ∙ sum_by-append (λ (out : JoinOut JoinRow). out.turns) (take m outs) (drop m outs) in
    let least = after.at_least in
    let most = after.at_most in
    let l : length (p ++ all_of ps) ≡ length p + length (all_of ps) = length-append p (all_of ps) in
    let d : length qs * length (p ++ all_of ps) ≡ length qs * length p + length qs * length (all_of ps) =
    ap (λ n. length qs * n) l ∙ mul-add (length qs) (length p) (length (all_of ps)) in
    record {
      at_least = omega (arith, first.0, split, least, suc-mul (length ps) (length qs));
      at_most = omega (arith, first.1, split, most, d, suc-mul (length ps) (length (all_of qs)));
    }

-- the advances of all pairs are within their bounds
pub all_turns-within : (ps qs : List (List Item)) (outs : List (JoinOut JoinRow)) → length outs ≡ length ps * length qs
    → AreFirstValues ps qs outs → All (λ p. 0 < length p) ps → All (λ q. 0 < length q) qs
    → IsWithin (length ps) (length qs) (length (all_of ps)) (length (all_of qs)) (turns_in outs)
all_turns-within ps qs outs len values lefts rights =
    turns-within ps qs outs len lefts rights (λ l r o h at. AreAdvances-opened (part_at ps l) (part_at qs r) o.turns
    (∥∥₁_map (value_of ps qs outs values l r o h at) (λ v. v.turns)))

-- a pair has few advances
pub few-turns_of : (p q : List Item) (o : JoinOut JoinRow) → length p ≤ item_limit → length q ≤ item_limit
    → ∥ IsPairValue row_of_hit p q o ∥₁ → o.turns ≤ 2_000_000
few-turns_of p q o hp hq bare =
    ∥∥₁_elim bare (le_prop _ _) (λ v. let most = v.turns.at_most in omega (arith, most, hp, hq))

-- and so have several pairs
pub few-turns : (outs : List (JoinOut JoinRow)) → ((i : ℕ) (o : JoinOut JoinRow) → slice_get outs i ≡ Some o → o.turns ≤ 2_000_000)
    → turns_in outs ≤ length outs * 2_000_000
few-turns outs each =
    sum_by-le (λ (out : JoinOut JoinRow). out.turns) 2_000_000 outs
    (λ i d h. each i (get_or outs i d) (slice_get-get_or outs i d h))
