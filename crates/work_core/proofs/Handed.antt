-- The values that workers keep, and what they return.
use Rattle.std.proofs.Common.{rules, None, replicate, refl, ◌≡◌, ℕ, zero, suc, ◌+◌, ◌<◌, ◌≤◌, max, List, [], ◌∷◌, ◌++◌, length, Some, Option, slice_index_or, slice_set, ap, ◌∙◌, sym, subst, ⊎_elim, arith, length-set}
use Rattle.std.proofs.lemmas.Bool.{cases_lt}
use Rattle.std.proofs.lemmas.List.{map-append}
use Rattle.std.proofs.lemmas.List.Elements.{All-nil, All-push, All-same}
use Rattle.atomic_table.specs.Table.{Me}
use Rattle.work_core.specs.declared.claim_view.ClaimView.{ClaimView}
use Rattle.work_core.specs.declared.kept.KeptValues.{KeptValues}
use Rattle.work_core.specs.declared.numbered.Numbered.{Numbered}
use Rattle.work_core.specs.Claims.{joined_view}
use Rattle.work_core.specs.Collected.{AreAtTheirPlaces}
use Rattle.work_core.specs.Counting.{times}
use Rattle.work_core.specs.Workers.{numbers_of, count_at, count_kept, KeepsValue, IsOfItsCall, IsCalled, AreOfDrawn}
use Rattle.work_core.proofs.Counting.{times-append, times-other}
use Rattle.work_core.proofs.PresentValues.{not_none}
use Rattle.work_core.proofs.Places.{count_at-set, at_their_places-set}

-- the numbers of two lists of values
times-numbers-append : {T : Type 0} (x : ℕ) (us vs : List (Numbered T))
    → times x (numbers_of (us ++ vs)) ≡ times x (numbers_of us) + times x (numbers_of vs)
times-numbers-append x us vs =
    ap (times x) (map-append (λ v. v.number) us vs) ∙ times-append x (numbers_of us) (numbers_of vs)

-- a value more in the slots or in the list, and the rest unchanged
put_more : (l a b after listed : ℕ) → after ≡ b → listed ≡ l → (0 < a → 0 < b) → 0 < a + l → 0 < after + listed
put_more (suc l) a b after listed e f h some = omega (arith, f)
put_more zero a b after listed e f h some = let p : 0 < b = h (omega (arith, some)) in omega (arith, p, e)

-- the values before and after one more is kept
kept_more : {T : Type 0} (n x : ℕ) (o : T) (before after : KeptValues T) → KeepsValue n o before after
    → 0 < count_kept before x + times x (n ∷ []) → 0 < count_kept after x
kept_more {T} n x o before after keeps was =
    let old = before.places.items in
    ⊎_elim
    (λ (inside : n < length old).
    let new = keeps.placed inside in
    let at = ap (λ (l : List (Option T)). count_at l x) new.0 in
    let listed = ap (λ (l : List (Numbered T)). times x (numbers_of l)) new.1 in
    put_more (times x (numbers_of before.values.items)) (count_at old x + times x (n ∷ []))
    (count_at (slice_set old n (Some o)) x)
    (count_at after.places.items x) (times x (numbers_of after.values.items)) at listed (count_at-set old n x o inside)
    (omega (arith, was)))
    (λ (past : length old ≤ n).
    let new = keeps.listed past in
    let at = ap (λ (l : List (Option T)). count_at l x) new.0 in
    let listed = ap (λ (l : List (Numbered T)). times x (numbers_of l)) new.1 in
    let both = times-numbers-append x before.values.items (record { number = n; value = o } ∷ []) in
    omega (arith, at, listed, both, was))
    (cases_lt n (length old))

-- the number of slots doesn't change
pub length-places-kept : {T : Type 0} (n : ℕ) (o : T) (before after : KeptValues T) → KeepsValue n o before after
    → length after.places.items ≡ length before.places.items
length-places-kept {T} n o before after keeps =
    let old = before.places.items in
    ⊎_elim
    (λ (inside : n < length old).
    ap (λ (l : List (Option T)). length l) (keeps.placed inside).0 ∙ length-set old n (Some o))
    (λ (past : length old ≤ n). ap (λ (l : List (Option T)). length l) (keeps.listed past).0)
    (cases_lt n (length old))

-- one number more is drawn, and the value of the one before is kept
one_more : (drawn kept more after next : ℕ) → (0 < drawn → 0 < kept + more) → (0 < kept + more → 0 < after)
    → 0 < drawn + next → 0 < after + next
one_more zero kept more after next was keeps some = omega (arith, some)
one_more (suc drawn) kept more after next was keeps some =
    let p : 0 < after = keeps (was (omega arith)) in omega (arith, p)

same_in : {X : Type 0} (n i : ℕ) (x : X) → slice_index_or (replicate n x) i x ≡ x
same_in zero i x = search rules
same_in (suc n) zero x = refl
same_in (suc n) (suc i) x = same_in n i x

module _ {Out : Type 0} (count : ℕ) (IsValue : ℕ → Out → Type 0) where
  -- the number drawn last was called, and one more was drawn
  pub drawn_next : (drawn : List ℕ) (n next : ℕ) (before after : KeptValues Out) → n < count
      → IsCalled IsValue n before after → AreOfDrawn count IsValue drawn (n ∷ []) before
      → AreOfDrawn count IsValue (drawn ++ next ∷ []) (next ∷ []) after
  drawn_next drawn n next before after below run was =
      let o = run.value in
      let gives = run.gives in
      let keeps = run.keeps in
      let old = before.places.items in
      let each : (x : ℕ) → x < count → 0 < times x (drawn ++ next ∷ [])
      → 0 < count_kept after x + times x (next ∷ []) = λ x inside some.
      one_more (times x drawn) (count_kept before x) (times x (n ∷ [])) (count_kept after x) (times x (next ∷ []))
      (was.each x inside) (kept_more n x o before after keeps)
      (let e = times-append x drawn (next ∷ []) in omega (arith, e, some)) in
      ⊎_elim
      (λ (inside : n < length old).
      let new = keeps.placed inside in record {
        placed = subst (AreAtTheirPlaces IsValue) (sym new.0) (at_their_places-set IsValue n o old inside gives was.placed);
        listed = All-same (IsOfItsCall count IsValue) after.values.items before.values.items new.1 was.listed;
        whole = λ all. new.1 ∙ was.whole (let e = ap length new.0 ∙ length-set old n (Some o) in omega (arith, e, all));
        each = each;
      })
      (λ (past : length old ≤ n).
      let new = keeps.listed past in record {
        placed = subst (AreAtTheirPlaces IsValue) (sym new.0) was.placed;
        listed = All-same (IsOfItsCall count IsValue) after.values.items
            (before.values.items ++ record { number = n; value = o } ∷ []) new.1
            (All-push (IsOfItsCall count IsValue) before.values.items (record { number = n; value = o }) was.listed
            (record { inside = below; gives = gives }));
        whole = λ all. absurd (let e = ap length new.0 in omega (arith, e, all, below, past));
        each = each;
      })
      (cases_lt n (length old))

  -- one number is drawn, and nothing is kept
  pub drawn_none : (n : ℕ) (kept : KeptValues Out) → kept.places.items ≡ replicate (length kept.places.items) None
      → kept.values.items ≡ [] → AreOfDrawn count IsValue (n ∷ []) (n ∷ []) kept
  drawn_none n kept none empty = record {
    placed = λ i o there.
        absurd (not_none (Some o)
        (sym there ∙ ap (λ (l : List (Option Out)). slice_index_or l i None) none
        ∙ same_in (length kept.places.items) i None)
        (search rules));
    listed = All-same (IsOfItsCall count IsValue) kept.values.items [] empty (All-nil (IsOfItsCall count IsValue));
    whole = λ all. empty;
    each = λ x below some. omega (arith, some);
  }

  -- the number drawn last is past the last call
  pub drawn_past : (drawn : List ℕ) (n : ℕ) (kept : KeptValues Out) → count ≤ n
      → AreOfDrawn count IsValue drawn (n ∷ []) kept → AreOfDrawn count IsValue drawn [] kept
  drawn_past drawn n kept past are = record {
    placed = are.placed;
    listed = are.listed;
    whole = are.whole;
    each = λ x below some.
        let there = are.each x below some in
        let other = times-other x n (omega (arith, below, past)) in
        omega (arith, there, other);
  }

-- what a seat knows after a join
pub joined_me : {S : Type 0} (a b m : Me S ClaimView) → m ≡ (joined_view a.0 b.0, a.1)
    → (m.0.parts ≡ a.0.parts + b.0.parts) × (m.0.least ≡ max a.0.least b.0.least)
    × (m.0.drawn ≡ a.0.drawn ++ b.0.drawn) × (m.1 ≡ a.1)
joined_me {S} a b m e = (
  ap (λ (x : Me S ClaimView). x.0.parts) e,
  ap (λ (x : Me S ClaimView). x.0.least) e,
  ap (λ (x : Me S ClaimView). x.0.drawn) e,
  ap (λ (x : Me S ClaimView). x.1) e,
)
