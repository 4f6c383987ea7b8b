-- Changes that can't make rows with equal keys overlap: what they keep of a row holds where the row did, and has its
-- values in the key's columns.
use Rattle.std.proofs.Common.{◌≡◌, ℕ, ℤ, ◌<ℤ◌, ◌≤ℤ◌, ◌==◌, List, [], ◌∷◌, ◌++◌, map, get_or, suc, zero, Bool, true, false, ◌&&◌, ◌||◌, not, Option, Some, None, refl, sym, ap, ◌∙◌, inl, inr, arith}
use Rattle.std.proofs.lemmas.Bool.{and_parts, or_parts, eq-eqb, eqb-true, or_right}
use Rattle.std.specs.Prelude.{filter, flat_map, is_some, slice_get, unwrap_or}
use Rattle.std.specs.List.{AllByRecursion, list_any}
use Rattle.std.proofs.lemmas.Int.{ints}
use Rattle.period_core.specs.Period.{Holds, HoldsIn, before, meet, after as later}
use Rattle.period_core.specs.declared.period.Period.{Period}
use Rattle.period_core.proofs.PeriodLemmas.{before-holds, meet-holds, after-holds}
use Rattle.row_core.specs.ValueOrder.{same_maybe}
use Rattle.row_core.specs.declared.draft.Draft.{Draft}
use Rattle.row_core.specs.declared.row.Row.{Row}
use Rattle.row_core.specs.declared.value.Value.{Value}
use Rattle.version_core.specs.Collisions.{collide, have_collision, same_key}
use Rattle.version_core.proofs.CollisionLemmas.{collide-flips, shared, shares}
use Rattle.version_core.proofs.ReplacedRows.{AreApart, IsPartOf, Misses, append-all, apart-from_none, apart-replaced, none-from_apart}
use Rattle.version_core.specs.Keys.{is_set, rows_left, break_key}
use Rattle.version_core.specs.Portion.{part}
use Rattle.version_core.specs.Wanted.{with_set}
use Rattle.version_core.specs.declared.portion_change.PortionChange.{PortionChange}
use Rattle.version_core.specs.Rows.{drafts_of, parts_of, removes}
use Rattle.table_core.specs.Numbered.{unnumbered}
use Rattle.version_core.specs.declared.change.RowsChange.TheVariants.{Portion}
use Rattle.version_core.proofs.ListLemmas.{any-true}

-- a fact about each key with a column holds for each key
lift : (key : List ℕ) (xs ys : List Draft) → (have_collision key xs ≡ false → have_collision key ys ≡ false)
    → break_key key xs ≡ false → break_key key ys ≡ false
lift [] xs ys f h = refl
lift (column ∷ columns) xs ys f h = f h

-- ---- parts of a row

-- the row collides with each row that a part of it collides with
part-inside : (key : List ℕ) (row : Row) (values : List Value) (p : Option Period)
    → ((e : List Value) → same_key key values e ≡ same_key key row.values e)
    → ((t : ℤ) → HoldsIn p t → Holds row.period t)
    → AllByRecursion (IsPartOf (collide key) (collide-flips key) (unnumbered row)) (part p values)
part-inside key row values None same within = tt
part-inside key row values (Some p) same within = (
  λ e h. (
      let both = and_parts (same_key key values e.values) (is_some (meet p e.period)) h in
      let at = shared p e.period both.1 in
      ap (λ t. t && is_some (meet row.period e.period)) (sym (same e.values) ∙ both.0)
      ∙ shares row.period e.period at.0 (within at.0 at.1) at.2),
  tt,
)

-- rows without a common instant don't collide
no-collision : (key : List ℕ) (a b : Draft) → ((t : ℤ) → Holds a.period t → Holds b.period t → ⊥)
    → collide key a b ≡ false
no-collision key a b none = by_test (collide key a b) refl where
  by_test : (t : Bool) → collide key a b ≡ t → t ≡ false
  by_test false e = refl
  by_test true e =
      let both = and_parts (same_key key a.values b.values) (is_some (meet a.period b.period)) e in
      let at = shared a.period b.period both.1 in
      absurd (none at.0 at.1 at.2)

misses-part : (key : List ℕ) (p : Period) (q : Option Period) (u v : List Value)
    → ((t : ℤ) → Holds p t → HoldsIn q t → ⊥) → Misses (collide key) (record { period = p; values = u }) (part q v)
misses-part key p None u v none = tt
misses-part key p (Some q) u v none =
    (no-collision key (record { period = p; values = u }) (record { period = q; values = v }) none, tt)

one-apart : (key : List ℕ) (p : Option Period) (u : List Value) → AreApart (collide key) (part p u)
one-apart key None u = tt
one-apart key (Some p) u = (tt, tt)

two-apart : (key : List ℕ) (p q : Option Period) (u v : List Value) → ((t : ℤ) → HoldsIn p t → HoldsIn q t → ⊥)
    → AreApart (collide key) (part p u ++ part q v)
two-apart key None q u v none = one-apart key q v
two-apart key (Some p) q u v none = (misses-part key p q u v none, one-apart key q v)

three-apart : (key : List ℕ) (p q r : Option Period) (u v w : List Value) → ((t : ℤ) → HoldsIn p t → HoldsIn q t → ⊥)
    → ((t : ℤ) → HoldsIn p t → HoldsIn r t → ⊥) → ((t : ℤ) → HoldsIn q t → HoldsIn r t → ⊥)
    → AreApart (collide key) (part p u ++ (part q v ++ part r w))
three-apart key None q r u v w a b c = two-apart key q r v w c
three-apart key (Some p) q r u v w a b c = (
  append-all (λ y. collide key (record { period = p; values = u }) y ≡ false) (part q v) (part r w)
      (misses-part key p q u v a) (misses-part key p r u w b),
  two-apart key q r v w c,
)

-- ---- instants of the parts

early : (x portion : Period) (t : ℤ) → HoldsIn (before x portion) t → t <ℤ portion.from
early x portion t h = ((before-holds x portion t).0 h).1

inner : (x portion : Period) (t : ℤ) → HoldsIn (meet x portion) t → Holds portion t
inner x portion t h = ((meet-holds x portion t).0 h).1

late : (x portion : Period) (t : ℤ) → HoldsIn (later x portion) t → portion.to ≤ℤ t
late x portion t h = ((after-holds x portion t).0 h).1

not-early_and_inner : (portion : Period) (t : ℤ) → t <ℤ portion.from → Holds portion t → ⊥
not-early_and_inner portion t below inside = let from = inside.0 in absurd (omega (arith, ints))

not-early_and_late : (portion : Period) (t : ℤ) → t <ℤ portion.from → portion.to ≤ℤ t → ⊥
not-early_and_late portion t below above =
    let proper : portion.from <ℤ portion.to = portion.ordered in absurd (omega (arith, ints))

not-inner_and_late : (portion : Period) (t : ℤ) → Holds portion t → portion.to ≤ℤ t → ⊥
not-inner_and_late portion t inside above = let to = inside.1 in absurd (omega (arith, ints))

-- ---- values that are set outside the key

-- the column is in the key
abbrev is_column_of : List ℕ → ℕ → Bool
is_column_of key column = list_any (λ other. other == column) key

slice_get-with_set : (sets : List (Option Value)) (values : List Value) (column : ℕ) → get_or sets column None ≡ None
    → slice_get (with_set sets values) column ≡ slice_get values column
slice_get-with_set [] values column out = refl
slice_get-with_set (s ∷ sets) [] column out = refl
slice_get-with_set (s ∷ sets) (value ∷ values) zero out = ap (λ o. Some (unwrap_or o value)) out
slice_get-with_set (s ∷ sets) (value ∷ values) (suc column) out = slice_get-with_set sets values column out

unset : (o : Option Value) → is_some o ≡ false → o ≡ None
unset None e = refl
unset (Some value) e = absurd (cc)

-- no value is set in a column of the key
not-set : (sets : List (Option Value)) (key : List ℕ) (column : ℕ) → list_any (is_set sets) key ≡ false
    → is_column_of key column ≡ true → get_or sets column None ≡ None
not-set sets [] column none in_key = absurd (cc)
not-set sets (other ∷ others) column none in_key =
    let both = or_parts (is_set sets other) (list_any (is_set sets) others) none in
    elim (any-true (other == column) (is_column_of others column) in_key) [
      | inl here ↦ unset (get_or sets column None)
          (ap (is_set sets) (sym (eqb-true other column here)) ∙ both.0)
      | inr there ↦ not-set sets others column both.1 there
    ]

-- the values are equal in the columns
same-in : (columns : List ℕ) (u v e : List Value)
    → ((column : ℕ) → is_column_of columns column ≡ true → slice_get u column ≡ slice_get v column)
    → same_key columns u e ≡ same_key columns v e
same-in [] u v e same = refl
same-in (column ∷ columns) u v e same =
    ap (λ o. same_maybe o (slice_get e column) && same_key columns u e)
    (same column (ap (λ t. t || is_column_of columns column) (eq-eqb column column refl)))
    ∙ ap (λ t. same_maybe (slice_get v column) (slice_get e column) && t)
    (same-in columns u v e
    (λ other in_rest. same other (or_right (column == other) (is_column_of columns other) in_rest)))

-- ---- changes

-- rows are replaced by parts that don't collide with each other
replaced : (key : List ℕ) (goes : Row → Bool) (parts : Row → List Draft) (rows : List Row)
    → ((row : Row) → AllByRecursion (IsPartOf (collide key) (collide-flips key) (unnumbered row)) (parts row))
    → ((row : Row) → AreApart (collide key) (parts row))
    → have_collision key (map unnumbered rows) ≡ false
    → have_collision key (map unnumbered (filter (λ row. not (goes row)) rows) ++ flat_map parts (filter goes rows))
    ≡ false
replaced key goes parts rows inside apart none =
    none-from_apart (collide key)
    (map unnumbered (filter (λ row. not (goes row)) rows) ++ flat_map parts (filter goes rows))
    (apart-replaced (collide key) (collide-flips key) unnumbered goes
    parts inside apart rows (apart-from_none (collide key) (map unnumbered rows) none))

-- a part before and one after
outside : Period → Row → List Draft
outside portion row = part (before row.period portion) row.values ++ part (later row.period portion) row.values

outside-inside : (key : List ℕ) (portion : Period) (row : Row)
    → AllByRecursion (IsPartOf (collide key) (collide-flips key) (unnumbered row)) (outside portion row)
unfolding outside
outside-inside key portion row =
    append-all (IsPartOf (collide key) (collide-flips key) (unnumbered row))
    (part (before row.period portion) row.values) (part (later row.period portion) row.values)
    (part-inside key row row.values (before row.period portion) (λ e. refl)
    (λ t h. ((before-holds row.period portion t).0 h).0))
    (part-inside key row row.values (later row.period portion) (λ e. refl)
    (λ t h. ((after-holds row.period portion t).0 h).0))

outside-apart : (key : List ℕ) (portion : Period) (row : Row) → AreApart (collide key) (outside portion row)
unfolding outside
outside-apart key portion row =
    two-apart key (before row.period portion) (later row.period portion) row.values row.values
    (λ t h k. not-early_and_late portion t (early row.period portion t h) (late row.period portion t k))

-- rows keep what is outside a portion
pub cut-unbroken : (goes : Row → Bool) (portion : Period) (key : List ℕ) (rows : List Row)
    → break_key key (map unnumbered rows) ≡ false
    → break_key key
    (map unnumbered (filter (λ row. not (goes row)) rows)
    ++ flat_map (λ row. part (before row.period portion) row.values ++ part (later row.period portion) row.values)
    (filter goes rows)) ≡ false
unfolding outside
cut-unbroken goes portion key rows =
    lift key (map unnumbered rows)
    (map unnumbered (filter (λ row. not (goes row)) rows) ++ flat_map (outside portion) (filter goes rows))
    (replaced key goes (outside portion) rows (outside-inside key portion) (outside-apart key portion))

-- nothing is set
pub delete-unbroken : (change : PortionChange) (key : List ℕ) (rows : List Row) → change.sets ≡ None
    → break_key key (map unnumbered rows) ≡ false
    → break_key key (rows_left (Portion change) rows ++ drafts_of (Portion change) rows) ≡ false
unfolding outside
delete-unbroken change key rows none =
    let c = Portion change in
    lift key (map unnumbered rows) (rows_left c rows ++ drafts_of c rows)
    (replaced key (removes c) (parts_of c) rows
    (λ row. rw none (outside-inside key change.portion row))
    (λ row. rw none (outside-apart key change.portion row)))

-- no column of the key is set
pub update-unbroken : (change : PortionChange) (sets : List (Option Value)) (key : List ℕ) (rows : List Row)
    → change.sets ≡ Some sets → list_any (is_set sets) key ≡ false
    → break_key key (map unnumbered rows) ≡ false
    → break_key key (rows_left (Portion change) rows ++ drafts_of (Portion change) rows) ≡ false
update-unbroken change sets key rows some beside =
    let portion = change.portion in
    let c = Portion change in
    let now : Row → List Value = λ row. with_set sets row.values in
    let kept : (row : Row) (e : List Value) → same_key key (now row) e ≡ same_key key row.values e =
    λ row e. same-in key (now row) row.values e
    (λ column in_key. slice_get-with_set sets row.values column (not-set sets key column beside in_key)) in
    lift key (map unnumbered rows) (rows_left c rows ++ drafts_of c rows)
    (replaced key (removes c) (parts_of c) rows
    (λ row. (
    let P = IsPartOf (collide key) (collide-flips key) (unnumbered row) in
    rw some (append-all P (part (before row.period portion) row.values)
    (part (meet row.period portion) (now row) ++ part (later row.period portion) row.values)
    (part-inside key row row.values (before row.period portion) (λ e. refl)
    (λ t h. ((before-holds row.period portion t).0 h).0))
    (append-all P (part (meet row.period portion) (now row)) (part (later row.period portion) row.values)
    (part-inside key row (now row) (meet row.period portion) (kept row)
    (λ t h. ((meet-holds row.period portion t).0 h).0))
    (part-inside key row row.values (later row.period portion) (λ e. refl)
    (λ t h. ((after-holds row.period portion t).0 h).0))))))
    (λ row. rw some (three-apart key (before row.period portion) (meet row.period portion) (later row.period portion)
    row.values (now row) row.values
    (λ t h k. not-early_and_inner portion t (early row.period portion t h) (inner row.period portion t k))
    (λ t h k. not-early_and_late portion t (early row.period portion t h) (late row.period portion t k))
    (λ t h k. not-inner_and_late portion t (inner row.period portion t h) (late row.period portion t k)))))
