-- Classes that are split by one pair of columns after another.
use Rattle.std.proofs.Common.{◌≡◌, ℕ, zero, suc, ◌+◌, ◌<◌, List, [], ◌∷◌, ◌++◌, length, map, get_or, replicate, Bool, true, false, not, Option, Some, None, refl, sym, subst, ap, ◌∙◌, arith, length-append}
use Rattle.std.specs.Prelude.{All, is_none, option_map, option_and_then, slice_get, IsTrue}
use Rattle.std.proofs.lemmas.List.{length-replicate, get_or_append_left, length_push, get_or_push}
use Rattle.std.proofs.lemmas.List.Elements.{All-push, All-append, All-map, All-replicate}
use Rattle.std.proofs.lemmas.Bool.{and_parts}
use Rattle.row_core.specs.Refusals.{first_of}
use Rattle.row_core.specs.Schema.{column_of, fits, kind_in}
use Rattle.row_core.specs.Value.{kind_of, same_kind}
use Rattle.row_core.specs.declared.row.Row.{Row}
use Rattle.row_core.specs.declared.schema.Column.{Column}
use Rattle.row_core.specs.declared.value.Kind.{Kind}
use Rattle.row_core.specs.declared.value.Kind.TheVariants as kind
use Rattle.row_core.specs.declared.value.Value.{Value}
use Rattle.row_core.specs.Name.{NamePair}
use Rattle.match_core.specs.Columns.{value_under, kinds_differ, tests_of_names}
use Rattle.match_core.specs.Classes.{AreClasses, values_under}
use Rattle.match_core.specs.Cells.{IsOfKind, Refines, values_at}

-- ---- one more pair

-- without columns all rows are in one class
pub no_columns : (left right : List Column) (lefts rights : List Row)
    → AreClasses left right lefts rights [] (replicate (length lefts) 0 ++ replicate (length rights) 0)
no_columns left right lefts rights = record {
  count = length-append (replicate (length lefts) 0) (replicate (length rights) 0)
      ∙ ap (λ n. n + length (replicate {A = ℕ} (length rights) 0)) (length-replicate {A = ℕ} (length lefts) 0)
      ∙ ap (λ n. length lefts + n) (length-replicate {A = ℕ} (length rights) 0);
  tell = λ i j hi hj. ((λ same k d lt. absurd (omega arith)), (λ same. zero i 0 hi ∙ sym (zero j 0 hj)));
}
  where
    zero : All (λ (c : ℕ). c ≡ 0) (replicate (length lefts) 0 ++ replicate (length rights) 0)
    zero =
        All-append (λ (c : ℕ). c ≡ 0) (replicate (length lefts) 0) (replicate (length rights) 0)
        (All-replicate (λ (c : ℕ). c ≡ 0) (length lefts) 0 refl)
        (All-replicate (λ (c : ℕ). c ≡ 0) (length rights) 0 refl)

-- one more pair of columns splits the classes
pub one_more : (left right : List Column) (lefts rights : List Row) (on : List NamePair) (pair : NamePair)
    (old new : List ℕ)
    → AreClasses left right lefts rights on old → length new ≡ length old
    → Refines old (values_under left right lefts rights pair) new
    → AreClasses left right lefts rights (on ++ pair ∷ []) new
one_more left right lefts rights on pair old new are len refines = record {
  count = len ∙ are.count;
  tell = λ i j hi hj. (
      let a : i < length old = omega (arith, len) in
      let b : j < length old = omega (arith, len) in
      let step = refines i j a b in
      let was = are.tell i j a b in
      let P : NamePair → Type 0 =
      λ p. slice_get (values_under left right lefts rights p) i ≡ slice_get
      (values_under left right lefts rights p) j in (
        λ e. (let s = step.0 e in All-push P on pair (was.0 s.0) s.1),
        λ all. step.1 (
          was.1 (λ k d lt. (
              let here : get_or (on ++ pair ∷ []) k d ≡ get_or on k d = get_or_append_left on (pair ∷ []) d k lt in
              subst P here (all k d (let n = length_push on pair in omega (arith, n))))),
          (let n = length_push on pair in
              let h : get_or (on ++ pair ∷ []) (length on) pair ≡ pair = get_or_push on pair pair (length on) refl in
              subst P h (all (length on) pair (omega (arith, n)))),
        ),
      ));
}

-- ---- the pair's columns

-- none of three tests applies
three_pass : {E : Type 0} (a b c : Bool) (d e f : E) → first_of ((a, d) ∷ (b, e) ∷ (c, f) ∷ []) ≡ None
    → (a ≡ false) × ((b ≡ false) × (c ≡ false))
three_pass true b c d e f h = absurd (cc)
three_pass false true c d e f h = absurd (cc)
three_pass false false true d e f h = absurd (cc)
three_pass false false false d e f h = (refl, (refl, refl))

-- an option that isn't `None` has a value
some_from : {X : Type 0} (o : Option X) → is_none o ≡ false → (x : X) × (o ≡ Some x)
some_from None h = absurd (cc)
some_from (Some x) h = (x, refl)

-- kinds that don't differ are equal
same_kinds : (k l : Kind) → not (same_kind k l) ≡ false → k ≡ l
same_kinds kind.Int kind.Int h = refl
same_kinds kind.Int kind.Text h = absurd (cc)
same_kinds kind.Text kind.Int h = absurd (cc)
same_kinds kind.Text kind.Text h = refl

-- the test implies that kinds are equal
pub kind_is : (k l : Kind) → same_kind k l ≡ true → k ≡ l
kind_is kind.Int kind.Int h = refl
kind_is kind.Int kind.Text h = absurd (cc)
kind_is kind.Text kind.Int h = absurd (cc)
kind_is kind.Text kind.Text h = refl

-- The kind of both columns of an allowed pair.
record IsAllowed (left right : List Column) (pair : NamePair) : Type 0 where
  pub kind : Kind
  pub one : kind_in left pair.0 ≡ Some kind
  pub other : kind_in right pair.1 ≡ Some kind

-- the columns of a pair that no test refuses are of one kind
allowed : (left right : List Column) (pair : NamePair) → first_of (tests_of_names left right pair) ≡ None
    → IsAllowed left right pair
allowed left right pair h =
    let pass = three_pass (is_none (kind_in left pair.0)) (is_none (kind_in right pair.1))
    (kinds_differ (kind_in left pair.0) (kind_in right pair.1)) _ _ _ h in
    let k = some_from (kind_in left pair.0) pass.0 in
    let l = some_from (kind_in right pair.1) pass.1.0 in
    let e : kinds_differ (Some k.0) (Some l.0) ≡ false = ap (λ o. kinds_differ o (Some l.0)) (sym k.1)
    ∙ ap (kinds_differ (kind_in left pair.0)) (sym l.1) ∙ pass.1.1 in
    let same : k.0 ≡ l.0 = same_kinds k.0 l.0 e in
    record { kind = k.0; one = k.1; other = l.1 ∙ ap (λ x. Some x) (sym same) }

-- an existing column
column_there : (columns : List Column) (name : List ℕ) (k : Kind) → kind_in columns name ≡ Some k
    → (place : ℕ) × (c : Column) × (column_of columns name ≡ Some place) × (slice_get columns place ≡ Some c)
    × (c.kind ≡ k)
column_there columns name k h = from (column_of columns name) refl h
  where
    at : (place : ℕ) (o : Option Column) → column_of columns name ≡ Some place → slice_get columns place ≡ o
        → option_map (λ (c : Column). c.kind) o ≡ Some k
        → (place : ℕ) × (c : Column) × (column_of columns name ≡ Some place) × (slice_get columns place ≡ Some c)
        × (c.kind ≡ k)
    at place None e f h = absurd (cc)
    at place (Some c) e f h = (place, c, e, f, cc)

    from : (o : Option ℕ) → column_of columns name ≡ o
        → option_map (λ (c : Column). c.kind) (option_and_then (slice_get columns) o) ≡ Some k
        → (place : ℕ) × (c : Column) × (column_of columns name ≡ Some place) × (slice_get columns place ≡ Some c)
        × (c.kind ≡ k)
    from None e h = absurd (cc)
    from (Some place) e h = at place (slice_get columns place) e refl h

-- a row that fits has a value of the column's kind
value_there : (columns : List Column) (values : List Value) (place : ℕ) (c : Column) → fits columns values ≡ true
    → slice_get columns place ≡ Some c
    → IsOfKind c.kind (slice_get values place)
value_there [] values place c h e = absurd (cc)
value_there (b ∷ columns) [] place c h e = absurd (cc)
value_there (b ∷ columns) (v ∷ values) zero c h e =
    let same : b ≡ c = cc in
    let k = (and_parts (same_kind b.kind (kind_of v)) (fits columns values) h).0 in
    sym (ap (λ (x : Column). x.kind) (sym same) ∙ kind_is b.kind (kind_of v) k)
value_there (b ∷ columns) (v ∷ values) (suc place) c h e =
    value_there columns values place c (and_parts (same_kind b.kind (kind_of v)) (fits columns values) h).1 e

-- the values of rows that fit are of their column's kind
named_kind : (columns : List Column) (rows : List Row) (name : List ℕ) (k : Kind) → kind_in columns name ≡ Some k
    → All (λ (row : Row). IsTrue (fits columns row.values)) rows
    → All (IsOfKind k) (map (value_under columns name) rows)
named_kind columns rows name k h fit =
    let there = column_there columns name k h in
    All-map (IsOfKind k) (value_under columns name) rows (λ i d lt. (
    let row = get_or rows i d in
    let v : IsOfKind there.1.kind (slice_get row.values there.0) =
    value_there columns row.values there.0 there.1 (fit i d lt) there.3 in
    let w : IsOfKind k (slice_get row.values there.0) =
    subst (λ z. IsOfKind z (slice_get row.values there.0)) there.4 v in
    subst (λ o. IsOfKind k (option_and_then (slice_get row.values) o)) (sym there.2) w))

-- the columns by their indices
pub values_under-places : (left right : List Column) (lefts rights : List Row) (pair : NamePair) (l r : ℕ)
    → column_of left pair.0 ≡ Some l → column_of right pair.1 ≡ Some r
    → values_under left right lefts rights pair ≡ values_at l r lefts rights
values_under-places left right lefts rights pair l r e f =
    ap (λ o. map (λ (row : Row). option_and_then (slice_get row.values) o) lefts ++ map
    (value_under right pair.1) rights) e
    ∙ ap (λ o. map (λ (row : Row). slice_get row.values l) lefts ++ map
    (λ (row : Row). option_and_then (slice_get row.values) o) rights) f

-- the values of both columns of an allowed pair are of the left column's kind
pub columns_one_kind : (left right : List Column) (lefts rights : List Row) (pair : NamePair) (l r : ℕ) (kind : Kind)
    → first_of (tests_of_names left right pair) ≡ None
    → All (λ (row : Row). IsTrue (fits left row.values)) lefts
    → All (λ (row : Row). IsTrue (fits right row.values)) rights
    → column_of left pair.0 ≡ Some l → column_of right pair.1 ≡ Some r → Some kind ≡ kind_in left pair.0
    → All (IsOfKind kind) (values_at l r lefts rights)
columns_one_kind left right lefts rights pair l r kind none fl fr one other is =
    let a = allowed left right pair none in
    let e : ◌≡◌ {A = Option Kind} (Some a.kind) (Some kind) = sym (is ∙ a.one) in
    let same : a.kind ≡ kind = cc in
    subst (λ k. All (IsOfKind k) (values_at l r lefts rights)) same
    (subst (All (IsOfKind a.kind)) (values_under-places left right lefts rights pair l r one other)
    (All-append (IsOfKind a.kind) (map (value_under left pair.0) lefts) (map (value_under right pair.1) rights)
    (named_kind left lefts pair.0 a.kind a.one fl) (named_kind right rights pair.1 a.kind a.other fr)))
