-- What classes say about a left and a right row.
use Rattle.std.proofs.Common.{◌≡◌, ◌↔◌, ℕ, zero, suc, ◌+◌, ◌-◌, ◌<◌, List, [], ◌∷◌, ◌++◌, length, map, get_or, Some, refl, sym, ap, ◌∙◌, arith}
use Rattle.std.proofs.lemmas.List.{get_or-append_right, get_or_append_left, length-map}
use Rattle.std.proofs.lemmas.Option.{same_Some, slice_get_within}
use Rattle.std.specs.Prelude.{slice_get}
use Rattle.list_core.proofs.PlaceLemmas.{slice_get-append_left, slice_get-append_right}
use Rattle.row_core.specs.declared.row.Row.{Row}
use Rattle.row_core.specs.declared.schema.Column.{Column}
use Rattle.row_core.specs.Name.{NamePair}
use Rattle.match_core.specs.Columns.{value_under, MatchesOn}
use Rattle.match_core.specs.Classes.{AreClasses, AreSameOn, values_under}

-- a mapped element keeps its index
pub slice_get-map : {X Y : Type 0} (f : X → Y) (xs : List X) (i : ℕ) (x : X) → slice_get xs i ≡ Some x
    → slice_get (map f xs) i ≡ Some (f x)
slice_get-map f [] i x h = cc
slice_get-map f (y ∷ xs) zero x h = let e : y ≡ x = cc in ap (λ z. Some (f z)) e
slice_get-map f (y ∷ xs) (suc i) x h = slice_get-map f xs i x h

-- the value of a left row
values_under-left : (left right : List Column) (lefts rights : List Row) (pair : NamePair) (i : ℕ) (x : Row)
    → slice_get lefts i ≡ Some x
    → slice_get (values_under left right lefts rights pair) i ≡ Some (value_under left pair.0 x)
values_under-left left right lefts rights pair i x h =
    slice_get-append_left (map (value_under left pair.0) lefts) (map (value_under right pair.1) rights) i
    (value_under left pair.0 x)
    (slice_get-map (value_under left pair.0) lefts i x h)

-- the value of a right row, after all left ones
values_under-right : (left right : List Column) (lefts rights : List Row) (pair : NamePair) (j : ℕ) (y : Row)
    → slice_get rights j ≡ Some y
    → slice_get (values_under left right lefts rights pair) (length lefts + j) ≡ Some (value_under right pair.1 y)
values_under-right left right lefts rights pair j y h =
    let e : length (map (value_under left pair.0) lefts) + j ≡ length lefts + j =
    ap (λ n. n + j) (length-map lefts (value_under left pair.0)) in
    ap (slice_get (values_under left right lefts rights pair)) (sym e)
    ∙ slice_get-append_right (map (value_under left pair.0) lefts) (map (value_under right pair.1) rights) j
    ∙ slice_get-map (value_under right pair.1) rights j y h

-- a left and a right row are equal in the named columns exactly if they match
same_matches : (left right : List Column) (lefts rights : List Row) (on : List NamePair) (i j : ℕ) (x y : Row)
    → slice_get lefts i ≡ Some x → slice_get rights j ≡ Some y
    → AreSameOn left right lefts rights on i (length lefts + j) ↔ MatchesOn left right on x y
same_matches left right lefts rights on i j x y h k = (
  λ same n d lt. (let pair = get_or on n d in
      same_Some _ _ (sym (values_under-left left right lefts rights pair i x h) ∙ same n d lt
      ∙ values_under-right left right lefts rights pair j y k)),
  λ match n d lt. (let pair = get_or on n d in
      values_under-left left right lefts rights pair i x h ∙ ap (λ v. Some v) (match n d lt)
      ∙ sym (values_under-right left right lefts rights pair j y k)),
)

-- A left and a right row match exactly if their classes are equal.
abbrev pub ClassesTell : (Row → Row → Type 0) → List Row → List ℕ → List Row → List ℕ → Type 0
ClassesTell Matches left lefts right rights =
    (i j : ℕ) (x y : Row) → slice_get left i ≡ Some x → slice_get right j ≡ Some y
    → Matches x y ↔ (get_or lefts i 0 ≡ get_or rights j 0)

-- the classes of both sides say which rows match
pub classes_tell : (left right : List Column) (lefts rights : List Row) (on : List NamePair) (one other : List ℕ)
    → length one ≡ length lefts → AreClasses left right lefts rights on (one ++ other)
    → ClassesTell (MatchesOn left right on) lefts one rights other
classes_tell left right lefts rights on one other len are i j x y h k =
    let within : i < length lefts = slice_get_within lefts i x h in
    let inside : j < length rights = slice_get_within rights j y k in
    let count = are.count in
    let tell = are.tell i (length lefts + j) (omega (arith, count, within)) (omega (arith, count, inside)) in
    let match = same_matches left right lefts rights on i j x y h k in
    let back : length lefts + j - length one ≡ j = omega (arith, len) in
    let a : get_or (one ++ other) i 0 ≡ get_or one i 0 =
    get_or_append_left one other 0 i (omega (arith, within, len)) in
    let b : get_or (one ++ other) (length lefts + j) 0 ≡ get_or other j 0 =
    get_or-append_right one other (length one) (length lefts + j) 0 refl (omega (arith, len))
    ∙ ap (λ p. get_or other p 0) back in (
      λ m. sym a ∙ tell.1 (match.1 m) ∙ b,
      λ e. match.0 (tell.0 (a ∙ e ∙ sym b)),
    )
