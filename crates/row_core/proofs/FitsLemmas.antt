-- Which values fit the columns.
use Rattle.std.proofs.Common.{◌≡◌, ◌≢◌, ℕ, ◌+◌, ◌<◌, List, [], ◌∷◌, Bool, true, false, ◌&&◌, length, drop, get_or, refl, arith, sym, ◌∙◌, ap}
use Rattle.std.proofs.lemmas.List.{drop_more}
use Rattle.std.proofs.Math.Bool.{and-false}
use Rattle.std.specs.Cmp.Lexicographic.{pointwise}
use Rattle.row_core.specs.declared.value.Value.{Value}
use Rattle.row_core.specs.declared.schema.Column.{Column}
use Rattle.row_core.specs.Schema.{fits}
use Rattle.row_core.specs.Value.{same_kind, kind_of}

-- a value is of its column's kind
abbrev pub is_fit : Column → Value → Bool
is_fit column value = same_kind column.kind (kind_of value)

-- values don't fit if their number differs from the number of columns
pub fits-lengths : (cs : List Column) (vs : List Value) → length cs ≢ length vs → fits cs vs ≡ false
fits-lengths [] [] h = absurd (h refl)
fits-lengths [] (v ∷ vs) h = refl
fits-lengths (c ∷ cs) [] h = refl
fits-lengths (c ∷ cs) (v ∷ vs) h =
    ap (λ b. same_kind c.kind (kind_of v) && b) (fits-lengths cs vs (λ e. h (omega (arith, e))))
    ∙ and-false (same_kind c.kind (kind_of v))

-- ---- one column further, for values or for their kinds

module _ {X Y : Type 0} (test : X → Y → Bool) where
  fits-drop : (xs : List X) (ys : List Y) (i : ℕ) (x : X) (y : Y) → i < length xs → i < length ys
      → pointwise test (drop i xs) (drop i ys)
      ≡ (test (get_or xs i x) (get_or ys i y) && pointwise test (drop (i + 1) xs) (drop (i + 1) ys))
  fits-drop xs ys i x y h k =
      ap (λ l. pointwise test l (drop i ys)) (drop_more xs i x h)
      ∙ ap (pointwise test (get_or xs i x ∷ drop (i + 1) xs)) (drop_more ys i y k)

  pub fits-next : (xs : List X) (ys : List Y) (i : ℕ) (x : X) (y : Y) → i < length xs → i < length ys
      → test (get_or xs i x) (get_or ys i y) ≡ true
      → pointwise test (drop (i + 1) xs) (drop (i + 1) ys) ≡ pointwise test (drop i xs) (drop i ys)
  fits-next xs ys i x y h k t =
      sym (fits-drop xs ys i x y h k ∙ ap (λ b. b && pointwise test (drop (i + 1) xs) (drop (i + 1) ys)) t)

  pub fits-none : (xs : List X) (ys : List Y) (i : ℕ) (x : X) (y : Y) → i < length xs → i < length ys
      → test (get_or xs i x) (get_or ys i y) ≡ false → pointwise test (drop i xs) (drop i ys) ≡ false
  fits-none xs ys i x y h k t =
      fits-drop xs ys i x y h k ∙ ap (λ b. b && pointwise test (drop (i + 1) xs) (drop (i + 1) ys)) t
