-- Values, and the sort keys made from them.
use Rattle.std.proofs.Common.{◌≡◌, ℕ, zero, suc, List, [], ◌∷◌, Option, Some, sym, subst, ap, ◌∙◌, arith}
use Rattle.std.specs.Prelude.{All, slice_get}
use Rattle.std.specs.Ordering.{nat_cmp, ordering_then}
use Rattle.std.specs.declared.cmp.Ordering.{Ordering}
use Rattle.std.specs.declared.cmp.Ordering.TheVariants.{Equal}
use Rattle.std.proofs.lemmas.Cmp.{nat_cmp_total, ranked, tied_itself}
use Rattle.list_core.proofs.OrderedLemmas.{both_tie}
use Rattle.row_core.specs.Value.{kind_of}
use Rattle.row_core.specs.declared.value.Kind.{Kind}
use Rattle.row_core.specs.declared.value.Value.{Value}
use Rattle.match_core.specs.declared.cells.Cell.{Cell}
use Rattle.match_core.specs.Cells.{IsCell, IsOfKind}
use Rattle.match_core.specs.Compared.{Compares}
use Rattle.match_core.proofs.CellOrder.{SameCell}

-- one index has one value
pub one_value : (column : List (Option Value)) (i : ℕ) (v w : Value) → slice_get column i ≡ Some (Some v)
    → slice_get column i ≡ Some (Some w) → v ≡ w
one_value column i v w h k = let e : ◌≡◌ {A = Option (Option Value)} (Some (Some v)) (Some (Some w)) = sym h ∙ k in cc

-- equal classes compare as equal
one_class : (c d : ℕ) → c ≡ d → nat_cmp c d ≡ Equal
one_class c d same = subst (λ n. nat_cmp c n ≡ Equal) same (tied_itself nat_cmp_total c)

module _ {V : Type 0} (kind : Kind) (IsOf : Value → V → Type 0) (cmp : V → V → Ordering)
    (compares : Compares kind IsOf cmp) where
  -- two keys of the same class and value are equal
  pub cells_same : (class : ℕ) (v w : Value) (i j : ℕ) (x y : Cell V) → IsCell IsOf class v i x
      → IsCell IsOf class w j y → v ≡ w → SameCell cmp x y
  cells_same class v w i j x y a b same =
      ap (λ o. ordering_then o (cmp x.value y.value)) (one_class x.class y.class (a.class_is ∙ sym b.class_is))
      ∙ compares.ties w x.value y.value (subst (λ u. IsOf u x.value) same a.value_is) b.value_is

  -- equal keys of values of the kind have the same class
  pub class_from_cells : (c d : ℕ) (v w : Value) (i j : ℕ) (x y : Cell V) → IsCell IsOf c v i x
      → IsCell IsOf d w j y → SameCell cmp x y → c ≡ d
  class_from_cells c d v w i j x y a b same =
      sym a.class_is
      ∙ ranked x.class y.class Equal (sym (both_tie (nat_cmp x.class y.class) (cmp x.value y.value) same).0)
      ∙ b.class_is

  -- and the same value
  pub value_from_cells : (c d : ℕ) (v w : Value) (i j : ℕ) (x y : Cell V) → kind_of v ≡ kind → kind_of w ≡ kind
      → IsCell IsOf c v i x → IsCell IsOf d w j y → SameCell cmp x y → v ≡ w
  value_from_cells c d v w i j x y k l a b same =
      compares.tells v w x.value y.value k l a.value_is b.value_is
      (both_tie (nat_cmp x.class y.class) (cmp x.value y.value) same).1

-- if all values are of a kind, each is
pub kind_at : (kind : Kind) (column : List (Option Value)) (i : ℕ) (v : Value) → All (IsOfKind kind) column
    → slice_get column i ≡ Some (Some v) → kind_of v ≡ kind
kind_at kind [] i v all h = cc
kind_at kind (o ∷ column) zero v all h = let e : o ≡ Some v = cc in subst (IsOfKind kind) e (all 0 o (omega arith))
kind_at kind (o ∷ column) (suc i) v all h = kind_at kind column i v (λ k d lt. all (suc k) d (omega arith)) h
