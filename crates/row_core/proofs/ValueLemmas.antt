-- The orders of values are total, `Equal` means equal, and the tests of equality decide it.
use Rattle.std.proofs.Common.{◌≡◌, true, Option, Some, None, refl, sym, ap, subst, ◌∙◌}
use Rattle.std.specs.Bool.{Decides}
use Rattle.std.specs.declared.cmp.Ordering.TheVariants.{Less, Equal}
use Rattle.std.specs.Ordering.{is_eq, ordering_reverse}
use Rattle.std.specs.Cmp.{IsTotalOrder}
use Rattle.std.specs.Cmp.Lexicographic.{nat_list_cmp_total, bytes_decides}
use Rattle.std.proofs.lemmas.Bool.Decides.{Decides-int_eq}
use Rattle.std.proofs.lemmas.Cmp.{int_cmp_total, tied_itself}
use Rattle.std.proofs.lemmas.Map.Lookups.{exact_signed, exact_bytes}
use Rattle.row_core.specs.ValueOrder.{maybe_cmp, same_maybe, same_value, value_cmp}
use Rattle.row_core.specs.declared.value.Value.{Value}
use Rattle.row_core.specs.declared.value.Value.TheVariants.{Int, Text}

-- ---- values

-- the order of values is total
pub value_total : IsTotalOrder value_cmp
value_total = record {
  antisymm = antisymm;
  trans = trans;
  congr = congr;
}
  where
    antisymm : (x y : Value) → value_cmp x y ≡ ordering_reverse (value_cmp y x)
    antisymm (Int a) (Int b) = int_cmp_total.antisymm a b
    antisymm (Int a) (Text b) = refl
    antisymm (Text a) (Int b) = refl
    antisymm (Text a) (Text b) = nat_list_cmp_total.antisymm a b

    trans : (x y z : Value) → value_cmp x y ≡ Less → value_cmp y z ≡ Less → value_cmp x z ≡ Less
    trans (Int a) (Int b) (Int c) e f = int_cmp_total.trans a b c e f
    trans (Int a) (Int b) (Text c) e f = refl
    trans (Int a) (Text b) (Int c) e f = cc
    trans (Int a) (Text b) (Text c) e f = refl
    trans (Text a) (Int b) (Int c) e f = cc
    trans (Text a) (Int b) (Text c) e f = cc
    trans (Text a) (Text b) (Int c) e f = cc
    trans (Text a) (Text b) (Text c) e f = nat_list_cmp_total.trans a b c e f

    congr : (x y z : Value) → value_cmp x y ≡ Equal → value_cmp x z ≡ value_cmp y z
    congr (Int a) (Int b) (Int c) e = int_cmp_total.congr a b c e
    congr (Int a) (Int b) (Text c) e = refl
    congr (Int a) (Text b) (Int c) e = cc
    congr (Int a) (Text b) (Text c) e = cc
    congr (Text a) (Int b) (Int c) e = cc
    congr (Text a) (Int b) (Text c) e = cc
    congr (Text a) (Text b) (Int c) e = refl
    congr (Text a) (Text b) (Text c) e = nat_list_cmp_total.congr a b c e

-- values that compare as `Equal` are equal
value_exact : (x y : Value) → value_cmp x y ≡ Equal → x ≡ y
value_exact (Int a) (Int b) e = ap Int (exact_signed a b e)
value_exact (Int a) (Text b) e = cc
value_exact (Text a) (Int b) e = cc
value_exact (Text a) (Text b) e = ap Text (exact_bytes a b e)

-- values are equal if the test says so
pub same_value_is : (a b : Value) → same_value a b ≡ true → a ≡ b
same_value_is (Int a) (Int b) e = ap Int ((Decides-int_eq a b).0 e)
same_value_is (Int a) (Text b) e = cc
same_value_is (Text a) (Int b) e = cc
same_value_is (Text a) (Text b) e = ap Text ((bytes_decides a b).0 e)

-- the test says that a value equals itself
same_value_self : (a : Value) → same_value a a ≡ true
same_value_self (Int a) = (Decides-int_eq a a).1 refl
same_value_self (Text a) = (bytes_decides a a).1 refl

-- if values compare as `Equal`, the test says that they are equal
value-same : (a b : Value) → value_cmp a b ≡ Equal → same_value a b ≡ true
value-same (Int a) (Int b) e = ap is_eq e
value-same (Int a) (Text b) e = cc
value-same (Text a) (Int b) e = cc
value-same (Text a) (Text b) e = (bytes_decides a b).1 (exact_bytes a b e)

-- and conversely
value-tie : (a b : Value) → same_value a b ≡ true → value_cmp a b ≡ Equal
value-tie (Int a) (Int b) e =
    ap (λ n. value_cmp (Int a) (Int n)) (sym ((Decides-int_eq a b).0 e)) ∙ tied_itself value_total (Int a)
value-tie (Int a) (Text b) e = cc
value-tie (Text a) (Int b) e = cc
value-tie (Text a) (Text b) e =
    ap (λ n. value_cmp (Text a) (Text n)) (sym ((bytes_decides a b).0 e)) ∙ tied_itself value_total (Text a)

-- ---- optional values

-- their order is total
pub maybe_total : IsTotalOrder maybe_cmp
maybe_total = record {
  antisymm = antisymm;
  trans = trans;
  congr = congr;
}
  where
    antisymm : (x y : Option Value) → maybe_cmp x y ≡ ordering_reverse (maybe_cmp y x)
    antisymm None None = refl
    antisymm None (Some b) = refl
    antisymm (Some a) None = refl
    antisymm (Some a) (Some b) = value_total.antisymm a b

    trans : (x y z : Option Value) → maybe_cmp x y ≡ Less → maybe_cmp y z ≡ Less → maybe_cmp x z ≡ Less
    trans None None z e f = cc
    trans None (Some b) None e f = cc
    trans None (Some b) (Some c) e f = refl
    trans (Some a) None z e f = cc
    trans (Some a) (Some b) None e f = cc
    trans (Some a) (Some b) (Some c) e f = value_total.trans a b c e f

    congr : (x y z : Option Value) → maybe_cmp x y ≡ Equal → maybe_cmp x z ≡ maybe_cmp y z
    congr None None z e = refl
    congr None (Some b) z e = cc
    congr (Some a) None z e = cc
    congr (Some a) (Some b) None e = refl
    congr (Some a) (Some b) (Some c) e = value_total.congr a b c e

-- optional values that compare as `Equal` are equal
pub maybe_exact : (a b : Option Value) → maybe_cmp a b ≡ Equal → a ≡ b
maybe_exact None None e = refl
maybe_exact None (Some b) e = cc
maybe_exact (Some a) None e = cc
maybe_exact (Some a) (Some b) e = ap Some (value_exact a b e)

-- they are equal if the test says so
same_maybe_is : (a b : Option Value) → same_maybe a b ≡ true → a ≡ b
same_maybe_is None None e = refl
same_maybe_is None (Some b) e = cc
same_maybe_is (Some a) None e = cc
same_maybe_is (Some a) (Some b) e = ap Some (same_value_is a b e)

-- the test says that each equals itself
same_maybe_self : (a : Option Value) → same_maybe a a ≡ true
same_maybe_self None = refl
same_maybe_self (Some a) = same_value_self a

-- the test decides equality
pub maybe_decides : (a b : Option Value) → Decides (same_maybe a b) (a ≡ b)
maybe_decides a b =
    (same_maybe_is a b, λ e. subst (λ (v : Option Value). same_maybe a v ≡ true) e (same_maybe_self a))

-- if they compare as `Equal`, the test says that they are equal
pub maybe-same : (a b : Option Value) → maybe_cmp a b ≡ Equal → same_maybe a b ≡ true
maybe-same None None e = refl
maybe-same None (Some b) e = cc
maybe-same (Some a) None e = cc
maybe-same (Some a) (Some b) e = value-same a b e

-- and conversely
pub maybe-tie : (a b : Option Value) → same_maybe a b ≡ true → maybe_cmp a b ≡ Equal
maybe-tie None None e = refl
maybe-tie None (Some b) e = cc
maybe-tie (Some a) None e = cc
maybe-tie (Some a) (Some b) e = value-tie a b e
