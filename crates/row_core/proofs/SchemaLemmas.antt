-- Columns with different names.
use Rattle.std.proofs.Common.{◌≡◌, ◌≢◌, ℕ, ◌≤◌, List, [], ◌∷◌, Bool, true, false, length, take, drop, get_or, suc, Some, None, sym, ap, ◌∙◌, ◌+◌, ◌<◌, ◌++◌, refl, arith}
use Rattle.std.specs.List.{list_any}
use Rattle.std.specs.Prelude.{bytes_eq, is_none, is_some, position}
use Rattle.std.proofs.lemmas.Bool.{or_parts}
use Rattle.std.proofs.lemmas.List.{drop_more, take_more}
use Rattle.row_core.specs.Refusals.{first_of}
use Rattle.row_core.specs.declared.schema.KeyRefused.{KeyRefused}
use Rattle.row_core.specs.declared.schema.KeyRefused.TheVariants.{NoColumn, TwiceNamed}
use Rattle.std.specs.Prelude.{AllPairs, All}
use Rattle.std.specs.Cmp.Lexicographic.{bytes_decides}
use Rattle.std.proofs.lemmas.List.Elements.{All-cons}
use Rattle.std.proofs.lemmas.List.Kept.{AllPairs-cons}
use Rattle.row_core.specs.Schema.{IsSchema, column_of, columns_of, has_twins, in_key, key_tests, keyed}
use Rattle.row_core.specs.declared.schema.Column.{Column}
use Rattle.row_core.specs.declared.value.Kind.{Kind}
use Rattle.row_core.proofs.KeyLemmas.{keyed-places, keyless}

named_other : (a b : List ℕ) → bytes_eq a b ≡ false → a ≢ b
named_other a b h e = let same = (bytes_decides a b).1 e in absurd (cc)

-- a name that no column has
others : (name : List ℕ) (pairs : List (List ℕ × Kind)) → list_any (λ other. bytes_eq name other.0) pairs ≡ false
    → All (λ (other : Column). name ≢ other.name) (columns_of pairs)
others name [] h = λ k d lt. absurd (omega arith)
others name (pair ∷ pairs) h =
    let both = or_parts (bytes_eq name pair.0) (list_any (λ other. bytes_eq name other.0) pairs) h in
    All-cons (λ (other : Column). name ≢ other.name) (record { name = pair.0; kind = pair.1; key = None })
    (columns_of pairs) (named_other name pair.0 both.0) (others name pairs both.1)

-- columns without equal names
columns_of-distinct : (pairs : List (List ℕ × Kind)) → has_twins pairs ≡ false
    → AllPairs (λ (one other : Column). one.name ≢ other.name) (columns_of pairs)
columns_of-distinct [] h = λ i j d lt end. absurd (omega arith)
columns_of-distinct (pair ∷ pairs) h =
    let both = or_parts (list_any (λ other. bytes_eq pair.0 other.0) pairs) (has_twins pairs) h in
    AllPairs-cons (λ (one other : Column). one.name ≢ other.name) (record { name = pair.0; kind = pair.1; key = None })
    (columns_of pairs) (others pair.0 pairs both.0) (columns_of-distinct pairs both.1)

length-columns_of : (pairs : List (List ℕ × Kind)) → length (columns_of pairs) ≡ length pairs
length-columns_of [] = refl
length-columns_of (pair ∷ pairs) = omega (arith, length-columns_of pairs)

pub columns_of-schema : (pairs : List (List ℕ × Kind)) (columns : List Column) → columns ≡ columns_of pairs
    → length pairs ≤ 16 → has_twins pairs ≡ false → IsSchema columns
columns_of-schema pairs columns e few h =
    rw e (record {
      few = omega
          (arith, length-columns_of pairs);
      distinct =
          columns_of-distinct pairs h;
      keyed = λ i lt. absurd (omega (arith, keyless pairs));
    })

-- ---- keys

-- the tests of the remaining names, one name further
key_tests-step : (columns : List Column) (names : List (List ℕ)) (i : ℕ) (name : List ℕ) → i < length names
    → name ≡ get_or names i name
    → key_tests columns (take i names) (drop i names) ≡ (is_none (column_of columns name), NoColumn) ∷
    (is_some (position (λ other. bytes_eq other name) (take i names)), TwiceNamed) ∷ key_tests columns
    (take (i + 1) names) (drop (i + 1) names)
key_tests-step columns names i name h e =
    ap (key_tests columns (take i names)) (drop_more names i name h ∙ ap (λ n. n ∷ drop (i + 1) names) (sym e))
    ∙ ap (λ l. (is_none (column_of columns name), NoColumn) ∷
    (is_some (position (λ other. bytes_eq other name) (take i names)), TwiceNamed) ∷ key_tests columns l
    (drop (i + 1) names)) (sym (take_more names i name h ∙ ap (λ n. take i names ++ n ∷ []) (sym e)))

two-tests : (a b : Bool) (rest : List (Bool × KeyRefused)) → a ≡ false → b ≡ true
    → first_of ((a, NoColumn) ∷ (b, TwiceNamed) ∷ rest) ≡ Some TwiceNamed
two-tests false true rest e f = refl
two-tests false false rest e f = cc
two-tests true b rest e f = cc

no-tests : (a b : Bool) (rest : List (Bool × KeyRefused)) → a ≡ false → b ≡ false
    → first_of ((a, NoColumn) ∷ (b, TwiceNamed) ∷ rest) ≡ first_of rest
no-tests false false rest e f = refl
no-tests false true rest e f = cc
no-tests true b rest e f = cc

pub key-twice : (columns : List Column) (names : List (List ℕ)) (i : ℕ) (name : List ℕ) → i < length names
    → name ≡ get_or names i name → is_none (column_of columns name) ≡ false
    → is_some (position (λ other. bytes_eq other name) (take i names)) ≡ true
    → first_of (key_tests columns (take i names) (drop i names)) ≡ Some TwiceNamed
key-twice columns names i name h e a b =
    ap first_of (key_tests-step columns names i name h e)
    ∙ two-tests (is_none (column_of columns name)) (is_some (position (λ other. bytes_eq other name) (take i names)))
    (key_tests columns (take (i + 1) names) (drop (i + 1) names)) a b

pub key-next : (columns : List Column) (names : List (List ℕ)) (i : ℕ) (name : List ℕ) → i < length names
    → name ≡ get_or names i name → is_none (column_of columns name) ≡ false
    → is_some (position (λ other. bytes_eq other name) (take i names)) ≡ false
    → first_of (key_tests columns (take i names) (drop i names)) ≡ first_of
    (key_tests columns (take (i + 1) names) (drop (i + 1) names))
key-next columns names i name h e a b =
    ap first_of (key_tests-step columns names i name h e)
    ∙ no-tests (is_none (column_of columns name)) (is_some (position (λ other. bytes_eq other name) (take i names)))
    (key_tests columns (take (i + 1) names) (drop (i + 1) names)) a b

keyed-others : (name : List ℕ) (columns : List Column) (names : List (List ℕ))
    → All (λ (other : Column). name ≢ other.name) columns
    → All (λ (other : Column). name ≢ other.name) (keyed columns names)
keyed-others name [] names h = λ k d lt. absurd (omega arith)
keyed-others name (c ∷ cs) names h =
    All-cons (λ (other : Column). name ≢ other.name) (in_key names c) (keyed cs names) (h 0 c (omega arith))
    (keyed-others name cs names (λ k d lt. h (suc k) d (omega arith)))

keyed-distinct : (columns : List Column) (names : List (List ℕ))
    → AllPairs (λ (one other : Column). one.name ≢ other.name) columns
    → AllPairs (λ (one other : Column). one.name ≢ other.name) (keyed columns names)
keyed-distinct [] names h = λ i j d lt end. absurd (omega arith)
keyed-distinct (c ∷ cs) names h =
    AllPairs-cons (λ (one other : Column). one.name ≢ other.name) (in_key names c) (keyed cs names)
    (keyed-others c.name cs names (λ k d lt. h 0 (suc k) d (omega arith) (omega arith)))
    (keyed-distinct cs names (λ i j d below inside. h (suc i) (suc j) d (omega arith) (omega arith)))

length-keyed : (columns : List Column) (names : List (List ℕ)) → length (keyed columns names) ≡ length columns
length-keyed [] names = refl
length-keyed (c ∷ cs) names = omega (arith, length-keyed cs names)

pub keyed-schema : (columns items : List Column) (names : List (List ℕ)) → items ≡ keyed columns names
    → first_of (key_tests columns [] names) ≡ None → IsSchema columns → IsSchema items
keyed-schema columns items names e accepted s =
    rw e (record {
      few = let few = s.few in omega
          (arith, length-keyed columns names, few);
      distinct =
          keyed-distinct columns names s.distinct;
      keyed = keyed-places columns names s.distinct accepted;
    })
