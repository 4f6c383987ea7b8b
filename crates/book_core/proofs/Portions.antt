-- A change of a portion, and the versions.
use Rattle.std.proofs.Common.{◌≡◌, ℕ, ◌+◌, List, ◌++◌, Bool, cond, length, Option, Some, None, ap, refl, sym, ◌∙◌, ◌||◌, ltb, leb}
use Rattle.std.specs.Prelude.{flat_map}
use Rattle.std.proofs.lemmas.Grind.{flat_map-append}
use Rattle.row_core.proofs.RefusalLemmas.{first_of-none_then, first_of-some_then}
use Rattle.row_core.specs.Refusals.{first_of}
use Rattle.version_core.specs.Limits.{version_limit}
use Rattle.book_core.specs.Limits.{commit_limit}
use Rattle.row_core.specs.declared.draft.Draft.{Draft}
use Rattle.row_core.specs.declared.schema.Column.{Column}
use Rattle.book_core.specs.Rows.{Pair}
use Rattle.book_core.specs.State.{full_tests, pair_tests}
use Rattle.book_core.specs.declared.refusal.BookRefused.{BookRefused}
use Rattle.book_core.specs.declared.refusal.BookRefused.TheVariants.{Full}

-- the refusals

-- a pair is refused
pub pairs-refused : (a b : List (Bool × BookRefused)) (e : BookRefused) → Some e ≡ first_of a
    → Some e ≡ first_of (a ++ b)
pairs-refused a b e h = sym (first_of-some_then a b e (sym h))

-- no pair is refused, and the limit decides
pub conds_then : (a : List (Bool × BookRefused)) (o : Option BookRefused) (n used : ℕ) (full : Bool) → o ≡ first_of a
    → o ≡ None → full ≡ (leb commit_limit n || ltb version_limit used)
    → cond full (Some Full) None ≡ first_of (a ++ full_tests n used)
conds_then a o n used full h k e =
    ap (λ b. cond b (Some Full) None) e ∙ sym (first_of-none_then a (full_tests n used) (sym h ∙ k))

-- a setting is refused
pub sets-refused : (schema : List Column) (sets conds : List Pair) (e : BookRefused)
    → Some e ≡ first_of (flat_map (pair_tests schema) sets)
    → Some e ≡ first_of (flat_map (pair_tests schema) (sets ++ conds))
sets-refused schema sets conds e h =
    sym (ap first_of (flat_map-append (pair_tests schema) sets conds)
    ∙ first_of-some_then (flat_map (pair_tests schema) sets) (flat_map (pair_tests schema) conds) e (sym h))

-- no setting is refused, and the conditions are tested
pub sets-then : (schema : List Column) (sets conds : List Pair) (o : Option BookRefused)
    → None ≡ first_of (flat_map (pair_tests schema) sets) → o ≡ first_of (flat_map (pair_tests schema) conds)
    → o ≡ first_of (flat_map (pair_tests schema) (sets ++ conds))
sets-then schema sets conds o h k =
    k ∙ sym (ap first_of (flat_map-append (pair_tests schema) sets conds)
    ∙ first_of-none_then (flat_map (pair_tests schema) sets) (flat_map (pair_tests schema) conds) (sym h))

-- if no test applies, the number of new rows decides
pub parts-then : (tests : List (Bool × BookRefused)) (n used : ℕ) (now parts : List Draft) (full b : Bool)
    → None ≡ first_of tests → now ≡ parts
    → full ≡ (leb commit_limit n || ltb version_limit (used + length now)) → full ≡ b
    → cond b (Some Full) None ≡ first_of (tests ++ full_tests n (used + length parts))
parts-then tests n used now parts full b accepted same turns is =
    ap (λ b. cond b (Some Full) None) (sym is)
    ∙ conds_then tests None n (used + length parts) full accepted refl
    (turns ∙ ap (λ (l : List Draft). leb commit_limit n || ltb version_limit (used + length l)) same)
