-- The fields of a portion's settings and conditions.
use Rattle.std.proofs.Common.{◌≡◌, ℕ, zero, suc, ◌+◌, ◌*◌, ◌%◌, ◌/◌, ◌<◌, ◌≤◌, ◌==◌, ◌&&◌, Bool, true, false, List, [], ◌∷◌, length, drop, take, Option, Some, None, refl, sym, ap, ◌∙◌, arith, subst}
use Rattle.std.specs.Prelude.{codes, option_map}
use Rattle.std.specs.List.{list_all, slice_get}
use Rattle.std.specs.Option.{IfSome}
use Rattle.std.proofs.lemmas.Bool.{and_parts}
use Rattle.std.proofs.lemmas.List.{drop_all}
use Rattle.row_core.specs.Name.{is_name}
use Rattle.command_core.specs.Meaning.{delete_meaning, delete_of, if_formed, update_meaning, update_of}
use Rattle.command_core.specs.Pairs.{TextPair, all_columns, are_pairs, pairs_of}
use Rattle.command_core.specs.Portions.{conditions_in, parts_in, set_before, settings_in}
use Rattle.command_core.specs.Records.{Record}
use Rattle.command_core.specs.Words.{begins}

double : (k : ℕ) → 2 * suc k ≡ suc (suc (2 * k))
double k = omega arith

-- Fields are pairs if and only if there is an even number of them.
pub are_pairs-even : (fields : Record) → 0 < length fields → are_pairs fields ≡ (length fields % 2 == 0)
are_pairs-even [] some = absurd (omega arith)
are_pairs-even (column ∷ []) some = refl
are_pairs-even (column ∷ text ∷ []) some = refl
are_pairs-even (column ∷ text ∷ third ∷ fields) some =
    let even : length (third ∷ fields) % 2 ≡ length (column ∷ text ∷ third ∷ fields) % 2 = omega arith in
    are_pairs-even (third ∷ fields) (omega arith) ∙ ap (λ n. n == 0) even

-- The first `k` pairs are settings, whatever their columns are; the fields after them are split by `parts_in`.
abbrev pub parts_from : ℕ → Record → Option (List TextPair × List TextPair)
parts_from zero fields = parts_in fields
parts_from (suc k) [] = None
parts_from (suc k) (column ∷ []) = None
parts_from (suc k) (column ∷ text ∷ fields) = option_map (set_before (column, text)) (parts_from k fields)

-- A column that isn't `where` begins one more setting.
pub parts-next : (k : ℕ) (fields : Record) → 2 * k + 1 < length fields
    → begins (codes "where") (drop (2 * k) fields) ≡ false
    → parts_from k fields ≡ parts_from (suc k) fields
parts-next zero [] lt e = absurd (omega arith)
parts-next zero (column ∷ []) lt e = absurd (omega arith)
parts-next zero (column ∷ text ∷ fields) lt e = rw e refl
parts-next (suc k) [] lt e = absurd (omega arith)
parts-next (suc k) (column ∷ []) lt e = absurd (omega arith)
parts-next (suc k) (column ∷ text ∷ fields) lt e =
    let there = subst (λ n. begins (codes "where") (drop n (column ∷ text ∷ fields)) ≡ false) (double k) e in
    ap (option_map (set_before (column, text))) (parts-next k fields (omega arith) there)

-- One more setting before the conditions.
set-conds : (pair : TextPair) (sets : List TextPair) (o : Option (List TextPair))
    → option_map (set_before pair) (option_map (λ conds. (sets, conds)) o) ≡ option_map
    (λ conds. (pair ∷ sets, conds)) o
set-conds pair sets (Some conds) = refl
set-conds pair sets None = refl

-- A `where` in a column's position begins the conditions.
pub parts-where : (k : ℕ) (fields : Record) → 2 * k + 1 < length fields
    → begins (codes "where") (drop (2 * k) fields) ≡ true
    → parts_from k fields ≡ option_map (λ conds. (pairs_of (take (2 * k) fields), conds))
    (conditions_in (drop (2 * k) fields))
parts-where zero [] lt e = absurd (omega arith)
parts-where zero (column ∷ []) lt e = absurd (omega arith)
parts-where zero (column ∷ text ∷ fields) lt e = rw e refl
parts-where (suc k) [] lt e = absurd (omega arith)
parts-where (suc k) (column ∷ []) lt e = absurd (omega arith)
parts-where (suc k) (column ∷ text ∷ fields) lt e =
    let there = subst (λ n. begins (codes "where") (drop n (column ∷ text ∷ fields)) ≡ true) (double k) e in
    rw (double k)
    (ap (option_map (set_before (column, text))) (parts-where k fields (omega arith) there)
    ∙ set-conds (column, text) (pairs_of (take (2 * k) fields)) (conditions_in (drop (2 * k) fields)))

-- All fields are settings.
pub parts-all : (k : ℕ) (fields : Record) → length fields ≡ 2 * k → parts_from k fields ≡ Some (pairs_of fields, [])
parts-all zero [] even = refl
parts-all zero (column ∷ fields) even = absurd (omega arith)
parts-all (suc k) [] even = absurd (omega arith)
parts-all (suc k) (column ∷ []) even = absurd (omega arith)
parts-all (suc k) (column ∷ text ∷ fields) even =
    ap (option_map (set_before (column, text))) (parts-all k fields (omega arith))

-- One field is left over.
pub parts-over : (k : ℕ) (fields : Record) → length fields ≡ 2 * k + 1 → parts_from k fields ≡ None
parts-over zero [] odd = absurd (omega arith)
parts-over zero (column ∷ []) odd = refl
parts-over zero (column ∷ text ∷ fields) odd = absurd (omega arith)
parts-over (suc k) [] odd = refl
parts-over (suc k) (column ∷ []) odd = refl
parts-over (suc k) (column ∷ text ∷ fields) odd =
    ap (option_map (set_before (column, text))) (parts-over k fields (omega arith))

-- ---- pairs, read one after another

double-more : (k : ℕ) → 2 * suc k + 1 ≡ suc (suc (2 * k + 1))
double-more k = omega arith

none-past : (k : ℕ) (only column : List ℕ) → slice_get (only ∷ []) (2 * suc k) ≡ Some column → ⊥
none-past k only column e =
    let there : slice_get (only ∷ []) (suc (suc (2 * k))) ≡ Some column =
    subst (λ n. slice_get (only ∷ []) n ≡ Some column) (double k) e in
    cc there

-- There are half as many pairs as fields.
pub length-pairs_of : (fields : Record) → length (pairs_of fields) ≡ length fields / 2
length-pairs_of [] = refl
length-pairs_of (c ∷ []) = refl
length-pairs_of (c ∷ t ∷ fields) = omega (arith, length-pairs_of fields)

-- The pair at index `k` is made of two fields.
pub pairs-get : (fields : Record) (k : ℕ) (column text : List ℕ) → slice_get fields (2 * k) ≡ Some column
    → slice_get fields (2 * k + 1) ≡ Some text → slice_get (pairs_of fields) k ≡ Some (column, text)
pairs-get [] zero column text e f = absurd (cc e)
pairs-get (c ∷ []) zero column text e f = absurd (cc f)
pairs-get (c ∷ t ∷ fields) zero column text e f =
    let first : c ≡ column = cc in
    let second : t ≡ text = cc in
    rw (first, second) refl
pairs-get [] (suc k) column text e f = absurd (cc e)
pairs-get (c ∷ []) (suc k) column text e f = absurd (none-past k c column e)
pairs-get (c ∷ t ∷ fields) (suc k) column text e f =
    pairs-get fields k column text (subst (λ n. slice_get (c ∷ t ∷ fields) n ≡ Some column) (double k) e)
    (subst (λ n. slice_get (c ∷ t ∷ fields) n ≡ Some text) (double-more k) f)

-- If all columns are names, so is each pair's.
pub all_columns-get : (pairs : List TextPair) (k : ℕ) (pair : TextPair) → all_columns pairs ≡ true
    → slice_get pairs k ≡ Some pair → is_name pair.0 ≡ true
all_columns-get [] k pair all e = absurd (cc e)
all_columns-get (p ∷ pairs) zero pair all e =
    let same : p ≡ pair = cc in
    ap (λ (q : TextPair). is_name q.0) (sym same) ∙ (and_parts (is_name p.0) (all_columns pairs) all).0
all_columns-get (p ∷ pairs) (suc k) pair all e =
    all_columns-get pairs k pair (and_parts (is_name p.0) (all_columns pairs) all).1 e

-- With at most one field left there are no more pairs.
pub pairs-over : (fields : Record) (k : ℕ) → length fields ≤ 2 * k + 1
    → (pairs_of (take (2 * k) fields) ≡ pairs_of fields) × (pairs_of (drop (2 * k) fields) ≡ [])
pairs-over [] zero short = (refl, refl)
pairs-over (c ∷ []) zero short = (refl, refl)
pairs-over (c ∷ t ∷ fields) zero short = absurd (omega arith)
pairs-over [] (suc k) short = rw (double k) (refl, refl)
pairs-over (c ∷ []) (suc k) short = rw (double k) (refl, refl)
pairs-over (c ∷ t ∷ fields) (suc k) short =
    let rest = pairs-over fields k (omega arith) in
    rw (double k) (ap (λ l. (c, t) ∷ l) rest.0, rest.1)

-- All columns from `k` on are names if the column at `k` is one and so are all later ones.
pub columns-here : (fields : Record) (k : ℕ) (b : Bool) → 2 * k + 1 < length fields
    → IfSome (slice_get fields (2 * k)) (λ column. b ≡ is_name column)
    → all_columns (pairs_of (drop (2 * k) fields)) ≡ (b && all_columns (pairs_of (drop (2 * (k + 1)) fields)))
columns-here [] k b lt e = absurd (omega arith)
columns-here (c ∷ []) k b lt e = absurd (omega arith)
columns-here (c ∷ t ∷ fields) zero b lt e = ap (λ x. x && all_columns (pairs_of fields)) (sym e)
columns-here (c ∷ t ∷ fields) (suc k) b lt e =
    let next : 2 * (suc k + 1) ≡ suc (suc (2 * (k + 1))) = omega arith in
    rw (double k, next)
    (columns-here fields k b (omega arith)
    (subst (λ n. IfSome (slice_get (c ∷ t ∷ fields) n) (λ column. b ≡ is_name column)) (double k) e))

-- All fields from `k` on are names if the field at `k` is one and so are all later ones.
pub names-here : (fields : Record) (k : ℕ) (b : Bool) → k < length fields
    → IfSome (slice_get fields k) (λ field. b ≡ is_name field)
    → list_all is_name (drop k fields) ≡ (b && list_all is_name (drop (k + 1) fields))
names-here [] k b lt e = absurd (omega arith)
names-here (field ∷ fields) zero b lt e = ap (λ x. x && list_all is_name fields) (sym e)
names-here (field ∷ fields) (suc k) b lt e =
    let next : suc k + 1 ≡ suc (k + 1) = omega arith in
    rw next (names-here fields k b (omega arith) e)

-- With no field left, all are names.
pub names-over : (fields : Record) (k : ℕ) → length fields ≤ k
    → list_all is_name (drop k fields) ≡ list_all is_name fields → true ≡ list_all is_name fields
names-over [] k short e = refl
names-over (field ∷ fields) zero short e = absurd (omega arith)
names-over (field ∷ fields) (suc k) short e = ap (list_all is_name) (sym (drop_all k fields (omega arith))) ∙ e

-- If all fields are names, so is each.
pub names-get : (fields : Record) (k : ℕ) (field : List ℕ) → list_all is_name fields ≡ true
    → slice_get fields k ≡ Some field → is_name field ≡ true
names-get [] k field all e = absurd (cc e)
names-get (f ∷ fields) zero field all e =
    let same : f ≡ field = cc in
    ap is_name (sym same) ∙ (and_parts (is_name f) (list_all is_name fields) all).0
names-get (f ∷ fields) (suc k) field all e =
    names-get fields k field (and_parts (is_name f) (list_all is_name fields) all).1 e

-- ---- whole records

-- The first four fields of a record, and the fields after them.
four_first : (P : Record → Type 0) (line : Record) (name from to : List ℕ) → slice_get line 1 ≡ Some name
    → slice_get line 2 ≡ Some from → slice_get line 3 ≡ Some to
    → ((word : List ℕ) → P (word ∷ name ∷ from ∷ to ∷ drop 4 line)) → P line
four_first P [] name from to one two three there = absurd (cc one)
four_first P (word ∷ []) name from to one two three there = absurd (cc one)
four_first P (word ∷ n ∷ []) name from to one two three there = absurd (cc two)
four_first P (word ∷ n ∷ f ∷ []) name from to one two three there = absurd (cc three)
four_first P (word ∷ n ∷ f ∷ t ∷ rest) name from to one two three there =
    let first : n ≡ name = cc in
    let second : f ≡ from = cc in
    let third : t ≡ to = cc in
    rw (first, second, third) (there word)

pub update-four : (line : Record) (name from to : List ℕ) → slice_get line 1 ≡ Some name → slice_get line 2 ≡ Some from
    → slice_get line 3 ≡ Some to
    → update_meaning line ≡ if_formed (update_of name from to) (settings_in (drop 4 line))
update-four line name from to one two three =
    four_first
    (λ l. update_meaning l ≡ if_formed (update_of name from to)
    (settings_in (drop 4 line))) line name from to one two three (λ word. refl)

pub delete-four : (line : Record) (name from to : List ℕ) → slice_get line 1 ≡ Some name → slice_get line 2 ≡ Some from
    → slice_get line 3 ≡ Some to
    → delete_meaning line ≡ if_formed (delete_of name from to) (conditions_in (drop 4 line))
delete-four line name from to one two three =
    four_first
    (λ l. delete_meaning l ≡ if_formed (delete_of name from to)
    (conditions_in (drop 4 line))) line name from to one two three (λ word. refl)
