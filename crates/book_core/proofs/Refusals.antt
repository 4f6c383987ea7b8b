-- The results of a change's tests.
use Rattle.std.proofs.Common.{◌≡◌, ℕ, ◌+◌, ◌<◌, ◌≤◌, List, [], ◌∷◌, length, true, false, ◌||◌, not, Option, Some, None, ap, sym, ◌∙◌, ltb, leb}
use Rattle.std.specs.Prelude.{IfNone, is_none, is_some}
use Rattle.std.specs.List.{list_all}
use Rattle.std.proofs.lemmas.Bool.{le-leb, lt-leb}
use Rattle.std.proofs.lemmas.List.{length-map}
use Rattle.row_core.specs.Schema.{fits}
use Rattle.row_core.specs.Refusals.{first_of}
use Rattle.row_core.specs.declared.draft.Draft.{Draft}
use Rattle.row_core.specs.declared.schema.Column.{Column}
use Rattle.version_core.specs.Limits.{version_limit}
use Rattle.book_core.specs.Limits.{commit_limit, table_limit}
use Rattle.book_core.specs.declared.change.Change.TheVariants.{Make, Load}
use Rattle.book_core.specs.State.{State, Table, table_of, first_refusal, tests_of}
use Rattle.book_core.specs.History.{History, state_after}
use Rattle.book_core.specs.StoredTables.{AreKept, StoredTable, table_at}
use Rattle.book_core.specs.declared.refusal.BookRefused.TheVariants.{TableExists, TooMany, Full, WrongKind}
use Rattle.book_core.proofs.Applying.{newest_of}

pub none_from : {X : Type 0} (P : Type 0) (o : Option X) → IfNone o P → is_some o ≡ false → P
none_from P None h e = h
none_from P (Some x) h e = absurd (cc)

pub load_wrong : (n : ℕ) (name : List ℕ) (rows : List Draft) (t : Table)
    → list_all (λ d. fits t.schema d.values) rows ≡ false → Some WrongKind ≡ first_of (tests_of n (Load name rows) t)
load_wrong n name rows t h =
    sym (ap (λ b. first_of
    ((not b, WrongKind) ∷ (leb commit_limit n || ltb version_limit (t.used + length rows), Full) ∷ [])) h)

pub load_full : (n : ℕ) (name : List ℕ) (rows : List Draft) (t : Table)
    → list_all (λ d. fits t.schema d.values) rows ≡ true
    → (leb commit_limit n || ltb version_limit (t.used + length rows)) ≡ true
    → Some Full ≡ first_of (tests_of n (Load name rows) t)
load_full n name rows t h k =
    sym (ap (λ b. first_of
    ((not b, WrongKind) ∷ (leb commit_limit n || ltb version_limit (t.used + length rows), Full) ∷ [])) h
    ∙ ap (λ b. first_of ((b, Full) ∷ [])) k)

pub load_taken : (n : ℕ) (name : List ℕ) (rows : List Draft) (t : Table)
    → list_all (λ d. fits t.schema d.values) rows ≡ true
    → (leb commit_limit n || ltb version_limit (t.used + length rows)) ≡ false
    → None ≡ first_of (tests_of n (Load name rows) t)
load_taken n name rows t h k =
    sym (ap (λ b. first_of
    ((not b, WrongKind) ∷ (leb commit_limit n || ltb version_limit (t.used + length rows), Full) ∷ [])) h
    ∙ ap (λ b. first_of ((b, Full) ∷ [])) k)

make_tests : (n : ℕ) (s : State) (name : List ℕ) (schema : List Column) → table_of s name ≡ None
    → first_refusal n s (Make name schema) ≡ first_of
    ((leb table_limit (length s), TooMany) ∷ (leb commit_limit n, Full) ∷ [])
make_tests n s name schema h =
    ap (λ o. first_of
    ((not (is_none o), TableExists) ∷ (leb table_limit (length s), TooMany) ∷ (leb commit_limit n, Full) ∷ [])) h

pub make_many : (n : ℕ) (s : State) (name : List ℕ) (schema : List Column) → table_of s name ≡ None
    → table_limit ≤ length s → Some TooMany ≡ first_refusal n s (Make name schema)
make_many n s name schema h k =
    sym (make_tests n s name schema h
    ∙ ap (λ b. first_of ((b, TooMany) ∷ (leb commit_limit n, Full) ∷ [])) (le-leb table_limit (length s) k))

pub make_full : (n : ℕ) (s : State) (name : List ℕ) (schema : List Column) → table_of s name ≡ None
    → length s < table_limit → commit_limit ≤ n → Some Full ≡ first_refusal n s (Make name schema)
make_full n s name schema h k f =
    sym (make_tests n s name schema h
    ∙ ap (λ b. first_of ((b, TooMany) ∷ (leb commit_limit n, Full) ∷ [])) (lt-leb table_limit (length s) k)
    ∙ ap (λ b. first_of ((b, Full) ∷ [])) (le-leb commit_limit n f))

pub make_taken : (n : ℕ) (s : State) (name : List ℕ) (schema : List Column) → table_of s name ≡ None
    → length s < table_limit → n < commit_limit → None ≡ first_refusal n s (Make name schema)
make_taken n s name schema h k f =
    sym (make_tests n s name schema h
    ∙ ap (λ b. first_of ((b, TooMany) ∷ (leb commit_limit n, Full) ∷ [])) (lt-leb table_limit (length s) k)
    ∙ ap (λ b. first_of ((b, Full) ∷ [])) (lt-leb commit_limit n f))

-- a book has as many tables as the newest state
pub length-state : (h now : History) (ts : List StoredTable) → AreKept h ts → h ≡ now
    → length (state_after now) ≡ length ts
length-state h now ts kept v = ap length (newest_of h now ts kept v) ∙ length-map ts (table_at (length now))
