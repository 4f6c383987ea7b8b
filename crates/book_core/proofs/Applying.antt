-- Lemmas for the functions that change a book.
use Rattle.std.proofs.Common.{◌≡◌, ℕ, ◌+◌, ◌<◌, ◌≤◌, List, [], ◌∷◌, ◌++◌, length, map, Bool, true, false, ◌||◌, not, cond, Option, Some, None, refl, ap, sym, ◌∙◌, inl, inr, subst, arith, ltb, leb, get_or, set, zero, suc}
use Rattle.std.specs.Prelude.{IfSome, is_none, option_map, slice_get, flat_map, position, bytes_eq}
use Rattle.std.specs.List.{position_from, AllByRecursion, list_all}
use Rattle.std.proofs.lemmas.Bool.{or_parts, leb-false, ltb-false, cases_lt}
use Rattle.std.proofs.lemmas.List.{take-append-le, take_all}
use Rattle.std.proofs.lemmas.Iterator.Adapters.{position_from-zero}
use Rattle.list_core.proofs.PlaceLemmas.{slice_get-before}
use Rattle.row_core.specs.Schema.{fits}
use Rattle.row_core.specs.Refusals.{first_of}
use Rattle.version_core.specs.Limits.{version_limit}
use Rattle.book_core.specs.Limits.{commit_limit, table_limit}
use Rattle.book_core.specs.declared.change.Change.{Change}
use Rattle.book_core.specs.declared.change.Change.TheVariants.{Make, Load, Update, Delete}
use Rattle.book_core.specs.State.{State, Table, table_of, first_refusal, refusal_of, tests_of, with_table, changed, pair_tests}
use Rattle.book_core.specs.History.{History, IsLegal, state_after}
use Rattle.book_core.specs.StoredTables.{kept_table, StoredTable, table_at, at_kept, kept_tables_after, kept_tables_from, HasRoom, AreKept}
use Rattle.book_core.specs.declared.commit.Commit.{Commit}
use Rattle.book_core.specs.declared.refusal.BookRefused.{BookRefused}
use Rattle.book_core.specs.declared.refusal.BookRefused.TheVariants.{Full, TableExists, TooMany, WrongKind}
use Rattle.book_core.proofs.Reading.{table_of-map}
use Rattle.book_core.proofs.Shown.{newest-kept}

-- a table by its index

pub record Found (o : Option StoredTable) (g : (StoredTable → StoredTable) → List StoredTable) (ts : List StoredTable)
    (j : ℕ) : Type 0 where
  pub in_range : j < length ts
  pub found : (d : StoredTable) → o ≡ Some (get_or ts j d)
  pub changes : (f : StoredTable → StoredTable) (d : StoredTable) → g f ≡ set ts j (f (get_or ts j d))

found_from : (name : List ℕ) (ts : List StoredTable) (i k : ℕ)
    → position_from (λ t. bytes_eq t.name name) i ts ≡ Some k → (j : ℕ) × (k ≡ i + j)
    × Found (kept_table name ts) (λ f. at_kept name f ts) ts j
found_from name [] i k = λ h. absurd (cc)
found_from name (t ∷ ts) i k =
    elim (bytes_eq t.name name) as
    (λ b. cond b (Some i) (position_from (λ t. bytes_eq t.name name) (i + 1) ts) ≡ Some k → (j : ℕ) × (k ≡ i + j)
    × Found (cond b (Some t) (kept_table name ts)) (λ f. cond b (f t ∷ ts) (t ∷ at_kept name f ts)) (t ∷ ts) j) [
      | true ↦ λ h. (
        0,
        (let e : i ≡ k = cc in omega arith),
        record
            { in_range = omega arith; found = λ d. refl; changes = λ f d. refl },
      )
      | false ↦ λ h. let r =
          found_from name ts (i + 1) k h in (
            suc r.0,
            omega
                (arith, r.1),
            record {
              in_range = let l = r.2.in_range in omega
                  (arith, l);
              found = r.2.found;
              changes = λ f d. ap (λ l. t ∷ l) (r.2.changes f d);
            },
          )
    ]

-- refusals

pub first_of-none : {E : Type 0} (tests : List (Bool × E)) → first_of tests ≡ None
    → AllByRecursion (λ (t : Bool × E). t.0 ≡ false) tests
first_of-none [] h = tt
first_of-none ((true, e) ∷ tests) h = absurd (cc)
first_of-none ((false, e) ∷ tests) h = (refl, first_of-none tests h)

pub last_of : {X : Type 0} (P : X → Type 0) (xs : List X) (x : X) → AllByRecursion P (xs ++ x ∷ []) → P x
last_of P [] x h = h.0
last_of P (y ∷ ys) x h = last_of P ys x h.1

few_in : (n : ℕ) (o : Option Table) (tests : Table → List (Bool × BookRefused)) (used : Table → ℕ)
    → with_table o (λ t. first_of (tests t ++ (leb commit_limit n || ltb version_limit (used t), Full) ∷ [])) ≡ None
    → n < commit_limit
few_in n None tests used h = absurd (cc)
few_in n (Some t) tests used h = leb-false commit_limit n (or_parts _ _ (last_of _ (tests t) _ (first_of-none _ h))).0

-- an accepted change comes after fewer than a million commits
pub few : (n : ℕ) (s : State) (c : Change) → first_refusal n s c ≡ None → n < commit_limit
few n s (Make name schema) h =
    let all = first_of-none
    ((not (is_none (table_of s name)), TableExists) ∷ (leb table_limit (length s), TooMany) ∷
    (leb commit_limit n, Full) ∷ []) h in leb-false commit_limit n all.1.1.0
few n s (Load name rows) h =
    few_in n (table_of s name) (λ t. (not (list_all (λ d. fits t.schema d.values) rows), WrongKind) ∷ [])
    (λ t. (changed (Load name rows) t).used) h
few n s (Update name portion sets conds) h =
    few_in n (table_of s name) (λ t. flat_map (pair_tests t.schema) (sets ++ conds))
    (λ t. (changed (Update name portion sets conds) t).used) h
few n s (Delete name portion conds) h =
    few_in n (table_of s name) (λ t. flat_map (pair_tests t.schema) conds)
    (λ t. (changed (Delete name portion conds) t).used) h

room_in : (n : ℕ) (o : Option StoredTable) (tests : Table → List (Bool × BookRefused)) (used : Table → ℕ)
    → with_table (option_map (table_at n) o)
    (λ t. first_of (tests t ++ (leb commit_limit n || ltb version_limit (used t), Full) ∷ [])) ≡ None
    → IfSome o (λ t. used (table_at n t) ≤ version_limit)
room_in n None tests used h = tt
room_in n (Some t) tests used h =
    ltb-false version_limit (used (table_at n t))
    (or_parts _ _ (last_of _ (tests (table_at n t)) _ (first_of-none _ h))).1

pub found_in : (n : ℕ) (s : State) (ts : List StoredTable) (name : List ℕ) → s ≡ map (table_at n) ts
    → option_map (table_at n) (kept_table name ts) ≡ table_of s name
found_in n s ts name e = sym (table_of-map n ts name) ∙ ap (λ s. table_of s name) (sym e)

unit_if : {X : Type 0} (o : Option X) → IfSome o (λ x. Unit {0})
unit_if None = tt
unit_if (Some x) = tt

-- an accepted change doesn't exceed the limit on versions
pub room : (n : ℕ) (s : State) (ts : List StoredTable) (c : Change) → s ≡ map (table_at n) ts
    → first_refusal n s c ≡ None → HasRoom n c ts
room n s ts (Make name schema) e h = unit_if (kept_table name ts)
room n s ts (Load name rows) e h =
    room_in n (kept_table name ts) (λ t. (not (list_all (λ d. fits t.schema d.values) rows), WrongKind) ∷ [])
    (λ t. (changed (Load name rows) t).used)
    (ap (λ o. with_table o (λ t. first_of (tests_of n (Load name rows) t))) (found_in n s ts name e) ∙ h)
room n s ts (Update name portion sets conds) e h =
    room_in n (kept_table name ts) (λ t. flat_map (pair_tests t.schema) (sets ++ conds))
    (λ t. (changed (Update name portion sets conds) t).used)
    (ap (λ o. with_table o (λ t. first_of (tests_of n (Update name portion sets conds) t))) (found_in n s ts name e)
    ∙ h)
room n s ts (Delete name portion conds) e h =
    room_in n (kept_table name ts) (λ t. flat_map (pair_tests t.schema) conds)
    (λ t. (changed (Delete name portion conds) t).used)
    (ap (λ o. with_table o (λ t. first_of (tests_of n (Delete name portion conds) t))) (found_in n s ts name e) ∙ h)

-- an index

pub place : (name : List ℕ) (ts : List StoredTable) (at : ℕ) → position (λ t. bytes_eq t.name name) ts ≡ Some at
    → Found (kept_table name ts) (λ f. at_kept name f ts) ts at
place name ts at e =
    let r = found_from name ts 0 at (sym (position_from-zero (λ t. bytes_eq t.name name) ts) ∙ e) in
    let same : r.0 ≡ at = omega (arith, r.1) in
    subst (λ j. Found (kept_table name ts) (λ f. at_kept name f ts) ts j) same r.2

-- stored histories

kept-push : (n : ℕ) (ts : List StoredTable) (h : History) (c : Commit)
    → kept_tables_from n ts (h ++ c ∷ []) ≡ kept_tables_after (n + length h) (kept_tables_from n ts h) c.change
kept-push n ts [] c = let e : n ≡ n + 0 = omega arith in ap (λ m. kept_tables_after m ts c.change) e
kept-push n ts (d ∷ ds) c =
    let e : n + 1 + length ds ≡ n + suc (length ds) =
    omega arith in kept-push (n + 1) (kept_tables_after n ts d.change) ds c
    ∙ ap (λ m. kept_tables_after m (kept_tables_from (n + 1) (kept_tables_after n ts d.change) ds) c.change) e

slice_get-push : (h : History) (c d : Commit) (n : ℕ) → length h ≤ n → slice_get (h ++ c ∷ []) n ≡ Some d
    → (n ≡ length h) × (c ≡ d)
slice_get-push [] c d zero k e = (refl, cc)
slice_get-push [] c d (suc n) k e = absurd (cc)
slice_get-push (x ∷ xs) c d zero k e = absurd (omega arith)
slice_get-push (x ∷ xs) c d (suc n) k e = let r = slice_get-push xs c d n (omega arith) e in (ap suc r.0, r.1)

pub IsLegal-push : (h : History) (c : Commit) → IsLegal h → refusal_of (length h) (state_after h) c.change ≡ None
    → IsLegal (h ++ c ∷ [])
IsLegal-push h c legal accepted n d e = elim (cases_lt n (length h)) [
  | inl k ↦ let le : n ≤ length h =
      omega arith in ap (λ l. refusal_of n (state_after l) d.change) (take-append-le n h (c ∷ []) le)
      ∙ legal n d (sym (slice_get-before h (c ∷ []) n k) ∙ e)
  | inr k ↦ let r = slice_get-push h c d n k e in let le : n ≤ length h = omega (arith, r.0) in
      ap (λ l. refusal_of n (state_after l) d.change) (take-append-le n h (c ∷ []) le ∙ take_all n h k)
      ∙ ap (λ m. refusal_of m (state_after h) d.change) r.0
      ∙ ap (λ x. refusal_of (length h) (state_after h) x.change) (sym r.1)
      ∙ accepted
]

-- a book after one more commit
pub AreKept-push : (h now new : History) (ts us : List StoredTable) (c : Commit) → AreKept h ts → h ≡ now
    → refusal_of (length now) (state_after now) c.change ≡ None → us ≡ kept_tables_after (length h) ts c.change
    → new ≡ h ++ c ∷ [] → AreKept new us
AreKept-push h now new ts us c k v r e n =
    let accepted : refusal_of (length h) (state_after h) c.change ≡ None =
    ap (λ x. refusal_of (length x) (state_after x) c.change) v ∙ r in
    let from : length h ≡ 0 + length h = omega arith in
    record {
      legal = rw n (IsLegal-push h c k.legal accepted);
      tables = e ∙ ap (λ l. kept_tables_after (length h) l c.change) k.tables
          ∙ ap (λ m. kept_tables_after m (kept_tables_from 0 [] h) c.change) from ∙ sym (kept-push 0 [] h c)
          ∙ ap (kept_tables_from 0 []) (sym n);
    }

-- the book's tables are those of the newest state
pub newest_of : (h now : History) (ts : List StoredTable) → AreKept h ts → h ≡ now
    → state_after now ≡ map (table_at (length now)) ts
newest_of h now ts k v =
    sym (newest-kept now) ∙ ap (map (table_at (length now))) (sym (k.tables ∙ ap (kept_tables_from 0 []) v))
