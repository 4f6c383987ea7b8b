-- No state of a legal history has overlapping rows with the same key.
use Rattle.std.proofs.Common.{◌≡◌, ℕ, ◌+◌, List, [], ◌∷◌, ◌++◌, map, take, zero, suc, Bool, true, false, not, cond, Option, Some, None, refl, ap, ◌∙◌, arith}
use Rattle.std.specs.Prelude.{◌≢◌, All, IfSome, filter, fold, bytes_eq}
use Rattle.std.specs.List.{AllByRecursion}
use Rattle.std.proofs.lemmas.List.{map-append}
use Rattle.std.proofs.lemmas.List.Elements.{All-from_recursion}
use Rattle.period_core.specs.declared.period.Period.{Period}
use Rattle.row_core.specs.Schema.{key_of}
use Rattle.row_core.specs.declared.draft.Draft.{Draft}
use Rattle.version_core.specs.Collisions.{have_collision}
use Rattle.version_core.proofs.CollisionMeaning.{without_overlaps}
use Rattle.version_core.proofs.ReplacedRows.{append-all}
use Rattle.table_core.specs.Numbered.{numbered, unnumbered}
use Rattle.row_core.specs.declared.row.Row.{Row}
use Rattle.row_core.specs.declared.schema.Column.{Column}
use Rattle.book_core.specs.Rows.{Pair, drafts_of, is_touched, removes}
use Rattle.version_core.specs.Keys.{break_key}
use Rattle.book_core.specs.declared.change.Change.{Change}
use Rattle.book_core.specs.declared.change.Change.TheVariants.{Make, Load, Update, Delete}
use Rattle.version_core.proofs.Unbroken.{cut-unbroken}
use Rattle.book_core.specs.History.{History, IsLegal, state_after}
use Rattle.book_core.specs.State.{State, Table, applied, at_table, KeyHolds, breaks_key, changed, leaves_overlap, refusal_of, table_of}
use Rattle.book_core.proofs.Accepted.{overlap-none}
use Rattle.book_core.proofs.Sound.{LegalFrom, legal_from}

-- new rows without their ids
unnumbered-numbered : (used : ℕ) (ds : List Draft) → map unnumbered (numbered used ds) ≡ ds
unnumbered-numbered used [] = refl
unnumbered-numbered used (d ∷ ds) = ap (λ l. d ∷ l) (unnumbered-numbered (used + 1) ds)

-- the rows that the change keeps
abbrev pub rows_left : Change → List Column → List Row → List Draft
rows_left c schema rows = map unnumbered (filter (λ row. not (removes c schema row)) rows)

-- a table breaks its key after a change if and only if the kept and added rows do
pub breaks-changed : (c : Change) (t : Table)
    → breaks_key (changed c t) ≡ break_key (key_of t.schema)
    (rows_left c t.schema t.rows ++ drafts_of c t.schema t.rows)
breaks-changed c t =
    let ds = drafts_of c t.schema t.rows in
    ap (break_key (key_of t.schema))
    (map-append unnumbered (filter (λ row. not (removes c t.schema row)) t.rows) (numbered t.used ds)
    ∙ ap (λ l. rows_left c t.schema t.rows ++ l) (unnumbered-numbered t.used ds))

-- ---- states

at-unbroken : (name : List ℕ) (f : Table → Table) (s : State) → AllByRecursion (λ (t : Table). breaks_key t ≡ false) s
    → IfSome (table_of s name) (λ t. breaks_key (f t) ≡ false)
    → AllByRecursion (λ (t : Table). breaks_key t ≡ false) (at_table name f s)
at-unbroken name f [] h k = tt
at-unbroken name f (t ∷ ts) h k = by_test (λ l. at-unbroken name f ts h.1 l) (bytes_eq t.name name) k where
  by_test :
      (IfSome (table_of ts name) (λ t. breaks_key (f t) ≡ false)
      → AllByRecursion (λ (t : Table). breaks_key t ≡ false) (at_table name f ts)) → (b : Bool)
      → IfSome (cond b (Some t) (table_of ts name)) (λ t. breaks_key (f t) ≡ false)
      → AllByRecursion (λ (t : Table). breaks_key t ≡ false) (cond b (f t ∷ ts) (t ∷ at_table name f ts))
  by_test rest true l = (l, h.1)
  by_test rest false l = (h.0, rest l)

pub found-unbroken : (name : List ℕ) (s : State) → AllByRecursion (λ (t : Table). breaks_key t ≡ false) s
    → IfSome (table_of s name) (λ t. breaks_key t ≡ false)
found-unbroken name [] h = tt
found-unbroken name (t ∷ ts) h =
    elim (bytes_eq t.name name) as
    (λ b. IfSome (cond b (Some t) (table_of ts name)) (λ t. breaks_key t ≡ false)) [
      | true ↦ h.0
      | false ↦
          found-unbroken name ts h.1
    ]

load-left : (name : List ℕ) (rows : List Draft) (o : Option Table) → leaves_overlap (Load name rows) o ≡ false
    → IfSome o (λ t. breaks_key (changed (Load name rows) t) ≡ false)
load-left name rows None h = tt
load-left name rows (Some t) h = h

update-left : (name : List ℕ) (portion : Period) (sets conds : List Pair) (o : Option Table)
    → leaves_overlap (Update name portion sets conds) o ≡ false
    → IfSome o (λ t. breaks_key (changed (Update name portion sets conds) t) ≡ false)
update-left name portion sets conds None h = tt
update-left name portion sets conds (Some t) h = h

delete-left : (name : List ℕ) (portion : Period) (conds : List Pair) (o : Option Table)
    → IfSome o (λ t. breaks_key t ≡ false) → IfSome o (λ t. breaks_key (changed (Delete name portion conds) t) ≡ false)
delete-left name portion conds None h = tt
delete-left name portion conds (Some t) h =
    breaks-changed (Delete name portion conds) t ∙ cut-unbroken (is_touched t.schema portion conds) portion (key_of t.schema) t.rows h

no-rows : (key : List ℕ) → break_key key [] ≡ false
no-rows [] = refl
no-rows (column ∷ columns) = refl

unbroken-after : (n : ℕ) (s : State) (c : Change) → refusal_of n s c ≡ None
    → AllByRecursion (λ (t : Table). breaks_key t ≡ false) s
    → AllByRecursion (λ (t : Table). breaks_key t ≡ false) (applied s c)
unbroken-after n s (Make name schema) r h =
    append-all (λ (t : Table). breaks_key t ≡ false) s _ h (no-rows (key_of schema), tt)
unbroken-after n s (Load name rows) r h =
    at-unbroken name (changed (Load name rows)) s h
    (load-left name rows (table_of s name) (overlap-none n s (Load name rows) r))
unbroken-after n s (Update name portion sets conds) r h =
    at-unbroken name (changed (Update name portion sets conds)) s h
    (update-left name portion sets conds (table_of s name) (overlap-none n s (Update name portion sets conds) r))
unbroken-after n s (Delete name portion conds) r h =
    at-unbroken name (changed (Delete name portion conds)) s h
    (delete-left name portion conds (table_of s name) (found-unbroken name s h))

unbroken-from : (n : ℕ) (s : State) (cs : History) → LegalFrom n s cs
    → AllByRecursion (λ (t : Table). breaks_key t ≡ false) s
    → AllByRecursion (λ (t : Table). breaks_key t ≡ false) (fold (λ s c. applied s c.change) s cs)
unfolding LegalFrom
unbroken-from n s [] l h = h
unbroken-from n s (c ∷ cs) l h = unbroken-from (n + 1) (applied s c.change) cs l.1 (unbroken-after n s c.change l.0 h)

legal-take : (k n : ℕ) (s : State) (cs : History) → LegalFrom n s cs → LegalFrom n s (take k cs)
unfolding LegalFrom
legal-take zero n s [] l = tt
legal-take zero n s (c ∷ cs) l = tt
legal-take (suc k) n s [] l = tt
legal-take (suc k) n s (c ∷ cs) l = (l.0, legal-take k (n + 1) (applied s c.change) cs l.1)

pub unbroken : (h : History) (n : ℕ) → IsLegal h
    → AllByRecursion (λ (t : Table). breaks_key t ≡ false) (state_after (take n h))
unbroken h n legal =
    unbroken-from 0 [] (take n h)
    (legal-take n 0 [] h
    (legal_from 0 [] h
    (λ k c e. let m : 0 + k ≡ k = omega arith in ap (λ m. refusal_of m (state_after (take k h)) c.change) m
    ∙ legal k c e))) tt

collision-none : (key : List ℕ) (rows : List Draft) → key ≢ [] → break_key key rows ≡ false
    → have_collision key rows ≡ false
collision-none [] rows keyed h = absurd (keyed refl)
collision-none (column ∷ columns) rows keyed h = h

all-hold : (s : State) → AllByRecursion (λ (t : Table). breaks_key t ≡ false) s → AllByRecursion KeyHolds s
all-hold [] h = tt
all-hold (t ∷ ts) h = (
  λ keyed. without_overlaps (key_of t.schema) (map unnumbered t.rows)
      (collision-none (key_of t.schema) (map unnumbered t.rows) keyed h.0),
  all-hold ts h.1,
)

pub keys_hold : (h : History) (n : ℕ) → IsLegal h → All KeyHolds (state_after (take n h))
keys_hold h n legal =
    All-from_recursion KeyHolds (state_after (take n h)) (all-hold (state_after (take n h)) (unbroken h n legal))
