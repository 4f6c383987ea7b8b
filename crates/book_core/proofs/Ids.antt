-- The ids of versions and rows, and the commits of versions.
use Rattle.std.proofs.Common.{◌≡◌, ℕ, ◌+◌, ◌<◌, ◌≤◌, List, [], ◌∷◌, ◌++◌, length, map, Bool, true, false, ◌&&◌, ◌||◌, not, cond, Option, Some, None, refl, ap, sym, ◌∙◌, arith, suc, subst}
use Rattle.std.specs.Prelude.{filter, count_by, is_none, IfSome, nat_eq, bytes_eq}
use Rattle.std.specs.List.{cons_option, list_any, AllByRecursion}
use Rattle.std.proofs.lemmas.Bool.{eq-eqb, ne_eqb}
use Rattle.std.proofs.lemmas.List.{length-map}
use Rattle.std.proofs.lemmas.List.Folds.{list_any-append}
use Rattle.std.proofs.Math.Bool.{not-not, or-false, or-true}
use Rattle.list_core.proofs.MadeLemmas.{count-cons, count-append}
use Rattle.row_core.specs.declared.draft.Draft.{Draft}
use Rattle.row_core.specs.declared.row.Row.{Row}
use Rattle.table_core.specs.Numbered.{numbered}
use Rattle.book_core.specs.Rows.{drafts_of, removes}
use Rattle.version_core.specs.Shown.{shows, shown}
use Rattle.version_core.specs.Made.{made}
use Rattle.version_core.specs.OpenVersions.{closed}
use Rattle.book_core.specs.declared.change.Change.{Change}
use Rattle.book_core.specs.declared.change.Change.TheVariants.{Make, Load, Update, Delete}
use Rattle.version_core.specs.declared.version.Version.{Version}
use Rattle.table_core.proofs.NumberedLemmas.{length-numbered}
use Rattle.version_core.proofs.FindingLemmas.{row_closed}
use Rattle.book_core.specs.History.{History}
use Rattle.book_core.specs.Versions.{new_ids}
use Rattle.book_core.specs.StoredTables.{kept_table, StoredTable, kept_table_after, at_kept, kept_tables_after, kept_tables_from, IsNumbered, IsTimely, IsWellKept}

-- rows with rising ids above lo and at most hi
abbrev pub RiseIn : ℕ → ℕ → List Row → Type 0
RiseIn lo hi [] = Unit {0}
RiseIn lo hi (r ∷ rs) = (lo < r.id) × (r.id ≤ hi) × RiseIn r.id hi rs

pub RiseIn-lower : (lo k hi : ℕ) (rows : List Row) → k ≤ lo → RiseIn lo hi rows → RiseIn k hi rows
RiseIn-lower lo k hi [] h s = tt
RiseIn-lower lo k hi (r ∷ rs) h s = (omega (arith, s.0), s.1, s.2)

pub RiseIn-filter : (p : Row → Bool) (lo hi : ℕ) (rows : List Row) → RiseIn lo hi rows → RiseIn lo hi (filter p rows)
RiseIn-filter p lo hi [] s = tt
RiseIn-filter p lo hi (r ∷ rs) s = elim (p r) as (λ b. RiseIn lo hi (cond b (r ∷ filter p rs) (filter p rs))) [
  | true ↦ (s.0, s.1, RiseIn-filter p r.id hi rs s.2)
  | false ↦ RiseIn-lower r.id lo hi (filter p rs) (omega (arith, s.0)) (RiseIn-filter p r.id hi rs s.2)
]

pub numbered_rise : (used : ℕ) (ds : List Draft) → RiseIn used (used + length ds) (numbered used ds)
numbered_rise used [] = tt
numbered_rise used (d ∷ ds) =
    let e : used + 1 + length ds ≡ used + suc (length ds) = omega arith in (
      omega arith,
      omega arith,
      subst (λ hi. RiseIn (used + 1) hi (numbered (used + 1) ds)) e
          (numbered_rise (used + 1) ds),
    )

-- the visible rows of numbered versions
shown_rise : (n k : ℕ) (vs : List Version) → IsNumbered k vs → RiseIn k (k + length vs) (shown n vs)
shown_rise n k [] s = tt
shown_rise n k (v ∷ vs) s =
    let e : k + 1 + length vs ≡ k + suc (length vs) = omega arith in
    let rest : RiseIn (k + 1) (k + suc (length vs)) (shown n vs) =
    subst (λ hi. RiseIn (k + 1) hi (shown n vs)) e (shown_rise n (k + 1) vs s.1) in
    elim (shows n v) as (λ b. RiseIn k (k + suc (length vs)) (cons_option (cond b (Some v.row) None) (shown n vs))) [
      | true ↦ (
        omega (arith, s.0),
        omega (arith, s.0),
        RiseIn-lower (k + 1) v.row.id (k + suc (length vs))
            (shown n vs) (omega (arith, s.0)) rest,
      )
      | false ↦ RiseIn-lower (k + 1) k (k + suc (length vs)) (shown n vs) (omega arith) rest
    ]

pub shown_rise_all : (n : ℕ) (vs : List Version) → IsNumbered 0 vs → RiseIn 0 (length vs) (shown n vs)
shown_rise_all n vs s =
    let e : 0 + length vs ≡ length vs = omega arith in subst (λ hi. RiseIn 0 hi (shown n vs)) e (shown_rise n 0 vs s)

-- a row has the id

abbrev pub has : ℕ → List Row → Bool
has id rows = list_any (λ y. nat_eq y.id id) rows

differs : (a b : ℕ) → a < b → nat_eq a b ≡ false
differs a b h = ne_eqb a b (λ e. omega (arith, e))

differs_down : (a b : ℕ) → b < a → nat_eq a b ≡ false
differs_down a b h = ne_eqb a b (λ e. omega (arith, e))

has-low : (lo hi id : ℕ) (rows : List Row) → RiseIn lo hi rows → id ≤ lo → has id rows ≡ false
has-low lo hi id [] s k = refl
has-low lo hi id (r ∷ rs) s k =
    ap (λ b. b || has id rs) (differs_down r.id id (omega (arith, s.0)))
    ∙ has-low r.id hi id rs s.2 (omega (arith, s.0))

has-high : (lo hi id : ℕ) (rows : List Row) → RiseIn lo hi rows → hi < id → has id rows ≡ false
has-high lo hi id [] s k = refl
has-high lo hi id (r ∷ rs) s k =
    ap (λ b. b || has id rs) (differs r.id id (omega (arith, s.1))) ∙ has-high r.id hi id rs s.2 k

tail_more : (p : Row → Bool) (g : ℕ → Bool) (id lo hi : ℕ) (rs : List Row) → RiseIn lo hi rs → id ≤ lo
    → AllByRecursion (λ (x : Row). g x.id ≡ p x) rs → AllByRecursion (λ (x : Row). (nat_eq id x.id || g x.id) ≡ p x) rs
tail_more p g id lo hi [] s k h = tt
tail_more p g id lo hi (r ∷ rs) s k h = (
  ap (λ b. b || g r.id) (differs id r.id (omega (arith, s.0)))
      ∙ h.0,
  tail_more p g id r.id hi rs s.2 (omega (arith, s.0)) h.1,
)

in_filtered : (p : Row → Bool) (lo hi : ℕ) (rows : List Row) → RiseIn lo hi rows
    → AllByRecursion (λ (x : Row). has x.id (filter p rows) ≡ p x) rows
in_filtered p lo hi [] s = tt
in_filtered p lo hi (r ∷ rs) s = by_test (in_filtered p r.id hi rs s.2) (p r) refl where
  by_test : AllByRecursion (λ (x : Row). has x.id (filter p rs) ≡ p x) rs → (b : Bool) → p r ≡ b
      → AllByRecursion (λ (x : Row). has x.id (cond b (r ∷ filter p rs) (filter p rs)) ≡ p x) (r ∷ rs)
  by_test rest true e = (
    ap (λ b. b || has r.id (filter p rs)) (eq-eqb r.id r.id refl)
        ∙ sym e,
    tail_more p (λ i. has i (filter p rs)) r.id r.id hi rs s.2 (omega arith) rest,
  )
  by_test rest false e =
      (has-low r.id hi r.id (filter p rs) (RiseIn-filter p r.id hi rs s.2) (omega arith) ∙ sym e, rest)

with_tail : (p : Row → Bool) (ys tail : List Row) (lo hi top : ℕ) (rows : List Row) → RiseIn lo hi rows
    → RiseIn hi top tail → AllByRecursion (λ (x : Row). has x.id ys ≡ p x) rows
    → AllByRecursion (λ (x : Row). has x.id (ys ++ tail) ≡ p x) rows
with_tail p ys tail lo hi top [] s u h = tt
with_tail p ys tail lo hi top (r ∷ rs) s u h = (
  list_any-append (λ y. nat_eq y.id r.id) ys tail ∙ ap (λ b. has r.id ys || b) (has-low hi top r.id tail u s.1)
      ∙ or-false (has r.id ys) ∙ h.0,
  with_tail p ys tail r.id hi top rs s.2 u h.1,
)

-- counts

counted : (q g : Row → Bool) (rows : List Row) → AllByRecursion (λ (x : Row). g x ≡ not (q x)) rows
    → count_by (λ x. not (g x)) rows ≡ count_by q rows
counted q g [] h = refl
counted q g (r ∷ rs) h =
    count-cons (λ x. not (g x)) r rs ∙ ap (λ b. cond b 1 0 + count_by (λ x. not (g x)) rs) (ap not h.0 ∙ not-not (q r))
    ∙ ap (λ k. cond (q r) 1 0 + k) (counted q g rs h.1) ∙ sym (count-cons q r rs)

all_counted : (g : Row → Bool) (rows : List Row) → AllByRecursion (λ (x : Row). g x ≡ false) rows
    → count_by (λ x. not (g x)) rows ≡ length rows
all_counted g [] h = refl
all_counted g (r ∷ rs) h =
    count-cons (λ x. not (g x)) r rs ∙ ap (λ b. cond (not b) 1 0 + count_by (λ x. not (g x)) rs) h.0
    ∙ ap (λ k. 1 + k) (all_counted g rs h.1) ∙ omega arith

none_counted : (g : Row → Bool) (rows : List Row) → AllByRecursion (λ (x : Row). g x ≡ true) rows
    → count_by (λ x. not (g x)) rows ≡ 0
none_counted g [] h = refl
none_counted g (r ∷ rs) h =
    count-cons (λ x. not (g x)) r rs ∙ ap (λ b. cond (not b) 1 0 + count_by (λ x. not (g x)) rs) h.0
    ∙ ap (λ k. 0 + k) (none_counted g rs h.1)

-- each row's id is among the ids of the rows
one_more : (r : Row) (ys rows : List Row) → AllByRecursion (λ (x : Row). has x.id ys ≡ true) rows
    → AllByRecursion (λ (x : Row). has x.id (r ∷ ys) ≡ true) rows
one_more r ys [] h = tt
one_more r ys (x ∷ xs) h = (ap (λ b. nat_eq r.id x.id || b) h.0 ∙ or-true (nat_eq r.id x.id), one_more r ys xs h.1)

has_own : (rows : List Row) → AllByRecursion (λ (x : Row). has x.id rows ≡ true) rows
has_own [] = tt
has_own (r ∷ rs) = (ap (λ b. b || has r.id rs) (eq-eqb r.id r.id refl), one_more r rs rs (has_own rs))

filter_all : (p : Row → Bool) (P : Row → Type 0) (rows : List Row) → AllByRecursion P rows
    → AllByRecursion P (filter p rows)
filter_all p P [] h = tt
filter_all p P (r ∷ rs) h =
    elim (p r) as
    (λ b. AllByRecursion P (cond b (r ∷ filter p rs) (filter p rs))) [
      | true ↦ (h.0, filter_all p P rs h.1)
      | false ↦
          filter_all p P rs h.1
    ]

all_new : (lo hi used : ℕ) (rows : List Row) (ds : List Draft) → RiseIn lo hi rows → hi ≤ used
    → AllByRecursion (λ (x : Row). has x.id rows ≡ false) (numbered used ds)
all_new lo hi used rows [] s k = tt
all_new lo hi used rows (d ∷ ds) s k =
    (has-high lo hi (used + 1) rows s (omega arith), all_new lo hi (used + 1) rows ds s (omega arith))

-- how many ids a change adds to rows, and how many it removes
pub ids_added : (q : Row → Bool) (used : ℕ) (rows : List Row) (ds : List Draft) → RiseIn 0 used rows
    → new_ids (filter (λ r. not (q r)) rows ++ numbered used ds) rows ≡ length ds
ids_added q used rows ds s =
    count-append (λ (x : Row). not (has x.id rows)) (filter (λ r. not (q r)) rows) (numbered used ds)
    ∙ ap (λ k. k + count_by (λ (x : Row). not (has x.id rows)) (numbered used ds))
    (none_counted (λ (x : Row). has x.id rows) (filter (λ r. not (q r)) rows)
    (filter_all (λ r. not (q r)) (λ (x : Row). has x.id rows ≡ true) rows (has_own rows)))
    ∙ ap (λ k. 0 + k)
    (all_counted (λ (x : Row). has x.id rows) (numbered used ds) (all_new 0 used used rows ds s (omega arith))
    ∙ length-numbered used ds)
    ∙ omega arith

pub ids_taken : (q : Row → Bool) (used : ℕ) (rows : List Row) (ds : List Draft) → RiseIn 0 used rows
    → new_ids rows (filter (λ r. not (q r)) rows ++ numbered used ds) ≡ count_by q rows
ids_taken q used rows ds s =
    counted q (λ (x : Row). has x.id (filter (λ r. not (q r)) rows ++ numbered used ds)) rows
    (with_tail (λ r. not (q r)) (filter (λ r. not (q r)) rows) (numbered used ds) 0 used (used + length ds) rows s
    (numbered_rise used ds) (in_filtered (λ r. not (q r)) 0 used rows s))

-- tables stay well kept

numbered_closed : (n k : ℕ) (goes : Row → Bool) (vs : List Version) → IsNumbered k vs
    → IsNumbered k (map (closed n goes) vs)
numbered_closed n k goes [] s = tt
numbered_closed n k goes (v ∷ vs) s =
    (ap (λ (r : Row). r.id) (row_closed n goes v) ∙ s.0, numbered_closed n (k + 1) goes vs s.1)

numbered_more : (k : ℕ) (vs us : List Version) → IsNumbered k vs → IsNumbered (k + length vs) us
    → IsNumbered k (vs ++ us)
numbered_more k [] us s u = let e : k + 0 ≡ k = omega arith in subst (λ m. IsNumbered m us) e u
numbered_more k (v ∷ vs) us s u =
    let e : k + suc (length vs) ≡ k + 1 + length vs =
    omega arith in (s.0, numbered_more (k + 1) vs us s.1 (subst (λ m. IsNumbered m us) e u))

numbered_made : (n k : ℕ) (ds : List Draft) → IsNumbered k (made n (numbered k ds))
numbered_made n k [] = tt
numbered_made n k (d ∷ ds) = (refl, numbered_made n (k + 1) ds)

timely_next : (n : ℕ) (v : Version) → IsTimely n v → IsTimely (n + 1) v
timely_next n v h = record { begun = let b = h.begun in omega (arith, b); ended = end v.systo h.ended } where
  end : (to : Option ℕ) → IfSome to (λ t. (v.sysfrom < t) × (t ≤ n)) → IfSome to (λ t. (v.sysfrom < t) × (t ≤ n + 1))
  end None k = tt
  end (Some t) k = (k.0, omega (arith, k.1))

timely_closed : (n : ℕ) (goes : Row → Bool) (v : Version) → IsTimely n v → IsTimely (n + 1) (closed (n + 1) goes v)
timely_closed n goes v h =
    elim (is_none v.systo && goes v.row) as (λ b. IsTimely (n + 1) (cond b (record v { systo = Some (n + 1) }) v)) [
      | true ↦ record {
        begun = let b = h.begun in omega (arith, b);
        ended =
            (let b = h.begun in omega (arith, b), omega arith);
      }
      | false ↦ timely_next n v h
    ]

timely_all_next : (n : ℕ) (vs : List Version) → AllByRecursion (IsTimely n) vs → AllByRecursion (IsTimely (n + 1)) vs
timely_all_next n [] h = tt
timely_all_next n (v ∷ vs) h = (timely_next n v h.0, timely_all_next n vs h.1)

timely_changed : (n : ℕ) (goes : Row → Bool) (vs us : List Version) → AllByRecursion (IsTimely n) vs
    → AllByRecursion (IsTimely (n + 1)) us → AllByRecursion (IsTimely (n + 1)) (map (closed (n + 1) goes) vs ++ us)
timely_changed n goes [] us h k = k
timely_changed n goes (v ∷ vs) us h k = (timely_closed n goes v h.0, timely_changed n goes vs us h.1 k)

timely_made : (n : ℕ) (rows : List Row) → AllByRecursion (IsTimely n) (made n rows)
timely_made n [] = tt
timely_made n (r ∷ rs) = (record { begun = omega arith; ended = tt }, timely_made n rs)

well_next : (n : ℕ) (t : StoredTable) → IsWellKept n t → IsWellKept (n + 1) t
well_next n t h = record { ids = h.ids; times = timely_all_next n t.versions h.times }

well_changed : (n : ℕ) (c : Change) (t : StoredTable) → IsWellKept n t → IsWellKept (n + 1) (kept_table_after n c t)
well_changed n c t h =
    let ds = drafts_of c t.schema (shown n t.versions) in
    let e : length t.versions ≡ 0 + length (map (closed (n + 1) (removes c t.schema)) t.versions) =
    omega (arith, length-map t.versions (closed (n + 1) (removes c t.schema))) in
    record {
      ids = numbered_more 0 (map (closed (n + 1) (removes c t.schema)) t.versions)
          (made (n + 1) (numbered (length t.versions) ds))
          (numbered_closed (n + 1) 0 (removes c t.schema) t.versions h.ids)
          (subst (λ m. IsNumbered m (made (n + 1) (numbered (length t.versions) ds))) e
          (numbered_made (n + 1) (length t.versions) ds));
      times = timely_changed n (removes c t.schema) t.versions (made (n + 1) (numbered (length t.versions) ds)) h.times
          (timely_made (n + 1) (numbered (length t.versions) ds));
    }

all_next : (n : ℕ) (ts : List StoredTable) → AllByRecursion (IsWellKept n) ts → AllByRecursion (IsWellKept (n + 1)) ts
all_next n [] h = tt
all_next n (t ∷ ts) h = (well_next n t h.0, all_next n ts h.1)

all_at_kept : (n : ℕ) (c : Change) (name : List ℕ) (ts : List StoredTable) → AllByRecursion (IsWellKept n) ts
    → AllByRecursion (IsWellKept (n + 1)) (at_kept name (kept_table_after n c) ts)
all_at_kept n c name [] h = tt
all_at_kept n c name (t ∷ ts) h =
    elim (bytes_eq t.name name) as
    (λ b. AllByRecursion (IsWellKept (n + 1))
    (cond b (kept_table_after n c t ∷ ts) (t ∷ at_kept name (kept_table_after n c) ts))) [
      | true ↦ (well_changed n c t h.0, all_next n ts h.1)
      | false ↦ (well_next n t h.0, all_at_kept n c name ts h.1)
    ]

all_and : (P : StoredTable → Type 0) (ts : List StoredTable) (t : StoredTable) → AllByRecursion P ts → P t
    → AllByRecursion P (ts ++ t ∷ [])
all_and P [] t h k = (k, tt)
all_and P (u ∷ us) t h k = (h.0, all_and P us t h.1 k)

all_after : (n : ℕ) (c : Change) (ts : List StoredTable) → AllByRecursion (IsWellKept n) ts
    → AllByRecursion (IsWellKept (n + 1)) (kept_tables_after n ts c)
all_after n (Make table schema) ts h =
    all_and (IsWellKept (n + 1)) ts (record { name = table; schema = schema; versions = [] }) (all_next n ts h)
    (record { ids = tt; times = tt })
all_after n (Load table rows) ts h = all_at_kept n (Load table rows) table ts h
all_after n (Update table portion sets conds) ts h = all_at_kept n (Update table portion sets conds) table ts h
all_after n (Delete table portion conds) ts h = all_at_kept n (Delete table portion conds) table ts h

all_from : (n : ℕ) (ts : List StoredTable) (cs : History) → AllByRecursion (IsWellKept n) ts
    → AllByRecursion (IsWellKept (n + length cs)) (kept_tables_from n ts cs)
all_from n ts [] h = let e : n ≡ n + 0 = omega arith in subst (λ m. AllByRecursion (IsWellKept m) ts) e h
all_from n ts (c ∷ cs) h =
    let e : n + 1 + length cs ≡ n + suc (length cs) =
    omega arith in subst (λ m. AllByRecursion (IsWellKept m) (kept_tables_from n ts (c ∷ cs))) e
    (all_from (n + 1) (kept_tables_after n ts c.change) cs (all_after n c.change ts h))

-- all tables of a book are well kept
pub all_well_kept : (h : History) → AllByRecursion (IsWellKept (length h)) (kept_tables_from 0 [] h)
all_well_kept h =
    let e : 0 + length h ≡ length h =
    omega arith in subst (λ m. AllByRecursion (IsWellKept m) (kept_tables_from 0 [] h)) e (all_from 0 [] h tt)

pub found_well : (n : ℕ) (name : List ℕ) (ts : List StoredTable) → AllByRecursion (IsWellKept n) ts
    → IfSome (kept_table name ts) (IsWellKept n)
found_well n name [] h = tt
found_well n name (t ∷ ts) h =
    elim (bytes_eq t.name name) as
    (λ b. IfSome (cond b (Some t) (kept_table name ts)) (IsWellKept n)) [
      | true ↦ h.0
      | false ↦
          found_well n name ts h.1
    ]
