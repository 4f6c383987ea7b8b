-- Rows with their system periods.
use Rattle.std.proofs.Common.{◌≡◌, ℕ, ◌<◌, ◌≤◌, List, [], ◌∷◌, ◌++◌, ◌+◌, Bool, true, false, ◌&&◌, leb, cond, Some, None, length, map, get_or, set, length-set, zero, suc, replicate, refl, ap, sym, ◌∙◌, arith}
use Rattle.std.specs.Prelude.{count_by, option_map, slice_get, slice_set, unwrap_or}
use Rattle.std.specs.List.{cons_option}
use Rattle.list_core.proofs.MadeLemmas.{count-cons}
use Rattle.std.proofs.lemmas.Option.{get_or_from_slice_get}
use Rattle.row_core.specs.declared.draft.Draft.{Draft}
use Rattle.row_core.specs.declared.row.Row.{Row}
use Rattle.table_core.specs.Numbered.{numbered, row_of}
use Rattle.table_core.proofs.NumberedLemmas.{length-numbered, slice_get-numbered}
use Rattle.version_core.specs.Made.{made}
use Rattle.version_core.specs.OpenVersions.{closed_at}
use Rattle.version_core.specs.Shown.{is_behind, shown, shows}
use Rattle.version_core.specs.Stored.{SystemPeriod, version_of, versions_of}
use Rattle.version_core.specs.declared.version.Version.{Version}

-- there are as many versions as rows
pub length-versions_of : (rows : List Row) (system_periods : List SystemPeriod) → length rows ≡ length system_periods
    → length (versions_of rows system_periods) ≡ length system_periods
length-versions_of [] system_periods same = same
length-versions_of (r ∷ rs) [] same = absurd (omega (arith, same))
length-versions_of (r ∷ rs) (s ∷ ss) same = ap suc (length-versions_of rs ss (omega (arith, same)))

-- an index of a list
pub slice_get-inside : {X : Type 0} (xs : List X) (place : ℕ) (x : X) → slice_get xs place ≡ Some x
    → place < length xs
slice_get-inside [] place x e = absurd (cc)
slice_get-inside (y ∷ ys) zero x e = omega arith
slice_get-inside (y ∷ ys) (suc place) x e = let rest = slice_get-inside ys place x e in omega (arith, rest)

pub slice_get-versions_of : (rows : List Row) (system_periods : List SystemPeriod) (place : ℕ) (row : Row)
    (system_period : SystemPeriod)
    → length rows ≡ length system_periods → slice_get rows place ≡ Some row
    → system_period ≡ get_or system_periods place system_period
    → Some (version_of row system_period) ≡ slice_get (versions_of rows system_periods) place
slice_get-versions_of [] system_periods place row system_period same r s = absurd (cc)
slice_get-versions_of (r ∷ rs) [] place row system_period same e f = absurd (omega (arith, same))
slice_get-versions_of (r ∷ rs) (s ∷ ss) zero row system_period same e f =
    let one : row ≡ r = cc in
    ap (λ x. Some (version_of x system_period)) one ∙ ap (λ x. Some (version_of r x)) f
slice_get-versions_of (r ∷ rs) (s ∷ ss) (suc place) row system_period same e f =
    slice_get-versions_of rs ss place row system_period (omega (arith, same)) e f

-- a version, by its row and its system period
pub get_or-versions_of : (rows : List Row) (system_periods : List SystemPeriod) (place : ℕ) (row : Row)
    (system_period : SystemPeriod)
    (vs : List Version) → versions_of rows system_periods ≡ vs → place < length rows → place < length system_periods
    → row ≡ get_or rows place row → system_period ≡ get_or system_periods place system_period
    → version_of row system_period ≡ get_or vs place (version_of row system_period)
get_or-versions_of [] system_periods place row system_period vs e inside beside r s = absurd (omega (arith, inside))
get_or-versions_of (x ∷ xs) [] place row system_period vs e inside beside r s = absurd (omega (arith, beside))
get_or-versions_of (x ∷ xs) (y ∷ ys) zero row system_period vs e inside beside r s =
    ap (λ z. version_of z system_period) r ∙ ap (version_of x) s
    ∙ ap (λ l. get_or l zero (version_of row system_period)) e
get_or-versions_of (x ∷ xs) (y ∷ ys) (suc place) row system_period vs e inside beside r s =
    get_or-versions_of xs ys place row system_period (versions_of xs ys) refl (omega (arith, inside))
    (omega (arith, beside)) r s
    ∙ ap (λ l. get_or l (suc place) (version_of row system_period)) e

-- the version of some row, by its system period
pub version-beside : (rows : List Row) (system_periods : List SystemPeriod) (place : ℕ) (system_period : SystemPeriod)
    (vs : List Version)
    → versions_of rows system_periods ≡ vs → length rows ≡ length system_periods → place < length system_periods
    → system_period ≡ get_or system_periods place system_period
    → (row : Row) × (version_of row system_period ≡ get_or vs place (version_of row system_period))
version-beside [] system_periods place system_period vs e same inside s = absurd (omega (arith, same, inside))
version-beside (x ∷ xs) [] place system_period vs e same inside s = absurd (omega (arith, inside))
version-beside (x ∷ xs) (y ∷ ys) zero system_period vs e same inside s = (
  x,
  ap (version_of x) s ∙ ap (λ l. get_or l zero (version_of x system_period)) e,
)
version-beside (x ∷ xs) (y ∷ ys) (suc place) system_period vs e same inside s =
    let rest = version-beside xs ys place system_period (versions_of xs ys) refl (omega (arith, same))
    (omega (arith, inside)) s in (
      rest.0,
      rest.1 ∙ ap (λ l. get_or l (suc place) (version_of rest.0 system_period)) e,
    )

-- the version of the draft at an index
pub version-at : (drafts : List Draft) (system_periods : List SystemPeriod) (place : ℕ) (draft : Draft) (row : Row)
    (system_period : SystemPeriod)
    (vs : List Version) → versions_of (numbered 0 drafts) system_periods ≡ vs → place < length drafts
    → place < length system_periods
    → slice_get drafts place ≡ Some draft → row ≡ row_of (place + 1) draft
    → system_period ≡ get_or system_periods place system_period
    → version_of row system_period ≡ get_or vs place (version_of row system_period)
version-at drafts system_periods place draft row system_period vs e inside beside d r s =
    let within : place < length (numbered 0 drafts) = omega (arith, inside, length-numbered 0 drafts) in
    let first : 0 + place + 1 ≡ place + 1 = omega arith in
    let there : slice_get (numbered 0 drafts) place ≡ Some row =
    slice_get-numbered 0 drafts place draft d ∙ ap (λ n. Some (row_of n draft)) first ∙ ap Some (sym r) in
    get_or-versions_of (numbered 0 drafts) system_periods place row system_period vs e within beside
    (sym (get_or_from_slice_get (numbered 0 drafts) place row row there)) s

pub slice_get-past : (rows : List Row) (system_periods : List SystemPeriod) (place : ℕ)
    → length rows ≡ length system_periods
    → slice_get rows place ≡ None → slice_get (versions_of rows system_periods) place ≡ None
slice_get-past [] [] place same e = refl
slice_get-past [] (s ∷ ss) place same e = absurd (omega (arith, same))
slice_get-past (r ∷ rs) [] place same e = absurd (omega (arith, same))
slice_get-past (r ∷ rs) (s ∷ ss) zero same e = absurd (cc)
slice_get-past (r ∷ rs) (s ∷ ss) (suc place) same e = slice_get-past rs ss place (omega (arith, same)) e

-- the versions' rows
pub rows-versions_of : (rows : List Row) (system_periods : List SystemPeriod) → length rows ≡ length system_periods
    → rows ≡ map (λ (v : Version). v.row) (versions_of rows system_periods)
rows-versions_of [] system_periods same = refl
rows-versions_of (r ∷ rs) [] same = absurd (omega (arith, same))
rows-versions_of (r ∷ rs) (s ∷ ss) same = ap (λ l. r ∷ l) (rows-versions_of rs ss (omega (arith, same)))

pub versions_of-append : (rows more : List Row) (system_periods others : List SystemPeriod)
    → length rows ≡ length system_periods
    → versions_of (rows ++ more) (system_periods ++ others) ≡ versions_of rows system_periods ++ versions_of more others
versions_of-append [] more [] others same = refl
versions_of-append [] more (s ∷ ss) others same = absurd (omega (arith, same))
versions_of-append (r ∷ rs) more [] others same = absurd (omega (arith, same))
versions_of-append (r ∷ rs) more (s ∷ ss) others same =
    ap (λ l. version_of r s ∷ l) (versions_of-append rs more ss others (omega (arith, same)))

versions_of-made : (n : ℕ) (rows : List Row)
    → versions_of rows (replicate (length rows) (record { from = n; to = None })) ≡ made n rows
versions_of-made n [] = refl
versions_of-made n (r ∷ rs) =
    ap (λ l. version_of r (record { from = n; to = None }) ∷ l) (versions_of-made n rs)

-- more versions, which a commit creates
pub versions_of-grown : (n : ℕ) (rows more all : List Row) (system_periods now : List SystemPeriod) (count : ℕ)
    → length rows ≡ length system_periods → all ≡ rows ++ more → count ≡ length more
    → now ≡ system_periods ++ replicate count (record { from = n; to = None })
    → versions_of all now ≡ versions_of rows system_periods ++ made n more
versions_of-grown n rows more all system_periods now count same a k grown =
    ap (λ l. versions_of l now) a ∙ ap (versions_of (rows ++ more)) grown
    ∙ ap (λ c. versions_of (rows ++ more) (system_periods ++ replicate c (record { from = n; to = None }))) k
    ∙ versions_of-append rows more system_periods (replicate (length more) (record { from = n; to = None })) same
    ∙ ap (λ l. versions_of rows system_periods ++ l) (versions_of-made n more)

closed_at-behind : (n : ℕ) (v : Version) (vs : List Version) (place : ℕ)
    → closed_at n (v ∷ vs) (suc place) ≡ v ∷ closed_at n vs place
closed_at-behind n v vs place =
    elim (slice_get vs place) as
    (λ o. unwrap_or
    (option_map (λ (w : Version). slice_set (v ∷ vs) (suc place) (record w { systo = Some n })) o) (v ∷ vs)
    ≡ v ∷ unwrap_or (option_map (λ (w : Version). slice_set vs place (record w { systo = Some n })) o) vs) [
      | None ↦ refl
      | Some w ↦ refl
    ]

-- one version, which a commit ends
pub closed_at-versions_of : (n : ℕ) (rows : List Row) (system_periods : List SystemPeriod) (place : ℕ)
    (system_period : SystemPeriod)
    → length rows ≡ length system_periods → place < length system_periods
    → system_period ≡ get_or system_periods place system_period
    → versions_of rows (set system_periods place (record { from = system_period.from; to = Some n }))
    ≡ closed_at n (versions_of rows system_periods) place
closed_at-versions_of n [] system_periods place system_period same inside e = absurd (omega (arith, same, inside))
closed_at-versions_of n (r ∷ rs) [] place system_period same inside e = absurd (omega (arith, same))
closed_at-versions_of n (r ∷ rs) (s ∷ ss) zero system_period same inside e =
    ap (λ (x : SystemPeriod). version_of r (record { from = x.from; to = Some n }) ∷ versions_of rs ss) e
closed_at-versions_of n (r ∷ rs) (s ∷ ss) (suc place) system_period same inside e =
    ap (λ l. version_of r s ∷ l)
    (closed_at-versions_of n rs ss place system_period (omega (arith, same)) (omega (arith, inside)) e)
    ∙ sym (closed_at-behind n (version_of r s) (versions_of rs ss) place)

pub length-closed : (n : ℕ) (rows : List Row) (system_periods : List SystemPeriod) (place from : ℕ)
    → length rows ≡ length system_periods
    → length (versions_of rows (set system_periods place (record { from = from; to = Some n })))
    ≡ length (versions_of rows system_periods)
length-closed n rows system_periods place from same =
    let system_period : SystemPeriod = record { from = from; to = Some n } in
    length-versions_of rows (set system_periods place system_period)
    (same ∙ sym (length-set system_periods place system_period))
    ∙ length-set system_periods place system_period ∙ sym (length-versions_of rows system_periods same)

pub length-shown : (n : ℕ) (vs : List Version) → length (shown n vs) ≤ length vs
length-shown n [] = omega arith
length-shown n (v ∷ vs) =
    let rest = length-shown n vs in
    elim (shows n v) as
    (λ b. length (cons_option (cond b (Some v.row) None) (shown n vs)) ≤ suc (length vs)) [
      | true ↦ omega (arith, rest)
      | false ↦ omega (arith, rest)
    ]

-- if the visible versions are as numerous as all, all are visible
pub shown-all : (n : ℕ) (vs : List Version) → length (shown n vs) ≡ length vs
    → map (λ (v : Version). v.row) vs ≡ shown n vs
shown-all n [] = λ same. refl
shown-all n (v ∷ vs) = by_test (length-shown n vs) (shown-all n vs) (shows n v) where
  by_test : length (shown n vs) ≤ length vs
      → (length (shown n vs) ≡ length vs → map (λ (v : Version). v.row) vs ≡ shown n vs) → (b : Bool)
      → length (cons_option (cond b (Some v.row) None) (shown n vs)) ≡ suc (length vs)
      → v.row ∷ map (λ (v : Version). v.row) vs ≡ cons_option (cond b (Some v.row) None) (shown n vs)
  by_test few rest true same = ap (λ l. v.row ∷ l) (rest (omega (arith, same)))
  by_test few rest false same = absurd (omega (arith, few, same))

-- how many versions are visible
pub length-shown_of : (n : ℕ) (rows : List Row) (system_periods : List SystemPeriod) (vs : List Version)
    → versions_of rows system_periods ≡ vs
    → length rows ≡ length system_periods
    → count_by (λ (system_period : SystemPeriod). leb system_period.from n && is_behind system_period.to n)
    system_periods ≡ length (shown n vs)
length-shown_of n [] [] vs e same = ap (λ l. length (shown n l)) e
length-shown_of n [] (s ∷ ss) vs e same = absurd (omega (arith, same))
length-shown_of n (r ∷ rs) [] vs e same = absurd (omega (arith, same))
length-shown_of n (r ∷ rs) (s ∷ ss) vs e same =
    count-cons (λ (system_period : SystemPeriod). leb system_period.from n && is_behind system_period.to n) s ss
    ∙ by_test (length-shown_of n rs ss (versions_of rs ss) refl (omega (arith, same))) (shows n (version_of r s))
    ∙ ap (λ l. length (shown n l)) e where
      by_test : count_by (λ (system_period : SystemPeriod). leb system_period.from n && is_behind system_period.to n) ss
          ≡ length (shown n (versions_of rs ss))
          → (b : Bool) → cond b 1 0 + count_by
          (λ (system_period : SystemPeriod). leb system_period.from n && is_behind system_period.to n) ss
          ≡ length (cons_option (cond b (Some r) None) (shown n (versions_of rs ss)))
      by_test rest true = omega (arith, rest)
      by_test rest false = omega (arith, rest)
