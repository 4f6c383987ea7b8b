-- Rows that are collected by id and sorted, range by range.
use Rattle.std.proofs.Common.{◌≡◌, ◌≢◌, ◌⊎◌, ℕ, ◌+◌, ◌<◌, [], ◌∷◌, get_or, take, length, add-one, true, ◌&&◌, Bool, false, not, Option, Some, None, List, ◌++◌, filter, refl, sym, subst, ap, ◌∙◌, inl, inr, arith, append-nil}
use mathlib.Core.Bool.{true≢false}
use Rattle.std.specs.Prelude.{AllPairs, Contains, IsPermutation, IsSorted, flat_map}
use Rattle.std.specs.Cmp.{nat_cmp_is}
use Rattle.std.specs.Ordering.{int_cmp, nat_cmp, ordering_then}
use Rattle.std.specs.declared.cmp.Ordering.{Ordering}
use Rattle.std.specs.declared.cmp.Ordering.TheVariants.{Less}
use Rattle.std.proofs.lemmas.Bool.Decides.{nat_tests}
use Rattle.std.proofs.lemmas.Cmp.{nat_cmp_total}
use Rattle.std.proofs.lemmas.List.Elements.{filter-append, All-contains, Contains-append_cases, Contains-append_left, filter_passes}
use Rattle.std.proofs.lemmas.Grind.{common_steps}
use Rattle.std.proofs.Math.Seq.{take-suc}
use Rattle.std.specs.Global.{Vec}
use Rattle.list_core.specs.Chunks.{all_in}
use Rattle.list_core.proofs.ChunkLemmas.{all_in-more}
use Rattle.std.proofs.lemmas.List.Kept.{AllPairs-filter}
use Rattle.std.proofs.lemmas.List.Sorted.{Contains-permutation, IsPermutation-filter_both, IsPermutation-sym}
use Rattle.list_core.specs.Wanted.{IsListOf}
use Rattle.list_core.proofs.WantedLemmas.{IsListOf-append, IsListOf-same}
use Rattle.work_core.specs.Ranges.{has, has_begun, is_from, range}
use Rattle.work_core.specs.Shares.{GivesFrom}
use Rattle.work_core.specs.declared.range.Range.{Range}
use Rattle.work_core.specs.declared.shares.Cut.{Cut}
use Rattle.work_core.proofs.NumberLemmas.{from_is}
use Rattle.work_core.proofs.RangeLemmas.{begun_on, low_has}
use Rattle.work_core.proofs.ShareLemmas.{all_come}
use Rattle.anti_core.specs.declared.rows.AntiRow.{AntiRow}
use Rattle.anti_core.specs.Anti.{AntiRowBefore, anti_cmp}
use Rattle.anti_core.specs.Ordering.{IsRowOf}
use Rattle.anti_core.proofs.OrderLemmas.{sorted_rows}

-- ---- collecting

-- one more row, which passes the test
pub kept-more : (test : AntiRow → Bool) (base list : List AntiRow) (i : ℕ) (row : AntiRow) (old new : List AntiRow)
    → i < length list → row ≡ get_or list i row → test row ≡ true → old ≡ base ++ filter test (take i list)
    → new ≡ old ++ row ∷ [] → new ≡ base ++ filter test (take (i + 1) list)
kept-more test base list i row old new inside at pass was is = grind (arith, common_steps)

-- one more row, which doesn't
pub kept-same : (test : AntiRow → Bool) (base list : List AntiRow) (i : ℕ) (row : AntiRow) (old new : List AntiRow)
    → i < length list → row ≡ get_or list i row → test row ≡ false → old ≡ base ++ filter test (take i list)
    → new ≡ old → new ≡ base ++ filter test (take (i + 1) list)
kept-same test base list i row old new inside at fails was is = grind (arith, common_steps)

-- the rows of one more list
pub kept_in-more : (test : AntiRow → Bool) (lists : List (Vec AntiRow)) (i : ℕ) (list : Vec AntiRow)
    (old new : List AntiRow) → i < length lists → list ≡ get_or lists i list → old ≡ filter test (all_in (take i lists))
    → new ≡ old ++ filter test list.items → new ≡ filter test (all_in (take (i + 1) lists))
kept_in-more test lists i list old new inside at was is =
    let step : take (i + 1) lists ≡ take i lists ++ list ∷ [] =
    ap (λ n. take n lists) (add-one i) ∙ take-suc lists i list inside ∙ ap (λ l. take i lists ++ l ∷ []) (sym at) in
    is ∙ ap (λ z. z ++ filter test list.items) was ∙ sym (filter-append test (all_in (take i lists)) list.items)
    ∙ ap (λ z. filter test z) (sym (all_in-more (take i lists) list)) ∙ ap (λ l. filter test (all_in l)) (sym step)

-- ---- the rows of one range

-- a kept row was there, and passes the test
kept-there : (test : AntiRow → Bool) (rows : List AntiRow) (row : AntiRow) → Contains (filter test rows) row
    → Contains rows row × (test row ≡ true)
kept-there test rows row h = (
  Contains-permutation (filter test rows ++ filter (λ x. not (test x)) rows) rows row
      (IsPermutation-sym rows _ (IsPermutation-filter_both test (λ x. not (test x)) (λ x. refl) rows))
      (Contains-append_left (filter test rows) (filter (λ x. not (test x)) rows) row h),
  All-contains (λ x. test x ≡ true) (filter test rows) row (filter_passes test rows) h,
)

-- a row that was there and passes is kept
kept-from : (test : AntiRow → Bool) (rows : List AntiRow) (row : AntiRow) → Contains rows row → test row ≡ true
    → Contains (filter test rows) row
kept-from test rows row h pass =
    let both = Contains-permutation rows (filter test rows ++ filter (λ x. not (test x)) rows) row
    (IsPermutation-filter_both test (λ x. not (test x)) (λ x. refl) rows) h in
    elim (Contains-append_cases (filter test rows) (filter (λ x. not (test x)) rows) row both) [
      | inl kept ↦ kept
      | inr left ↦
          let fails : not (test row) ≡ true =
          All-contains (λ x. not (test x) ≡ true) (filter (λ x. not (test x)) rows) row
          (filter_passes (λ x. not (test x)) rows) left in
          absurd (true≢false (sym fails ∙ ap not pass))
    ]

-- different rows, sorted
pub all-sorted : (rows sorted : List AntiRow) → AllPairs (λ a b. a ≢ b) rows → IsPermutation rows sorted
    → IsSorted anti_cmp sorted → IsListOf AntiRowBefore (Contains rows) sorted
all-sorted rows sorted differ moved order = record {
  ordered = sorted_rows rows sorted differ moved order;
  exactly = λ row. (
    λ h. Contains-permutation sorted rows row (IsPermutation-sym rows sorted moved) h,
    λ h. Contains-permutation rows sorted row moved h,
  );
}

-- the rows of a range are different, too
pub range-apart : (rows found : List AntiRow) (ids : Range ℕ) → found ≡ filter (λ row. has nat_cmp ids row.id) rows
    → AllPairs (λ a b. a ≢ b) rows → AllPairs (λ a b. a ≢ b) found
range-apart rows found ids are differ =
    subst (AllPairs (λ a b. a ≢ b)) (sym are)
    (AllPairs-filter (λ a b. a ≢ b) (λ (row : AntiRow). has nat_cmp ids row.id) rows differ)

-- the rows of a range, sorted
pub range-sorted : (rows found : List AntiRow) (ids : Range ℕ) (sorted : List AntiRow)
    → found ≡ filter (λ row. has nat_cmp ids row.id) rows → IsListOf AntiRowBefore (Contains found) sorted
    → IsListOf AntiRowBefore (IsRowOf rows ids) sorted
range-sorted rows found ids sorted are lists =
    let test : AntiRow → Bool = λ row. has nat_cmp ids row.id in
    IsListOf-same AntiRowBefore (Contains (filter test rows)) (IsRowOf rows ids) sorted
    (λ row h. (let both = kept-there test rows row h in record { there = both.0; of_range = both.1 }))
    (λ row is. kept-from test rows row is.there is.of_range)
    (subst (λ (some : List AntiRow). IsListOf AntiRowBefore (Contains some) sorted) are lists)

-- ---- two ranges

-- an id within a range is in one of the two halves
id-cases : (b late : Bool) → (b && true) ≡ true → ((b && not late) ≡ true) ⊎ ((late && true) ≡ true)
id-cases true true h = inr refl
id-cases true false h = inl refl
id-cases false late h = absurd (true≢false (sym h))

-- an id of the lower half is within the range
id-low : (b late : Bool) → (b && not late) ≡ true → (b && true) ≡ true
id-low true late h = refl
id-low false late h = h

-- a conjunction with `true`
and-true : (b : Bool) → (b && true) ≡ true → b ≡ true
and-true true h = refl
and-true false h = h

-- an id of the lower half is below an id of the higher half
id-below : (from : Option ℕ) (at a b : ℕ) → has nat_cmp (range from (Some at)) a ≡ true
    → has nat_cmp (range (Some at) None) b ≡ true → a < b
id-below from at a b low high =
    let one = from_is at a in
    let other = from_is at b in
    let cut = low_has nat_cmp nat_cmp_total from at a in
    grind (arith, nat_tests, one, other, cut, low, high)

-- rows with lower ids come before rows with higher ones
lower-before : (a b : AntiRow) → a.id < b.id → AntiRowBefore a b
lower-before a b lower =
    ap (λ (o : Ordering). ordering_then o (ordering_then (int_cmp a.period.from b.period.from)
    (int_cmp a.period.to b.period.to))) (sym (nat_cmp_is a.id b.id Less lower))

-- the rows with lower ids, followed by the rows with higher ones
range-cut : (rows : List AntiRow) (from : Option ℕ) (at : ℕ) (lows highs : List AntiRow)
    → has_begun nat_cmp from at ≡ true → IsListOf AntiRowBefore (IsRowOf rows (range from (Some at))) lows
    → IsListOf AntiRowBefore (IsRowOf rows (range (Some at) None)) highs
    → IsListOf AntiRowBefore (IsRowOf rows (range from None)) (lows ++ highs)
range-cut rows from at lows highs begun one other =
    IsListOf-append AntiRowBefore (IsRowOf rows (range from (Some at))) (IsRowOf rows (range (Some at) None))
    (IsRowOf rows (range from None)) lows highs one other
    (λ a b i j. lower-before a b (id-below from at a.id b.id i.of_range j.of_range))
    (λ row is. record {
      there = is.there;
      of_range = id-low (has_begun nat_cmp from row.id) (is_from nat_cmp at row.id) is.of_range;
    })
    (λ row is. record {
      there = is.there;
      of_range = (let begins = begun_on nat_cmp nat_cmp_total from at row.id begun
          (and-true (is_from nat_cmp at row.id) is.of_range) in
          rw begins refl);
    })
    (λ row is.
    elim (id-cases (has_begun nat_cmp from row.id) (is_from nat_cmp at row.id) is.of_range) [
      | inl h ↦ inl (record { there = is.there; of_range = h })
      | inr h ↦ inr (record { there = is.there; of_range = h })
    ])

-- ---- all ranges

-- The result for a range: the number of workers, the range, and the rows.
abbrev Given : List AntiRow → Range ℕ → List AntiRow → Type 0
Given rows ids some = ℕ × (Range ℕ × IsListOf AntiRowBefore (IsRowOf rows ids) some)

-- the rows of all ranges of ids together are all rows
pub ranges-ordered : (rows : List AntiRow) (cuts : List (Cut ℕ)) (lists : List (List AntiRow))
    → GivesFrom nat_cmp (Given rows) None cuts lists
    → IsListOf AntiRowBefore (Contains rows) (flat_map (λ (some : List AntiRow). some) lists)
ranges-ordered rows cuts lists given =
    let all = flat_map (λ (some : List AntiRow). some) lists in
    IsListOf-same AntiRowBefore (IsRowOf rows (range None None)) (Contains rows) all (λ row is. is.there)
    (λ row h. record { there = h; of_range = refl })
    (all_come nat_cmp (Given rows)
    (λ (ids : Range ℕ) (ls : List (List AntiRow)).
    IsListOf AntiRowBefore (IsRowOf rows ids) (flat_map (λ (some : List AntiRow). some) ls))
    (λ ids some g.
    subst (IsListOf AntiRowBefore (IsRowOf rows ids)) (sym (append-nil some)) g.1.1)
    (λ from at some ls begun g rest.
    range-cut rows from at some (flat_map (λ (one : List AntiRow). one) ls) begun g.1.1
    rest)
    None cuts lists given)
