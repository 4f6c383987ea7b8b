-- The order of an anti-join's rows, and sorted lists of rows.
use Rattle.std.proofs.Common.{◌≡◌, ◌≢◌, List, AllPairs, sym, ap}
use Rattle.std.specs.Prelude.{IsPermutation, IsSorted}
use Rattle.std.specs.Bool.{Decides}
use Rattle.std.specs.Cmp.{IsTotalOrder}
use Rattle.std.specs.declared.cmp.Ordering.TheVariants.{Equal}
use Rattle.std.proofs.lemmas.Cmp.{then_total, on_total, int_cmp_total, nat_cmp_total, int_ranked, ranked}
use Rattle.std.proofs.lemmas.Bool.Decides.{Decides-eqb, Decides-int_eq, Decides-and, Decides-like}
use Rattle.list_core.proofs.OrderedLemmas.{both_tie, sorted_in_order}
use Rattle.period_core.proofs.PeriodLemmas.{Period-same}
use Rattle.anti_core.specs.declared.rows.AntiRow.{AntiRow}
use Rattle.anti_core.specs.Anti.{anti_cmp, AntiRowBefore}
use Rattle.anti_core.specs.contracts.rows.AntiRowPartialEq.TheImpl.{eq-value}

-- a row is determined by its fields
pub AntiRow-same_fields : (a b : AntiRow) → a.id ≡ b.id → a.period ≡ b.period → a ≡ b
AntiRow-same_fields a b i p = λ k. record { id = i k; period = p k }

-- `==` decides whether two rows are equal
row_eq-Decides : (a b : AntiRow) → Decides (eq-value.it a b) (a ≡ b)
row_eq-Decides a b = Decides-like _
    (λ h. AntiRow-same_fields a b h.0 (Period-same a.period b.period h.1.0 h.1.1))
    (λ e. (
      ap (λ (v : AntiRow). v.id) e,
      (ap (λ (v : AntiRow). v.period.from) e, ap (λ (v : AntiRow). v.period.to) e),
    ))
    (Decides-and _ _ (Decides-eqb a.id b.id)
    (Decides-and _ _ (Decides-int_eq a.period.from b.period.from) (Decides-int_eq a.period.to b.period.to)))

-- the order is total
pub anti_total : IsTotalOrder anti_cmp
anti_total =
    then_total (on_total (λ x. x.id) nat_cmp_total)
    (then_total (on_total (λ x. x.period.from) int_cmp_total) (on_total (λ x. x.period.to) int_cmp_total))

-- rows that compare as equal are equal
pub tied_rows : (a b : AntiRow) → anti_cmp a b ≡ Equal → a ≡ b
tied_rows a b e =
    let halves = both_tie _ _ e in
    let ends = both_tie _ _ halves.1 in
    AntiRow-same_fields a b (ranked a.id b.id Equal (sym halves.0))
    (Period-same a.period b.period (int_ranked a.period.from b.period.from Equal (sym ends.0))
    (int_ranked a.period.to b.period.to Equal (sym ends.1)))

-- different rows are in strict order once they are sorted
pub sorted_rows : (xs ys : List AntiRow) → AllPairs (λ x y. x ≢ y) xs → IsPermutation xs ys → IsSorted anti_cmp ys
    → AllPairs AntiRowBefore ys
sorted_rows xs ys differ moved sorted =
    sorted_in_order anti_cmp anti_total tied_rows eq-value.it row_eq-Decides xs ys differ moved sorted
