-- The order of a join's rows, and sorted lists of rows.
use Rattle.std.proofs.Common.{◌≡◌, ◌≢◌, List, AllPairs, sym, ap}
use Rattle.std.specs.Prelude.{IsPermutation, IsSorted}
use Rattle.std.specs.Bool.{Decides}
use Rattle.std.specs.declared.cmp.Ordering.TheVariants.{Equal}
use Rattle.std.specs.Cmp.{IsTotalOrder}
use Rattle.std.proofs.lemmas.Cmp.{then_total, on_total, int_cmp_total, nat_cmp_total, int_ranked, ranked}
use Rattle.std.proofs.lemmas.Bool.Decides.{Decides-eqb, Decides-int_eq, Decides-and, Decides-like}
use Rattle.list_core.proofs.RisingLemmas.{IsListOf-unique}
use Rattle.list_core.proofs.OrderedLemmas.{both_tie, before-asym, sorted_in_order}
use Rattle.period_core.proofs.PeriodLemmas.{Period-same}
use Rattle.row_core.specs.declared.row.Row.{Row}
use Rattle.join_core.specs.declared.rows.JoinRow.{JoinRow}
use Rattle.join_core.specs.Join.{join_cmp, RowBefore, IsJoinRow, IsJoin}
use Rattle.join_core.specs.contracts.rows.JoinRowPartialEq.TheImpl.{eq-value}

-- a row is determined by its fields
pub JoinRow-same_fields : (a b : JoinRow) → a.period ≡ b.period → a.left ≡ b.left → a.right ≡ b.right → a ≡ b
JoinRow-same_fields a b p l r = λ k. record { period = p k; left = l k; right = r k }

-- `==` decides whether two rows are equal
pub row_eq-Decides : (a b : JoinRow) → Decides (eq-value.it a b) (a ≡ b)
row_eq-Decides a b = Decides-like _
    (λ h. JoinRow-same_fields a b (Period-same a.period b.period h.0.0 h.0.1) h.1.0 h.1.1)
    (λ e. (
      (ap (λ (v : JoinRow). v.period.from) e, ap (λ (v : JoinRow). v.period.to) e),
      (ap (λ (v : JoinRow). v.left) e, ap (λ (v : JoinRow). v.right) e),
    ))
    (Decides-and _ _
    (Decides-and _ _ (Decides-int_eq a.period.from b.period.from) (Decides-int_eq a.period.to b.period.to))
    (Decides-and _ _ (Decides-eqb a.left b.left) (Decides-eqb a.right b.right)))

-- the order is total
pub join_total : IsTotalOrder join_cmp
join_total =
    then_total (then_total (on_total (λ x. x.period.from) int_cmp_total) (on_total (λ x. x.period.to) int_cmp_total))
    (then_total (on_total (λ x. x.left) nat_cmp_total) (on_total (λ x. x.right) nat_cmp_total))

-- two joins of the same rows are equal
pub IsJoin-unique : (Matches : Row → Row → Type 0) (left right : List Row) (one other : List JoinRow)
    → IsJoin Matches left right one → IsJoin Matches left right other → one ≡ other
IsJoin-unique Matches left right one other is is' =
    IsListOf-unique RowBefore (IsJoinRow Matches left right) one other (before-asym join_cmp join_total) is is'

-- rows that compare as equal are equal
pub tied_rows : (a b : JoinRow) → join_cmp a b ≡ Equal → a ≡ b
tied_rows a b e =
    let halves = both_tie _ _ e in
    let ends = both_tie _ _ halves.0 in
    let ids = both_tie _ _ halves.1 in
    JoinRow-same_fields a b
    (Period-same a.period b.period (int_ranked a.period.from b.period.from Equal (sym ends.0))
    (int_ranked a.period.to b.period.to Equal (sym ends.1)))
    (ranked a.left b.left Equal (sym ids.0)) (ranked a.right b.right Equal (sym ids.1))

-- different rows are in strict order once they are sorted
pub sorted_rows : (xs ys : List JoinRow) → AllPairs (λ x y. x ≢ y) xs → IsPermutation xs ys → IsSorted join_cmp ys
    → AllPairs RowBefore ys
sorted_rows xs ys differ moved sorted =
    sorted_in_order join_cmp join_total tied_rows eq-value.it row_eq-Decides xs ys differ moved sorted
