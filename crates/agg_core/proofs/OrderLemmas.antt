-- Groups by their order, keys as their values, and the total order of an aggregate's rows.
use Rattle.std.proofs.Common.{◌≡◌, ◌⊎◌, Bool, true, false, Option, inl, inr, refl, sym, ap, ◌∙◌}
use Rattle.std.specs.declared.cmp.Ordering.{Ordering}
use Rattle.std.specs.declared.cmp.Ordering.TheVariants.{Less, Equal, Greater}
use Rattle.std.specs.Ordering.{is_lt, ordering_reverse}
use Rattle.std.specs.Cmp.{IsTotalOrder}
use Rattle.std.proofs.lemmas.Cmp.{int_cmp_total, then_total, on_total, tied_itself}
use Rattle.row_core.specs.ValueOrder.{maybe_cmp, value_cmp}
use Rattle.row_core.specs.declared.value.Value.{Value}
use Rattle.row_core.proofs.ValueLemmas.{maybe_exact, maybe_total}
use Rattle.list_core.proofs.RisingLemmas.{IsListOf-unique}
use Rattle.list_core.proofs.OrderedLemmas.{before-asym}
use Rattle.agg_core.specs.declared.entries.Entry.{Entry}
use Rattle.agg_core.specs.declared.rows.AggRow.{AggRow}
use Rattle.agg_core.specs.Agg.{AggHasOneList, IsAggRow, amount_in, measure_of, value_in}
use Rattle.agg_core.specs.Groups.{AggRowBefore, agg_row_cmp}
use Rattle.agg_core.specs.Entries.{entry_value}
use Rattle.agg_core.specs.Grouping.{GroupBefore}

-- ---- groups

-- a group comes before another one, equals it, or comes after it
group_cases : (a b : Option Value) → GroupBefore a b ⊎ ((a ≡ b) ⊎ GroupBefore b a)
group_cases a b = by_cmp (maybe_cmp a b) refl where
  by_cmp : (o : Ordering) → maybe_cmp a b ≡ o → GroupBefore a b ⊎ ((a ≡ b) ⊎ GroupBefore b a)
  by_cmp Less e = inl e
  by_cmp Equal e = inr (inl (maybe_exact a b e))
  by_cmp Greater e = inr (inr (maybe_total.antisymm b a ∙ ap ordering_reverse e))

-- a group that doesn't come after another one comes before it, or equals it
pub not_after : (a b : Option Value) → is_lt (maybe_cmp b a) ≡ false → GroupBefore a b ⊎ (a ≡ b)
not_after a b h = elim (group_cases a b) [
  | inl e ↦ inl e
  | inr c ↦ elim c [
    | inl e ↦ inr e
    | inr e ↦ absurd (let bad : true ≡ false = ap is_lt (sym e) ∙ h in cc)
  ]
]

-- a group that comes before another one, or equals it, doesn't come after it
pub not_after-from : (a b : Option Value) → GroupBefore a b ⊎ (a ≡ b) → is_lt (maybe_cmp b a) ≡ false
not_after-from a b (inl e) = ap is_lt (maybe_total.antisymm b a ∙ ap ordering_reverse e)
not_after-from a b (inr e) =
    ap (λ (v : Option Value). is_lt (maybe_cmp b v)) e ∙ ap is_lt (tied_itself maybe_total b)

-- ---- keys

-- Keys have the order of their values.
abbrev pub AreOrdered : {K : Type 0} → (K → Value) → (K → K → Ordering) → Type 0
AreOrdered {K} value_of cmp = (a b : K) → cmp a b ≡ value_cmp (value_of a) (value_of b)

-- An entry's key is below another's.
abbrev pub key_lt : {K : Type 0} → (K → K → Ordering) → Entry K → Entry K → Bool
key_lt cmp x y = is_lt (cmp x.key y.key)

-- An entry's value is below another's.
abbrev pub value_lt : {K : Type 0} → (K → Value) → Entry K → Entry K → Bool
value_lt value_of x y = is_lt (value_cmp (entry_value value_of x) (entry_value value_of y))

-- both tests are equal
pub key_lt-value : {K : Type 0} (value_of : K → Value) (cmp : K → K → Ordering) → AreOrdered value_of cmp
    → key_lt cmp ≡ value_lt value_of
key_lt-value value_of cmp ordered = λ i x y. is_lt (ordered x.key y.key i)

-- ---- rows of aggregates

-- the order of rows is total
pub agg_row_total : IsTotalOrder agg_row_cmp
agg_row_total =
    then_total (on_total (λ (x : AggRow). x.group) maybe_total) (on_total (λ (x : AggRow). x.period.from) int_cmp_total)

-- two aggregates of the same rows are equal
pub one_aggregate : AggHasOneList
one_aggregate columns func group rows one other is is' =
    IsListOf-unique AggRowBefore
    (IsAggRow (measure_of func) (amount_in columns func) (value_in columns group) rows) one other
    (before-asym agg_row_cmp agg_row_total) is is'
