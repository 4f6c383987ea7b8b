-- The aggregate of rows that stand for others.
use Rattle.std.proofs.Common.{◌≡◌, ℤ, Bool, true, false, cond, List, [], ◌∷◌, length, map, Option, refl, sym, ap, subst, ◌∙◌, arith}
use Rattle.std.specs.Prelude.{Contains}
use Rattle.std.specs.declared.cmp.Ordering.{Ordering}
use Rattle.std.specs.declared.cmp.Ordering.TheVariants.{Less, Equal, Greater}
use Rattle.std.specs.Ordering.{int_cmp, ordering_reverse, ordering_then}
use Rattle.std.proofs.lemmas.Cmp.{tied_itself}
use Rattle.std.proofs.lemmas.List.Elements.{All-contains_itself}
use Rattle.std.proofs.lemmas.List.{length-map}
use Rattle.period_core.specs.declared.period.Period.{Period}
use Rattle.period_core.specs.Period.{holds_at}
use Rattle.row_core.specs.ValueOrder.{maybe_cmp, same_maybe}
use Rattle.row_core.specs.declared.row.Row.{Row}
use Rattle.row_core.specs.declared.value.Value.{Value}
use Rattle.list_core.proofs.RisingLemmas.{Contains-cons, Contains-head}
use Rattle.list_core.specs.Wanted.{IsListOf}
use Rattle.list_core.proofs.MadeLemmas.{AllPairs-map, Contains-map, Contains-map_source}
use Rattle.row_core.proofs.ValueLemmas.{maybe-same, maybe-tie, maybe_exact, maybe_total}
use Rattle.match_core.proofs.SentLemmas.{cons-same}
use Rattle.merge_core.specs.Gaps.{IsMaximal}
use Rattle.merge_core.proofs.SweepLemmas.{IsMaximal-same}
use Rattle.round_core.specs.declared.measure.Measure.{Measure}
use Rattle.agg_core.specs.declared.rows.AggRow.{AggRow}
use Rattle.agg_core.specs.Agg.{AreAggRows, ComeTo, HoldAndComeTo, IsAgg, IsAggRow, amount_in, measure_of, rows_on, value_in}
use Rattle.agg_core.specs.AggStandIns.{AggIsOfRanks, AggIsOfStandIns, RankGroups, with_group}
use Rattle.agg_core.specs.Groups.{AggRowBefore, rows_of_group}
use Rattle.agg_core.proofs.AggExistence.{some_aggregate}
use Rattle.agg_core.proofs.OrderLemmas.{one_aggregate}
use Rattle.agg_core.proofs.PlateauLemmas.{row_of_group}

-- rows with the same amounts at an instant have the same value there
same_amounts : (measure : Measure) (amount_here amount_there : Row → ℤ) (some other : List Row) (value t : ℤ)
    → map amount_here (rows_on t some) ≡ map amount_there (rows_on t other)
    → HoldAndComeTo measure amount_here some value t → HoldAndComeTo measure amount_there other value t
same_amounts measure amount_here amount_there some other value t e h =
    let long = length-map (rows_on t some) amount_here in
    let long' = length-map (rows_on t other) amount_there in
    let alike : length (map amount_here (rows_on t some)) ≡ length (map amount_there (rows_on t other)) = ap length e in
    let any = h.some in
    record { some = omega (arith, long, long', alike, any); is = subst (λ l. ComeTo measure l value) e h.is }

module _ (amount_here amount_there : Row → ℤ) (group_here group_there : Row → Option Value) (row_of : Row → Row)
    (group other : Option Value) (t : ℤ) where
  -- if rows are of a group exactly if the rows they stand for are of another, both have the same amounts at an instant
  amounts_there : (rows : List Row)
      → ((row : Row) → Contains rows row → (row_of row).period ≡ row.period)
      → ((row : Row) → Contains rows row → amount_there (row_of row) ≡ amount_here row)
      → ((row : Row) → Contains rows row
      → same_maybe (group_here row) group ≡ same_maybe (group_there (row_of row)) other)
      → map amount_here (rows_on t (rows_of_group group_here group rows))
      ≡ map amount_there (rows_on t (rows_of_group group_there other (map row_of rows)))
  amounts_there [] periods amounts groups = refl
  amounts_there (r ∷ rows) periods amounts groups =
      own (same_maybe (group_here r) group) (same_maybe (group_there (row_of r)) other)
      (groups r (Contains-head r rows))
      (rows_of_group group_here group rows) (rows_of_group group_there other (map row_of rows))
      (amounts_there rows (λ x h. periods x (Contains-cons r rows x h)) (λ x h. amounts x (Contains-cons r rows x h))
      (λ x h. groups x (Contains-cons r rows x h)))
    where
      held : (b c : Bool) → b ≡ c → (xs ys : List Row) → map amount_here xs ≡ map amount_there ys
          → map amount_here (cond b (r ∷ xs) xs) ≡ map amount_there (cond c (row_of r ∷ ys) ys)
      held true c e xs ys rest =
          cons-same (amount_here r) (amount_there (row_of r)) (map amount_here xs) (map amount_there ys)
          (sym (amounts r (Contains-head r rows))) rest
          ∙ ap (λ (v : Bool). map amount_there (cond v (row_of r ∷ ys) ys)) e
      held false c e xs ys rest = rest ∙ ap (λ (v : Bool). map amount_there (cond v (row_of r ∷ ys) ys)) e

      own : (b c : Bool) → b ≡ c → (xs ys : List Row) → map amount_here (rows_on t xs) ≡ map amount_there (rows_on t ys)
          → map amount_here (rows_on t (cond b (r ∷ xs) xs))
          ≡ map amount_there (rows_on t (cond c (row_of r ∷ ys) ys))
      own true c e xs ys rest =
          held (holds_at t r.period) (holds_at t (row_of r).period)
          (sym (ap (λ (p : Period). holds_at t p) (periods r (Contains-head r rows)))) (rows_on t xs) (rows_on t ys)
          rest
          ∙ ap (λ (v : Bool). map amount_there (rows_on t (cond v (row_of r ∷ ys) ys))) e
      own false c e xs ys rest =
          rest ∙ ap (λ (v : Bool). map amount_there (rows_on t (cond v (row_of r ∷ ys) ys))) e

-- mapping groups by an increasing function keeps their order
rise_alike : (group_of : Option Value → Option Value) (a b : Option Value)
    → (maybe_cmp a b ≡ Less → maybe_cmp (group_of a) (group_of b) ≡ Less)
    → (maybe_cmp b a ≡ Less → maybe_cmp (group_of b) (group_of a) ≡ Less)
    → maybe_cmp (group_of a) (group_of b) ≡ maybe_cmp a b
rise_alike group_of a b rises falls = by_cmp (maybe_cmp a b) refl
  where
    by_cmp : (o : Ordering) → maybe_cmp a b ≡ o → maybe_cmp (group_of a) (group_of b) ≡ maybe_cmp a b
    by_cmp Less e = rises e ∙ sym e
    by_cmp Equal e =
        ap (λ (v : Option Value). maybe_cmp (group_of a) (group_of v)) (sym (maybe_exact a b e))
        ∙ tied_itself maybe_total (group_of a)
        ∙ sym e
    by_cmp Greater e =
        let less : maybe_cmp b a ≡ Less = maybe_total.antisymm b a ∙ ap ordering_reverse e in
        maybe_total.antisymm (group_of a) (group_of b) ∙ ap ordering_reverse (falls less) ∙ sym e

-- pairs of groups with the same order are equal at the same time
same_alike : (a b c d : Option Value) → maybe_cmp a b ≡ maybe_cmp c d → same_maybe a b ≡ same_maybe c d
same_alike a b c d e = found (same_maybe a b) refl (same_maybe c d) refl
  where
    found : (s : Bool) → same_maybe a b ≡ s → (u : Bool) → same_maybe c d ≡ u → s ≡ u
    found true s true u = refl
    found false s false u = refl
    found true s false u = absurd (let is : same_maybe c d ≡ true = maybe-same c d (sym e ∙ maybe-tie a b s) in cc)
    found false s true u = absurd (let is : same_maybe a b ≡ true = maybe-same a b (e ∙ maybe-tie c d u) in cc)

-- the answers here, mapped by `f`, are the answers there: `f` maps each answer here to one there, reaches each of
-- them, and keeps the order of answers
answers_there : {X : Type 0} (Before : X → X → Type 0) (Here There : X → Type 0) (f : X → X) (xs : List X)
    → ((a b : X) → Here a → Here b → Before a b → Before (f a) (f b)) → ((x : X) → Here x → There (f x))
    → ((y : X) → There y → (x : X) × Here x × (f x ≡ y)) → IsListOf Before Here xs → IsListOf Before There (map f xs)
answers_there {X} Before Here There f xs alike there here is = record {
  ordered =
      let Both : X → X → Type 0 = λ a b. Before a b × Contains xs a in
      AllPairs-map Both Before f xs
      (λ a b b_in both. alike a b ((is.exactly a).0 both.1) ((is.exactly b).0 b_in) both.0)
      (λ i j d less h. (is.ordered i j d less h, All-contains_itself xs i d (omega arith)));
  exactly = λ y. (
    λ h. (let (x, x_in, same) = Contains-map_source f xs y h in subst There same (there x ((is.exactly x).0 x_in))),
    λ w. (let (x, x_is, same) = here y w in
        subst (Contains (map f xs)) same (Contains-map f xs x ((is.exactly x).1 x_is))),
  );
}

module _ (measure : Measure) (amount_here amount_there : Row → ℤ) (group_here group_there : Row → Option Value)
    (row_of : Row → Row) (group_of : Option Value → Option Value) (rows : List Row)
    (stand : RankGroups amount_here amount_there group_here group_there row_of group_of rows) where
  -- The value of a group's rows.
  abbrev Here : Option Value → ℤ → ℤ → Type 0
  Here group value t = HoldAndComeTo measure amount_here (rows_of_group group_here group rows) value t

  -- The value of the rows they stand for.
  abbrev There : Option Value → ℤ → ℤ → Type 0
  There group value t = HoldAndComeTo measure amount_there (rows_of_group group_there group (map row_of rows)) value t

  -- the groups of rows have the order of the groups of the rows they stand for
  groups_alike : (x y : Row) → Contains rows x → Contains rows y
      → maybe_cmp (group_of (group_here x)) (group_of (group_here y)) ≡ maybe_cmp (group_here x) (group_here y)
  groups_alike x y x_in y_in =
      rise_alike group_of (group_here x) (group_here y) (stand.rises x y x_in y_in) (stand.rises y x y_in x_in)

  -- the rows of a row's group have the same amounts as the rows of the other's group
  amounts_alike : (x : Row) → Contains rows x → (t : ℤ)
      → map amount_here (rows_on t (rows_of_group group_here (group_here x) rows))
      ≡ map amount_there (rows_on t (rows_of_group group_there (group_of (group_here x)) (map row_of rows)))
  amounts_alike x x_in t =
      amounts_there amount_here amount_there group_here group_there row_of (group_here x) (group_of (group_here x)) t rows
      stand.period_is stand.amount_is
      (λ r r_in.
      same_alike (group_here r) (group_here x) (group_of (group_here r)) (group_of (group_here x))
      (sym (groups_alike r x r_in x_in))
      ∙ ap (λ (g : Option Value). same_maybe g (group_of (group_here x))) (sym (stand.group_is r r_in)))

  -- so they have the same value
  come_there : (x : Row) → Contains rows x → (value t : ℤ) → Here (group_here x) value t
      → There (group_of (group_here x)) value t
  come_there x x_in value t h =
      same_amounts measure amount_here amount_there (rows_of_group group_here (group_here x) rows)
      (rows_of_group group_there (group_of (group_here x)) (map row_of rows)) value t (amounts_alike x x_in t) h

  come_here : (x : Row) → Contains rows x → (value t : ℤ) → There (group_of (group_here x)) value t
      → Here (group_here x) value t
  come_here x x_in value t h =
      same_amounts measure amount_there amount_here
      (rows_of_group group_there (group_of (group_here x)) (map row_of rows))
      (rows_of_group group_here (group_here x) rows) value t (sym (amounts_alike x x_in t)) h

  -- a row of one aggregate gives a row of the other
  row_there : (row : AggRow) → IsAggRow measure amount_here group_here rows row
      → IsAggRow measure amount_there group_there (map row_of rows) (with_group group_of row)
  row_there row is =
      let (x, x_in, e) = row_of_group measure amount_here group_here rows row is in
      let own : IsMaximal (Here (group_here x) row.value) row.period =
      subst (λ (g : Option Value). IsMaximal (Here g row.value) row.period) (sym e) is.maximal in
      record {
        maximal = subst (λ (g : Option Value). IsMaximal (There (group_of g) row.value) row.period) e
            (IsMaximal-same (Here (group_here x) row.value) (There (group_of (group_here x)) row.value) row.period
            (come_there x x_in row.value) (come_here x x_in row.value) own);
      }

  -- and each row of the other comes from one
  row_here : (row : AggRow) → IsAggRow measure amount_there group_there (map row_of rows) row
      → (some : AggRow) × IsAggRow measure amount_here group_here rows some × (with_group group_of some ≡ row)
  row_here row is =
      let (w, w_in, e) = row_of_group measure amount_there group_there (map row_of rows) row is in
      let (x, x_in, x_is) = Contains-map_source row_of rows w w_in in
      let same : group_of (group_here x) ≡ row.group = sym (stand.group_is x x_in) ∙ ap group_there x_is ∙ e in
      let own : IsMaximal (There (group_of (group_here x)) row.value) row.period =
      subst (λ (g : Option Value). IsMaximal (There g row.value) row.period) (sym same) is.maximal in
      let some : AggRow = record row { group = group_here x } in (
        some,
        record {
          maximal = IsMaximal-same (There (group_of (group_here x)) row.value) (Here (group_here x) row.value) row.period
              (come_here x x_in row.value) (come_there x x_in row.value) own;
        },
        ap (λ (g : Option Value). record row { group = g }) same,
      )

  -- both are in the same order
  rows_alike : (a b : AggRow) → IsAggRow measure amount_here group_here rows a
      → IsAggRow measure amount_here group_here rows b → AggRowBefore a b
      → AggRowBefore (with_group group_of a) (with_group group_of b)
  rows_alike a b is is' before =
      let (x, x_in, e) = row_of_group measure amount_here group_here rows a is in
      let (y, y_in, f) = row_of_group measure amount_here group_here rows b is' in
      let alike : maybe_cmp (group_of a.group) (group_of b.group) ≡ maybe_cmp a.group b.group =
      subst (λ (g : Option Value). maybe_cmp (group_of g) (group_of b.group) ≡ maybe_cmp g b.group) e
      (subst (λ (g : Option Value). maybe_cmp (group_of (group_here x)) (group_of g) ≡ maybe_cmp (group_here x) g) f
      (groups_alike x y x_in y_in)) in
      ap (λ (o : Ordering). ordering_then o (int_cmp a.period.from b.period.from)) alike ∙ before

  agg_there : (answer : List AggRow) → AreAggRows measure amount_here group_here rows answer
      → AreAggRows measure amount_there group_there (map row_of rows) (map (with_group group_of) answer)
  agg_there answer =
      answers_there AggRowBefore (IsAggRow measure amount_here group_here rows)
      (IsAggRow measure amount_there group_there (map row_of rows)) (with_group group_of) answer rows_alike row_there
      row_here

-- for any columns
pub agg_is_of_ranks : AggIsOfRanks
agg_is_of_ranks columns_here columns_there func_here func_there by_here by_there rows row_of group_of answer one stand is =
    subst
    (λ (m : Measure). AreAggRows m (amount_in columns_there func_there) (value_in columns_there by_there)
    (map row_of rows) (map (with_group group_of) answer)) one
    (agg_there (measure_of func_here) (amount_in columns_here func_here) (amount_in columns_there func_there)
    (value_in columns_here by_here) (value_in columns_there by_there) row_of group_of rows stand answer is)

-- mapping groups by the identity changes nothing
own_groups : (answer : List AggRow) → map (with_group (λ g. g)) answer ≡ answer
own_groups [] = refl
own_groups (row ∷ answer) = ap (λ (l : List AggRow). row ∷ l) (own_groups answer)

-- so rows with the groups of others have the same aggregate
pub agg_is_of_stand_ins : AggIsOfStandIns
agg_is_of_stand_ins columns_here columns_there func_here func_there by_here by_there rows row_of answer one stand =
    (there answer, here)
  where
    there : (some : List AggRow) → IsAgg columns_here func_here by_here rows some
        → IsAgg columns_there func_there by_there (map row_of rows) some
    there some is =
        subst (IsAgg columns_there func_there by_there (map row_of rows)) (own_groups some)
        (agg_is_of_ranks columns_here columns_there func_here func_there by_here by_there rows row_of (λ g. g) some one
        (record {
          period_is = stand.period_is;
          amount_is = stand.amount_is;
          group_is = stand.group_is;
          rises = λ x y x_in y_in before. before;
        }) is)

    here : IsAgg columns_there func_there by_there (map row_of rows) answer
        → IsAgg columns_here func_here by_here rows answer
    here is =
        let (some, some_is) = some_aggregate columns_here func_here by_here rows in
        subst (IsAgg columns_here func_here by_here rows)
        (one_aggregate columns_there func_there by_there (map row_of rows) some answer (there some some_is) is) some_is
