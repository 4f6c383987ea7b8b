use Rattle.std.proofs.Common.{◌≡◌, ◌<◌, ◌∙◌, ap, arith, subst, sym, true}
use Rattle.std.specs.Prelude.{IfSome, IsSome, is_some}
use Rattle.version_core.specs.Wanted.{are_wanted}
use Rattle.row_core.specs.declared.row.Row.{Row}
use Rattle.version_core.specs.Finding.{AreNoMore, falls_into, led_to, lookup_at}
use Rattle.version_core.specs.Limits.{bucket_count}
use Rattle.version_core.specs.declared.index.Lookup.{Lookup}
use Rattle.version_core.proofs.IndexLemmas.{AreNoMore-itself, lookup-better, lookup-leads, lookup-shortest, lookup_at-covers, nowhere-less}
use Rattle.version_core.proofs.index.best_lookup.Goals as goal
use Rattle.version_core.proofs.index.best_lookup.Goals.{then-is_some, else-is_some}

pub loop-column-preserved : goal.loop-column-preserved
loop-column-preserved c =
    let indexes = c.args.indexes.now in
    let wanted = c.args.wanted.now in
    let i = c.loop-column.column in
    let one = c.loop-column.best in
    let other = c.lookup_at-lookup.result in
    let is = c.lookup_at-lookup.ensures.lookup in
    let Covers : Lookup → Type 0 = λ lookup. (row : Row) → are_wanted wanted row.values ≡ true
    → falls_into lookup.column lookup.bucket row ≡ true in
    let Few : Lookup → Type 0 = λ lookup. lookup.bucket < bucket_count in
    let Leads : Type 0 = IsSome (led_to indexes other) in
    let all = subst (λ o. IfSome o Covers) (sym is) (lookup_at-covers wanted i) in
    let before = c.loop-column.invariant in
    elim c.if-is_some.branch [
      | then-is_some w ↦
          let best = w.better_lookup-best.result in
          let made = w.better_lookup-best.ensures in
          rw w.best-is (record {
            few = lookup-better Few Leads one other best made.either before.few c.lookup_at-lookup.ensures.few;
            lookup = lookup-better Covers Leads one other best made.either before.lookup all;
            indexed = lookup-leads indexes one other best made.either before.indexed;
            shortest = lookup-shortest indexes wanted i one best made.one
                (subst (λ o. AreNoMore (led_to indexes best) (led_to indexes o)) is made.other) before.shortest;
          })
      | else-is_some w ↦
          rw w.best-is (record {
            few = before.few;
            lookup = before.lookup;
            indexed = before.indexed;
            shortest = lookup-shortest indexes wanted i one one (AreNoMore-itself (led_to indexes one))
                (nowhere-less indexes one (lookup_at wanted i)
                (ap is_some (sym is) ∙ sym c.is_some.ensures ∙ w.if-is_some.false)) before.shortest;
          })
    ]

pub returns-clause-shortest : goal.returns-clause-shortest
returns-clause-shortest c = λ column below. c.loop-column.invariant.shortest column (omega arith)
