use Rattle.std.proofs.Common.{◌-◌, ◌++◌, map, arith, sym, ap, ◌∙◌}
use Rattle.std.specs.Option.{option_copied}
use Rattle.anti_core.specs.ItemAnti.{row_of_gap}
use Rattle.anti_core.proofs.SupplyLemmas.{none_past, only-listed, supply-held}
use Rattle.anti_core.proofs.part_gaps.add_rows_of_pair.Goals as goal

pub supply_at-requires-clause-supply : goal.supply_at-requires-clause-supply
supply_at-requires-clause-supply g c κs within x e = c.requires.supply x (sym c.take.ensures.value ∙ e)

pub unreachable-requires : goal.unreachable-requires
unreachable-requires g c =
    let ready = c.in_ok-ready.ready in
    let there = c.in_ok-ready.ensures.there in
    none_past ready.values (c.args.number - ready.first) (omega (arith, there.0, there.1))
    (ap (λ o. option_copied o) (sym c.in_default.is) ∙ c.get.ensures)

pub returns-clause-rows : goal.returns-clause-rows
returns-clause-rows g c =
    let ready = c.in_ok-ready.ready in
    let there = c.in_ok-ready.ensures.there in (
      c.in-Some.gaps.now,
      only-listed c.args.pairs.now.left.now c.args.pairs.now.right.now c.args.number ready.first
          (c.args.number - ready.first) ready.values c.in-Some.gaps.now c.requires.one (omega (arith, there.0))
          c.in_ok-ready.ensures.values c.in-Some.ensures,
      c.in_ok-add_rows.ensures ∙ ap (λ z. c.args.rows.now.items ++ map row_of_gap z) c.as_slice.ensures,
    )

pub returns-clause-supply : goal.returns-clause-supply
returns-clause-supply g c = λ x e.
    supply-held c.args.pairs.now.left.now c.args.pairs.now.right.now c.in_ok-ready.ready x e
    c.in_ok-ready.ensures.values
