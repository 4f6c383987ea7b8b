use Rattle.std.proofs.Common.{◌≡◌, ◌≤◌, List, length, arith, subst, sym, ◌∙◌}
use Rattle.std.specs.Prelude.{IsPermutation}
use Rattle.std.proofs.lemmas.List.Sorted.{length_permutation}
use Rattle.dip_core.specs.declared.item.Item.{Item}
use Rattle.round_core.specs.declared.plateau.Plateau.{Plateau}
use Rattle.ruzgalt_c.specs.Agg.{ArePlateausWritten, AreValuesWritten}
use Rattle.ruzgalt_c.proofs.export.ruzgalt_agg.Goals as goal

pub plateaus_of_items-requires-clause-few : goal.plateaus_of_items-requires-clause-few
plateaus_of_items-requires-clause-few c =
    let rows : length c.in-Ok.items.items ≡ length c.args.from.now = c.in-Ok.ensures.rows.len in
    let same = length_permutation c.in-Ok.items.items c.order_by_class.new.items.items
    c.order_by_class.ensures.permutation in
    rw c.deref.ensures.value (omega (arith, rows, same))

pub returns-then-len-of_group-clause-room : goal.returns-then-len-of_group-clause-room
returns-then-len-of_group-clause-room c = λ is. (
  c.in-Ok-plateaus_of_items.plateaus.items,
  record {
    measure = c.in-Some.measure;
    asked = c.in-Some.ensures;
    items = c.in-Ok.items.items;
    are = c.in-Ok.ensures.rows;
    ordered = c.deref.result.now;
    moved = subst (λ (l : List Item). IsPermutation c.in-Ok.items.items l) (sym c.deref.ensures.value)
        c.order_by_class.ensures.permutation;
    all = c.in-Ok-plateaus_of_items.ensures;
  },
  c.len.ensures ∙ c.in-Ok-plateaus_of_items.plateaus.ok.0,
  omega (arith, c.in-Ok-plateaus_of_items.plateaus.ok.0),
)

pub returns-clause-agg : goal.returns-clause-agg
returns-clause-agg c = λ is. (
  c.in-Ok-plateaus_of_items.plateaus.items,
  record {
    measure = c.in-Some.measure;
    asked = c.in-Some.ensures;
    items = c.in-Ok.items.items;
    are = c.in-Ok.ensures.rows;
    ordered = c.deref.result.now;
    moved = subst (λ (l : List Item). IsPermutation c.in-Ok.items.items l) (sym c.deref.ensures.value)
        c.order_by_class.ensures.permutation;
    all = c.in-Ok-plateaus_of_items.ensures;
  },
  c.len.ensures ∙ c.in-Ok-plateaus_of_items.plateaus.ok.0,
  subst
      (λ (l : List Plateau). ArePlateausWritten l (length l) c.write_plateaus.new.group c.write_plateaus.new.from
      c.write_plateaus.new.to)
      c.deref-2.ensures.value c.write_plateaus.ensures,
  subst (λ (l : List Plateau). AreValuesWritten l (length l) c.write_values.new.low c.write_values.new.high)
      c.deref-3.ensures.value c.write_values.ensures,
)
