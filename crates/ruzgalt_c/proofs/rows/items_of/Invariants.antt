use Rattle.std.proofs.Common.{◌≡◌, ◌<◌, length, get_or}
use Rattle.dip_core.specs.declared.item.Item.{Item}
use Rattle.ruzgalt_c.specs.Rows.{IsRow}
use Rattle.ruzgalt_c.proofs.rows.items_of.Given as goal

-- The rows before index `k` are items.
abbrev pub invariant-loop-k : goal.invariant-loop-k
invariant-loop-k l = record {
  len : length l.items.items ≡ l.k;
  each : (i : _) (d : Item) → i < length l.items.items
      → IsRow (record { class = l.class; from = l.from; to = l.to; amount = l.amount }) i (get_or l.items.items i d);
}
