use Rattle.std.proofs.Common.{◌≡◌, ◌≢◌, ℕ, ◌<◌, length, get_or}
use Rattle.std.specs.Prelude.{All}
use Rattle.dip_core.specs.declared.item.Item.{Item}
use Rattle.ruzgalt_c.proofs.dip.number_part.Given as goal

-- The items already visited have the number, and no other index has changed.
abbrev pub invariant-loop-item : goal.invariant-loop-item
invariant-loop-item l = record {
  len : length l.numbers ≡ length l.fn.numbers;
  set : (i : ℕ) (d : Item) (e : ℕ) → i < l.item-index → get_or l.numbers (get_or l.items i d).id e ≡ l.k;
  others : (n e : ℕ) → All (λ (x : Item). x.id ≢ n) l.items → get_or l.numbers n e ≡ get_or l.fn.numbers n e;
}
