-- the items of the prefix are coalesced, and the items from `i` on are still to come
use Rattle.std.proofs.Common.{◌≡◌, ◌<◌, ◌≤◌, drop, length, take}
use Rattle.anti_core.proofs.UnitedLemmas.{IsUniting}
use Rattle.anti_core.proofs.united.unite.Given as goal

abbrev pub invariant-loop-i : goal.invariant-loop-i
invariant-loop-i l =
    (l.i-end ≡ length l.items.items) × (l.count < l.i) × (l.i ≤ l.i-end)
    × IsUniting l.fn.items.items (drop l.i l.items.items) l.last (take l.count l.items.items)
