use Rattle.std.proofs.Common.{◌≡◌, ◌≤◌, ◌-◌, ◌<◌, ℕ, [], get_or, length}
use Rattle.std.specs.Global.{Vec}
use Rattle.ruzgalt_c.proofs.check.empty_lists.Given as goal

-- There are at most `count` lists, all empty.
abbrev pub invariant-lists : goal.invariant-lists
invariant-lists l = record {
  few : length l.lists.items ≤ l.count;
  each : (k : ℕ) (d : Vec ℕ) → k < length l.lists.items → (get_or l.lists.items k d).items ≡ [];
}

abbrev pub decreases-lists : goal.decreases-lists
decreases-lists l = l.count - length l.lists.items
