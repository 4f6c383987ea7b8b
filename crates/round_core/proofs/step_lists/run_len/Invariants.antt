use Rattle.std.proofs.Common.{◌≡◌, ◌≤◌, ◌-◌, length, take, All}
use Rattle.round_core.proofs.step_lists.run_len.Given as goal

abbrev pub invariant-items : goal.invariant-items
invariant-items l = record {
  inside : l.len ≤ length l.items;
  own : All (λ x. x.class ≡ l.class) (take l.len l.items);
}

abbrev pub decreases-items : goal.decreases-items
decreases-items l = length l.items - l.len
