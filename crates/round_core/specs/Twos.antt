-- Lists of steps in twos: pair i is lists 2i and 2i + 1.
use Rattle.std.specs.Prelude.{ℕ, ◌+◌, ◌*◌, ◌/◌, Bool, List, [], Option, Some, None, if◌then◌else◌, ◌&&◌, nat_lt, nat_eq, slice_index_or}
use Rattle.merge_core.specs.Steps.{StepList}
use Rattle.work_core.specs.declared.name.PairName.{PairName}

-- An empty list of steps, for no items.
abbrev pub no_steps : StepList
no_steps = record { steps = []; weight = 0 }

-- List `i`; past the end, an empty one.
abbrev pub list_at : List StepList → ℕ → StepList
list_at lists i = slice_index_or lists i no_steps

-- The name of pair `i`.
abbrev pub two_name : ℕ → PairName
two_name i = record { left = i * 2; right = i * 2 + 1 }

-- Whether `p` is the name of pair `i`.
abbrev pub has_two_name : ℕ → PairName → Bool
has_two_name i p = nat_eq p.left (two_name i).left && nat_eq p.right (two_name i).right

-- The number of the pair with this name among `n` lists, or `None` if no pair has it.
abbrev pub two_place : ℕ → PairName → Option ℕ
two_place n p = if nat_lt (p.right / 2) (n / 2) && has_two_name (p.right / 2) p then Some (p.right / 2) else None
