-- The pairs of `lefts` left parts and `rights` right parts, numbered by left part and then by right part.
use Rattle.std.specs.Prelude.{ℕ, ◌+◌, ◌*◌, ◌/◌, ◌%◌, Option, Some, None, if◌then◌else◌, ◌&&◌, nat_lt}
use Rattle.work_core.specs.declared.name.PairName.{PairName}

-- The pair with a number, for `rights` right parts.
abbrev pub grid_name : ℕ → ℕ → PairName
grid_name rights number = record { left = number / rights; right = number % rights }

-- The number of a pair, for `lefts` left and `rights` right parts; `None` if one of its parts doesn't exist.
abbrev pub grid_place : ℕ → ℕ → PairName → Option ℕ
grid_place lefts rights pair =
    if nat_lt pair.left lefts && nat_lt pair.right rights then Some (pair.left * rights + pair.right) else None
