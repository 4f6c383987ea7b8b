-- How many passes a store may have, and how many calls each.
use Rattle.std.specs.Prelude.{ℕ, [], ◌∷◌, ◌||◌, Option, nat_lt}
use Rattle.row_core.specs.Refusals.{first_of}
use Rattle.turn_core.specs.Limits.{seat_limit, call_limit}
use Rattle.store_core.specs.declared.refusal.BadCount.{BadCount}

-- the numbers aren't 1 to 16 passes and 1 to 2^40 calls for each
abbrev pub bad_count : ℕ → ℕ → Option BadCount
bad_count passes calls = first_of (
    ((nat_lt passes 1 || nat_lt seat_limit passes) || (nat_lt calls 1 || nat_lt call_limit calls), record {}) ∷ [])
