-- How the failed calls of a reader or a writer are counted.
use Rattle.std.specs.Prelude.{ℕ, ◌+◌, ◌-◌, ◌^◌, ◌≤◌, ◌==◌, ◌&&◌, min, Bool, true, List, length, not, if◌then◌else◌, Result, Ok, Err}

-- the greatest count, at which it stays
abbrev pub greatest_count : ℕ
greatest_count = 2 ^ 64 - 1

-- the count after a call; `failed` says whether the call failed
abbrev pub count_after : ℕ → Bool → ℕ
count_after count failed = if failed then min (count + 1) greatest_count else count

-- the count has grown by at least one, unless it is the greatest
abbrev pub HasGrown : ℕ → ℕ → Type 0
HasGrown old new = count_after old true ≤ new

-- a write failed: with an error, or it accepted none of some bytes
abbrev pub is_failed_write : {E : Type 0} → Result ℕ E → List ℕ → Bool
is_failed_write (Err e) bytes = true
is_failed_write (Ok taken) bytes = (taken == 0) && not (length bytes == 0)
