-- Limits.
use Rattle.std.specs.Prelude.{ℕ, ◌^◌}

-- the most seats of a turn
abbrev pub seat_limit : ℕ
seat_limit = 16

-- the most calls of a seat
abbrev pub call_limit : ℕ
call_limit = 2 ^ 40

-- the most tickets that are ever drawn; a word can count this many
abbrev pub ticket_limit : ℕ
ticket_limit = 2 ^ 44
