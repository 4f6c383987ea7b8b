-- Limits.
use Rattle.std.specs.Prelude.{ℕ}

-- the most commits of a book
abbrev pub commit_limit : ℕ
commit_limit = 1000000

-- the most tables of a book
abbrev pub table_limit : ℕ
table_limit = 64
