-- The limits of names, texts and tables.
use Rattle.std.specs.Prelude.{ℕ}

-- the most bytes of a name
abbrev pub name_limit : ℕ
name_limit = 32

-- the most bytes of a text
abbrev pub text_limit : ℕ
text_limit = 4096

-- the most columns of a table
abbrev pub column_limit : ℕ
column_limit = 16
