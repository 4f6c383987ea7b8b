-- The words of a log.
use Rattle.std.specs.Prelude.{ℕ, List, codes}
use Rattle.book_core.specs.declared.log.ChangeKind.{ChangeKind}
use Rattle.book_core.specs.declared.log.ChangeKind.TheVariants.{Make, Load, Update, Delete}

-- the word of a kind of change
abbrev pub word_of : ChangeKind → List ℕ
word_of Make = codes "table"
word_of Load = codes "load"
word_of Update = codes "update"
word_of Delete = codes "delete"
