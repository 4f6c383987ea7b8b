-- What contracts read of a shelf.
use Rattle.std.specs.Prelude.{ℕ}
use Rattle.book_core.specs.History.{History}
use Rattle.store_core.specs.declared.shelf.Shelf.{Shelf}

-- the history of its book
abbrev pub shelf_history : Shelf → History
shelf_history shelf = shelf.book

-- the number of its store's passes
abbrev pub passes_in : Shelf → ℕ
passes_in shelf = shelf.passes
