use Rattle.std.proofs.Common.{◌∙◌, sym}
use Rattle.book_core.proofs.book.Book.bind.Goals as goal

pub returns-in-Some-clause-refused : goal.returns-in-Some-clause-refused
returns-in-Some-clause-refused c = rw c.in-Make.is (sym c.in-Some.is ∙ c.table_refusal.ensures c.in-Make.schema)

pub returns-in-None-clause-refused : goal.returns-in-None-clause-refused
returns-in-None-clause-refused c = rw c.in-Make.is (sym c.in-None.is ∙ c.table_refusal.ensures c.in-Make.schema)

pub returns-in-Update-clause-refused : goal.returns-in-Update-clause-refused
returns-in-Update-clause-refused c =
    rw c.in-Update.is (rw (c.as_slice.ensures, c.as_slice-in-Update.ensures) at c.bind_portion.ensures.refused)

pub returns-in-Update-clause-bound : goal.returns-in-Update-clause-bound
returns-in-Update-clause-bound c =
    rw c.in-Update.is (rw (c.as_slice.ensures, c.as_slice-in-Update.ensures) at c.bind_portion.ensures.bound)

pub returns-in-Delete-clause-refused : goal.returns-in-Delete-clause-refused
returns-in-Delete-clause-refused c =
    rw c.in-Delete.is (rw c.as_slice-in-Delete.ensures at c.bind_portion-in-Delete.ensures.refused)

pub returns-in-Delete-clause-bound : goal.returns-in-Delete-clause-bound
returns-in-Delete-clause-bound c =
    rw c.in-Delete.is (rw c.as_slice-in-Delete.ensures at c.bind_portion-in-Delete.ensures.bound)
