use Rattle.book_core.proofs.book.Book.load_refusal.Goals as goal

pub returns-in-Some : goal.returns-in-Some
returns-in-Some c =
    rw c.in-Some.ensures.found.newest (rw c.commits-commits.ensures.count at (c.load_refusal.ensures c.args.name))
