use Rattle.std.proofs.Common.{Ok, subst, sym}
use Rattle.book_core.specs.Bound.{IsMade}
use Rattle.book_core.specs.declared.change.Change.{Change}
use Rattle.book_core.specs.declared.change.Change.TheVariants.{Delete, Update}
use Rattle.book_core.proofs.Making.{made-new, made-nothing}
use Rattle.book_core.proofs.apply.change_tables.Goals as goal

pub returns-in-Make : goal.returns-in-Make
returns-in-Make c =
    let counts = c.in_ok-add_table-in-Make.ensures.counts in
    subst (λ (change : Change). IsMade c.args.commits change c.args.tables.now.items c.add_table.new.tables.items
    (Ok c.in_ok-add_table-in-Make.field-0)) (sym c.in-Make.is)
    (made-new c.args.commits c.in-Make.table c.in-Make.schema c.args.tables.now.items c.add_table.new.tables.items
    c.in_ok-add_table-in-Make.field-0 c.in_ok-add_table-in-Make.ensures.ok counts.0 counts.1)

pub returns-in-Update : goal.returns-in-Update
returns-in-Update c =
    rw c.in-Update.is
    (made-nothing c.args.commits (Update c.in-Update.table c.in-Update.portion c.in-Update.sets c.in-Update.conds)
    c.args.tables.now.items c.no_versions.result tt (rw c.in-Update.is at c.requires.bound)
    (rw c.in-Update.is at c.requires.well) (rw c.in-Update.is at c.requires.unbroken) c.no_versions.ensures.added
    c.no_versions.ensures.closed)

pub returns : goal.returns
returns c =
    rw c.in-Delete.is
    (made-nothing c.args.commits (Delete c.in-Delete.table c.in-Delete.portion c.in-Delete.conds)
    c.args.tables.now.items c.no_versions-in-Delete.result tt (rw c.in-Delete.is at c.requires.bound)
    (rw c.in-Delete.is at c.requires.well) (rw c.in-Delete.is at c.requires.unbroken)
    c.no_versions-in-Delete.ensures.added c.no_versions-in-Delete.ensures.closed)
