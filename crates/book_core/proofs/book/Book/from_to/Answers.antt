use Rattle.std.proofs.Common.{◌≤◌, ◌<◌, ◌-◌, ◌∙◌, ap, length, arith}
use Rattle.version_core.specs.Shown.{versions_as_of}
use Rattle.book_core.specs.Versions.{IsAfter}
use Rattle.book_core.proofs.Past.{seen_are}
use Rattle.book_core.proofs.book.Book.from_to.Goals as goal

pub returns-in_ok-versions_seen-in-Some-clause-versions : goal.returns-in_ok-versions_seen-in-Some-clause-versions
returns-in_ok-versions_seen-in-Some-clause-versions c =
    let within : c.args.at ≤ length c.args.self.now = omega (arith, c.if-at-commits.false, c.commits.ensures) in
    let some : c.args.m < c.args.n = omega (arith, c.if-m-n.false) in
    seen_are c.args.self.now c.args.name c.in-Some.table.now c.args.at c.args.m (c.args.n - 1)
    (λ v. (v.sysfrom < c.args.n)
    × IsAfter v.systo c.args.m) c.in_ok-versions_seen-in-Some.field-0 c.in-Some.ensures.found within
    (λ v p. let x = p.0 in (omega (arith, x, some), p.1)) (λ v p. let x = p.0 in (omega (arith, x, some), p.1))
    (c.in_ok-versions_seen-in-Some.ensures
    ∙ ap (versions_as_of c.args.at c.args.m (c.args.n - 1))
    c.versions.ensures)
