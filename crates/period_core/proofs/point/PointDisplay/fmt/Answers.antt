use Rattle.std.proofs.Common.{◌≡◌, ◌∙◌, ◌++◌, ap, sym}
use Rattle.period_core.specs.Point.{point_text, time_of_second, time_text}
use Rattle.period_core.proofs.TextLemmas.{point_text-later, point_text-midnight}
use Rattle.period_core.proofs.point.PointDisplay.fmt.Goals as goal

pub returns-then-second-eq0-clause-writes : goal.returns-then-second-eq0-clause-writes
returns-then-second-eq0-clause-writes g c =
    let same : point_text c.args.self.now ≡ c.text_of-date.result =
    point_text-midnight c.args.self.now c.date.result c.second-second.result c.date.ensures.year c.date.ensures.number
    c.second-second.ensures.value c.if-second-eq0.true ∙ sym c.text_of-date.ensures in
    rw same c.write_ascii.ensures

pub returns-else-second-eq0-clause-writes : goal.returns-else-second-eq0-clause-writes
returns-else-second-eq0-clause-writes g c =
    let same : point_text c.args.self.now ≡ c.with_time.result =
    point_text-later c.args.self.now c.date.result c.second-second.result c.date.ensures.year c.date.ensures.number
    c.second-second.ensures.value c.if-second-eq0.false
    ∙ (ap (λ date. date ++ time_text (time_of_second c.second-second.result)) (sym c.text_of-date.ensures)
    ∙ sym c.with_time.ensures) in
    rw same c.write_ascii-else-second-eq0.ensures
