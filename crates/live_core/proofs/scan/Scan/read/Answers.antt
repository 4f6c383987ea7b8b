use Rattle.std.proofs.Common.{◌≡◌, sym, ap, ◌∙◌, subst, true}
use Rattle.csv.specs.Machine.{is_end, step}
use Rattle.csv.specs.Reading.{default_config}
use Rattle.live_core.specs.Scanning.{folded, state_of, line_at_hand, next_block}
use Rattle.live_core.proofs.ScanLemmas.{knows-end}
use Rattle.live_core.proofs.scan.Scan.read.Goals as goal

pub returns-in-EndRecord : goal.returns-in-EndRecord
returns-in-EndRecord c = λ r knows.
    let does = rw c.in-EndRecord.is at c.step-spot.ensures.does in
    let same : state_of c.args.self.now.spot ≡ r.state = knows.spot in
    let ends : is_end (step default_config r.state c.args.byte).1 ≡ true =
    subst (λ s. is_end (step default_config s c.args.byte).1 ≡ true) same (ap is_end (sym does)) in
    let spot : state_of c.end_record.new.self.spot ≡ folded (step default_config r.state c.args.byte).0 =
    subst (λ s. state_of c.end_record.new.self.spot ≡ folded (step default_config s c.args.byte).0) same
    (ap state_of c.end_record.ensures.spot ∙ c.step-spot.ensures.spot) in
    let at = c.end_record.ensures.block r knows.first knows.is_first
    ∙ ap (λ b. next_block b (line_at_hand r)) knows.block in
    let found = knows-end c.end_record.new.self r c.args.byte ends spot c.end_record.ensures.first.0
    c.end_record.ensures.first.1 at in
    (found.0, c.end_record.ensures.ends ∙ found.1)
