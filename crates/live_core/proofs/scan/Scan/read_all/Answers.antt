use Rattle.std.proofs.Common.{◌≡◌, List, ap, arith, cond, subst, sym, take, take_all, ◌+◌, ◌∙◌, ℕ}
use Rattle.live_core.specs.Scanning.{IsCutAt, Knows, Reading, read_bytes}
use Rattle.live_core.proofs.ScanLemmas.{read-none, read-on}
use Rattle.live_core.proofs.scan.Scan.read_all.Goals.{else-branch, then-branch}
use Rattle.live_core.proofs.scan.Scan.read_all.Goals as goal

pub loop-place-init : goal.loop-place-init
loop-place-init c = record { within = omega arith; reads = read-none c.args.self.now }

pub loop-place-preserved : goal.loop-place-preserved
loop-place-preserved c =
    let bytes = c.args.bytes.now in
    let place = c.loop-place.place in
    let cut = c.loop-place.cut in
    let on = λ (r : Reading) (knows : Knows c.args.self.now r) (next : ℕ)
    (is : next ≡ cond c.in_ok-read.field-0 (place + 1) cut).
    read-on c.loop-place.self c.read.new.self r bytes place cut next c.in_ok-read.field-0 c.loop-place-test.true
    (c.loop-place.invariant.reads r knows) c.in_ok-read.ensures is in
    elim c.if-branch.branch [
      | then-branch w ↦ record {
        within = omega (arith, w.cut-is);
        reads = λ r knows. on r knows c.if-branch.cut (w.cut-is ∙ sym (ap (λ b. cond b (place + 1) cut) w.if-branch.true));
      }
      | else-branch w ↦ record {
        within = omega (arith, w.cut-is, c.loop-place.invariant.within);
        reads = λ r knows. on r knows c.if-branch.cut (w.cut-is ∙ sym (ap (λ b. cond b (place + 1) cut) w.if-branch.false));
      }
    ]

pub returns-clause-within : goal.returns-clause-within
returns-clause-within c = omega (arith, c.loop-place.invariant.within, c.loop-place.auto.place-end)

pub returns-clause-reads : goal.returns-clause-reads
returns-clause-reads c = λ r knows.
    let bytes = c.args.bytes.now in
    let to = c.loop-place.invariant.reads r knows in
    let all : take c.loop-place.place bytes ≡ bytes = take_all c.loop-place.place bytes c.loop-place-test.false in
    subst (λ (l : List ℕ). Knows c.loop-place.self (read_bytes r l) × IsCutAt r (read_bytes r l) c.loop-place.cut) all
    (to.knows, to.cut)
