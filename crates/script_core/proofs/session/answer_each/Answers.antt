use Rattle.std.proofs.Common.{◌≡◌, ◌<◌, ◌+◌, ◌++◌, ◌∙◌, [], ap, subst, arith, drop, drop-drop, length, take, length-drop, length-take, List, ℕ}
use Rattle.std.proofs.lemmas.Result.{err_from_is_err_and}
use Rattle.std.specs.Io.KnownBytes.{Appends}
use Rattle.stream_core.specs.Counted.{inner_of}
use Rattle.answer_core.specs.RecordBytes.{bytes_of}
use Rattle.script_core.specs.Ledgers.{place_in}
use Rattle.script_core.proofs.Calls.{ledger-legal}
use Rattle.script_core.proofs.Progress.{commands-few, progress-begun, progress-more, progress-over, progress-stopped}
use Rattle.script_core.proofs.session.answer_each.Goals as goal

-- If a printer was empty, its text is the answer.
text_is : (old new bytes : List ℕ) → old ≡ [] → new ≡ old ++ bytes → new ≡ bytes
text_is old new bytes fresh adds = adds ∙ ap (λ t. t ++ bytes) fresh

pub returns-in_err-reported-clause-fault : goal.returns-in_err-reported-clause-fault
returns-in_err-reported-clause-fault g c =
    let start = place_in c.args.ledger.now c.args.number c.args.records in
    let below : c.loop-at.at < length c.args.records =
    omega (arith, c.loop-at-test.true, c.len-count.ensures) in
    let p = err_from_is_err_and c.from_residual.result c.from_residual.ensures.1 in
    rw (p.1, p.2) (progress-begun start _ _ _ c.loop-at.at c.loop-at.outcome (ledger-legal c.args.ledger.now) below
    c.loop-at.invariant.progress)

pub returns-in_err-write_to-clause-fault : goal.returns-in_err-write_to-clause-fault
returns-in_err-write_to-clause-fault g c =
    let start = place_in c.args.ledger.now c.args.number c.args.records in
    let next = rw (c.all-lines.ensures, c.loop-at.invariant.rest) at c.in_ok-reported.ensures.printed in
    let text = text_is c.loop-at.printer c.answer_next.new.printer
    (bytes_of next.prints.answer) c.loop-at.invariant.begins next.prints.printed in
    let why = rw text at c.in_err-write_to.ensures in
    let p = err_from_is_err_and c.from_residual-in_err-write_to.result c.from_residual-in_err-write_to.ensures.1 in
    rw (p.1, p.2)
    (progress-stopped start _ _ _ _ _ c.loop-at.at c.in_ok-reported.taken c.loop-at.outcome _ next.prints.answer _
    (ledger-legal c.args.ledger.now) c.loop-at.invariant.progress next.within next.states next.prints.answers
    (omega (arith, next.within, next.some)) c.loop-at.invariant.counts why.fault)

pub overflow_add-outcome : goal.overflow_add-outcome
overflow_add-outcome g c =
    let records = c.args.records in
    let at = c.loop-at.at in
    let taken = c.in_ok-reported.taken in
    let next = rw (c.all-lines.ensures, c.loop-at.invariant.rest) at c.in_ok-reported.ensures.printed in
    omega (
      arith,
      next.within,
      next.prints.commands,
      commands-few (c.args.number + at) (take taken (drop at records)) _ next.statement next.states,
      length-take taken (drop at records),
      length-drop at records,
      c.len-count.ensures,
      c.len-count.type_inv,
      c.loop-at.invariant.few,
      c.loop-at.invariant.within,
    )

pub loop-at-preserved : goal.loop-at-preserved
loop-at-preserved g c =
    let records = c.args.records in
    let start = place_in c.args.ledger.now c.args.number c.args.records in
    let at = c.loop-at.at in
    let taken = c.in_ok-reported.taken in
    let next = rw (c.all-lines.ensures, c.loop-at.invariant.rest) at c.in_ok-reported.ensures.printed in
    let text = text_is c.loop-at.printer c.answer_next.new.printer
    (bytes_of next.prints.answer) c.loop-at.invariant.begins next.prints.printed in
    let wrote = subst
    (Appends (g.W.Write.contents (inner_of c.loop-at.writer))
    (g.W.Write.contents (inner_of c.write_to.new.writer))) text c.in_ok-write_to.ensures.ok in
    record {
      within = omega (arith, next.within, length-drop at records);
      rest = c.advance.ensures ∙ ap (drop taken) c.loop-at.invariant.rest ∙ drop-drop taken at records;
      few = omega (
        arith,
        next.within,
        next.prints.commands,
        commands-few (c.args.number + at) (take taken (drop at records)) _ next.statement next.states,
        length-take taken (drop at records),
      );
      fewer = omega (arith, c.in_ok-reported.ensures.few);
      counts = omega arith;
      tries = omega (arith, c.in_ok-write_to.ensures.tries, c.loop-at.invariant.tries);
      begins = c.in_ok-write_to.ensures.begins;
      progress = progress-more start _ _ _ _ _ at taken c.loop-at.outcome _ _ next.prints.answer
          c.loop-at.invariant.progress next.within next.states next.prints.answers wrote
          (ap (λ n. c.loop-at.outcome.commands + n) next.prints.commands)
          (ap (λ n. c.loop-at.outcome.errors + n) next.prints.errors);
      left = omega (arith, next.some, c.in_ok-reported.ensures.left, c.loop-at.invariant.left);
    }

pub returns-clause-ok : goal.returns-clause-ok
returns-clause-ok g c =
    let start = place_in c.args.ledger.now c.args.number c.args.records in
    progress-over start _ _ _ c.loop-at.at c.loop-at.outcome
    (omega (arith, c.loop-at-test, c.len-count.ensures)) c.loop-at.invariant.within c.loop-at.invariant.progress
