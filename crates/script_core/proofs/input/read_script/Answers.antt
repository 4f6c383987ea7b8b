use Rattle.std.proofs.Common.{◌-◌, ◌≤◌, List, ℕ, ap, arith, length, length-drop, subst, sym}
use Rattle.std.proofs.lemmas.Result.{err_from_is_err_and}
use Rattle.stream_core.specs.Counted.{inner_of, source_of}
use Rattle.script_core.proofs.InputLemmas.{IsReadTo, read-all, read-front, read-longer, read-none, read-stopped}
use Rattle.script_core.proofs.input.read_script.Goals as goal

pub loop-text-init : goal.loop-text-init
loop-text-init g c = record {
  read = rw (c.new-records.ensures, c.new-text.ensures.items) (read-none (g.R.Read.remaining (inner_of c.args.reader.now)));
  within = omega (arith, c.new-text.result.ok, c.new-text.ensures.len);
  more = (omega (arith, c.requires), omega (arith, c.requires));
  counts = omega arith;
  tries = omega arith;
}

pub returns-in_err-read_on-clause-fault : goal.returns-in_err-read_on-clause-fault
returns-in_err-read_on-clause-fault g c =
    let remaining = g.R.Read.remaining in
    let p = err_from_is_err_and c.from_residual.result c.from_residual.ensures.1 in
    rw (p.1, p.2)
    (read-stopped (source_of remaining c.args.reader.now) (source_of remaining c.loop-text.reader)
    (source_of remaining c.read_on.new.reader) c.loop-text.records c.loop-text.text.items c.loop-text.limit
    c.in_err-read_on.field-0.0 c.loop-text.invariant.read c.loop-text.invariant.counts c.in_err-read_on.ensures.fault)

pub returns-then-branch-clause-read : goal.returns-then-branch-clause-read
returns-then-branch-clause-read g c =
    let remaining = g.R.Read.remaining in
    let entry = remaining (inner_of c.args.reader.now) in
    let text = c.read_on.new.text.items in
    let longer = read-longer entry (remaining (inner_of c.loop-text.reader)) (remaining (inner_of c.read_on.new.reader))
    c.loop-text.records c.loop-text.text.items text c.loop-text.limit c.loop-text.invariant.read
    c.in_ok-read_on.ensures.read in
    read-all (source_of remaining c.args.reader.now) (source_of remaining c.read_on.new.reader) c.loop-text.records
    c.in_ok-read_rest.field-0 text c.loop-text.limit longer c.in_ok-read_on.ensures.within
    (c.in_ok-read_on.ensures.end c.if-branch.true) (rw c.deref.ensures.value at c.in_ok-read_rest.ensures)

pub loop-text-preserved : goal.loop-text-preserved
loop-text-preserved g c =
    let remaining = g.R.Read.remaining in
    let entry = remaining (inner_of c.args.reader.now) in
    let left = remaining (inner_of c.read_on.new.reader) in
    let text = c.read_on.new.text.items in
    let taken = c.in_ok-taken.taken in
    let longer = read-longer entry (remaining (inner_of c.loop-text.reader)) left c.loop-text.records
    c.loop-text.text.items text c.loop-text.limit c.loop-text.invariant.read c.in_ok-read_on.ensures.read in
    let few : taken ≤ length text = rw c.deref-in-loop-text.ensures.value at c.in_ok-taken.ensures.within in
    let front = read-front entry left c.loop-text.records c.read_front.new.self text c.loop-text.limit taken longer
    c.in_ok-read_on.ensures.within few (rw c.deref-in-loop-text.ensures.value at c.in_ok-taken.ensures.read) in
    record {
      read = subst (λ (l : List ℕ). IsReadTo entry left c.read_front.new.self l (c.loop-text.limit - taken))
          (sym c.in_ok-drop_front.ensures) front;
      within = omega (
        arith,
        c.in_ok-read_on.ensures.within,
        few,
        ap (λ (l : List ℕ). length l) c.in_ok-drop_front.ensures,
        length-drop taken text,
      );
      more = c.loop-text.invariant.more;
      counts = omega (arith, c.loop-text.invariant.counts, c.in_ok-read_on.ensures.counts);
      tries = omega (arith, c.loop-text.invariant.tries, c.in_ok-read_on.ensures.tries);
    }
