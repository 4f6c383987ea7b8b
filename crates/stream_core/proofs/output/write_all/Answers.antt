use Rattle.std.proofs.Common.{sym, subst, arith, length-drop}
use Rattle.std.specs.Io.KnownBytes.{Appends}
use Rattle.std.proofs.KnownBytes.{Appends-trans}
use Rattle.std.proofs.Math.Seq.{take-add}
use Rattle.std.proofs.lemmas.List.{take_rest}
use Rattle.stream_core.proofs.output.write_all.Goals as goal

pub loop-taken-preserved : goal.loop-taken-preserved
loop-taken-preserved g c =
    let n = c.in_ok-taken.field-0 in
    let bytes = c.args.bytes.now in
    let done = c.loop-taken.taken in
    let more = rw (take_rest bytes done) at c.in_ok-taken.ensures in
    record {
      within = omega (arith, more.bound, length-drop done bytes);
      written = subst (Appends _ _) (sym (take-add done n bytes))
          (Appends-trans _ _ _ _ _ c.loop-taken.invariant.written more.ok);
      counts = omega arith;
      tries = omega arith;
    }
