use Rattle.std.proofs.Common.{arith, refl}
use Rattle.std.proofs.lemmas.Result.{IfOk-weaker}
use Rattle.live_core.proofs.FeedLemmas.{scanned-begun, scanned-on, scanned-waits}
use Rattle.live_core.proofs.live.Live.scan_on.Goals as goal

pub returns-then-self : goal.returns-then-self
returns-then-self c =
    let grows = c.in_ok-extend_from_slice.ensures.items in
    IfOk-weaker c.scan_tail.result _ _
    (λ end reads fed dones f.
    scanned-on fed c.args.bytes.now dones c.args.self.now _ c.len-from.result end f
    (record { session = refl; text = grows }) c.requires.few c.if-self.true c.if-self.true
    (omega (arith, c.len-from.ensures, c.args.self.now.text.ok)) reads)
    (rw c.deref.ensures.value at c.scan_tail.ensures.reads)

pub returns-in-Some : goal.returns-in-Some
returns-in-Some c =
    let grows = c.in_ok-extend_from_slice.ensures.items in
    let first = rw c.deref-2.ensures.value at c.in-Some.ensures.some in
    IfOk-weaker c.scan_tail-in-Some.result _ _
    (λ end reads fed dones f.
    scanned-begun fed c.args.bytes.now dones c.args.self.now _ c.in-Some.place end f
    (record { session = refl; text = grows }) c.requires.few c.if-self.false refl first.0 first.1 reads)
    (rw c.deref-in-Some.ensures.value at c.scan_tail-in-Some.ensures.reads)

pub returns-in-None : goal.returns-in-None
returns-in-None c =
    let grows = c.in_ok-extend_from_slice.ensures.items in
    λ fed dones f.
    scanned-waits fed c.args.bytes.now dones c.args.self.now _ f (record { session = refl; text = grows })
    c.if-self.false c.if-self.false refl (rw c.deref-2.ensures.value at c.in-None.ensures.none)
