use Rattle.std.proofs.Common.{◌≡◌, ◌+◌, ◌++◌, List, ℕ, ap, arith, length, length-append, take, ◌∙◌}
use Rattle.std.proofs.KnownBytes.{Consumes-trans}
use Rattle.stream_core.proofs.input.read_on.Goals as goal

pub returns-then-len-limit-clause-fault : goal.returns-then-len-limit-clause-fault
returns-then-len-limit-clause-fault g c =
    let (bytes, read, is) = c.loop-chunk.invariant.read in
    let more = take c.in_ok-taken.taken c.read_some.new.chunk in
    let before : length c.loop-chunk.text.items ≡ length c.args.text.now.items + length bytes =
    ap (λ (l : List ℕ). length l) is ∙ length-append c.args.text.now.items bytes in
    let after : length c.extend_from_slice.new.self.items ≡ length c.loop-chunk.text.items + length more =
    ap (λ (l : List ℕ). length l) c.in_ok-extend_from_slice.ensures.items
    ∙ length-append c.loop-chunk.text.items more in (
      bytes ++ more,
      Consumes-trans _ _ _ bytes more read c.in_ok-taken.ensures.bytes,
      omega (
        arith,
        before,
        after,
        length-append bytes more,
        c.if-len-limit.true,
        c.len-in-loop-chunk.ensures,
        c.extend_from_slice.new.self.ok,
      ),
    )
