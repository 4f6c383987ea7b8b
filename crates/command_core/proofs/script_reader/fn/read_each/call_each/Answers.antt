use Rattle.std.proofs.Common.{arith, List, [], ℕ}
use denote.Ref.{Bor}
use Rattle.command_core.proofs.SeamLemmas.{piece-le}
use Rattle.command_core.proofs.script_reader.fn.read_each.call_each.Goals as goal

pub read_piece-requires : goal.read_piece-requires
read_piece-requires c =
    omega (
      arith,
      c.requires,
      piece-le (λ (p : Bor (List ℕ)). p.now) c.captures.pieces.now c.args.number record { ref_ptr = (0, 0); now = [] }
          c.requires.0,
    )
