-- The numbers already visited are printed.
use Rattle.std.proofs.Common.{◌≡◌, ◌∷◌, ◌++◌, map, take}
use Rattle.std.specs.Prelude.{codes, decimal}
use Rattle.csv.specs.Writing.{row_body}
use Rattle.answer_core.specs.RecordBytes.{answer_writer}
use Rattle.answer_core.proofs.record_text.RecordText.refutation.Given as goal

abbrev pub invariant-loop-number : goal.invariant-loop-number
invariant-loop-number l =
    l.self
    ≡ l.fn.self
    ++ row_body answer_writer (codes "no" ∷ l.name ∷ map decimal (take l.number-index l.numbers))
