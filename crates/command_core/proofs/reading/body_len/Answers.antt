use Rattle.std.proofs.Common.{rules, tests, ◌≡◌, true, false, take}
use Rattle.std.specs.Prelude.{IfSome, slice_get}
use Rattle.std.proofs.lemmas.Iterator.{IsFirst-from_position}
use Rattle.std.proofs.lemmas.Iterator.Consumers.{YieldsList-from_first}
use Rattle.command_core.specs.Lines.{fields_in, lines_in}
use Rattle.command_core.specs.Meaning.{IsBody}
use Rattle.command_core.specs.Words.{is_end}
use Rattle.command_core.proofs.Cuts.{first-end}
use Rattle.command_core.proofs.reading.body_len.Goals as goal

-- The position is that of the first record that ends the block.
found : (c : goal.After-position)
    → IfSome c.position.result (λ n. IsBody (take n (lines_in c.args.lines)))
    × IfSome c.position.result (λ n. IfSome (slice_get (lines_in c.args.lines) n) (λ line. is_end line ≡ true))
found c =
    first-end (lines_in c.args.lines) c.position.result
    (IsFirst-from_position _ _ _ (λ line. is_end line ≡ true) (λ line. is_end line ≡ false) c.position.ensures.ran
    (YieldsList-from_first fields_in (λ s. s) (lines_in c.args.lines) c.iter.ensures) (λ x q k. search (rules, tests))
    (λ x q k. search (rules, tests)))

pub returns-clause-before : goal.returns-clause-before
returns-clause-before c = (found c).0

pub returns-clause-last : goal.returns-clause-last
returns-clause-last c = (found c).1
