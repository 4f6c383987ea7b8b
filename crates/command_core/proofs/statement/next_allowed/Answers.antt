use Rattle.std.proofs.Common.{◌≡◌, ◌<◌, ◌≤◌, ◌∙◌, List, [], ◌∷◌, Some, ap, arith, inl, length, subst, sym, take}
use Rattle.std.specs.List.{slice_get}
use Rattle.command_core.specs.Command.{meaning_of}
use Rattle.command_core.specs.Lines.{fields_in, lines_in}
use Rattle.command_core.specs.Meaning.{MeansRecord, behind_length, meaning_or_refusal}
use Rattle.command_core.specs.Records.{Record}
use Rattle.command_core.specs.Words.{verb_of}
use Rattle.command_core.proofs.BehindLemmas.{record-behind}
use Rattle.command_core.proofs.Cuts.{record-means}
use Rattle.command_core.proofs.statement.next_allowed.Goals.{in-Ok, in-Err}
use Rattle.command_core.proofs.statement.next_allowed.Goals as goal

some_there : (xs : List Record) (x : Record) → slice_get xs 0 ≡ Some x → 0 < length xs
some_there [] x e = absurd (cc e)
some_there (y ∷ ys) x e = omega arith

pub returns-clause-means : goal.returns-clause-means
returns-clause-means c =
    let lines = lines_in c.args.lines in
    let own = record-means lines (fields_in c.args.opening) c.args.number c.requires.first
    (sym c.opens_block.ensures ∙ c.if-opens_block.false) in
    elim c.match-read_tableless.branch [
      | in-Ok w ↦
          rw w.command-is
          (inl (subst (λ m. MeansRecord c.args.number (take 1 lines) m)
          (ap (meaning_or_refusal c.args.number) (sym w.in-Ok.ensures)) own))
      | in-Err w ↦
          rw w.command-is
          (inl (subst (λ m. MeansRecord c.args.number (take 1 lines) m)
          (ap (meaning_or_refusal c.args.number) (sym w.in-Err.ensures) ∙ sym w.refused-command.ensures) own))
    ]

pub returns-clause-behind : goal.returns-clause-behind
returns-clause-behind c =
    let line = fields_in c.args.opening in
    let some = some_there (lines_in c.args.lines) line c.requires.first in
    let none = record-behind c.args.number line (verb_of line) in
    elim c.match-read_tableless.branch [
      | in-Ok w ↦
          let own : behind_length (meaning_of w.in-Ok.command) ≤ 0 =
          subst (λ r. behind_length (meaning_or_refusal c.args.number r) ≤ 0) (sym w.in-Ok.ensures) none in
          rw w.command-is (omega (arith, own, some))
      | in-Err w ↦
          let own : behind_length (meaning_of w.refused-command.result) ≤ 0 =
          subst (λ m. behind_length m ≤ 0) (sym w.refused-command.ensures) (omega arith) in
          rw w.command-is (omega (arith, own, some))
    ]
