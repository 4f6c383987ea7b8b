use Rattle.std.proofs.Common.{◌≤◌, ◌∙◌, ap, arith, inl, subst, sym, take}
use Rattle.command_core.specs.Command.{meaning_of}
use Rattle.command_core.specs.Lines.{fields_in, lines_in}
use Rattle.command_core.specs.Meaning.{MeansRecord, behind_length, meaning_or_refusal}
use Rattle.command_core.specs.Words.{verb_of}
use Rattle.command_core.proofs.BehindLemmas.{record-behind}
use Rattle.command_core.proofs.Cuts.{record-means}
use Rattle.command_core.proofs.reading.next_command.Goals.{in-Ok, in-Err-Refused}
use Rattle.command_core.proofs.reading.next_command.Goals as goal

pub returns-clause-means : goal.returns-clause-means
returns-clause-means c =
    let lines = lines_in c.args.lines in
    let own = record-means lines (fields_in c.get-opening.result) c.args.number c.get-opening.ensures
    (sym c.opens_block.ensures ∙ c.if-opens_block.false) in
    elim c.match-read_record.branch [
      | in-Ok w ↦
          rw w.command-is
          (inl (subst (λ m. MeansRecord c.args.number (take 1 lines) m)
          (ap (meaning_or_refusal c.args.number) w.in-Ok.ensures.reads) own))
      | in-Err-Refused w ↦
          let reads = rw w.in-Err-Refused.field-0-is at w.in-Err-Refused.ensures.reads in
          rw w.command-is
          (inl (subst (λ m. MeansRecord c.args.number (take 1 lines) m)
          (ap (meaning_or_refusal c.args.number) reads ∙ sym w.refused-command.ensures) own))
    ]

pub returns-clause-behind : goal.returns-clause-behind
returns-clause-behind c =
    let line = fields_in c.get-opening.result in
    let none = record-behind c.args.number line (verb_of line) in
    elim c.match-read_record.branch [
      | in-Ok w ↦
          let own : behind_length (meaning_of w.in-Ok.command) ≤ 0 =
          subst (λ r. behind_length (meaning_or_refusal c.args.number r) ≤ 0) w.in-Ok.ensures.reads none in
          rw w.command-is (omega (arith, own, c.requires))
      | in-Err-Refused w ↦
          let own : behind_length (meaning_of w.refused-command.result) ≤ 0 =
          subst (λ m. behind_length m ≤ 0) (sym w.refused-command.ensures) (omega arith) in
          rw w.command-is (omega (arith, own, c.requires))
    ]
