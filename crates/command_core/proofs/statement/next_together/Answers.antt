use Rattle.std.proofs.Common.{◌≡◌, ◌+◌, ◌-◌, ◌∙◌, ap, arith, drop, false, inl, inr, subst, sym, take}
use Rattle.command_core.specs.Lines.{fields_in, lines_in}
use Rattle.command_core.specs.Meaning.{refuse}
use Rattle.command_core.specs.Statement.{AreMembers, One, placed_in, stated, opened_together}
use Rattle.command_core.specs.declared.refusal.Refusal.TheVariants.{Unended}
use Rattle.command_core.proofs.Blocks.{states-together, states-unended, opened-more, opened-one}
use Rattle.command_core.proofs.Cutting.{rest-from}
use Rattle.command_core.proofs.statement.next_together.Goals.{then-len-eq1, else-len-eq1}
use Rattle.command_core.proofs.statement.next_together.Goals as goal

pub returns-in_default-clause-states : goal.returns-in_default-clause-states
returns-in_default-clause-states c =
    let lines = lines_in c.args.lines in
    let number = c.args.number in
    let behind = lines_in c.range.result in
    let rest = rest-from lines behind c.len.result 1 c.len.ensures c.range.ensures in
    let found = c.in_default.ensures.none (number + 1) in (
      One (refuse number Unended),
      ap One (sym c.refused.ensures),
      inr (inr (states-unended lines behind (fields_in c.args.opening) number rest c.requires.first c.requires.opens
          c.len-in_default.result found.0 found.1 c.len-in_default.ensures found.2 found.3)),
    )

pub returns-clause-states : goal.returns-clause-states
returns-clause-states c =
    let lines = lines_in c.args.lines in
    let opening = fields_in c.args.opening in
    let number = c.args.number in
    let behind = lines_in c.range.result in
    let len = c.in-Some.len in
    let found = c.in-Some.ensures in
    let rest = rest-from lines behind c.len.result 1 c.len.ensures c.range.ensures in
    let members = found.before (number + 1) in
    let commands = placed_in false members.0 in
    let statement = stated number (opened_together opening commands) in
    let states = states-together lines behind opening number rest c.requires.first c.requires.opens len members.0
    found.within members.1 found.last in
    elim c.if-len-eq1.branch [
      | then-len-eq1 w ↦
          let size : len + 1 - 1 ≡ len = omega arith in
          let body = w.range-then-len-eq1.ensures ∙ (ap (λ n. take n (drop 1 lines)) size ∙ ap (take len) (sym rest)) in
          rw w.statement-is (
            statement,
            (
              members.0,
              subst (λ l. AreMembers (number + 1) l members.0) (sym body) members.1,
              ap (stated number) (opened-one opening commands (sym c.len-2.ensures ∙ w.if-len-eq1.true)),
            ),
            inr (inl states),
          )
      | else-len-eq1 w ↦
          rw w.statement-is (
            statement,
            ap (stated number) (opened-more opening commands (λ e. w.if-len-eq1.false (c.len-2.ensures ∙ e)))
                ∙ ap One (sym w.refused-else-len-eq1.ensures),
            inr (inl states),
          )
    ]
