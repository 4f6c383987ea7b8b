use Rattle.std.proofs.Common.{◌≡◌, ◌+◌, ◌&&◌, ◌∙◌, None, Some, ap, drop, false, get_or, sym, true, arith}
use Rattle.std.specs.Prelude.{slice_get}
use Rattle.std.specs.Option.{option_copied}
use Rattle.table_core.specs.Lent.{lent_row}
use Rattle.version_core.specs.Wanted.{are_wanted}
use Rattle.version_core.proofs.WantedLemmas.{is_met, wanted-all, wanted-more}
use Rattle.version_core.proofs.parts.are_wanted.Goals as goal
use Rattle.version_core.proofs.parts.are_wanted.Goals.{in-Some+else-not-is_equal_in, in_default}

pub returns-then-not-is_equal_in : goal.returns-then-not-is_equal_in
returns-then-not-is_equal_in c =
    let wanted = c.args.wanted.now in
    let values = (lent_row c.args.row).values in
    let i = c.loop-column.column in
    let one : get_or wanted i None ≡ Some c.in-Some.value.now =
    sym c.get.ensures ∙ ap option_copied c.in-Some.is in
    let met : is_met (get_or wanted i None) (slice_get values i) ≡ false =
    ap (λ o. is_met o (slice_get values i)) one ∙ sym c.is_equal_in.ensures ∙ c.if-not-is_equal_in.true in
    sym (ap (λ b. b && are_wanted (drop (i + 1) wanted) (drop (i + 1) values)) met)
    ∙ sym (wanted-more wanted values i (omega arith)) ∙ c.loop-column.invariant

pub loop-column-preserved : goal.loop-column-preserved
loop-column-preserved c =
    let wanted = c.args.wanted.now in
    let values = (lent_row c.args.row).values in
    let i = c.loop-column.column in
    let met : is_met (get_or wanted i None) (slice_get values i) ≡ true =
    elim c.match-get.branch [
      | in-Some+else-not-is_equal_in w ↦
          ap (λ o. is_met o (slice_get values i)) (sym c.get.ensures ∙ ap option_copied w.in-Some.is)
          ∙ sym w.is_equal_in.ensures ∙ w.if-not-is_equal_in.false
      | in_default w ↦ ap (λ o. is_met o (slice_get values i)) (sym c.get.ensures ∙ ap option_copied w.in_default.is)
    ] in
    sym (wanted-more wanted values i (omega arith)
    ∙ ap (λ b. b && are_wanted (drop (i + 1) wanted) (drop (i + 1) values)) met) ∙ c.loop-column.invariant

pub returns : goal.returns
returns c =
    sym (wanted-all c.args.wanted.now (drop c.loop-column.column (lent_row c.args.row).values) c.loop-column.column
    (omega arith)) ∙ c.loop-column.invariant
