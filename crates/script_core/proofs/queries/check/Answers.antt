use Rattle.std.proofs.Common.{◌≡◌, ◌+◌, ◌∙◌, List, Result, Ok, ap, subst}
use Rattle.row_core.specs.declared.row.Row.{Row}
use Rattle.match_core.specs.Items.{items_of}
use Rattle.command_core.specs.Fields.{both_ok}
use Rattle.command_core.specs.Lines.{lines_in}
use Rattle.store_core.specs.Snapshots.{history}
use Rattle.script_core.specs.Answer.{IsVerdictOn}
use Rattle.script_core.specs.Effects.{claim_of, rows_or_fault}
use Rattle.script_core.specs.Ledgers.{commit_shown}
use Rattle.script_core.proofs.queries.check.Goals as goal

both_ok-Ok : {S T E : Type 0} (one : Result S E) (other : Result T E) (x : S) (y : T) → one ≡ Ok x → other ≡ Ok y
    → both_ok one other ≡ Ok (x, y)
both_ok-Ok one other x y e f = ap (λ r. both_ok r other) e ∙ ap (λ r. both_ok (Ok x) r) f

pub returns : goal.returns
returns c =
    let reported = rows_or_fault c.args.number (history c.args.snapshot.now) (commit_shown c.args.snapshot.now) c.args.claimed.table in
    let claimed = claim_of (c.args.number + 1) (lines_in c.args.claimed.body) in
    let claim = c.in_ok-claim.claim in
    let given = c.in_ok-verdict_on.field-0 in
    let h = c.in_ok-rows.ensures.gives in (
      (h.0, claim),
      both_ok-Ok reported claimed h.0 claim h.1 c.in_ok-claim.ensures,
      subst (λ (rows : List Row). IsVerdictOn (items_of rows) claim c.args.certificate given) h.2
          c.in_ok-verdict_on.ensures,
    )
