use Rattle.std.proofs.Common.{◌+◌, ◌∷◌, ◌++◌, ◌∙◌, [], None, ap, append-nil, append_assoc, arith, drop, get_or, sym}
use Rattle.std.specs.Prelude.{unwrap_or}
use Rattle.version_core.specs.Wanted.{with_set}
use Rattle.version_core.proofs.WantedLemmas.{with-all, with-more}
use Rattle.version_core.proofs.parts.values_set.Goals as goal

pub loop-column-preserved : goal.loop-column-preserved
loop-column-preserved c =
    let sets = c.args.sets.now in
    let values = c.args.values.now in
    let i = c.loop-column.column in
    let now = c.loop-column.now.items in
    let rest = with_set (drop (i + 1) sets) (drop (i + 1) values) in
    ap (λ l. l ++ rest) c.in_ok-push.ensures.items
    ∙ append_assoc now (c.in_ok-value_set.field-0 ∷ []) rest
    ∙ ap (λ v. now ++ v ∷ rest)
    (c.in_ok-value_set.ensures ∙ ap (unwrap_or (get_or sets i None)) c.index-values-column.is)
    ∙ ap (λ l. now ++ l) (sym (with-more sets values i c.index-values-column.result (omega arith)))
    ∙ c.loop-column.invariant

pub returns : goal.returns
returns c =
    sym (append-nil c.loop-column.now.items)
    ∙ ap (λ l. c.loop-column.now.items ++ l)
    (sym (with-all (drop c.loop-column.column c.args.sets.now) c.args.values.now c.loop-column.column (omega arith)))
    ∙ c.loop-column.invariant
