use Rattle.std.proofs.Common.{[], None, Some}
use Rattle.std.specs.Prelude.{unwrap_or}
use Rattle.std.specs.Option.{option_copied}
use Rattle.std.proofs.lemmas.Result.{err_from_is_err_and}
use Rattle.book_core.proofs.BoundLemmas.{does-portion}
use Rattle.book_core.proofs.Portions.{sets-refused, sets-then}
use Rattle.book_core.proofs.apply.bind_pairs.Goals as goal

pub returns-in_err-sets-clause-refused : goal.returns-in_err-sets-clause-refused
returns-in_err-sets-clause-refused c =
    let p = err_from_is_err_and c.from_residual.result c.from_residual.ensures.1 in
    rw (p.1, p.2)
    (sets-refused c.args.schema.now (unwrap_or (option_copied c.args.sets) []) c.args.conds.now c.in_err-sets.field-0.0
    c.in_err-sets.ensures.refused)

pub returns-in_err-conds-clause-refused : goal.returns-in_err-conds-clause-refused
returns-in_err-conds-clause-refused c =
    let p = err_from_is_err_and c.from_residual-in_err-conds.result c.from_residual-in_err-conds.ensures.1 in
    rw (p.1, p.2)
    (sets-then c.args.schema.now (unwrap_or (option_copied c.args.sets) []) c.args.conds.now
    (Some c.in_err-conds.field-0.0) c.in_ok-sets.ensures.refused c.in_err-conds.ensures.refused)

pub returns-in-Some-clause-refused : goal.returns-in-Some-clause-refused
returns-in-Some-clause-refused c =
    sets-then c.args.schema.now (unwrap_or (option_copied c.args.sets) []) c.args.conds.now None
    c.in_ok-sets.ensures.refused c.in_ok-conds.ensures.refused

pub returns-in-None-clause-refused : goal.returns-in-None-clause-refused
returns-in-None-clause-refused c =
    sets-then c.args.schema.now (unwrap_or (option_copied c.args.sets) []) c.args.conds.now None
    c.in_ok-sets.ensures.refused c.in_ok-conds.ensures.refused

pub returns-in-Some-clause-bound : goal.returns-in-Some-clause-bound
returns-in-Some-clause-bound c =
    does-portion c.args.schema.now c.args.portion (option_copied c.args.sets) c.args.conds.now c.in_ok-sets.sets
    (Some c.in-Some.conds) c.in_ok-sets.ensures.bound
    (rw c.in-Some.is at c.in_ok-conds.ensures.bound)

pub returns-in-None-clause-bound : goal.returns-in-None-clause-bound
returns-in-None-clause-bound c =
    does-portion c.args.schema.now c.args.portion (option_copied c.args.sets) c.args.conds.now c.in_ok-sets.sets
    None c.in_ok-sets.ensures.bound
    (rw c.in-None.is at c.in_ok-conds.ensures.bound)
