use Rattle.std.proofs.Common.{◌∙◌, ◌+◌, ◌++◌, ap, arith, map-id, sym}
use Rattle.std.proofs.lemmas.Iterator.{YieldsList-from_range, items_from_drains}
use Rattle.version_core.proofs.places.push_places.Goals as goal

-- the range gave each position
pub returns-clause-ok : goal.returns-clause-ok
returns-clause-ok c =
    let ran = c.in_default.ensures.ran in
    let all = YieldsList-from_range c.args.first (c.args.first + c.args.count) c.args.count ran.2 (omega arith) in
    ran.3.0 ∙ ap (λ l. c.args.places.now.items ++ l)
    (sym (map-id ran.1) ∙ items_from_drains ran.1 (ran.4.1.0, ran.4.1.1, λ _. (ran.4.0, ran.4.1.2)) all)
