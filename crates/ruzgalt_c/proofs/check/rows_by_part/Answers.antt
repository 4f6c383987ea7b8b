use Rattle.std.proofs.Common.{◌≡◌, ◌<◌, ◌≤◌, ◌+◌, ◌++◌, ◌∷◌, [], ℕ, List, length, take, get_or, sym, subst, arith}
use Rattle.std.proofs.lemmas.List.{length-take-le, take_all, take_more}
use Rattle.ruzgalt_c.specs.Check.{AreRowsByPart}
use Rattle.ruzgalt_c.proofs.check.rows_by_part.Goals as goal

pub loop-k-preserved : goal.loop-k-preserved
loop-k-preserved c =
    let part = c.args.part.now in
    let k = c.loop-k.k in
    let within : k < length part = omega arith in
    let len : length (take k part) ≡ k = length-take-le k part (omega arith) in
    subst (λ (l : List ℕ). AreRowsByPart l c.args.parts c.add_row.new.lists.items)
    (sym (take_more part k 0 within))
    (c.in_ok-add_row.ensures (take k part) c.args.parts (sym len) c.loop-k.invariant)

pub returns : goal.returns
returns c =
    subst (λ (l : List ℕ). AreRowsByPart l c.args.parts c.loop-k.lists.items)
    (take_all c.loop-k.k c.args.part.now (omega arith)) c.loop-k.invariant
