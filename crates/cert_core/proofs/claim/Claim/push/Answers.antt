use Rattle.std.proofs.Common.{◌≡◌, ◌-◌, ◌<◌, ◌≤◌, ◌++◌, ◌∷◌, [], length, length-append, slice_set, suc, ap, sym, ◌∙◌, arith}
use Rattle.std.proofs.lemmas.List.{length-set}
use Rattle.list_core.specs.Cut.{cut}
use Rattle.list_core.proofs.CutLemmas.{length-cut}
use Rattle.cert_core.proofs.CutLemmas.{EndsAt-last, cut-last}
use Rattle.cert_core.proofs.claim.Claim.push.Goals as goal
use Rattle.cert_core.proofs.claim.Claim.push.Goals.{After-move_last}

-- there is a last part
lasts : (c : After-move_last) → suc (length c.self.inside.ends.items - 1) ≡ length c.self.inside.ends.items
lasts c =
    let parts : length (cut 0 c.self.inside.ends.items c.self.inside.ids.items) ≡ length c.args.self.now =
    ap length c.self.view_is in
    let ends = length-cut 0 c.self.inside.ends.items c.self.inside.ids.items in
    let there : 0 < length c.args.self.now = c.requires in
    omega (arith, parts, ends, there)

-- the last part now ends at the end of the ids
moved : (c : After-move_last) → c.move_last.new.ends.items ≡ slice_set c.self.inside.ends.items
    (length c.self.inside.ends.items - 1) (length (c.self.inside.ids.items ++ c.args.id ∷ []))
moved c =
    let len : c.len.result ≡ length c.push.new.self.items = omega (arith, c.len.ensures, c.push.new.self.ok) in
    c.move_last.ensures
    ∙ ap (λ n. slice_set c.self.inside.ends.items (length c.self.inside.ends.items - 1) n)
    (len ∙ ap length c.in_ok-push.ensures.items)

pub invariant_of-self-2 : goal.invariant_of-self-2
invariant_of-self-2 c =
    let ids = c.self.inside.ids.items in
    let ends = c.self.inside.ends.items in
    let more : length ids ≤ length (ids ++ c.args.id ∷ []) = omega (arith, length-append ids (c.args.id ∷ [])) in
    rw (moved c, c.in_ok-push.ensures.items)
    (EndsAt-last 0 ends (length ids) (length (ids ++ c.args.id ∷ [])) (length ends - 1) (lasts c) more c.self.invariant)

pub returns-clause-ok : goal.returns-clause-ok
returns-clause-ok c before last e =
    let ids = c.self.inside.ids.items in
    let ends = c.self.inside.ends.items in
    rw (moved c, c.in_ok-push.ensures.items)
    (cut-last 0 ends ids c.args.id (length ends - 1) (lasts c) c.self.invariant before last (c.self.view_is ∙ e))

pub returns-clause-parts : goal.returns-clause-parts
returns-clause-parts c =
    length-cut 0 c.move_last.new.ends.items c.push.new.self.items
    ∙ (ap length (moved c)
    ∙ (length-set c.self.inside.ends.items (length c.self.inside.ends.items - 1)
    (length (c.self.inside.ids.items ++ c.args.id ∷ []))
    ∙ (sym (length-cut 0 c.self.inside.ends.items c.self.inside.ids.items) ∙ ap length c.self.view_is)))
