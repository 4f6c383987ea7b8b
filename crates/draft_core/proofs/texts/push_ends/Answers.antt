use Rattle.std.proofs.Common.{◌∙◌, ◌+◌, ◌++◌, ap, map-id, sym}
use Rattle.std.proofs.lemmas.Iterator.{YieldsList-from_map, YieldsList-from_slice, items_from_drains}
use Rattle.draft_core.proofs.texts.push_ends.Goals as goal

-- each end came after `start`
pub returns-clause-ok : goal.returns-clause-ok
returns-clause-ok c =
    let ran = c.in_default.ensures.ran in
    let ends = YieldsList-from_slice c.args.more.now
    (ap (λ s. s.iter.rest.now) ran.2 ∙ ap (λ s. s.rest.now) c.map-shifted.ensures.source ∙ c.iter.ensures.rest) in
    let all = YieldsList-from_map _ (λ end. c.args.start + end) ends
    (ap (λ s. s.f) ran.2 ∙ c.map-shifted.ensures.closure) (λ x r q k. (ap (λ b. record { 0 = b }) k.met.0, k.met.1)) in
    ran.3.0 ∙ ap (λ l. c.args.ends.now.items ++ l)
    (sym (map-id ran.1) ∙ items_from_drains ran.1 (ran.4.1.0, ran.4.1.1, λ _. (ran.4.0, ran.4.1.2)) all)
