use Rattle.std.proofs.Common.{◌≡◌, ◌-◌, ◌∙◌, ◌++◌, ◌∷◌, [], ap, arith, length, refl}
use Rattle.std.specs.Vec.{vec_len}
use Rattle.draft_core.proofs.TextsLemmas.{pushed-text, same_texts, texts-back}
use Rattle.draft_core.proofs.texts.Texts.push.Goals as goal

pub invariant_of-self : goal.invariant_of-self
invariant_of-self c =
    same_texts c.self.inside.ends.items c.self.inside.bytes.items c.push.new.self.items c.self.inside.bytes.items
    c.in_err-push.ensures.items refl c.self.invariant

pub invariant_of-self-in-Err : goal.invariant_of-self-in-Err
invariant_of-self-in-Err c =
    let ends = c.self.inside.ends in
    let count : vec_len c.push.new.self - 1 ≡ length ends.items = omega (arith, c.in_ok-push.ensures.len, ends.ok) in
    texts-back ends.items c.self.inside.bytes.items (c.in_ok-end.end ∷ []) c.push.new.self.items c.pop.new.self.items
    c.extend_from_slice.new.self.items (vec_len c.push.new.self - 1) c.in_ok-push.ensures.items count
    c.pop.ensures.rest c.in-Err.ensures.items c.self.invariant

pub invariant_of-self-in_default : goal.invariant_of-self-in_default
invariant_of-self-in_default c =
    (pushed-text c.self.inside.ends.items c.self.inside.bytes.items c.args.text.now c.deref.result.now
    c.push.new.self.items c.extend_from_slice.new.self.items c.in_ok-end.end c.self.invariant (c.requires, c.utf8.text)
    c.deref.ensures.value c.in_ok-end.ensures c.in_ok-push.ensures.items
    (c.in_default.ensures.items ∙ ap (λ l. c.self.inside.bytes.items ++ l) c.as_bytes.ensures.value)).0

pub returns-clause-ok : goal.returns-clause-ok
returns-clause-ok c =
    (pushed-text c.self.inside.ends.items c.self.inside.bytes.items c.args.text.now c.deref.result.now
    c.push.new.self.items c.extend_from_slice.new.self.items c.in_ok-end.end c.self.invariant (c.requires, c.utf8.text)
    c.deref.ensures.value c.in_ok-end.ensures c.in_ok-push.ensures.items
    (c.in_default.ensures.items ∙ ap (λ l. c.self.inside.bytes.items ++ l) c.as_bytes.ensures.value)).1
    ∙ ap (λ texts. texts ++ c.args.text.now ∷ []) c.self.view_is
