use Rattle.std.proofs.Common.{◌≡◌, ◌++◌, ◌∙◌, OnOk, ap, rules, subst}
use Rattle.answer_core.proofs.FieldLemmas.{other_once, quote_twice}
use Rattle.answer_core.proofs.record_text.push_byte.Goals as goal

pub returns-then-byte-eq34 : goal.returns-then-byte-eq34
returns-then-byte-eq34 c =
    subst (λ t. OnOk c.extend_from_slice.result (c.extend_from_slice.new.self.items ≡ c.args.text.now.items ++ t))
    (quote_twice c.args.byte c.if-byte-eq34.true) (search rules)

pub returns-in_ok-push : goal.returns-in_ok-push
returns-in_ok-push c =
    c.in_ok-push.ensures.items
    ∙ ap (λ t. c.args.text.now.items ++ t) (other_once c.args.byte c.if-byte-eq34.false)
