use Rattle.std.proofs.Common.{◌≡◌, ◌++◌, ◌∷◌, [], ◌∙◌, List, Option, Some, ap, length, sym, subst, arith}
use Rattle.row_core.specs.declared.value.Value.{Value}
use Rattle.row_core.specs.Lent.{lent_value}
use Rattle.agg_core.specs.Grouping.{IsLast}
use Rattle.agg_core.proofs.GroupLemmas.{class_of_added}
use Rattle.agg_core.proofs.groups.enter_group.Goals as goal

pub returns : goal.returns
returns c =
    let old = c.args.groups.now.items in
    let value = lent_value c.args.value in
    let counted : c.len-class.result ≡ length old =
    let ok = c.args.groups.now.ok.0 in let len = c.len-class.ensures in omega arith in
    class_of_added value old c.push.new.self.items c.len-class.result c.requires.rise c.requires.upto
    (λ last. c.if-is_last.ensures
    (subst (λ (l : List (Option Value)). IsLast l (Some value)) (sym c.deref.ensures.value) last))
    (c.in_ok-push.ensures.items
    ∙ ap (λ (group : Option Value). old ++ group ∷ []) (c.in_ok-copy_value.ensures ∙ c.requires.there))
    counted
