use Rattle.std.proofs.Common.{◌≡◌, ◌∷◌, ◌++◌, ap, inl, inr, ◌∙◌}
use Rattle.std.proofs.lemmas.Result.{IfOk-weaker}
use Rattle.round_core.specs.Spans.{IsJoint}
use Rattle.round_core.proofs.splicing.spliced.Goals as goal

pub returns : goal.returns
returns c =
    let both = c.in-Some.both in
    let joint : IsJoint c.args.early c.args.late both = c.in-Some.ensures in
    let front : c.in_ok-without_last.field-0 ≡ joint.front = c.in_ok-without_last.ensures joint.front joint.last joint.early_is in
    let back : c.with_first.result ≡ both ∷ joint.back = c.with_first.ensures joint.first joint.back joint.late_is in
    IfOk-weaker c.followed_by-2.result _ _
    (λ rows e. inl (record {
      both = both;
      joint = joint;
      rows_are = e ∙ ap (λ l. l ++ c.with_first.result) front ∙ ap (λ l. joint.front ++ l) back;
    }))
    c.followed_by-2.ensures

pub returns-in_default : goal.returns-in_default
returns-in_default c =
    IfOk-weaker c.followed_by.result _ _
    (λ rows e. inr (record { off = c.in_default.ensures; rows_are = e })) c.followed_by.ensures
