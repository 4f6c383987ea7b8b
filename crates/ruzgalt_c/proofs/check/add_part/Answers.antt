use Rattle.std.proofs.Common.{◌≡◌, ◌+◌, ◌<◌, ◌++◌, ◌∷◌, [], ℕ, List, length, take, arith, sym, ap, ◌∙◌, length-append}
use Rattle.std.proofs.lemmas.List.{take_all, take_more}
use Rattle.ruzgalt_c.proofs.check.add_part.Goals as goal

pub push-requires : goal.push-requires
push-requires c =
    let len : length c.loop-id.claim ≡ length (c.args.claim.now ++ take c.loop-id.id-index c.args.ids.now ∷ []) =
    ap length c.loop-id.invariant in
    let more = length-append c.args.claim.now (take c.loop-id.id-index c.args.ids.now ∷ []) in
    omega (arith, len, more)

pub loop-id-preserved : goal.loop-id-preserved
loop-id-preserved c =
    let ids = c.args.ids.now in
    let i = c.loop-id.id-index in
    let within : i < length ids = omega arith in
    c.in_ok-push.ensures.ok c.args.claim.now (take i ids) c.loop-id.invariant
    ∙ ap (λ (l : List ℕ). c.args.claim.now ++ l ∷ []) (sym (take_more ids i 0 within))

pub returns : goal.returns
returns c =
    c.loop-id.invariant
    ∙ ap (λ (l : List ℕ). c.args.claim.now ++ l ∷ []) (take_all c.loop-id.id-index c.args.ids.now (omega arith))
