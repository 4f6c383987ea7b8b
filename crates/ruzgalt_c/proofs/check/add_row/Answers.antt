use Rattle.std.proofs.Common.{◌≡◌, ◌<◌, ◌≤◌, ◌++◌, ◌∷◌, [], ℕ, length, get_or, set, refl, ap, ◌∙◌, arith}
use Rattle.std.specs.Global.{Vec}
use Rattle.std.proofs.lemmas.List.{get_or_read}
use Rattle.ruzgalt_c.proofs.ClaimLemmas.{rows-added, rows-kept}
use Rattle.ruzgalt_c.proofs.check.add_row.Goals as goal

pub returns-then-len-number : goal.returns-then-len-number
returns-then-len-number c = λ part count e are.
    let lists = c.args.lists.now.items in
    let len : c.len.result ≡ length lists = c.len.ensures ∙ c.args.lists.now.ok.0 in
    let past = c.if-len-number.true in
    rows-kept part count lists c.args.number (omega (arith, len, past)) are

pub returns : goal.returns
returns c = λ part count e are.
    let lists = c.args.lists.now.items in
    let number = c.args.number in
    let own : Vec ℕ = c.push.new.self in
    let len : c.len.result ≡ length lists = c.len.ensures ∙ c.args.lists.now.ok.0 in
    let test = c.if-len-number.false in
    let within : number < length lists = omega (arith, len, test) in
    let same : c.index_mut.result.now ≡ get_or lists number own =
    get_or_read lists number c.index_mut.result.now within c.index_mut.ensures.value own in
    rows-added part count lists (set lists number own) number c.args.row own within refl
    (c.in_ok-push.ensures.items ∙ ap (λ (v : Vec ℕ). v.items ++ c.args.row ∷ []) same) e are
