use Rattle.std.proofs.Common.{◌≡◌, sym, ◌∙◌, ap, true, cond, ◌++◌, length, drop}
use Rattle.std.specs.Prelude.{replicate, Some, None}
use Rattle.row_core.specs.Name.{is_name}
use Rattle.row_core.proofs.NameLemmas.{unpadded-kept, padded-kept}
use Rattle.row_core.proofs.name.Name.parse.Goals as goal

name : (c : goal.After-bytes-2-1) → is_name c.args.text.now ≡ true
name c = sym c.is_name.ensures ∙ c.if-not-is_name.false

pub invariant_of-result : goal.invariant_of-result
invariant_of-result c = (
  ap is_name
      (unpadded-kept c.args.text.now _ (name c)
      (ap (λ text. text ++ drop (length c.args.text.now) (replicate 32 0)) c.copy_from_slice.ensures.after)) ∙ name c,
  padded-kept c.args.text.now _ (name c)
      (ap (λ text. text ++ drop (length c.args.text.now) (replicate 32 0)) c.copy_from_slice.ensures.after),
)

pub returns : goal.returns
returns c =
    ap Some (unpadded-kept c.args.text.now _ (name c)
    (ap (λ text. text ++ drop (length c.args.text.now) (replicate 32 0)) c.copy_from_slice.ensures.after))
    ∙ ap (λ b. cond b (Some c.args.text.now) None) (sym (name c))
