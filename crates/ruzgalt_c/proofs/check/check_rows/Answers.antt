use Rattle.std.proofs.Common.{◌≡◌, ℕ, List, map, sym, subst}
use Rattle.std.specs.Global.{Vec}
use Rattle.dip_core.specs.declared.item.Item.{Item}
use Rattle.dip_core.specs.Item.{IdsRise}
use Rattle.cert_core.specs.Verdict.{IsVerdict}
use Rattle.ruzgalt_c.specs.Rows.{periods}
use Rattle.ruzgalt_c.proofs.ClaimLemmas.{claim-of_lists, ids-rise}
use Rattle.ruzgalt_c.proofs.check.check_rows.Goals as goal

pub returns-clause-verdict : goal.returns-clause-verdict
returns-clause-verdict c =
    let lists = c.in-Ok.lists.items in
    let claim = c.in-Ok-claim_of.claim in
    let made : claim ≡ map (λ (list : Vec ℕ). list.items) lists =
    subst (λ (l : List (Vec ℕ)). claim ≡ map (λ (list : Vec ℕ). list.items) l) c.deref.ensures.value
    c.in-Ok-claim_of.ensures in
    let both = claim-of_lists c.args.part.now c.args.certificate.now.parts lists claim c.in-Ok.ensures made in
    record {
      items = c.in_ok-items.items.items;
      rows = c.in_ok-items.ensures.rows;
      claim = claim;
      len = both.0;
      claimed = both.1;
      is = subst (λ (l : List Item). IsVerdict l claim c.args.certificate.now c.in-Ok-check_division.verdict)
          c.deref-2.ensures.value c.in-Ok-check_division.ensures.verdict;
    }

pub check_division-requires : goal.check_division-requires
check_division-requires c =
    subst IdsRise (sym c.deref-2.ensures.value)
    (ids-rise (periods c.args.from.now c.args.to.now) c.in_ok-items.items.items c.in_ok-items.ensures.rows)
