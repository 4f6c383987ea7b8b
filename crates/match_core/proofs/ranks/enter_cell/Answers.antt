use Rattle.std.proofs.Common.{◌≡◌, ◌∙◌, ◌+◌, ◌-◌, ◌++◌, [], ◌∷◌, Global, Vec, ap, arith, length, subst, sym}
use Rattle.std.proofs.lemmas.List.{length_push}
use Rattle.std.proofs.lemmas.Option.{slice_get_within}
use Rattle.match_core.specs.declared.cells.Cell.{Cell}
use Rattle.match_core.specs.Cells.{HasLast, IsEntered}
use Rattle.match_core.proofs.RankLemmas.{entered_other, entered_same}
use Rattle.match_core.proofs.ranks.enter_cell.Goals as goal
use Rattle.match_core.proofs.ranks.enter_cell.Goals.{then-not-is_last+in_ok-push, else-not-is_last}

pub returns : goal.returns
returns g c =
    let rank = c.len.result - 1 in
    let cmp = g.V.Ord.cmp in
    let total = g.met.V.Ord.total in
    let old = c.args.firsts.now.items in
    let new = c.if-not-is_last.firsts.items in
    let cell = c.args.cell.now in
    let ok = c.if-not-is_last.firsts.ok.0 in
    let len = c.len.ensures in
    elim c.if-not-is_last.branch [
      | then-not-is_last+in_ok-push w ↦ (
          let put : new ≡ old ++ cell ∷ [] =
          ap (λ (v : Vec (Cell g.row.V.Denot) Global). v.items) w.firsts-is ∙ w.in_ok-push.ensures.items in
          let more : length new ≡ length old + 1 = ap length put ∙ length_push old cell in
          entered_other cmp total old new cell rank c.requires.rise c.requires.upto
          (λ last. w.if-not-is_last.ensures (subst (λ l. HasLast cmp l cell) (sym c.deref.ensures.value) last)) put
          (omega (arith, ok, len, more)))
      | else-not-is_last w ↦ (
          let last : HasLast cmp old cell =
          subst (λ l. HasLast cmp l cell) c.deref.ensures.value w.if-not-is_last.ensures in
          let some = slice_get_within old (length old - 1) last.0 last.1.0 in
          let same : length new ≡ length old =
          ap (λ (v : Vec (Cell g.row.V.Denot) Global). length v.items) w.firsts-is in
          subst (λ (v : Vec (Cell g.row.V.Denot) Global). IsEntered cmp old cell v.items rank) (sym w.firsts-is)
          (entered_same cmp total old cell rank c.requires.rise last (omega (arith, ok, len, some, same))))
    ]
