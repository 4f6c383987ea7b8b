use Rattle.std.proofs.Common.{rules, ◌≡◌, ◌+◌, ◌<◌, ◌++◌, ℕ, List, length, get_or, refl, subst, sym, length-append, [], ◌∷◌}
use Rattle.dip_core.specs.declared.item.Item.{Item}
use Rattle.ruzgalt_c.specs.Rows.{Columns, IsRow}
use Rattle.ruzgalt_c.proofs.RowLemmas.{rows-push}
use Rattle.ruzgalt_c.proofs.rows.items_of.Goals as goal

pub loop-k-preserved : goal.loop-k-preserved
loop-k-preserved c =
    let items = c.loop-k.items.items in
    let rows : Columns =
    record { class = c.args.class.now; from = c.args.from.now; to = c.args.to.now; amount = c.args.amount.now } in
    let x : Item =
    record { period = c.in-Some.period; id = c.loop-k.k; class = c.class_at.result; amount = _ } in
    let more : c.push.new.self.items ≡ items ++ x ∷ [] = c.in-Ok-push.ensures.items in
    let len : length (items ++ x ∷ []) ≡ length items + 1 = length-append items (x ∷ []) in
    record {
      len = rw (more, len) (search rules);
      each = subst (λ (all : List Item). (i : ℕ) (d : Item) → i < length all → IsRow rows i (get_or all i d)) (sym more)
          (rows-push rows items x c.loop-k.k c.loop-k.invariant.len c.loop-k.invariant.each
          (record {
            class = c.class_at.ensures;
            start = search rules;
            end = search rules;
            amount = search (rules, c.amount_at.ensures);
            id = refl;
          }));
    }
