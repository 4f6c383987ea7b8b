use Rattle.std.proofs.Common.{rules, ◌∷◌, ◌∙◌, List, ℕ, Option, ap, sym}
use Rattle.atomic_table.specs.Table.{Me, rest}
use Rattle.store_core.specs.declared.pass.Note.{Note}
use Rattle.store_core.specs.declared.store.Store.{Store}
use Rattle.store_core.proofs.Posting.{may_shut, may_reopen}
use Rattle.store_core.proofs.post.Post.exchange.Goals as goal

pub swap_new_seat-found-requires : goal.swap_new_seat-found-requires
swap_new_seat-found-requires g c = (search rules, may_shut _ c.args.self.now.table.shared.key)

pub exchange-old-requires : goal.exchange-old-requires
exchange-old-requires g c = let t = c.swap_new_seat-found.ensures.1 c.if-found-eq-OPEN.true in (
  c.swap_new_seat-found.ensures.0,
  (t.0, t.1 ∙ ap (λ (l : List (ℕ × Option Note)). (0, t.0) ∷ l) (sym (ap rest t.1))),
)

pub store-requires : goal.store-requires
store-requires g c =
    let t = c.swap_new_seat-found.ensures.1 c.if-found-eq-OPEN.true in
    let new = c.args.new in
    let laid : List (ℕ × Option Note) → List (ℕ × Option Note) = λ l. (0, new) ∷ rest l in (
      search rules,
      search rules,
      may_reopen _ _ _ _ new _ c.args.self.now.slots
          (ap (λ (m : Me (Option Note) Store). m.1) c.exchange-old.ensures.3 ∙ ap laid t.1) c.requires,
    )
