use Rattle.std.proofs.Common.{rules, ◌≡◌, ◌∷◌, ◌++◌, ◌<◌, ◌≤◌, ◌∙◌, [], All, sym, ap, subst, map, refl, append_assoc}
use Rattle.std.specs.Vec.Iter.{into_iter_items}
use Rattle.std.proofs.lemmas.List.{map_push}
use Rattle.std.proofs.lemmas.List.Elements.{All-push}
use Rattle.list_core.proofs.PlaceLemmas.{All-seam}
use Rattle.book_core.specs.History.{IsLegal}
use Rattle.store_core.specs.declared.pass.Pass.{Pass}
use Rattle.store_core.proofs.store.passes_for.Goals as goal

pub invariant_of-push_reserved : goal.invariant_of-push_reserved
invariant_of-push_reserved c =
    let yielded = c.loop-seat.yielded in
    let left = into_iter_items c.next.new.self in
    let step : into_iter_items c.loop-seat.seat-iterator ≡ c.in-Some.seat ∷ left = search rules in
    let all : c.args.seats.items ≡ yielded ++ c.in-Some.seat ∷ left =
    sym c.into_iter-seat-iterator.ensures.into_iter_gives.0
    ∙ (sym c.loop-seat.invariant.2 ∙ ap (λ l. yielded ++ l) step) in
    let new =
    All-seam (λ s. (0 < s.seat.me.0.number) × (c.args.calls_each ≤ s.seat.me.0.left) × (s.seat.me.0.seen ≡ []))
    yielded c.in-Some.seat left
    (subst (All (λ s. (0 < s.seat.me.0.number) × (c.args.calls_each ≤ s.seat.me.0.left) × (s.seat.me.0.seen ≡ [])))
    all c.requires.new) in
    record { left_is = new.1; some = new.0; legal = subst IsLegal (sym new.2) (λ n d e. absurd (cc)) }

pub loop-seat-preserved : goal.loop-seat-preserved
loop-seat-preserved c =
    let step = c.in-Some.ensures.steps.0 in
    let inv = c.loop-seat.invariant in
    let items = c.push_reserved.ensures.items in
    let yielded = c.loop-seat.yielded in (
      tt,
      tt,
      append_assoc yielded (c.in-Some.seat ∷ []) (into_iter_items c.next.new.self)
          ∙ (ap (λ l. yielded ++ l) (sym step) ∙ inv.2),
      ap (map (λ (p : Pass). p.seat)) items
          ∙ (map_push (λ (p : Pass). p.seat) c.loop-seat.list.items _ ∙ ap (λ l. l ++ c.in-Some.seat ∷ []) inv.3),
      subst (All (λ (p : Pass). p.left ≡ c.args.calls_each)) (sym items)
          (All-push (λ (p : Pass). p.left ≡ c.args.calls_each) c.loop-seat.list.items _ inv.4 refl),
      c.push_reserved.ensures.capacity ∙ inv.5,
    )
