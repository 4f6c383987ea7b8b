use Rattle.std.proofs.Common.{rules, ◌≡◌, Some, slice_get, length, ap, sym, subst, ◌∙◌}
use Rattle.std.specs.Prelude.{option_map}
use Rattle.std.proofs.lemmas.List.{length-map}
use Rattle.std.proofs.lemmas.Option.{get_or_from_slice_get, slice_get_within, slice_get-map}
use Rattle.store_core.specs.declared.pass.Pass.{Pass}
use Rattle.store_core.proofs.store.Store.new.Goals as goal

pub returns : goal.returns
returns c =
    let passes = c.passes_for.new.list.items in
    let seats = c.in_ok-turn.seats in (
      search rules,
      record {
        count = sym (length-map passes (λ (p : Pass). p.seat))
            ∙ (ap length c.passes_for.ensures.seats ∙ (sym seats.ok.0 ∙ c.in_ok-turn.ensures.count));
        each = λ i pass at.
            let seat : slice_get seats.items i ≡ Some pass.seat =
            subst (λ l. slice_get l i ≡ Some pass.seat) c.passes_for.ensures.seats
            (slice_get-map (λ (p : Pass). p.seat) passes i ∙ ap (option_map (λ (p : Pass). p.seat)) at) in
            let fresh = c.in_ok-turn.ensures.each i pass.seat seat in (
              fresh.0,
              record {
                number = ap (λ v. v.number) fresh.1;
                passes = ap (λ v. v.mark) fresh.1;
                left = subst (λ (p : Pass). p.left ≡ c.args.calls_each) (get_or_from_slice_get passes i pass pass at)
                    (c.passes_for.ensures.left i pass (slice_get_within passes i pass at));
                seen = ap (λ v. v.seen) fresh.1;
                mine = ap (λ v. v.mine) fresh.1;
              },
            );
      },
    )
