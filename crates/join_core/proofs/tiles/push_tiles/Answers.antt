use Rattle.std.proofs.Common.{[], ◌∷◌, ◌++◌, ap, append_assoc, ◌∙◌}
use Rattle.join_core.specs.declared.tiles.Tile.{Tile}
use Rattle.join_core.proofs.tiles.push_tiles.Goals as goal

pub returns : goal.returns
returns c =
    let one : Tile = record { left = c.in_ok-from_slice.field-0; right = c.in_ok-one_behind_other.field-0 } in
    let other : Tile = record { left = c.in_ok-from_slice-2.field-0; right = c.in_ok-from_slice-3.field-0 } in
    record {
      one = one;
      other = other;
      split = c.in_ok-push-2.ensures.items ∙ ap (λ l. l ++ (other ∷ [])) c.in_ok-push.ensures.items
          ∙ append_assoc c.args.tiles.now.items (one ∷ []) (other ∷ []);
      one_left = c.in_ok-from_slice.ensures.items;
      one_right = c.in_ok-one_behind_other.ensures;
      other_left = c.in_ok-from_slice-2.ensures.items;
      other_right = c.in_ok-from_slice-3.ensures.items;
    }
