use Rattle.std.proofs.Common.{◌≡◌, ℕ, ◌<◌, List, length, get_or, arith, inl, inr, subst, sym, ◌∙◌}
use Rattle.std.specs.Prelude.{All, Contains}
use Rattle.std.specs.List.{HoldsAt}
use Rattle.std.proofs.lemmas.Bool.{cases_lt}
use Rattle.std.proofs.lemmas.List.Elements.{All-contains, Contains-get_or}
use Rattle.dip_core.specs.declared.item.Item.{Item}
use Rattle.dip_core.specs.Division.{all_of, part_at}
use Rattle.dip_core.proofs.StepLemmas.{contains-all_of}
use Rattle.ruzgalt_c.specs.Dip.{AreNumbersOf}
use Rattle.ruzgalt_c.proofs.RowLemmas.{parts-apart}
use Rattle.ruzgalt_c.proofs.dip.number_rows.Goals as goal

-- An item of a list that is a part.
within : (part items : List Item) → items ≡ part → (i : ℕ) (d : Item) → i < length items
    → Contains part (get_or items i d)
within part items here i d h =
    let x = get_or items i d in
    subst (λ (l : List Item). Contains l x) here (Contains-get_or items i d h)

pub number_part-requires : goal.number_part-requires
number_part-requires c = record {
  room = λ i d h.
      let parts = c.args.division.now in
      let x = get_or c.items.result.now i d in
      let fits : x.id < length c.args.numbers.now = All-contains (λ (x : Item). x.id < length c.args.numbers.now)
      (all_of parts) x c.requires.room (contains-all_of parts c.loop-k.k x (within (part_at parts c.loop-k.k) c.items.result.now
      (c.items.ensures ∙ c.part.ensures) i d h)) in
      let len : length c.loop-k.numbers ≡ length c.args.numbers.now = c.loop-k.invariant.len in
      omega (arith, fits, len);
}

pub loop-k-preserved : goal.loop-k-preserved
loop-k-preserved c =
    let parts = c.args.division.now in
    let k = c.loop-k.k in
    let new = c.number_part.new.numbers in
    let items = c.items.result.now in
    let here : items ≡ part_at parts k = c.items.ensures ∙ c.part.ensures in
    record {
      len = c.number_part.ensures.len ∙ c.loop-k.invariant.len;
      are = λ j lt. elim (cases_lt j k) [
        | inl less ↦ λ i d h e.
            let x = get_or (part_at parts j) i d in
            let kept = c.number_part.ensures.others x.id e (λ m f g same.
            parts-apart parts j k x (get_or c.items.result.now m f) c.requires.distinct less
            (Contains-get_or (part_at parts j) i d h) (within (part_at parts k) items here m f g) (sym same)) in
            kept ∙ c.loop-k.invariant.are j less i d h e
        | inr last ↦
            let e : k ≡ j = omega (arith, lt, last) in
            subst (λ m. AreNumbersOf parts new m) e
            (subst (λ (l : List Item). All (λ (x : Item). HoldsAt (λ n. n ≡ k) new x.id) l) here
            c.number_part.ensures.set)
      ];
    }
