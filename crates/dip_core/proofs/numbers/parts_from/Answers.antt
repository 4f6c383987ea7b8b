use Rattle.std.proofs.Common.{arith, ◌≡◌, ◌∙◌, ◌-◌, ◌<◌, ◌++◌, ◌∷◌, [], List, ap, get_or, inl, inr, length, refl, sym, take}
use Rattle.std.proofs.lemmas.List.{get_or_read}
use Rattle.dip_core.specs.declared.item.Item.{Item}
use Rattle.dip_core.specs.Division.{part_at}
use Rattle.dip_core.proofs.NumbersLemmas.{length-numbered, numbered-next, numbered-next_other, numbered-nil}
use Rattle.dip_core.proofs.numbers.parts_from.Goals.{then-from-number+then-number-from+in_ok-push, else-from-number, else-from-number-via-then-from-number+else-number-from, else-from-number-via-else-from-number}
use Rattle.dip_core.proofs.numbers.parts_from.Goals as goal

pub loop-i-init : goal.loop-i-init
loop-i-init c = c.in_ok-parts.ensures ∙ numbered-nil [] 0 c.args.from (length c.args.sizes.now)

pub loop-i-preserved : goal.loop-i-preserved
loop-i-preserved c =
    let items = c.args.items.now in
    let numbers = c.args.numbers.now in
    let i = c.loop-i.i in
    let from = c.args.from in
    let count = length c.args.sizes.now in
    let n = get_or numbers i 0 in
    let parts = c.loop-i.parts.items in
    let within : i < length items = c.loop-i-test.true in
    let long : length parts ≡ count =
    ap length c.loop-i.invariant ∙ length-numbered (take i items) (take i numbers) from count in
    elim c.if-from-number.branch [
      | then-from-number+then-number-from+in_ok-push w ↦
          let before : n - from < count =
          omega (arith, w.if-number-from.true, w.len.ensures, c.loop-i.parts.ok.0, long) in
          let same : w.index_mut.result.now ≡ part_at parts (n - from) =
          get_or_read parts (n - from) w.index_mut.result.now (omega (arith, before, long)) w.index_mut.ensures.value []
          in
          let x = w.index-items-i.result in
          ap (λ v. v.items) w.parts-is
          ∙ numbered-next items numbers i from count n c.requires within refl x w.index-items-i.is w.if-from-number.true
          before parts w.push.new.self c.loop-i.invariant
          (w.in_ok-push.ensures.ok ∙ ap (λ (part : List Item). part ++ x ∷ []) same)
      | else-from-number w ↦
          ap (λ v. v.items) w.parts-is
          ∙ c.loop-i.invariant
          ∙ sym (numbered-next_other items numbers i from count n c.requires within refl (elim w.else-from-number.branch [
            | else-from-number-via-then-from-number+else-number-from w' ↦
                inr (omega (
                  arith,
                  w'.if-from-number.true,
                  w'.if-number-from.false,
                  w'.len.ensures,
                  c.loop-i.parts.ok.0,
                  long,
                ))
            | else-from-number-via-else-from-number w' ↦ inl (omega (arith, w'.if-from-number.false))
          ]))
    ]
