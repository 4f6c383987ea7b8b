use Rattle.std.proofs.Common.{◌+◌, ◌++◌, ◌∷◌, [], ◌∙◌, ap, sym, arith, ℕ, length, take, append_assoc, Global, Vec}
use Rattle.std.proofs.lemmas.List.Sums.{sum_by-take-le, sum_by_push}
use Rattle.csv.specs.Records.{fields_of}
use Rattle.command_core.specs.Flat.{ends_from, size_of}
use Rattle.command_core.proofs.Cutting.{field_at-slice_get, slice_get-there, take-slice_get}
use Rattle.command_core.proofs.FlatLemmas.{ends_from_push}
use Rattle.command_core.proofs.flat_fields.push_ends.Goals as goal
use Rattle.command_core.proofs.flat_fields.push_ends.Goals.{in-Some+in_default-push, in_default}

pub overflow_cast-end : goal.overflow_cast-end
overflow_cast-end c =
    let row = fields_of c.args.row.now in
    let at = c.loop-place.place in
    let field = c.in-Some.field.now in
    let more = take-slice_get row at field (sym (c.in-Some.ensures.value ∙ field_at-slice_get row at)) in
    omega (
      arith,
      c.requires,
      c.loop-place.invariant.last,
      ap size_of more,
      sum_by_push length (take at row) field,
      sum_by-take-le length row (at + 1),
    )

pub loop-place-preserved : goal.loop-place-preserved
loop-place-preserved c =
    let row = fields_of c.args.row.now in
    let at = c.loop-place.place in
    let old = c.args.ends.now.items in
    let start = c.args.start in
    let inv = c.loop-place.invariant in
    elim c.match-get.branch [
      | in-Some+in_default-push w ↦ (
          let field = w.in-Some.field.now in
          let more = take-slice_get row at field (sym (w.in-Some.ensures.value ∙ field_at-slice_get row at)) in
          record {
            before = inv.before;
            pushed = ap (λ (v : Vec ℕ Global). v.items) w.ends-is ∙ w.in_default-push.ensures.items
                ∙ ap (λ l. l ++ (c.loop-place.end + length field) ∷ []) inv.pushed
                ∙ append_assoc old (ends_from start (take at row)) ((c.loop-place.end + length field) ∷ [])
                ∙ ap (λ l. old ++ l)
                (ap (λ n. ends_from start (take at row) ++ (n + length field) ∷ []) inv.last
                ∙ sym (ends_from_push start (take at row) field)
                ∙ ap (ends_from start) (sym more));
            last = omega (arith, w.end-is, inv.last, ap size_of more, sum_by_push length (take at row) field);
          })
      | in_default w ↦
          absurd (slice_get-there row at (omega (arith, c.loop-place-test.true, c.len-place-end.ensures))
          (sym (w.in_default.ensures.value ∙ field_at-slice_get row at)))
    ]
