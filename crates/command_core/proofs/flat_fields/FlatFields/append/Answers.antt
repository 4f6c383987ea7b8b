use Rattle.std.proofs.Common.{◌≡◌, ◌-◌, ◌++◌, ◌∙◌, ap, sym, arith, length, length-take-le}
use Rattle.csv.specs.Records.{fields_of}
use Rattle.command_core.specs.Flat.{size_of}
use Rattle.command_core.proofs.FlatLemmas.{appended, record-flat}
use Rattle.command_core.proofs.ScriptSizes.{lengths-cut}
use Rattle.command_core.proofs.flat_fields.FlatFields.append.Goals as goal

pub push_ends-requires : goal.push_ends-requires
push_ends-requires c =
    let size = lengths-cut 0 c.self.inside.ends.items c.self.inside.bytes.items c.self.invariant in
    omega (
      arith,
      c.requires.few,
      c.len-start.ensures,
      c.self.inside.bytes.ok,
      size,
      ap size_of c.self.view_is,
    )

pub slice_bounds-extend_from_slice-length : goal.slice_bounds-extend_from_slice-length
slice_bounds-extend_from_slice-length c =
    let within = (record-flat c.args.row.now c.requires.whole).1 in
    sym (length-take-le (c.in_ok-end.end - c.len-start.result) c.as_slice.result.now
    (omega (arith, within, c.in_ok-end.ensures.last, ap length c.as_slice.ensures)))

pub invariant_of-self-in_default : goal.invariant_of-self-in_default
invariant_of-self-in_default c =
    let bytes = c.self.inside.bytes in
    let start : c.len-start.result ≡ length bytes.items = omega (arith, c.len-start.ensures, bytes.ok) in
    (appended c.args.row.now c.self.inside.ends.items bytes.items _ _ c.as_slice.result.now c.len-start.result
    c.in_ok-end.end c.requires.whole c.self.invariant start c.in_ok-end.ensures.last c.as_slice.ensures
    c.in_ok-end.ensures.ok c.in_default.ensures.items).0

pub returns-clause-ok : goal.returns-clause-ok
returns-clause-ok c =
    let bytes = c.self.inside.bytes in
    let start : c.len-start.result ≡ length bytes.items = omega (arith, c.len-start.ensures, bytes.ok) in
    (appended c.args.row.now c.self.inside.ends.items bytes.items _ _ c.as_slice.result.now c.len-start.result
    c.in_ok-end.end c.requires.whole c.self.invariant start c.in_ok-end.ensures.last c.as_slice.ensures
    c.in_ok-end.ensures.ok c.in_default.ensures.items).1
    ∙ ap (λ fields. fields ++ fields_of c.args.row.now) c.self.view_is
