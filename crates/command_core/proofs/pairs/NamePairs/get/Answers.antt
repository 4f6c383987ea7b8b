use Rattle.std.proofs.Common.{◌+◌, ◌*◌, ◌<◌, arith, length, sym}
use Rattle.std.proofs.lemmas.Option.{slice_get_past}
use Rattle.command_core.specs.Lines.{fields_in}
use Rattle.command_core.specs.Pairs.{pairs_of}
use Rattle.command_core.proofs.Cutting.{slice_get-there}
use Rattle.command_core.proofs.NamedColumns.{none-named, some-named}
use Rattle.command_core.proofs.PortionLemmas.{length-pairs_of, names-get, pairs-get}
use Rattle.command_core.proofs.pairs.NamePairs.get.Goals as goal

pub returns-then-place-len : goal.returns-then-place-len
returns-then-place-len c =
    let fields = fields_in c.args.self.fields in
    sym (slice_get_past (pairs_of fields) c.args.place
    (omega (arith, length-pairs_of fields, c.if-place-len.true, c.len.ensures)))

pub returns-in_err-one : goal.returns-in_err-one
returns-in_err-one c =
    let fields = fields_in c.args.self.fields in
    let lt : 2 * c.args.place < length fields = omega (arith, c.if-place-len.false, c.len.ensures) in
    absurd (slice_get-there fields (2 * c.args.place) lt (sym c.in_err-one.ensures))

pub returns-in_err-other : goal.returns-in_err-other
returns-in_err-other c =
    let fields = fields_in c.args.self.fields in
    let lt : 2 * c.args.place + 1 < length fields = omega (arith, c.if-place-len.false, c.len.ensures) in
    absurd (slice_get-there fields (2 * c.args.place + 1) lt (sym c.in_err-other.ensures))

pub unreachable-requires : goal.unreachable-requires
unreachable-requires c =
    let fields = fields_in c.args.self.fields in
    let one = c.in_ok-one.one.now in
    let named = names-get fields (2 * c.args.place) one c.args.self.named (sym c.in_ok-one.ensures) in
    absurd (cc (named, none-named one c.in_default.ensures))

pub unreachable-requires-in_default-parse : goal.unreachable-requires-in_default-parse
unreachable-requires-in_default-parse c =
    let fields = fields_in c.args.self.fields in
    let other = c.in_ok-other.other.now in
    let named = names-get fields (2 * c.args.place + 1) other c.args.self.named (sym c.in_ok-other.ensures) in
    absurd (cc (named, none-named other c.in_default-parse.ensures))

pub returns : goal.returns
returns c =
    let fields = fields_in c.args.self.fields in
    let one = c.in_ok-one.one.now in
    let other = c.in_ok-other.other.now in
    let there = pairs-get fields c.args.place one other (sym c.in_ok-one.ensures) (sym c.in_ok-other.ensures) in
    let first = (some-named one c.in-Ok.one c.in-Ok.ensures).1 in
    let second = (some-named other c.in-Ok-parse.other c.in-Ok-parse.ensures).1 in
    rw (first, second) (sym there)
