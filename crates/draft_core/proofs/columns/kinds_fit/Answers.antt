use Rattle.std.proofs.Common.{rules, ◌≡◌, ◌<◌, ◌∙◌, arith, false, length, map, sym, true}
use Rattle.std.proofs.lemmas.List.{length-map}
use Rattle.draft_core.specs.Columns.{kind_of_column}
use Rattle.row_core.proofs.FitsLemmas.{fits-next, fits-none}
use Rattle.draft_core.proofs.KindLemmas.{is_fit_kind, kind_there}
use Rattle.draft_core.proofs.columns.kinds_fit.Goals as goal

pub returns-then-ne : goal.returns-then-ne
returns-then-ne c =
    let columns = c.args.columns.now in
    let values = c.args.values.now in
    let i = c.loop-i.i in
    let column = c.index-columns-i.result in
    let kind = c.kind.result in
    let inside : i < length values = omega arith in
    let other : is_fit_kind column kind ≡ false = search rules in
    sym (fits-none is_fit_kind columns (map kind_of_column values) i column kind c.loop-i-test.true
    (omega (arith, inside, length-map values kind_of_column))
    (kind_there columns values i column c.index-values-i.result kind inside c.index-columns-i.is c.index-values-i.is
    c.kind.ensures ∙ other))
    ∙ c.loop-i.invariant

pub loop-i-preserved : goal.loop-i-preserved
loop-i-preserved c =
    let columns = c.args.columns.now in
    let values = c.args.values.now in
    let i = c.loop-i.i in
    let column = c.index-columns-i.result in
    let kind = c.kind.result in
    let inside : i < length values = omega arith in
    let same : is_fit_kind column kind ≡ true = search rules in
    fits-next is_fit_kind columns (map kind_of_column values) i column kind c.loop-i-test.true
    (omega (arith, inside, length-map values kind_of_column))
    (kind_there columns values i column c.index-values-i.result kind inside c.index-columns-i.is c.index-values-i.is
    c.kind.ensures ∙ same)
    ∙ c.loop-i.invariant
