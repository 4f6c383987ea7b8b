use Rattle.std.proofs.Common.{◌≡◌, ◌∙◌, Some, None, ap, arith, sym}
use Rattle.std.specs.Prelude.{option_map, slice_get}
use Rattle.table_core.specs.Lent.{lent_row}
use Rattle.version_core.proofs.StoredLemmas.{slice_get-inside, slice_get-past, slice_get-versions_of}
use Rattle.version_core.proofs.stored.StoredVersions.get.Goals as goal

pub index-requires : goal.index-requires
index-requires c =
    let there : slice_get c.self.inside.rows c.args.place ≡ Some (lent_row c.in-Some.row) =
    sym c.get.ensures ∙ ap (option_map lent_row) c.in-Some.is in
    let inside = slice_get-inside c.self.inside.rows c.args.place (lent_row c.in-Some.row) there in
    omega (arith, inside, c.self.invariant, c.self.inside.system_periods.ok.0)

pub returns-in-Some : goal.returns-in-Some
returns-in-Some c =
    let there : slice_get c.self.inside.rows c.args.place ≡ Some (lent_row c.in-Some.row) =
    sym c.get.ensures ∙ ap (option_map lent_row) c.in-Some.is in
    slice_get-versions_of c.self.inside.rows c.self.inside.system_periods.items c.args.place (lent_row c.in-Some.row)
    c.index.result.now c.self.invariant there c.index.ensures
    ∙ ap (λ vs. slice_get vs c.args.place) c.self.view_is

pub returns-in-None : goal.returns-in-None
returns-in-None c =
    let past : slice_get c.self.inside.rows c.args.place ≡ None =
    sym c.get.ensures ∙ ap (option_map lent_row) c.in-None.is in
    sym (slice_get-past c.self.inside.rows c.self.inside.system_periods.items c.args.place c.self.invariant past)
    ∙ ap (λ vs. slice_get vs c.args.place) c.self.view_is
