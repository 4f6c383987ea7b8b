use Rattle.std.proofs.Common.{◌≡◌, ◌∙◌, ◌++◌, None, ap, length, length-append, replicate, arith}
use Rattle.std.proofs.lemmas.List.{length-replicate}
use Rattle.table_core.specs.Numbered.{numbered}
use Rattle.table_core.proofs.NumberedLemmas.{length-numbered}
use Rattle.version_core.specs.Made.{made}
use Rattle.version_core.specs.Stored.{SystemPeriod, versions_of}
use Rattle.version_core.proofs.StoredLemmas.{length-versions_of, versions_of-grown}
use Rattle.version_core.proofs.stored.StoredVersions.append.Goals as goal

pub invariant_of-self-in_default : goal.invariant_of-self-in_default
invariant_of-self-in_default c =
    let rows = c.self.inside.rows in
    let system_periods = c.self.inside.system_periods.items in
    let more = c.args.rows in
    let system_period : SystemPeriod = record { from = c.args.commit; to = None } in
    omega (
      arith,
      c.self.invariant,
      ap length c.in_default.ensures.ok,
      length-append rows (numbered (length rows) more),
      length-numbered (length rows) more,
      ap length c.in_ok-push_system_periods.ensures.ok,
      length-append system_periods (replicate c.len.result system_period),
      length-replicate c.len.result system_period,
      c.len.ensures,
    )

pub returns-clause-ok : goal.returns-clause-ok
returns-clause-ok c =
    let rows = c.self.inside.rows in
    let system_periods = c.self.inside.system_periods.items in
    let more = c.args.rows in
    let used : length rows ≡ length c.args.self.now =
    omega (
      arith,
      c.self.invariant,
      length-versions_of rows system_periods c.self.invariant,
      ap length c.self.view_is,
    ) in
    versions_of-grown c.args.commit rows (numbered (length rows) more) c.append.new.self system_periods
    c.push_system_periods.new.system_periods.items c.len.result c.self.invariant c.in_default.ensures.ok
    (omega (arith, c.len.ensures, length-numbered (length rows) more)) c.in_ok-push_system_periods.ensures.ok
    ∙ ap (λ n. versions_of rows system_periods ++ made c.args.commit (numbered n more)) used
    ∙ ap (λ vs. vs ++ made c.args.commit (numbered (length c.args.self.now) more)) c.self.view_is
