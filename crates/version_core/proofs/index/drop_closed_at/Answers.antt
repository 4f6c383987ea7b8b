use Rattle.std.proofs.Common.{◌≡◌, ◌∙◌, sym, true}
use Rattle.std.specs.Prelude.{All}
use Rattle.version_core.specs.Finding.{passes}
use Rattle.version_core.specs.OpenVersions.{is_open}
use Rattle.version_core.proofs.IndexLemmas.{bucket-nowhere, bucket-written}
use Rattle.version_core.proofs.index.drop_closed_at.Goals as goal

pub returns-in-Some-clause-open : goal.returns-in-Some-clause-open
returns-in-Some-clause-open c =
    bucket-written (All (λ place. passes c.args.versions.now is_open place ≡ true)) c.args.indexes.now c.args.lookup
    c.in-Some.i c.index-indexes-i.result c.drop_closed.new.self (sym c.place_of_index.ensures ∙ c.in-Some.is)
    c.drop_closed.ensures.column c.drop_closed.ensures.open

pub returns-in_default-clause-open : goal.returns-in_default-clause-open
returns-in_default-clause-open c =
    bucket-nowhere (All (λ place. passes c.args.versions.now is_open place ≡ true)) c.args.indexes.now c.args.lookup
    (sym c.place_of_index.ensures ∙ c.in_default.is)
