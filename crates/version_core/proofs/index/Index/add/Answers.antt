use Rattle.std.proofs.Common.{◌∙◌, ◌++◌, ◌∷◌, [], sym, refl, arith}
use Rattle.std.proofs.lemmas.Option.{get_or_from_slice_get}
use Rattle.version_core.specs.Lent.{lent_version}
use Rattle.version_core.proofs.IndexLemmas.{index-pushed, index-skipped, index-written}
use Rattle.version_core.proofs.index.Index.add.Goals as goal

pub returns-in_ok-push : goal.returns-in_ok-push
returns-in_ok-push c =
    let v = lent_version c.at-version.result in
    let here = sym (get_or_from_slice_get c.args.versions.now c.args.place v v c.at-version.ensures) in
    let bucket = sym c.bucket_in.ensures.bucket ∙ c.in-Some.is in
    let small = c.in-Some.ensures.few in
    let whole = c.requires.before.whole in
    let written = index-written c.args.self.now.buckets.items c.in-Some.bucket c.index_mut.result.now c.push.new.self
    (λ places. places ++ c.args.place ∷ [])
    (omega (arith, small, whole)) c.index_mut.ensures.value c.in_ok-push.ensures.ok in
    index-pushed c.args.versions.now c.args.place v c.args.self.now _ c.in-Some.bucket
    c.requires.inside here small bucket refl written c.requires.before

pub returns-in_default : goal.returns-in_default
returns-in_default c =
    let v = lent_version c.at-version.result in
    let here = sym (get_or_from_slice_get c.args.versions.now c.args.place v v c.at-version.ensures) in
    index-skipped c.args.versions.now c.args.place v c.args.self.now c.requires.inside here
    (sym c.bucket_in.ensures.bucket ∙ c.in_default.is) c.requires.before
