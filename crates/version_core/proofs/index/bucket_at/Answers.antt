use Rattle.std.proofs.Common.{◌∙◌, ◌<◌, [], ap, arith, get_or, length, option_map, sym, Some}
use Rattle.std.specs.Option.{option_copied}
use Rattle.std.proofs.lemmas.List.{get_or_default}
use Rattle.version_core.specs.declared.index.Index.{Index}
use Rattle.version_core.proofs.IndexLemmas.{found-whole}
use Rattle.version_core.proofs.index.bucket_at.Goals as goal

pub index-requires : goal.index-requires
index-requires c =
    let index = c.in-Some.index.now in
    let found = sym (ap option_copied c.in-Some.is) ∙ c.index_of.ensures in
    let whole = found-whole c.args.indexes.now c.args.lookup.column index c.requires.buckets (sym found) in
    omega (arith, whole, c.requires.lookup, index.buckets.ok.0)

pub returns-in-Some : goal.returns-in-Some
returns-in-Some c =
    let index = c.in-Some.index.now in
    let bucket = c.args.lookup.bucket in
    let found = sym (ap option_copied c.in-Some.is) ∙ c.index_of.ensures in
    let whole = found-whole c.args.indexes.now c.args.lookup.column index c.requires.buckets (sym found) in
    let inside : bucket < length index.buckets.items = omega (arith, whole, c.requires.lookup) in
    ap Some
    (c.as_slice.ensures ∙ c.index.ensures
    ∙ get_or_default index.buckets.items bucket c.index.result.now [] inside)
    ∙ ap (option_map (λ (index : Index). get_or index.buckets.items bucket [])) found
