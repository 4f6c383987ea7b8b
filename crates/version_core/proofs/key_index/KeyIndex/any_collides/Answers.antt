use Rattle.std.proofs.Common.{◌≡◌, ◌∙◌, ap, false, sym, true}
use Rattle.std.specs.Prelude.{filter}
use Rattle.std.specs.List.Sorted.{IsStrictlySortedBy}
use Rattle.std.specs.declared.ops.Bound.TheVariants.{Excluded, Unbounded}
use Rattle.std.specs.BTreeMap.Range.{range_contains}
use Rattle.std.proofs.lemmas.List.Kept.{IsStrictlySortedBy-filter}
use Rattle.draft_core.specs.Lent.{lent_draft}
use Rattle.version_core.specs.Finding.{passes}
use Rattle.version_core.specs.KeyIndex.{entry_cmp, key_number}
use Rattle.version_core.specs.Keys.{collides_left}
use Rattle.version_core.proofs.KeyIndexLemmas.{left-all, left-fewer, some-passes, walked-far, walked-out}
use Rattle.version_core.proofs.KeyLemmas.{any-left}
use Rattle.version_core.proofs.key_index.KeyIndex.any_collides.Goals as goal

pub loop-entry-init : goal.loop-entry-init
loop-entry-init c = left-all _ c.into_iter-entry-iterator.result.iter

pub returns-then-collides_at : goal.returns-then-collides_at
returns-then-collides_at c =
    let key = c.args.self.now.columns.items in
    let hits = collides_left c.args.change.now key (lent_draft c.args.new) in
    let hit : passes c.args.versions.now hits c.in-Some.entry.now.place ≡ true =
    ap (λ k. passes c.args.versions.now
    (collides_left c.args.change.now k (lent_draft c.args.new))
    c.in-Some.entry.now.place) (sym c.as_slice-key.ensures.value) ∙ sym c.collides_at.ensures ∙ c.if-collides_at.true in
    sym (some-passes hits c.args.versions.now c.in-Some.entry.now.place hit)
    ∙ any-left c.args.change.now key
    (lent_draft c.args.new) c.args.versions.now

pub returns-then-is_last_near : goal.returns-then-is_last_near
returns-then-is_last_near c =
    let key = c.args.self.now.columns.items in
    let number = c.end_of-end.ensures.number
    ∙ ap (λ k. key_number k (lent_draft c.args.new).values) c.as_slice-key.ensures.value in
    let miss : passes c.args.versions.now
    (collides_left c.args.change.now key
    (lent_draft c.args.new)) c.in-Some.entry.now.place ≡ false =
    ap (λ k. passes c.args.versions.now
    (collides_left c.args.change.now k (lent_draft c.args.new))
    c.in-Some.entry.now.place) (sym c.as_slice-key.ensures.value) ∙ sym c.collides_at.ensures ∙ c.if-collides_at.false in
    let near : c.into_iter-entry-iterator.result.iter ≡ filter
    (range_contains entry_cmp Unbounded (Excluded c.end_of-end.result)) c.args.self.now.entries.keys =
    ap (λ r. r.iter) c.into_iter-entry-iterator.ensures.into_iter_gives ∙ c.rev-entry-items.ensures.source
    ∙ c.range.ensures.between tt in
    let up : IsStrictlySortedBy entry_cmp c.into_iter-entry-iterator.result.iter =
    rw near (IsStrictlySortedBy-filter entry_cmp (range_contains entry_cmp Unbounded (Excluded c.end_of-end.result))
    c.args.self.now.entries.keys c.range.ensures.ordered) in
    sym (walked-far c.args.change.now
    (lent_draft c.args.new) c.args.versions.now c.args.self.now
    c.end_of-end.result c.into_iter-entry-iterator.result.iter c.requires.index number c.end_of-end.ensures.from near
    c.loop-entry.entry-iterator.iter c.next.new.self.iter c.in-Some.entry.now c.in-Some.ensures.steps miss
    (rw c.as_slice-key.ensures.value at (c.is_last_near.ensures.last c.if-is_last_near.true)) up c.loop-entry.invariant)
    ∙ any-left c.args.change.now key
    (lent_draft c.args.new) c.args.versions.now

pub loop-entry-preserved : goal.loop-entry-preserved
loop-entry-preserved c =
    let key = c.args.self.now.columns.items in
    let miss : passes c.args.versions.now
    (collides_left c.args.change.now key
    (lent_draft c.args.new)) c.in-Some.entry.now.place ≡ false =
    ap (λ k. passes c.args.versions.now
    (collides_left c.args.change.now k (lent_draft c.args.new))
    c.in-Some.entry.now.place) (sym c.as_slice-key.ensures.value) ∙ sym c.collides_at.ensures ∙ c.if-collides_at.false in
    left-fewer
    (λ e. passes c.args.versions.now
    (collides_left c.args.change.now key (lent_draft c.args.new)) e.place)
    c.into_iter-entry-iterator.result.iter c.loop-entry.entry-iterator.iter c.next.new.self.iter c.in-Some.entry.now
    c.in-Some.ensures.steps miss c.loop-entry.invariant

pub returns : goal.returns
returns c =
    let key = c.args.self.now.columns.items in
    let number = c.end_of-end.ensures.number
    ∙ ap (λ k. key_number k (lent_draft c.args.new).values) c.as_slice-key.ensures.value in
    let near : c.into_iter-entry-iterator.result.iter ≡ filter
    (range_contains entry_cmp Unbounded (Excluded c.end_of-end.result)) c.args.self.now.entries.keys =
    ap (λ r. r.iter) c.into_iter-entry-iterator.ensures.into_iter_gives ∙ c.rev-entry-items.ensures.source
    ∙ c.range.ensures.between tt in
    sym (walked-out c.args.change.now
    (lent_draft c.args.new) c.args.versions.now c.args.self.now
    c.end_of-end.result c.into_iter-entry-iterator.result.iter c.requires.index number c.end_of-end.ensures.from near
    c.loop-entry.entry-iterator.iter c.in-None.ensures.steps.0 c.loop-entry.invariant)
    ∙ any-left c.args.change.now key
    (lent_draft c.args.new) c.args.versions.now
