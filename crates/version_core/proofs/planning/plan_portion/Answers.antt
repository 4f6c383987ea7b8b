use Rattle.std.proofs.Common.{◌≡◌, ◌<◌, ◌++◌, ◌∙◌, ap, append-nil, sym, subst, arith, length, rules}
use Rattle.std.specs.Prelude.{filter, All}
use Rattle.std.specs.Slice.Iter.{chunks_rest}
use Rattle.std.proofs.lemmas.List.{nil_from_length}
use Rattle.version_core.specs.Finding.{passes}
use Rattle.version_core.specs.OpenVersions.{is_taken}
use Rattle.version_core.specs.Plans.{parts_at}
use Rattle.version_core.specs.declared.change.RowsChange.TheVariants.{Portion}
use Rattle.version_core.proofs.FindingLemmas.{block-inside, block-taken, none-reached}
use Rattle.version_core.proofs.OpenLemmas.{parts_at-taken}
use Rattle.version_core.proofs.planning.plan_portion.Goals as goal

pub loop-block-init : goal.loop-block-init
loop-block-init c =
    let vs = c.args.versions.now in
    let test = passes vs (is_taken (Portion c.args.change.now)) in
    let rest = ap chunks_rest c.into_iter-block-iterator.ensures.into_iter_gives ∙ c.chunks-block-items.ensures.rest in
    record {
      can_next = search rules;
      is_finite = tt;
      inside = subst (All (λ place. place < length vs)) (sym rest) c.requires.inside;
      made = c.empty-plan.ensures.parts
          ∙ sym (ap (parts_at (Portion c.args.change.now) vs) c.empty-plan.ensures.taken);
      taken = ap (λ l. l ++ filter test (chunks_rest c.into_iter-block-iterator.result)) c.empty-plan.ensures.taken
          ∙ ap (filter test) rest;
    }

pub any_reached-requires : goal.any_reached-requires
any_reached-requires c = λ k d below.
    let vs = c.args.versions.now in
    let both = block-inside vs (chunks_rest c.loop-block.block-iterator) c.in-Some.block.now
    (chunks_rest c.next.new.self) c.in-Some.ensures.steps.1.0 c.loop-block.invariant.inside in
    omega (arith, both.0 k d below, c.rows_and_system_periods.ensures.rows)

pub plan_block-requires-clause-inside : goal.plan_block-requires-clause-inside
plan_block-requires-clause-inside c =
    (block-inside c.args.versions.now (chunks_rest c.loop-block.block-iterator) c.in-Some.block.now
    (chunks_rest c.next.new.self) c.in-Some.ensures.steps.1.0 c.loop-block.invariant.inside).0

pub plan_block-requires-clause-parts : goal.plan_block-requires-clause-parts
plan_block-requires-clause-parts c =
    c.loop-block.invariant.made

pub loop-block-preserved-in-Continue-1 : goal.loop-block-preserved-in-Continue-1
loop-block-preserved-in-Continue-1 c =
    let vs = c.args.versions.now in
    let steps = c.in-Some.ensures.steps in
    let left = chunks_rest c.loop-block.block-iterator in
    let block = c.in-Some.block.now in
    let rest = chunks_rest c.next.new.self in
    let made : c.plan_block.new.plan.parts
    ≡ parts_at (Portion c.args.change.now) vs c.plan_block.new.plan.taken.items =
    c.in_ok-plan_block.ensures.parts in
    let grown : c.plan_block.new.plan.taken.items ≡ c.loop-block.plan.taken.items
    ++ filter (passes vs (is_taken (Portion c.args.change.now))) block =
    c.in_ok-plan_block.ensures.taken in
    record {
      can_next = search rules;
      is_finite = tt;
      inside = (block-inside vs left block rest steps.1.0 c.loop-block.invariant.inside).1;
      made = made;
      taken = block-taken (passes vs
          (is_taken (Portion c.args.change.now))) c.args.places.now left block rest
          c.loop-block.plan.taken.items c.plan_block.new.plan.taken.items steps.1.0 grown c.loop-block.invariant.taken;
    }

pub loop-block-preserved : goal.loop-block-preserved
loop-block-preserved c =
    let vs = c.args.versions.now in
    let steps = c.in-Some.ensures.steps in
    let left = chunks_rest c.loop-block.block-iterator in
    let block = c.in-Some.block.now in
    let rest = chunks_rest c.next.new.self in
    let taken = c.loop-block.plan.taken.items in
    let none = none-reached c.args.change.now
    c.rows_and_system_periods.result.0.now c.rows_and_system_periods.result.1.now vs block
    c.rows_and_system_periods.ensures.versions
    (sym c.any_reached.ensures ∙ c.if-any_reached.false) in
    record {
      can_next = search rules;
      is_finite = tt;
      inside = (block-inside vs left block rest steps.1.0 c.loop-block.invariant.inside).1;
      made = c.loop-block.invariant.made;
      taken = block-taken (passes vs
          (is_taken (Portion c.args.change.now))) c.args.places.now left block rest
          taken taken steps.1.0 (sym (append-nil taken) ∙ ap (λ l. taken ++ l) (sym none))
          c.loop-block.invariant.taken;
    }

pub returns : goal.returns
returns c =
    let vs = c.args.versions.now in
    let test = passes vs (is_taken (Portion c.args.change.now)) in
    let none = nil_from_length (chunks_rest c.loop-block.block-iterator) c.in-None.ensures.steps.1.0 in
    let all = sym (append-nil c.loop-block.plan.taken.items)
    ∙ ap (λ l. c.loop-block.plan.taken.items ++ filter test l) (sym none)
    ∙ c.loop-block.invariant.taken ∙ c.requires.taken in
    record {
      parts = c.loop-block.invariant.made
          ∙ parts_at-taken (Portion c.args.change.now) vs c.loop-block.plan.taken.items all;
      taken = all;
    }
