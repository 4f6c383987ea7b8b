use Rattle.std.proofs.Common.{◌≡◌, ◌<◌, ◌≤◌, ◌∙◌, ap, arith, length, sym, take}
use Rattle.std.proofs.lemmas.List.{take_all}
use Rattle.list_core.proofs.CutLemmas.{length-cut}
use Rattle.list_core.specs.Cut.{start_at}
use Rattle.draft_core.proofs.TextsLemmas.{first-texts}
use Rattle.draft_core.proofs.texts.Texts.truncate.Goals as goal

pub invariant_of-self : goal.invariant_of-self
invariant_of-self c =
    let ends = c.self.inside.ends in
    let inside : c.args.count < length ends.items = omega (arith, c.if-count-len.true, c.len.ensures, ends.ok) in
    let start : c.start_of.result ≡ start_at 0 ends.items c.args.count =
    c.start_of.ensures ∙ ap (λ l. start_at 0 l c.args.count) c.deref.ensures.value in
    (first-texts ends.items c.self.inside.bytes.items c.truncate-then-count-len.new.self.items c.truncate.new.self.items
    c.args.count c.start_of.result c.self.invariant inside start c.truncate-then-count-len.ensures.items
    c.truncate.ensures.items).0

pub returns-then-count-len : goal.returns-then-count-len
returns-then-count-len c =
    let ends = c.self.inside.ends in
    let inside : c.args.count < length ends.items = omega (arith, c.if-count-len.true, c.len.ensures, ends.ok) in
    let start : c.start_of.result ≡ start_at 0 ends.items c.args.count =
    c.start_of.ensures ∙ ap (λ l. start_at 0 l c.args.count) c.deref.ensures.value in
    (first-texts ends.items c.self.inside.bytes.items c.truncate-then-count-len.new.self.items c.truncate.new.self.items
    c.args.count c.start_of.result c.self.invariant inside start c.truncate-then-count-len.ensures.items
    c.truncate.ensures.items).1
    ∙ ap (take c.args.count) c.self.view_is

pub returns-else-count-len : goal.returns-else-count-len
returns-else-count-len c =
    let size = length-cut 0 c.self.inside.ends.items c.self.inside.bytes.items in
    let all : length c.args.self.now ≤ c.args.count =
    omega (arith, c.if-count-len.false, c.len.ensures, size, ap length c.self.view_is, c.self.inside.ends.ok) in
    sym (take_all c.args.count c.args.self.now all)
