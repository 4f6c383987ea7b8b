use Rattle.std.proofs.Common.{◌≡◌, ◌<◌, ◌∙◌, ◌++◌, ap, arith, get_or, length, refl}
use Rattle.list_core.specs.Cut.{cut}
use Rattle.draft_core.proofs.TextsLemmas.{appended-texts, behind, ends-within, same_texts, texts-back}
use Rattle.draft_core.proofs.texts.Texts.append.Goals as goal

pub push_ends-requires : goal.push_ends-requires
push_ends-requires c = λ k d lt.
    let more = c.more.inside in
    let within = ends-within 0 more.ends.items (length more.bytes.items) c.more.invariant.0 in
    let inside : k < length more.ends.items = omega (arith, lt, ap length c.deref-2.ensures.value) in
    let place = ap (λ l. get_or l k d) c.deref-2.ensures.value in
    let last = within k d inside in
    omega (
      arith,
      place,
      last,
      c.len.ensures,
      c.len-2.ensures,
      c.deref.ensures.len,
      c.in_ok-place_behind.ensures,
      more.bytes.ok,
      c.self.inside.bytes.ok,
    )

pub invariant_of-self : goal.invariant_of-self
invariant_of-self c =
    same_texts c.self.inside.ends.items c.self.inside.bytes.items c.push_ends.new.ends.items c.self.inside.bytes.items
    c.in_err-push_ends.ensures.err refl c.self.invariant

pub invariant_of-self-in-Err : goal.invariant_of-self-in-Err
invariant_of-self-in-Err c =
    let ends = c.self.inside.ends in
    let count : c.len-count.result ≡ length ends.items = omega (arith, c.len-count.ensures, ends.ok) in
    texts-back ends.items c.self.inside.bytes.items (behind c.len-2.result c.deref-2.result.now)
    c.push_ends.new.ends.items c.truncate.new.self.items c.extend_from_slice.new.self.items c.len-count.result
    c.in_ok-push_ends.ensures.ok count c.truncate.ensures.items c.in-Err.ensures.items c.self.invariant

pub invariant_of-self-in_default : goal.invariant_of-self-in_default
invariant_of-self-in_default c =
    let bytes = c.self.inside.bytes in
    let more = c.more.inside in
    let start : c.len-2.result ≡ length bytes.items = omega (arith, c.len-2.ensures, bytes.ok) in
    (appended-texts c.self.inside.ends.items bytes.items more.ends.items more.bytes.items c.deref-2.result.now
    c.deref-3.result.now c.push_ends.new.ends.items c.extend_from_slice.new.self.items c.len-2.result c.self.invariant
    c.more.invariant start c.deref-2.ensures.value c.deref-3.ensures.value c.in_ok-push_ends.ensures.ok
    c.in_default.ensures.items).0

pub returns-clause-ok : goal.returns-clause-ok
returns-clause-ok c =
    let bytes = c.self.inside.bytes in
    let more = c.more.inside in
    let start : c.len-2.result ≡ length bytes.items = omega (arith, c.len-2.ensures, bytes.ok) in
    (appended-texts c.self.inside.ends.items bytes.items more.ends.items more.bytes.items c.deref-2.result.now
    c.deref-3.result.now c.push_ends.new.ends.items c.extend_from_slice.new.self.items c.len-2.result c.self.invariant
    c.more.invariant start c.deref-2.ensures.value c.deref-3.ensures.value c.in_ok-push_ends.ensures.ok
    c.in_default.ensures.items).1
    ∙ ap (λ texts. texts ++ cut 0 more.ends.items more.bytes.items) c.self.view_is
    ∙ ap (λ texts. c.args.self.now ++ texts) c.more.view_is
