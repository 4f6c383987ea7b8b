use Rattle.std.proofs.Common.{rules, ◌≡◌, ◌<◌, ◌++◌, ◌+◌, ◌-◌, List, [], ap, append-nil, length, subst, sym, ◌∙◌}
use Rattle.std.specs.Prelude.{◌↔◌, IsSome, vec_len}
use Rattle.std.specs.Global.{Vec}
use Rattle.std.proofs.lemmas.List.{nil_from_length}
use Rattle.list_core.specs.Chunks.{AreChunks, all_in}
use Rattle.list_core.proofs.ChunkLemmas.{all_in-more, fewer_chunks, front_of, popped_one, shorter_chunk}
use Rattle.list_core.proofs.chunked.ChunkedList.without_last.Goals as goal
use Rattle.list_core.proofs.chunked.ChunkedList.without_last.Goals.{then-not-is_empty+in_ok-push, else-not-is_empty}

pub returns : goal.returns
returns g c = λ front last e.
    (let rest = c.pop.new.self.items in
    let old = c.in-Some.chunk in
    let chunk = c.pop-2.new.self in
    let as_many : vec_len old ≡ length old.items = search rules in
    let left : all_in rest ++ chunk.items ≡ front =
    front_of c.self.inside.chunks.items rest old chunk.items c.pop-2.result front last c.in-Some.ensures.items
    c.self.invariant.some (subst (λ n. IsSome c.pop-2.result ↔ (0 < n)) as_many c.pop-2.ensures.variant)
    c.pop-2.ensures.items (c.self.view_is ∙ e) in
    elim c.if-not-is_empty.branch [
      | then-not-is_empty+in_ok-push w ↦
          ap (λ (v : Vec (Vec g.row.T.Denot)). all_in v.items) w.chunks-is ∙ ap all_in w.in_ok-push.ensures.items
          ∙ all_in-more rest chunk ∙ left
      | else-not-is_empty w ↦
          let none : chunk.items ≡ [] = nil_from_length chunk.items (search rules) in
          ap (λ (v : Vec (Vec g.row.T.Denot)). all_in v.items) w.chunks-is ∙ sym (append-nil (all_in rest))
          ∙ ap (λ l. all_in rest ++ l) (sym none) ∙ left
    ])

pub invariant_of-result-2 : goal.invariant_of-result-2
invariant_of-result-2 g c =
    let chunks = c.self.inside.chunks.items in
    let rest = c.pop.new.self.items in
    let old = c.in-Some.chunk in
    let chunk = c.pop-2.new.self in
    let count = c.self.inside.len in
    let as_many : vec_len old ≡ length old.items = search rules in
    let less : length old.items ≡ length chunk.items + 1 =
    popped_one chunks rest old chunk.items c.pop-2.result c.in-Some.ensures.items c.self.invariant.some
    (subst (λ n. IsSome c.pop-2.result ↔ (0 < n)) as_many c.pop-2.ensures.variant) c.pop-2.ensures.items in
    elim c.if-not-is_empty.branch [
      | then-not-is_empty+in_ok-push w ↦
          subst (λ (l : List (Vec g.row.T.Denot)). AreChunks l (count - 1))
          (sym (ap (λ (v : Vec (Vec g.row.T.Denot)). v.items) w.chunks-is ∙ w.in_ok-push.ensures.items))
          (shorter_chunk chunks rest old chunk count c.in-Some.ensures.items c.self.invariant less (search rules))
      | else-not-is_empty w ↦
          subst (λ (l : List (Vec g.row.T.Denot)). AreChunks l (count - 1))
          (sym (ap (λ (v : Vec (Vec g.row.T.Denot)). v.items) w.chunks-is))
          (fewer_chunks chunks rest old count c.in-Some.ensures.items c.self.invariant
          (less ∙ ap (λ (l : List g.row.T.Denot). length l + 1) (nil_from_length chunk.items (search rules))))
    ]
