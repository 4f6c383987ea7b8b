use Rattle.std.proofs.Common.{◌≡◌, ◌∙◌, ◌+◌, [], ℕ, List, length, ap, arith}
use Rattle.std.proofs.lemmas.List.{length_push}
use Rattle.std.proofs.lemmas.List.Elements.{All-nil, All-push}
use Rattle.version_core.proofs.index.empty_buckets.Goals as goal

pub loop-init : goal.loop-init
loop-init c =
    record {
      many = ap length c.in_ok-buckets.ensures.items;
      empty = rw c.in_ok-buckets.ensures.items
          (All-nil (λ (places : List ℕ). places ≡ []));
    }

pub loop-preserved : goal.loop-preserved
loop-preserved c = record {
  many = ap length c.in_ok-push.ensures.items ∙ length_push c.loop.buckets.items c.new.result
      ∙ ap (λ n. n + 1) c.loop.invariant.many;
  empty = rw c.in_ok-push.ensures.items
      (All-push
      (λ (places : List ℕ). places ≡ []) c.loop.buckets.items c.new.result c.loop.invariant.empty c.new.ensures);
}

pub returns-clause-whole : goal.returns-clause-whole
returns-clause-whole c = omega (arith, c.loop.invariant.many)

pub returns-clause-empty : goal.returns-clause-empty
returns-clause-empty c = c.loop.invariant.empty
