-- Several texts, written in order.
use Rattle.std.proofs.Common.{◌≡◌, ◌∙◌, ℕ, suc, ◌+◌, ◌<◌, [], ◌∷◌, ◌++◌, List, Result, Ok, Err, OnErr, ap, arith, drop, length, length-append, sym, subst, take}
use Rattle.std.specs.Global.{Vec}
use Rattle.std.specs.Prelude.{get_or}
use Rattle.std.proofs.Math.Seq.{take-append-add, take-suc}
use Rattle.std.proofs.lemmas.List.{take-append-drop, take-append-le}
use Rattle.std.proofs.lemmas.List.Concat.{flat_map-append}
use Rattle.list_core.proofs.ChunkLemmas.{all_in-more}
use Rattle.list_core.specs.Chunks.{all_in}
use Rattle.std.specs.Io.KnownBytes.{Appends}
use Rattle.std.proofs.KnownBytes.{Appends-trans}
use Rattle.stream_core.specs.Counted.{Sink}
use Rattle.stream_core.specs.Faults.{WritesPartOf}

-- A prefix of some bytes is a prefix of these and more.
pub part_of_front : (bytes more : List ℕ) (before after : Sink) → WritesPartOf bytes before after
    → WritesPartOf (bytes ++ more) before after
part_of_front bytes more before after (taken, less, written) = (
  taken,
  omega (arith, less, length-append bytes more),
  subst (Appends before.written after.written) (sym (take-append-le taken bytes more (omega (arith, less)))) written,
)

-- Some bytes, then a prefix of others.
pub part_behind : (front bytes : List ℕ) (before between after : Sink)
    → Appends before.written between.written front → WritesPartOf bytes between after
    → WritesPartOf (front ++ bytes) before after
part_behind front bytes before between after first (taken, less, written) = (
  length front + taken,
  omega (arith, less, length-append front bytes),
  subst (Appends before.written after.written) (sym (take-append-add front bytes taken))
      (Appends-trans before.written between.written after.written front (take taken bytes) first written),
)

-- The texts before index `i`, then a prefix of that text.
pub part_of_texts : (texts : List (Vec ℕ)) (i : ℕ) (text : Vec ℕ) (before between after : Sink) → i < length texts
    → text ≡ get_or texts i text → Appends before.written between.written (all_in (take i texts))
    → WritesPartOf text.items between after → WritesPartOf (all_in texts) before after
part_of_texts texts i text before between after within is first part =
    let back = all_in (drop (suc i) texts) in
    let next : all_in (take (suc i) texts) ≡ all_in (take i texts) ++ text.items =
    ap all_in (take-suc texts i text within ∙ ap (λ (t : Vec ℕ). take i texts ++ t ∷ []) (sym is))
    ∙ all_in-more (take i texts) text in
    let whole : all_in (take (suc i) texts) ++ back ≡ all_in texts =
    sym (flat_map-append (λ (t : Vec ℕ). t.items) (take (suc i) texts) (drop (suc i) texts))
    ∙ ap all_in (take-append-drop (suc i) texts) in
    subst (λ bytes. WritesPartOf bytes before after) (ap (λ bytes. bytes ++ back) (sym next) ∙ whole)
    (part_of_front (all_in (take i texts) ++ text.items) back before after
    (part_behind (all_in (take i texts)) text.items before between after first part))

-- What holds always holds on an error.
pub on_any_error : {T E : Type 0} {P : Type 0} (result : Result T E) → P → OnErr result P
on_any_error (Ok value) p = tt
on_any_error (Err why) p = p
