-- Items in chunks, and their ends.
use Rattle.std.proofs.Common.{ℕ, ◌≡◌, ◌<◌, ◌≤◌, ◌+◌, ◌-◌, List, [], ◌∷◌, ◌++◌, Option, Some, None, length, slice_get, length-append, take, append_assoc, append-nil, sym, subst, ap, ◌∙◌, arith}
use mathlib.Core.Bool.{true≢false}
use Rattle.std.specs.Prelude.{◌↔◌, All, Contains, IsSome}
use Rattle.std.specs.Option.{option_to_list}
use Rattle.std.specs.Global.{Vec}
use Rattle.std.proofs.Math.Seq.{take-append_seam}
use Rattle.std.proofs.lemmas.Grind.{flat_map-append}
use Rattle.std.proofs.lemmas.List.Elements.{All-append, All-cons, All-contains, All-nil, Contains-append_right}
use Rattle.list_core.proofs.RisingLemmas.{Contains-head}
use Rattle.list_core.proofs.PlaceLemmas.{All-front, slice_get-append_right, slice_get-before}
use Rattle.list_core.specs.Chunks.{AreChunks, all_in}

-- one chunk more adds its items at the end
pub all_in-more : {X : Type 0} (front : List (Vec X)) (chunk : Vec X)
    → all_in (front ++ chunk ∷ []) ≡ all_in front ++ chunk.items
all_in-more {X} front chunk =
    flat_map-append (λ (v : Vec X). v.items) front (chunk ∷ [])
    ∙ ap (λ l. all_in front ++ l) (append-nil chunk.items)

-- the last of all items is the last item of the last chunk
pub last_in : {X : Type 0} (chunks front : List (Vec X)) (chunk : Vec X) (before : List X) (last : X)
    → chunks ≡ front ++ chunk ∷ [] → chunk.items ≡ before ++ last ∷ []
    → all_in chunks ≡ (all_in front ++ before) ++ last ∷ []
last_in chunks front chunk before last e i =
    ap all_in e ∙ all_in-more front chunk ∙ ap (λ l. all_in front ++ l) i
    ∙ sym (append_assoc (all_in front) before (last ∷ []))

-- equal lists are equal without their last elements
same_front : {X : Type 0} (xs ys : List X) (x y : X) → xs ++ x ∷ [] ≡ ys ++ y ∷ [] → xs ≡ ys
same_front xs ys x y e =
    let count : length xs + 1 ≡ length ys + 1 =
    sym (length-append xs (x ∷ [])) ∙ ap length e ∙ length-append ys (y ∷ []) in
    let same : length xs ≡ length ys = omega (arith, count) in
    sym (take-append_seam xs (x ∷ [])) ∙ ap (take (length xs)) e
    ∙ ap (λ n. take n (ys ++ y ∷ [])) same ∙ take-append_seam ys (y ∷ [])

-- the last chunk isn't empty
last_chunk : {X : Type 0} (chunks rest : List (Vec X)) (chunk : Vec X) → chunks ≡ rest ++ chunk ∷ []
    → All (λ (v : Vec X). 0 < length v.items) chunks → 0 < length chunk.items
last_chunk {X} chunks rest chunk e some =
    let inside : Contains chunks chunk =
    subst (λ l. Contains l chunk) (sym e) (Contains-append_right rest (chunk ∷ []) chunk (Contains-head chunk [])) in
    All-contains (λ (v : Vec X). 0 < length v.items) chunks chunk some inside

-- the other chunks and the last chunk without its last item contain all items except the last
pub front_of : {X : Type 0} (chunks rest : List (Vec X)) (chunk : Vec X) (left : List X) (popped : Option X)
    (front : List X) (last : X) → chunks ≡ rest ++ chunk ∷ []
    → All (λ (v : Vec X). 0 < length v.items) chunks → IsSome popped ↔ (0 < length chunk.items)
    → chunk.items ≡ left ++ option_to_list popped → all_in chunks ≡ front ++ last ∷ [] → all_in rest ++ left ≡ front
front_of chunks rest chunk left None front last e some known i all =
    absurd (true≢false (sym (known.1 (last_chunk chunks rest chunk e some))))
front_of chunks rest chunk left (Some x) front last e some known i all =
    same_front (all_in rest ++ left) front x last (sym (last_in chunks rest chunk left x e i) ∙ all)

-- the last chunk, which isn't empty, loses one item if one is popped
pub popped_one : {X : Type 0} (chunks rest : List (Vec X)) (chunk : Vec X) (left : List X) (popped : Option X)
    → chunks ≡ rest ++ chunk ∷ [] → All (λ (v : Vec X). 0 < length v.items) chunks
    → IsSome popped ↔ (0 < length chunk.items) → chunk.items ≡ left ++ option_to_list popped
    → length chunk.items ≡ length left + 1
popped_one chunks rest chunk left None e some known i =
    absurd (true≢false (sym (known.1 (last_chunk chunks rest chunk e some))))
popped_one chunks rest chunk left (Some x) e some known i = ap length i ∙ length-append left (x ∷ [])

-- the number of items without the last chunk; and no other chunk is empty
without_chunk : {X : Type 0} (chunks rest : List (Vec X)) (old : Vec X) (count : ℕ) → chunks ≡ rest ++ old ∷ []
    → AreChunks chunks count
    → (count ≡ length (all_in rest) + length old.items) × All (λ (v : Vec X). 0 < length v.items) rest
without_chunk {X} chunks rest old count e are = (
  are.count_is ∙ ap (λ l. length (all_in l)) e ∙ ap length (all_in-more rest old)
      ∙ length-append (all_in rest) old.items,
  All-front (λ (v : Vec X). 0 < length v.items) rest (old ∷ [])
      (subst (All (λ (v : Vec X). 0 < length v.items)) e are.some),
)

-- the last chunk is replaced by a non-empty chunk with one item less
pub shorter_chunk : {X : Type 0} (chunks rest : List (Vec X)) (old new : Vec X) (count : ℕ) → chunks ≡ rest ++ old ∷ []
    → AreChunks chunks count → length old.items ≡ length new.items + 1 → 0 < length new.items
    → AreChunks (rest ++ new ∷ []) (count - 1)
shorter_chunk {X} chunks rest old new count e are less some =
    let left = without_chunk chunks rest old count e are in
    let all : count ≡ length (all_in rest) + length old.items = left.0 in
    let now : length (all_in (rest ++ new ∷ [])) ≡ length (all_in rest) + length new.items =
    ap length (all_in-more rest new) ∙ length-append (all_in rest) new.items in
    record {
      count_is = omega (arith, all, less, now);
      some = All-append (λ (v : Vec X). 0 < length v.items) rest (new ∷ []) left.1
          (All-cons (λ (v : Vec X). 0 < length v.items) new [] some (All-nil (λ (v : Vec X). 0 < length v.items)));
    }

-- the last chunk is removed if it had a single item
pub fewer_chunks : {X : Type 0} (chunks rest : List (Vec X)) (old : Vec X) (count : ℕ) → chunks ≡ rest ++ old ∷ []
    → AreChunks chunks count → length old.items ≡ 1 → AreChunks rest (count - 1)
fewer_chunks chunks rest old count e are one =
    let left = without_chunk chunks rest old count e are in
    let all : count ≡ length (all_in rest) + length old.items = left.0 in
    record { count_is = omega (arith, all, one); some = left.1 }

-- an index within the first chunk
pub got_first : {X : Type 0} (chunks rest : List (Vec X)) (chunk : Vec X) (i : ℕ) → chunks ≡ chunk ∷ rest
    → i < length chunk.items → slice_get (all_in chunks) i ≡ slice_get chunk.items i
got_first chunks rest chunk i e inside =
    ap (λ l. slice_get (all_in l) i) e ∙ slice_get-before chunk.items (all_in rest) i inside

-- an index after the first chunk
pub got_later : {X : Type 0} (chunks rest : List (Vec X)) (chunk : Vec X) (i : ℕ) → chunks ≡ chunk ∷ rest
    → length chunk.items ≤ i → slice_get (all_in chunks) i ≡ slice_get (all_in rest) (i - length chunk.items)
got_later chunks rest chunk i e past =
    let whole : i ≡ length chunk.items + (i - length chunk.items) = omega (arith, past) in
    ap (λ l. slice_get (all_in l) i) e ∙ ap (slice_get (chunk.items ++ all_in rest)) whole
    ∙ slice_get-append_right chunk.items (all_in rest) (i - length chunk.items)
