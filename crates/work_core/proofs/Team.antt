-- Teams of workers, and their answers: the last worker has the slots.
use Rattle.std.proofs.Common.{◌≡◌, ◌⊎◌, ℕ, zero, suc, ◌+◌, ◌<◌, All, List, [], ◌∷◌, ◌++◌, length, None, Option, IsSome, replicate, slice_index_or, ap, ◌∙◌, sym, refl, subst, inl, inr, ⊎_elim, arith}
use Rattle.std.proofs.lemmas.Bool.Decides.{nat_tests}
use Rattle.std.proofs.lemmas.List.{get_or_append_left, length_push}
use Rattle.std.proofs.lemmas.List.Elements.{All-from_get_or}
use Rattle.std.proofs.Math.Seq.{get_or-append_seam}
use Rattle.atomic_table.specs.Seated.{TableId}
use Rattle.work_core.specs.declared.worker.Worker.{Worker}
use Rattle.work_core.specs.declared.worker.WorkerAnswer.{WorkerAnswer}
use Rattle.work_core.specs.declared.kept.KeptValues.{KeptValues}
use Rattle.work_core.specs.declared.numbered.Numbered.{Numbered}
use Rattle.work_core.specs.Claims.{worker_view}
use Rattle.work_core.specs.Collected.{ArePlaces}
use Rattle.work_core.specs.Counting.{times}
use Rattle.work_core.proofs.Counting.{times-append}
use Rattle.work_core.proofs.Places.{some_there}
use Rattle.work_core.specs.Workers.{IsFreshWorker, HasPlaces, places_of, IsWorkerAnswer, AreAnswers, AreOfDrawn, numbers_of, count_at}

-- a worker before the last has no slots
places_of-other : (m n k : ℕ) → k + 1 < m → places_of m n k ≡ 0
places_of-other m n k h = grind (arith, nat_tests)

-- the last has them all
places_of-last : (m n k : ℕ) → k + 1 ≡ m → places_of m n k ≡ n
places_of-last m n k h = grind (arith, nat_tests)

-- a number below n + 1 is below n, or equals it
split : (k n : ℕ) → k < n + 1 → (k < n) ⊎ (k ≡ n)
split k zero h = inr (omega (arith, h))
split zero (suc n) h = inl (omega arith)
split (suc k) (suc n) h =
    ⊎_elim (λ a. inl (omega (arith, a))) (λ e. inr (omega (arith, e))) (split k n (omega (arith, h)))

-- an index of a list with one more element is one of the list, or the last
place_cases : {X : Type 0} (xs : List X) (x : X) (k : ℕ) → k < length (xs ++ x ∷ [])
    → (k < length xs) ⊎ (k ≡ length xs)
place_cases xs x k h = split k (length xs) (let e = length_push xs x in omega (arith, e, h))

-- a new worker with these slots, all empty
pub fresh_worker : {T : Type 0} (table : TableId) (worker : Worker T) (places : List (Option T))
    → worker.seat.table_id ≡ table → worker.seat.me ≡ (worker_view, []) → worker.kept.places.items ≡ places
    → places ≡ replicate (length places) None → worker.kept.values.items ≡ [] → IsFreshWorker table worker
fresh_worker {T} table worker places at me are empty none = (
  (at, me),
  subst (λ (l : List (Option T)). l ≡ replicate (length l) None) (sym are) empty,
  none,
)

-- workers without slots, and one more
has_places : {T : Type 0} (n : ℕ) (others : List (Worker T)) (last : Worker T)
    → All (λ worker. length worker.kept.places.items ≡ 0) others → length last.kept.places.items ≡ n
    → HasPlaces n (others ++ last ∷ [])
has_places {T} n others last none places k d inside =
    let team = others ++ last ∷ [] in
    let size = length_push others last in
    ⊎_elim
    (λ (before : k < length others).
    let same = get_or_append_left others (last ∷ []) d k before in
    let at = ap (λ (worker : Worker T). length worker.kept.places.items) same in
    at ∙ (none k d before ∙ sym (places_of-other (length team) n k (omega (arith, size, before)))))
    (λ (e : k ≡ length others).
    let at = ap (λ (i : ℕ). slice_index_or team i d) e ∙ get_or-append_seam others last [] d in
    ap (λ (worker : Worker T). length worker.kept.places.items) at
    ∙ (places ∙ sym (places_of-last (length team) n k (omega (arith, size, e)))))
    (place_cases others last k inside)

-- the same of a team that is made of them
pub team_has_places : {T : Type 0} (n : ℕ) (others team : List (Worker T)) (last : Worker T)
    → All (λ worker. length worker.kept.places.items ≡ 0) others → length last.kept.places.items ≡ n
    → team ≡ others ++ last ∷ [] → HasPlaces n team
team_has_places {T} n others team last none places e =
    subst (λ (t : List (Worker T)). HasPlaces n t) (sym e) (has_places n others last none places)

-- without slots there is no value
count_at-short : {T : Type 0} (places : List (Option T)) (x : ℕ) → length places ≡ 0 → count_at places x ≡ 0
count_at-short [] x e = refl
count_at-short (p ∷ places) x e = absurd (omega (arith, e))

-- a fact that follows from either number being positive follows from their sum being positive
either_way : (d d' a b c : ℕ) → (0 < d → 0 < a) → (0 < d' → 0 < b) → (0 < a + b → 0 < c) → 0 < d + d' → 0 < c
either_way (suc d) d' a b c f h then some = let p : 0 < a = f (omega arith) in then (omega (arith, p))
either_way zero d' a b c f h then some = let p : 0 < b = h (omega (arith, some)) in then (omega (arith, p))

module _ {Out : Type 0} (count : ℕ) (IsValue : ℕ → Out → Type 0) where
  -- the answer of the last worker
  pub last_answer : (table : TableId) (answers others : List (WorkerAnswer Out)) (last : WorkerAnswer Out)
      → answers ≡ others ++ last ∷ [] → AreAnswers count IsValue table answers → IsWorkerAnswer count IsValue table (count) last
  last_answer table answers others last e are =
      let size : length answers ≡ length others + 1 =
      ap (λ (l : List (WorkerAnswer Out)). length l) e ∙ length_push others last in
      let k = length others in
      let n = places_of-last (length answers) (count) k (sym size) in
      let at = ap (λ (l : List (WorkerAnswer Out)). slice_index_or l k last) e
      ∙ get_or-append_seam others last [] last in
      subst (λ (a : WorkerAnswer Out). IsWorkerAnswer count IsValue table (count) a) at
      (subst (λ (m : ℕ). IsWorkerAnswer count IsValue table m (slice_index_or answers k last)) n
      (are k last (omega (arith, size))))

  -- the answers of the others
  pub other_answers : (table : TableId) (answers others : List (WorkerAnswer Out)) (last : WorkerAnswer Out)
      → answers ≡ others ++ last ∷ [] → AreAnswers count IsValue table answers → All (IsWorkerAnswer count IsValue table 0) others
  other_answers table answers others last e are k d before =
      let size : length answers ≡ length others + 1 =
      ap (λ (l : List (WorkerAnswer Out)). length l) e ∙ length_push others last in
      let n = places_of-other (length answers) (count) k (omega (arith, size, before)) in
      let at = ap (λ (l : List (WorkerAnswer Out)). slice_index_or l k d) e
      ∙ get_or_append_left others (last ∷ []) d k before in
      subst (λ (a : WorkerAnswer Out). IsWorkerAnswer count IsValue table 0 a) at
      (subst (λ (m : ℕ). IsWorkerAnswer count IsValue table m (slice_index_or answers k d)) n
      (are k d (omega (arith, size, before))))

  -- the answer of the worker at that index of its team
  pub team_answer : (table table' : TableId) (n m k : ℕ) (team : List (Worker Out)) (worker : Worker Out)
      (answer : WorkerAnswer Out) → table' ≡ table → HasPlaces n team → k < length team
      → slice_index_or team k worker ≡ worker → n ≡ count → length team ≡ m
      → IsWorkerAnswer count IsValue table (length worker.kept.places.items) answer
      → IsWorkerAnswer count IsValue table' (places_of m (count) k) answer
  team_answer table table' n m k team worker answer tables places inside at all size is =
      let a = ap (λ (x : Worker Out). length x.kept.places.items) at in
      let b : length worker.kept.places.items ≡ places_of m (count) k =
      sym a ∙ (places k worker inside ∙ (ap (λ (i : ℕ). places_of i n k) size ∙ ap (λ (i : ℕ). places_of m i k) all)) in
      subst (λ (t : TableId). IsWorkerAnswer count IsValue t (places_of m (count) k) answer) (sym tables)
      (subst (λ (i : ℕ). IsWorkerAnswer count IsValue table i answer) b is)

  -- the slots that a worker with a slot for each call kept
  pub kept_places : (drawn : List ℕ) (kept : KeptValues Out) → AreOfDrawn count IsValue drawn [] kept
      → length kept.places.items ≡ count → ArePlaces count IsValue kept.places.items
  kept_places drawn kept are len = record { len = len; each = are.placed }

  -- it has a value in the slot of each number that it drew
  pub kept_there : (drawn : List ℕ) (kept : KeptValues Out) → AreOfDrawn count IsValue drawn [] kept
      → length kept.places.items ≡ count → (x : ℕ) → x < count → 0 < times x drawn
      → 0 < count_at kept.places.items x
  kept_there drawn kept are len x below some =
      let none = ap (λ (l : List (Numbered Out)). times x (numbers_of l)) (are.whole (omega (arith, len))) in
      let h = are.each x below some in
      omega (arith, none, h)

  -- a worker without slots has the values in its list
  pub kept_listed : (drawn : List ℕ) (kept : KeptValues Out) → AreOfDrawn count IsValue drawn [] kept
      → length kept.places.items ≡ 0 → (x : ℕ) → x < count → 0 < times x drawn
      → 0 < times x (numbers_of kept.values.items)
  kept_listed drawn kept are len x below some =
      let none = count_at-short kept.places.items x len in
      let h = are.each x below some in
      omega (arith, none, h)

-- there is a value in the slot of each number drawn, even after another worker's values are stored
pub there_both : {T : Type 0} (x : ℕ) (drawn drawn' both : List ℕ) (old new : List (Option T))
    (values : List (Numbered T)) → both ≡ drawn ++ drawn' → (0 < times x drawn → 0 < count_at old x)
    → (0 < times x drawn' → 0 < times x (numbers_of values))
    → (0 < count_at old x + times x (numbers_of values) → 0 < count_at new x) → 0 < times x both → 0 < count_at new x
there_both x drawn drawn' both old new values e was listed placed some =
    either_way (times x drawn) (times x drawn') (count_at old x) (times x (numbers_of values)) (count_at new x)
    was listed placed
    (let a = ap (times x) e in let b = times-append x drawn drawn' in omega (arith, a, b, some))

-- each slot has a value
pub all_there : {T : Type 0} (places : List (Option T)) (n : ℕ) → length places ≡ n
    → ((x : ℕ) → x < n → 0 < count_at places x) → All IsSome places
all_there places n len there =
    All-from_get_or IsSome places None (λ i inside. some_there places i (there i (omega (arith, inside, len))))
