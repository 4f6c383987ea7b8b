-- A job with the values of some of its pairs.
use Rattle.std.specs.Prelude.{◌≡◌, ℕ, ◌<◌, List, [], ◌∷◌, length, Option, Some, None, IsSome, slice_index_or, slice_set, replicate}
use Rattle.work_core.specs.declared.name.PairName.{PairName}
use Rattle.work_core.specs.declared.job.PairWork as PairWork
use Rattle.work_core.specs.Jobs.{Gives}

-- a job, and a slot for each of its pairs by number, which is empty or has that pair's value
pub record Collected (W Out : Type 0) : Type 0 where
  pub job : W
  pub places : List (Option Out)

-- the least index of an empty slot
pub record IsFirstGap {T : Type 0} (places : List (Option T)) (i : ℕ) : Type 0 where
  pub inside : i < length places
  pub gap : slice_index_or places i None ≡ None
  pub least : (k : ℕ) → k < i → IsSome (slice_index_or places k None)

-- the values of the slots that are not empty, in order
abbrev pub present_values : {T : Type 0} → List (Option T) → List T
present_values [] = []
present_values (Some x ∷ places) = x ∷ present_values places
present_values (None ∷ places) = present_values places

-- each value is one that its index may have
abbrev pub AreAtTheirPlaces : {Out : Type 0} → (ℕ → Out → Type 0) → List (Option Out) → Type 0
AreAtTheirPlaces {Out} IsValue places = (i : ℕ) (o : Out) → slice_index_or places i None ≡ Some o → IsValue i o

-- so many slots, each of which is empty or has a value that its index may have
pub record ArePlaces {Out : Type 0} (count : ℕ) (IsValue : ℕ → Out → Type 0) (places : List (Option Out)) : Type 0 where
  pub len : length places ≡ count
  pub each : AreAtTheirPlaces IsValue places

module _ {W Out : Type 0} (g : PairWork.Ghosts W Out) where
  -- a slot for each pair of the job, which is empty or has a value of that pair
  abbrev pub AreJobPlaces : W → List (Option Out) → Type 0
  AreJobPlaces w = ArePlaces (g.pairs w) (λ i o. Gives g w (g.name_of w i) o)

  -- a job without any pair's value
  abbrev pub nothing_of : W → Collected W Out
  nothing_of w = record { job = w; places = replicate (g.pairs w) None }

  -- the pair's slot was empty, has the value o afterwards, and nothing else is changed
  pub record Fills (p : PairName) (o : Out) (old new : Collected W Out) : Type 0 where
    pub number : ℕ
    pub number_is : g.place_of old.job p ≡ Some number
    pub was_empty : slice_index_or old.places number None ≡ None
    pub new_is : new ≡ record { job = old.job; places = slice_set old.places number (Some o) }

  -- the pair has a value
  pub record IsThere (p : PairName) (c : Collected W Out) : Type 0 where
    pub number : ℕ
    pub number_is : g.place_of c.job p ≡ Some number
    pub full : IsSome (slice_index_or c.places number None)

  -- the pair with the least number that has no value
  pub record IsFirstMissing (c : Collected W Out) (p : PairName) : Type 0 where
    pub number : ℕ
    pub name_is : p ≡ g.name_of c.job number
    pub first : IsFirstGap c.places number
