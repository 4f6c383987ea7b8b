-- Items in chunks.
use Rattle.std.specs.Prelude.{◌≡◌, ◌<◌, ℕ, List, length, flat_map, All}
use Rattle.std.specs.Global.{Vec}

-- the items of all chunks, in order
abbrev pub all_in : {X : Type 0} → List (Vec X) → List X
all_in {X} chunks = flat_map (λ (v : Vec X). v.items) chunks

-- the chunks have `count` items in all, and no chunk is empty
pub record AreChunks {X : Type 0} (chunks : List (Vec X)) (count : ℕ) : Type 0 where
  pub count_is : count ≡ length (all_in chunks)
  pub some : All (λ (v : Vec X). 0 < length v.items) chunks
