-- What a job says of its pairs, and what the values of all pairs are.
use Rattle.std.specs.Prelude.{◌≡◌, ℕ, List, length, Some, IsSome, slice_get}
use Rattle.work_core.specs.declared.name.PairName.{PairName}
use Rattle.work_core.specs.declared.job.PairWork as PairWork

module _ {W Out : Type 0} (g : PairWork.Ghosts W Out) where
  -- the job has the pair
  abbrev pub Has : W → PairName → Type 0
  Has w p = IsSome (g.place_of w p)

  -- a value of this pair of this job, by the job's own definition
  abbrev pub Gives : W → PairName → Out → Type 0
  Gives w p o = g.IsValue (g.inputs_of w p) o

  -- both jobs have the pair, and its inputs are equal in both
  abbrev pub Shares : W → W → PairName → Type 0
  Shares v w p = Has v p × Has w p × (g.inputs_of v p ≡ g.inputs_of w p)

  -- the values of all pairs of the job, by pair number
  pub record AreValues (w : W) (outs : List Out) : Type 0 where
    pub len : length outs ≡ g.pairs w
    pub each : (i : ℕ) (o : Out) → slice_get outs i ≡ Some o → Gives w (g.name_of w i) o
