-- A block of commands that is cut at its first load, as contracts see it.
use Rattle.std.specs.Prelude.{◌+◌, ◌≡◌, ◌<◌, ◌^◌, List, ◌∷◌, ◌++◌, All, false, length, true}
use Rattle.command_core.specs.Lines.{lines_in}
use Rattle.command_core.specs.Meaning as meaning
use Rattle.command_core.specs.Meaning.{Meaning, behind_length}
use Rattle.command_core.specs.Statement.{AreMembers, Member, begins_load, meaning_inside}
use Rattle.script_core.specs.declared.together.BlockCut.{BlockCut}
use Rattle.script_core.specs.declared.together.FirstLoad.{FirstLoad}
use Rattle.script_core.specs.declared.together.FirstLoad.TheVariants.{Refused, Rows}

-- The meaning of a block's first load.
abbrev pub first_load_meaning : FirstLoad → Meaning
first_load_meaning (Refused fault) = meaning.Refuse fault
first_load_meaning (Rows table body) = meaning.Load table (lines_in body)

-- The members of a block, cut at the first load: the front section's members, the load, the back section's members.
pub record IsCutAt (cut : BlockCut) (members : List Member) : Type 0 where
  pub front : List Member
  pub load : Member
  pub back : List Member
  pub are : members ≡ front ++ load ∷ back
  pub none : All (λ member. begins_load member ≡ false) front
  pub loads : begins_load load ≡ true
  pub before : AreMembers cut.front.first (lines_in cut.front.lines) front
  pub numbered : load.number ≡ cut.number
  pub means : first_load_meaning cut.load ≡ meaning_inside false load
  pub behind : AreMembers cut.back.first (lines_in cut.back.lines) back

-- 64 bits hold the numbers of all records, also of the load's body, and the number of commands.
pub record CanBeNumbered (cut : BlockCut) : Type 0 where
  pub before : cut.front.first + length (lines_in cut.front.lines) < 2 ^ 64
  pub load : cut.number + behind_length (first_load_meaning cut.load) < 2 ^ 64
  pub behind : cut.back.first + length (lines_in cut.back.lines) < 2 ^ 64
  pub few : length (lines_in cut.front.lines) + length (lines_in cut.back.lines) + 1 < 2 ^ 64
