-- The next statement of a script: a command, or a block of commands that are done together.
use Rattle.std.specs.Prelude.{ℕ, ◌+◌, ◌≡◌, ◌⊎◌, ◌&&◌, ◌||◌, not, List, [], ◌∷◌, ◌++◌, All, Bool, true, false, Result, Ok, Err, ⊤, codes, length, if◌then◌else◌}
use Rattle.command_core.specs.Lines.{lines_in}
use Rattle.command_core.specs.Command.{meaning_of}
use Rattle.command_core.specs.Meaning.{IsBody, Meaning, Make, Load, Update, Delete, Log, Means, MeansBlock, MeansRecord, behind_length, refuse}
use Rattle.command_core.specs.Records.{Record}
use Rattle.command_core.specs.Words.{begins, is_end, opens_block}
use Rattle.command_core.specs.declared.refusal.Refusal.{Refusal}
use Rattle.command_core.specs.declared.refusal.Refusal.TheVariants.{BadCommand, NotInBlock, Unended}
use Rattle.command_core.specs.declared.statement.Statement as code
use Rattle.command_core.specs.declared.statement.Statement.TheVariants as code_variant

-- ---- the commands of a block

-- A command in a block: the number of its first record, that record, and its meaning outside the block.
pub record Member : Type 0 where
  pub number : ℕ
  pub opening : Record
  pub alone : Meaning

-- The records of a member: its first record isn't `end`, and a load or a check includes its own `end`.
pub record IsMember (own : List Record) (member : Member) : Type 0 where
  pub behind : List Record
  pub whole : own ≡ member.opening ∷ behind
  pub stands : is_end member.opening ≡ false
  pub means : MeansRecord member.number own member.alone ⊎ MeansBlock member.number own member.alone

-- The records belong to these commands, in order. `number` is the number of the first record.
abbrev pub AreMembers : ℕ → List Record → List Member → Type 0
AreMembers number records [] = records ≡ []
AreMembers number records (member ∷ more) =
    (own later : List Record) × (records ≡ own ++ later) × (member.number ≡ number) × IsMember own member
    × AreMembers (number + length own) later more

-- A load, by its word, refused or not.
abbrev pub begins_load : Member → Bool
begins_load member = begins (codes "load") member.opening

-- What a block of commands doesn't allow: a change except its first load, the log, and another block of commands.
abbrev pub is_barred : Bool → Record → Bool
is_barred has_load opening =
    begins (codes "table") opening || begins (codes "update") opening || begins (codes "delete") opening
    || begins (codes "log") opening || begins (codes "together") opening
    || (has_load && begins (codes "load") opening)

-- What a member means in its block. `has_load` says whether the block has a load before it.
abbrev pub meaning_inside : Bool → Member → Meaning
meaning_inside has_load member =
    if is_barred has_load member.opening then refuse member.number NotInBlock else member.alone

-- A load that isn't refused here. Tables may still refuse it.
abbrev pub is_load : Meaning → Bool
is_load (Load name body) = true
is_load meaning = false

-- What a command of a block may mean: a query, a refusal, or the first load.
abbrev pub is_allowed : Bool → Meaning → Bool
is_allowed has_load (Make name columns) = false
is_allowed has_load (Load name body) = not has_load
is_allowed has_load (Update name portion sets conds) = false
is_allowed has_load (Delete name portion conds) = false
is_allowed has_load Log = false
is_allowed has_load meaning = true

-- A command of a block: the number of its first record, and its meaning in the block.
pub record Placed : Type 0 where
  pub number : ℕ
  pub meaning : Meaning

-- What the members of a block mean in it. `has_load` says whether the block has a load before them.
abbrev pub placed_in : Bool → List Member → List Placed
placed_in has_load [] = []
placed_in has_load (member ∷ more) =
    record { number = member.number; meaning = meaning_inside has_load member }
    ∷ placed_in (has_load || begins_load member) more

-- ---- statements

-- One command, or the commands of a block that are done together.
pub data Statement : Type 0 where
  One : Meaning → Statement
  Together : List Placed → Statement

-- The number of commands: a block of commands counts as one, and each command in it as one more.
abbrev pub commands_in : Statement → ℕ
commands_in (One meaning) = 1
commands_in (Together commands) = 1 + length commands

-- A block is done only if its first record is the one field `together`. With another field the whole block is refused.
abbrev pub opened_together : Record → List Placed → Result (List Placed) Refusal
opened_together (word ∷ []) commands = Ok commands
opened_together opening commands = Err BadCommand

-- The commands that are done together, or the refusal of the record of this number.
abbrev pub stated : ℕ → Result (List Placed) Refusal → Statement
stated number (Ok commands) = Together commands
stated number (Err refusal) = One (refuse number refusal)

-- A command that opens no block of commands.
pub record StatesOne (number : ℕ) (own later : List Record) (statement : Statement) : Type 0 where
  pub opening : Record
  pub behind : List Record
  pub whole : own ≡ opening ∷ behind
  pub plain : begins (codes "together") opening ≡ false
  pub meaning : Meaning
  pub means : Means number own later meaning
  pub states : statement ≡ One meaning

-- A block of commands, which runs to the first `end` that belongs to none of its commands.
pub record StatesTogether (number : ℕ) (own : List Record) (statement : Statement) : Type 0 where
  pub opening : Record
  pub body : List Record
  pub last : Record
  pub members : List Member
  pub whole : own ≡ opening ∷ (body ++ last ∷ [])
  pub opens : begins (codes "together") opening ≡ true
  pub inside : AreMembers (number + 1) body members
  pub closes : is_end last ≡ true
  pub states : statement ≡ stated number (opened_together opening (placed_in false members))

-- Nothing, or a load or a check without its `end`. This may follow the last whole command of an unended block.
abbrev pub IsOpen : List Record → Type 0
IsOpen [] = ⊤
IsOpen (opening ∷ body) = (opens_block opening ≡ true) × IsBody body

-- A block of commands without its `end` takes the rest of the script, and none of it is done.
pub record StatesUnended (number : ℕ) (own later : List Record) (statement : Statement) : Type 0 where
  pub opening : Record
  pub body : List Record
  pub rest : List Record
  pub members : List Member
  pub whole : own ≡ opening ∷ (body ++ rest)
  pub opens : begins (codes "together") opening ≡ true
  pub inside : AreMembers (number + 1) body members
  pub unclosed : IsOpen rest
  pub last : later ≡ []
  pub states : statement ≡ One (refuse number Unended)

-- One statement takes the records `own`, followed by `later`. `number` is the number of the first record.
abbrev pub States : ℕ → List Record → List Record → Statement → Type 0
States number own later statement =
    StatesOne number own later statement ⊎ StatesTogether number own statement
    ⊎ StatesUnended number own later statement

-- The first statement of some records, and the records that it takes. `number` is the number of the first record.
pub record FirstStatement (number : ℕ) (records : List Record) : Type 0 where
  pub own : List Record
  pub later : List Record
  pub statement : Statement
  pub taken : records ≡ own ++ later
  pub states : States number own later statement

-- ---- statements in memory

-- What a statement in memory stands for. `number` is the number of its first record.
abbrev pub StandsFor : ℕ → code.Statement → Statement → Type 0
StandsFor number (code_variant.One command) statement = statement ≡ One (meaning_of command)
StandsFor number (code_variant.Together body) statement =
    (members : List Member) × AreMembers (number + 1) (lines_in body) members
    × (statement ≡ Together (placed_in false members))

-- How many records a block that isn't refused has after its first; 0 for other statements.
abbrev pub behind_of : code.Statement → ℕ
behind_of (code_variant.One command) = behind_length (meaning_of command)
behind_of (code_variant.Together body) = length (lines_in body) + 1

-- ---- the next command of a block

-- The next member of a block: its records, and its meaning in the block.
pub record IsNext (has_load : Bool) (number : ℕ) (members : List Member) (own later : List Record)
    (meaning : Meaning) : Type 0 where
  pub member : Member
  pub more : List Member
  pub are : members ≡ member ∷ more
  pub is : IsMember own member
  pub numbered : member.number ≡ number
  pub means : meaning ≡ meaning_inside has_load member
  pub behind : AreMembers (number + length own) later more

-- A block's members, split before the first load, which begins with the first of the records `later`.
pub record IsSplit (number : ℕ) (members : List Member) (first later : List Record) : Type 0 where
  pub front : List Member
  pub load : Member
  pub back : List Member
  pub are : members ≡ front ++ load ∷ back
  pub loads : begins_load load ≡ true
  pub none : All (λ member. begins_load member ≡ false) front
  pub before : AreMembers number first front
  pub from : AreMembers (number + length first) later (load ∷ back)
