-- The meaning of the words of the command line.
use Rattle.std.specs.Prelude.{◌≡◌, ◌≢◌, ◌⊎◌, ◌≤◌, ℕ, List, [], ◌∷◌, codes, Some, Result, Err}
use Rattle.std.specs.Str.Parse.{IsNumeral, digits_value, without_leading_plus}
use Rattle.clap.specs.Words.{App, IsAmong, Rule, Text, fault_of, first_of, matches_of, new_app, new_rule, with_rule}
use Rattle.clap.specs.declared.error.kind.ErrorKind.TheVariants.{DisplayHelp}
use Rattle.work_core.specs.Limits.{worker_limit}
use Rattle.program_core.specs.declared.words.Words.{Words}
use Rattle.program_core.specs.declared.words.Words.TheVariants.{Run, Help}
use Rattle.program_core.specs.declared.refused.WordsRefused.{WordsRefused}
use Rattle.program_core.specs.declared.refused.WordsRefused.TheVariants.{NoMemory}

-- The number of workers if no word gives one.
abbrev pub default_workers : ℕ
default_workers = 4

-- A number of workers that may be requested.
abbrev pub IsWorkers : ℕ → Type 0
IsWorkers n = (1 ≤ n) × (n ≤ worker_limit)

-- A run has a valid number of workers.
abbrev pub IsRunnable : Words → Type 0
IsRunnable (Run n) = IsWorkers n
IsRunnable Help = Unit {0}

-- The text is digits, possibly after a plus, and names a valid number of workers.
abbrev pub NamesWorkers : List ℕ → ℕ → Type 0
NamesWorkers text n =
    IsNumeral 10 (without_leading_plus text) × (digits_value 10 (without_leading_plus text) ≡ n) × IsWorkers n

-- The word doesn't begin with a hyphen.
abbrev pub IsPlainWord : List ℕ → Type 0
IsPlainWord [] = Unit {0}
IsPlainWord (c ∷ rest) = c ≢ 45

-- A run with the number of workers that the text names.
abbrev pub IsNamedBy : List ℕ → Words → Type 0
IsNamedBy text (Run n) = NamesWorkers text n
IsNamedBy text Help = ⊥

-- The result is the one that is meant, or memory was refused.
abbrev pub IsAnswerOfWords : Result Words WordsRefused → Result Words WordsRefused → Type 0
IsAnswerOfWords meant result = (result ≡ meant) ⊎ (result ≡ Err NoMemory)

-- The option for the number of workers, in `clap`'s terms.
abbrev pub workers_rule : Rule
workers_rule = record (new_rule (codes "workers")) { long = Some (codes "workers"); defaults = codes "4" ∷ [] }

-- The program's command line in `clap`'s terms: its name, and that option.
abbrev pub program_app : App
program_app = with_rule (new_app (codes "dipq")) workers_rule

-- The words ask for this, as `clap` reads them. They ask for a run if `clap` finds no fault, with the number of workers
-- that the option's value names; they ask for the help page if `clap` finds a request for help.
abbrev pub AsksFor : List Text → Words → Type 0
AsksFor words (Run n) = (fault_of program_app words ≡ [])
    × (text : Text) × (first_of (codes "workers") (matches_of program_app words) ≡ Some text) × NamesWorkers text n
AsksFor words Help = IsAmong DisplayHelp (fault_of program_app words)
