-- What a command in memory means.
use Rattle.std.specs.Prelude.{Result}
use Rattle.row_core.specs.Refusals.{map_ok}
use Rattle.command_core.specs.Lines.{lines_in}
use Rattle.command_core.specs.Meaning.{Meaning}
use Rattle.command_core.specs.Meaning as M
use Rattle.command_core.specs.PairsIn.{compared_in, pairs_in}
use Rattle.command_core.specs.declared.command.Command.{Command}
use Rattle.command_core.specs.declared.command.Command.TheVariants.{Refused, Make, Load, Update, Delete, Rows, At, Between, FromTo, Dip, Join, Anti, Agg, Check, Log}
use Rattle.command_core.specs.declared.refusal.Refusal.{Refusal}

-- The meaning of a command that was read.
abbrev pub meaning_of : Command → Meaning
meaning_of (Refused fault) = M.Refuse fault
meaning_of (Make table schema) = M.Make table schema
meaning_of (Load table body) = M.Load table (lines_in body)
meaning_of (Update table portion sets conds) = M.Update table portion (pairs_in sets) (pairs_in conds)
meaning_of (Delete table portion conds) = M.Delete table portion (pairs_in conds)
meaning_of (Rows table asof) = M.Rows table asof
meaning_of (At table point asof) = M.At table point asof
meaning_of (Between table first last) = M.Between table first last
meaning_of (FromTo table first end) = M.FromTo table first end
meaning_of (Dip table asof) = M.Dip table asof
meaning_of (Join tables asof) = M.Join (compared_in tables) asof
meaning_of (Anti tables asof) = M.Anti (compared_in tables) asof
meaning_of (Agg aggregate asof) = M.Agg aggregate asof
meaning_of (Check table parts instant asof body) = M.Check table parts instant asof (lines_in body)
meaning_of Log = M.Log

-- The meaning of a command that was read, or why it was refused.
abbrev pub meant_by : Result Command Refusal → Result Meaning Refusal
meant_by read = map_ok meaning_of read
