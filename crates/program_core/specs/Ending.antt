-- How a run of the program ends, and the exit status of each ending.
use Rattle.std.specs.Prelude.{ℕ, ◌==◌, Bool, true, false, if◌then◌else◌, Result, Ok, Err}
use Rattle.stream_core.specs.declared.fault.RunFault.{RunFault}
use Rattle.stream_core.specs.declared.fault.RunFault.TheVariants.{WriteFault}
use Rattle.script_core.specs.declared.outcome.Outcome.{Outcome}
use Rattle.program_core.specs.declared.ending.Ending.{Ending}
use Rattle.program_core.specs.declared.ending.Ending.TheVariants.{Answered, Helped, Usage, Fault}

-- The ending of a run with this outcome or fault. The flag says whether its output could be flushed.
abbrev pub ending_of : Result Outcome RunFault → Bool → Ending
ending_of (Ok outcome) true = Answered outcome
ending_of (Ok outcome) false = Fault WriteFault
ending_of (Err fault) is_flushed = Fault fault

-- 0 if no `error` record was printed, or if the help page was; 1 if an `error` record was printed; 2 for a fault in the
-- command line; 3 for a fault of the run.
abbrev pub status_of : Ending → ℕ
status_of (Answered outcome) = if outcome.errors == 0 then 0 else 1
status_of Helped = 0
status_of Usage = 2
status_of (Fault fault) = 3
