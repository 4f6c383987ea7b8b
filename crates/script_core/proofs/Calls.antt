-- A script's store has enough calls, because a script is short and each record takes some of its bytes. The history is
-- legal.
use Rattle.std.proofs.Common.{ℕ, ◌*◌, ◌≤◌, List, [], ◌∷◌, Bool, true, false, cond, length, arith}
use Rattle.csv.specs.Reading.{default_config, is_bom, strip_bom}
use Rattle.csv.specs.declared.parser.State.TheVariants as st
use Rattle.book_core.specs.History.{IsLegal}
use Rattle.turn_core.specs.Limits.{call_limit}
use Rattle.command_core.specs.Records.{AreScriptRecords, Record}
use Rattle.command_core.proofs.Shrinking.{records-few, work_left}
use Rattle.stream_core.specs.Faults.{script_limit}
use Rattle.script_core.specs.Ledgers.{ledger_history}
use Rattle.script_core.specs.declared.ledger.Ledger.{Ledger}

-- A text without its byte order mark isn't longer.
strip-less : (text : List ℕ) → length (strip_bom text) ≤ length text
unfolding strip_bom
strip-less [] = omega arith
strip-less (a ∷ []) = omega arith
strip-less (a ∷ b ∷ []) = omega arith
strip-less (a ∷ b ∷ c ∷ rest) = by (is_bom a b c)
  where
    by : (mark : Bool) → length (cond mark rest (a ∷ b ∷ c ∷ rest)) ≤ length (a ∷ b ∷ c ∷ rest)
    by true = omega arith
    by false = omega arith

-- There are two calls for each record.
pub calls-enough : (script : List ℕ) (records : List Record) → AreScriptRecords script records
    → length script ≤ script_limit → 2 * length records ≤ call_limit
calls-enough script records (t, left, reached, none) within =
    let few : length records ≤ work_left st.StartRecord (strip_bom script) =
    records-few default_config records st.StartRecord t (strip_bom script) left reached in
    omega (arith, few, strip-less script, within)

-- Every change that the pass has seen was accepted.
pub ledger-legal : (ledger : Ledger) → IsLegal (ledger_history ledger)
ledger-legal ledger = ledger.pass.legal
