-- `records` has the records that the reader took from the piece.
use Rattle.std.proofs.Common.{◌≡◌, ◌+◌, ◌*◌, ℕ, List, Some, length, cond, true}
use Rattle.std.specs.Prelude.{option_map, unwrap_or}
use Rattle.csv.specs.Machine.{ends_at_end}
use Rattle.csv.specs.Reading.{Reached, Ready, default_config, is_flexible, reader_trim, source_of, strip_bom}
use Rattle.csv.specs.declared.parser.State.TheVariants as st
use Rattle.csv.specs.declared.reader.Trim.TheVariants as trim
use Rattle.command_core.proofs.piece.read_piece.Given as goal

abbrev pub invariant-loop-records : goal.invariant-loop-records
invariant-loop-records l = record {
  plain : reader_trim l.reader ≡ trim.None;
  ready : Ready l.reader;
  flexible : is_flexible l.reader ≡ true;
  config : l.reader.config ≡ default_config;
  left : List ℕ;
  source : source_of (λ s. Some s.now) l.reader ≡ Some left;
  reached : Reached default_config st.StartRecord (strip_bom l.fn.piece) l.records l.reader.state left;
}

abbrev pub decreases-loop-records : goal.decreases-loop-records
decreases-loop-records l =
    2 * unwrap_or (option_map length (source_of (λ s. Some s.now) l.reader)) 0 + cond (ends_at_end l.reader.state) 1 0
