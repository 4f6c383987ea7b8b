-- Ranges of record lists, and their bytes.
use Rattle.std.proofs.Common.{◌≡◌, ◌∙◌, ℕ, ◌++◌, List, None, Some, Result, Ok, append-nil, sym, ap}
use Rattle.std.specs.Global.{Vec}
use Rattle.std.specs.Ordering.{nat_cmp}
use Rattle.std.specs.declared.alloc.AllocError.{AllocError}
use Rattle.std.proofs.lemmas.List.Concat.{flat_map-append}
use Rattle.csv.specs.Writing.{row_text}
use Rattle.list_core.specs.Chunks.{all_in}
use Rattle.work_core.specs.Pieces.{items_within}
use Rattle.work_core.specs.Ranges.{range}
use Rattle.work_core.specs.Shares.{Gives, GivesFrom}
use Rattle.work_core.specs.declared.range.Range.{Range}
use Rattle.work_core.specs.declared.shares.Cut.{Cut}
use Rattle.work_core.proofs.PieceLemmas.{piece_cut}
use Rattle.work_core.proofs.ShareLemmas.{all_come}
use Rattle.command_core.specs.Records.{Record}
use Rattle.answer_core.specs.RecordBytes.{answer_writer, bytes_of}

-- The bytes of consecutive ranges of records are the bytes of all records.
pub texts-all : (records : List Record) (post : Range ℕ → ℕ → Result (Vec ℕ) AllocError → Type 0)
    (cuts : List (Cut ℕ)) (texts : List (Vec ℕ))
    → ((places : Range ℕ) (n : ℕ) (text : Vec ℕ) → post places n (Ok text)
    → text.items ≡ bytes_of (items_within places records))
    → GivesFrom nat_cmp (Gives post) None cuts texts
    → all_in texts ≡ bytes_of records
texts-all records post cuts texts each given =
    all_come nat_cmp (Gives post)
    (λ (places : Range ℕ) (all : List (Vec ℕ)). all_in all ≡ bytes_of (items_within places records))
    (λ places text own. append-nil text.items ∙ each places own.0 text own.1)
    (λ from at text more begun one others.
    ap (λ l. l ++ all_in more) (each (range from (Some at)) one.0 text one.1)
    ∙ ap (λ l. bytes_of (items_within (range from (Some at)) records) ++ l) others
    ∙ sym (flat_map-append (row_text answer_writer) (items_within (range from (Some at)) records) (items_within (range (Some at) None) records))
    ∙ ap bytes_of (sym (piece_cut from at records begun)))
    None cuts texts given
