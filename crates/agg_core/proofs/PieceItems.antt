-- The items of partitions of rows, together.
use Rattle.std.proofs.Common.{◌≡◌, ◌∙◌, ℕ, ◌++◌, List, None, Some, Result, Ok, Vec, Global, map, append-nil, sym, ap}
use Rattle.std.specs.Ordering.{nat_cmp}
use Rattle.std.specs.declared.alloc.AllocError.{AllocError}
use Rattle.std.proofs.lemmas.List.{map-append}
use Rattle.list_core.specs.Chunks.{all_in}
use Rattle.work_core.specs.Pieces.{items_within}
use Rattle.work_core.specs.Ranges.{range}
use Rattle.work_core.specs.Shares.{Gives, GivesFrom}
use Rattle.work_core.specs.declared.range.Range.{Range}
use Rattle.work_core.specs.declared.shares.Cut.{Cut}
use Rattle.work_core.proofs.PieceLemmas.{piece_cut}
use Rattle.work_core.proofs.ShareLemmas.{all_come}
use Rattle.row_core.specs.declared.row.Row.{Row}
use Rattle.dip_core.specs.declared.item.Item.{Item}

-- mapping the rows of each partition gives the same list as mapping all rows
pub items-all : (make : Row → Item) (rows : List Row) (post : Range ℕ → ℕ → Result (Vec Item Global) AllocError → Type 0)
    (cuts : List (Cut ℕ)) (lists : List (Vec Item Global))
    → ((places : Range ℕ) (n : ℕ) (some : Vec Item Global) → post places n (Ok some)
    → some.items ≡ map make (items_within places rows))
    → GivesFrom nat_cmp (Gives post) None cuts lists → all_in lists ≡ map make rows
items-all make rows post cuts lists known given =
    all_come nat_cmp (Gives post)
    (λ (places : Range ℕ) (all : List (Vec Item Global)). all_in all ≡ map make (items_within places rows))
    (λ places some own. append-nil some.items ∙ known places own.0 some own.1)
    (λ from at some more begun one others.
    ap (λ l. l ++ all_in more) (known (range from (Some at)) one.0 some one.1)
    ∙ ap (λ l. map make (items_within (range from (Some at)) rows) ++ l) others
    ∙ sym (map-append make (items_within (range from (Some at)) rows) (items_within (range (Some at) None) rows))
    ∙ ap (map make) (sym (piece_cut from at rows begun)))
    None cuts lists given
