-- The answers to rows that are partitioned into lots, and the answers to all rows.
use Rattle.std.proofs.Common.{◌≡◌, ◌↔◌, ℕ, Bool, true, List, refl, sym, ap, ◌∙◌}
use Rattle.std.specs.Prelude.{filter, Contains}
use Rattle.list_core.specs.Wanted.{IsListOf}
use Rattle.list_core.proofs.RisingLemmas.{IsListOf-unique}
use Rattle.list_core.proofs.WantedLemmas.{IsListOf-same}
use Rattle.row_core.specs.Rows.{RowsRise}
use Rattle.row_core.specs.declared.row.Row.{Row}
use Rattle.match_core.specs.Lots.{AreLotAnswers, IsInSome, answers_sent, has_id, rows_sent}
use Rattle.match_core.proofs.SentLemmas.{IsListOf-filter, has_id-there, row_of_id, row_once, sent-in, sent-to}

-- if the answers to a lot are the answers to all rows that pass a test, the lists agree
pub lot_of_whole : {X : Type 0} (Before : X → X → Type 0) (Whole Lot : X → Type 0) (test : X → Bool)
    (whole answers : List X) → ((a b : X) → Before a b → Before b a → ⊥)
    → ((x : X) → Lot x → Whole x × (test x ≡ true)) → ((x : X) → Whole x → test x ≡ true → Lot x)
    → IsListOf Before Whole whole → IsListOf Before Lot answers → answers ≡ filter test whole
lot_of_whole Before Whole Lot test whole answers asym from to is is' =
    IsListOf-unique Before Lot answers (filter test whole) asym is'
    (IsListOf-filter Before Whole Lot test whole is from to)

-- the answers to all rows, if each is an answer to some lot
pub whole_of_lots : {X : Type 0} (Before : X → X → Type 0) (Whole : X → Type 0) (Lot : ℕ → X → Type 0)
    (answers_of : ℕ → List X) (whole : List X) → ((lot : ℕ) (x : X) → Lot lot x → Whole x)
    → ((x : X) → Whole x → (lot : ℕ) × Lot lot x) → ((lot : ℕ) → IsListOf Before (Lot lot) (answers_of lot))
    → IsListOf Before Whole whole ↔ IsListOf Before (IsInSome answers_of) whole
whole_of_lots {X} Before Whole Lot answers_of whole from to each = (
  IsListOf-same Before Whole (IsInSome answers_of) whole there back,
  IsListOf-same Before (IsInSome answers_of) Whole whole back there,
)
  where
    there : (x : X) → Whole x → IsInSome answers_of x
    there x is = let (lot, own) = to x is in (lot, ((each lot).exactly x).1 own)

    back : (x : X) → IsInSome answers_of x → Whole x
    back x (lot, h) = from lot x (((each lot).exactly x).0 h)

-- ---- answers that each belong to a left row

module _ {X : Type 0} (Before : X → X → Type 0) (asym : (a b : X) → Before a b → Before b a → ⊥)
    (Wanted : List Row → List Row → X → Type 0) (left_id : X → ℕ)
    (left_of : (left right : List Row) (x : X) → Wanted left right x
    → (row : Row) × Contains left row × (left_id x ≡ row.id))
    (left right : List Row) (left_lot right_lot : Row → ℕ) where
  -- `x` is an answer to the lot's rows
  abbrev IsOfLot : ℕ → X → Type 0
  IsOfLot lot = Wanted (rows_sent left_lot lot left) (rows_sent right_lot lot right)

  -- its left row goes to the lot
  left_sent : (lot : ℕ) (x : X) → IsOfLot lot x
      → (row : Row) × Contains left row × (left_id x ≡ row.id) × (left_lot row ≡ lot)
  left_sent lot x is =
      let (row, h, e) = left_of (rows_sent left_lot lot left) (rows_sent right_lot lot right) x is in
      (row, sent-in left_lot lot left row h, e, sent-to left_lot lot left row h)

  -- so no answer belongs to two lots
  pub lots_apart : RowsRise left → (one other : ℕ) (answers more : List X) (x : X)
      → AreLotAnswers Before Wanted left_lot right_lot left right one answers
      → AreLotAnswers Before Wanted left_lot right_lot left right other more
      → Contains answers x → Contains more x → one ≡ other
  lots_apart rise one other answers more x are are' h k =
      let (a, a_in, a_id, a_lot) = left_sent one x ((are.exactly x).0 h) in
      let (b, b_in, b_id, b_lot) = left_sent other x ((are'.exactly x).0 k) in
      sym a_lot ∙ ap left_lot (row_once left rise a b a_in b_in (sym a_id ∙ b_id)) ∙ b_lot

  -- an answer to a lot is an answer to all rows, and an answer to all rows is an answer to the lot of its left row
  module _ (from : (lot : ℕ) (x : X) → IsOfLot lot x → Wanted left right x)
      (to : (lot : ℕ) (x : X) (is : Wanted left right x) → left_lot (left_of left right x is).0 ≡ lot
      → IsOfLot lot x) where
    pub lot_answers : RowsRise left → (lot : ℕ) (whole answers : List X) → IsListOf Before (Wanted left right) whole
        → AreLotAnswers Before Wanted left_lot right_lot left right lot answers
        → answers ≡ answers_sent left_id left_lot left lot whole
    lot_answers rise lot whole answers =
        let sent : List Row = rows_sent left_lot lot left in
        lot_of_whole Before (Wanted left right) (IsOfLot lot) (λ (x : X). has_id sent (left_id x)) whole answers asym
        (λ x is.
        let (row, h, e) = left_of sent (rows_sent right_lot lot right) x is in
        (from lot x is, has_id-there sent row (left_id x) h (sym e)))
        (λ x is known.
        let (row, h, e) = row_of_id sent (left_id x) known in
        let own = left_of left right x is in
        let same : row ≡ own.0 =
        row_once left rise row own.0 (sent-in left_lot lot left row h) own.1 (e ∙ own.2) in
        to lot x is (sym (ap left_lot same) ∙ sent-to left_lot lot left row h))

    pub whole_answers : (answers_of : ℕ → List X) (whole : List X)
        → ((lot : ℕ) → AreLotAnswers Before Wanted left_lot right_lot left right lot (answers_of lot))
        → IsListOf Before (Wanted left right) whole ↔ IsListOf Before (IsInSome answers_of) whole
    whole_answers answers_of whole =
        whole_of_lots Before (Wanted left right) IsOfLot answers_of whole from
        (λ x is. let row = (left_of left right x is).0 in (left_lot row, to (left_lot row) x is refl))
