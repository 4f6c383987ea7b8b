use Rattle.std.proofs.Common.{◌≡◌, ◌∙◌, arith, length, ap, [], ◌∷◌, ◌++◌, List, ℕ, map, refl, subst, sym, Vec, Global}
use Rattle.std.proofs.lemmas.List.{length-map}
use denote.Ref.{Bor}
use Rattle.command_core.specs.Records.{Record}
use Rattle.command_core.specs.Seams.{AreRead, AreSeams}
use Rattle.command_core.proofs.SeamLemmas.{joined-records, whole_records}
use Rattle.command_core.proofs.script_reader.read_text.Goals.{then-not-are_seams+in_ok-read_piece+in_ok-push, else-not-are_seams}
use Rattle.command_core.proofs.script_reader.read_text.Goals as goal

pub returns-clause-records : goal.returns-clause-records
returns-clause-records g c = elim c.if-not-are_seams.branch [
  | then-not-are_seams+in_ok-read_piece+in_ok-push w ↦
      whole_records c.args.text.now c.if-not-are_seams.read.items w.in_ok-read_piece.field-0
      (ap (λ (v : Vec (List Record) Global). v.items) w.read-is ∙ w.in_ok-push.ensures.items
      ∙ ap (λ l. l ++ w.in_ok-read_piece.field-0 ∷ []) w.clear.ensures.items)
      w.in_ok-read_piece.ensures
  | else-not-are_seams w ↦
      let now : Bor (List ℕ) → List ℕ = λ p. p.now in
      let lists = c.if-not-are_seams.read.items in
      let kept : lists ≡ c.in_ok-read.read.items = ap (λ (v : Vec (List Record) Global). v.items) w.read-is in
      joined-records c.args.text.now (map now c.in_ok-pieces.pieces.items) lists c.in_ok-pieces.ensures.whole
      (subst (λ (ps : List (Bor (List ℕ))). AreRead (map now ps) lists) c.deref.ensures.value
      (subst (AreRead (map now c.deref.result.now)) (sym kept) c.in_ok-read.ensures))
      (subst (λ (ps : List (Bor (List ℕ))). AreSeams (map now ps) lists) c.deref-2.ensures.value
      (subst (AreSeams (map now c.deref-2.result.now)) (c.deref-3.ensures.value ∙ sym kept)
      (w.if-not-are_seams.ensures.0 refl)))
]

pub returns-clause-seams : goal.returns-clause-seams
returns-clause-seams g c = elim c.if-not-are_seams.branch [
  | then-not-are_seams+in_ok-read_piece+in_ok-push w ↦
      let one = ap (λ (v : Vec (List Record) Global). v.items) w.read-is ∙ w.in_ok-push.ensures.items
      ∙ ap (λ l. l ++ w.in_ok-read_piece.field-0 ∷ []) w.clear.ensures.items in
      λ i inside. absurd (omega (arith, inside, ap (λ (l : List (List Record)). length l) one))
  | else-not-are_seams w ↦
      let now : Bor (List ℕ) → List ℕ = λ p. p.now in
      let lists = c.if-not-are_seams.read.items in
      let kept : lists ≡ c.in_ok-read.read.items = ap (λ (v : Vec (List Record) Global). v.items) w.read-is in
      let count = length-map c.in_ok-pieces.pieces.items now in
      let read : AreRead (map now c.in_ok-pieces.pieces.items) lists =
      subst (λ (ps : List (Bor (List ℕ))). AreRead (map now ps) lists) c.deref.ensures.value
      (subst (AreRead (map now c.deref.result.now)) (sym kept) c.in_ok-read.ensures) in
      let seams : AreSeams (map now c.in_ok-pieces.pieces.items) lists =
      subst (λ (ps : List (Bor (List ℕ))). AreSeams (map now ps) lists) c.deref-2.ensures.value
      (subst (AreSeams (map now c.deref-2.result.now)) (c.deref-3.ensures.value ∙ sym kept)
      (w.if-not-are_seams.ensures.0 refl)) in
      λ i inside. (seams i (omega (arith, inside, read.0))).field
]
