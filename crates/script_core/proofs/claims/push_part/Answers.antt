use Rattle.std.proofs.Common.{◌≡◌, ◌+◌, ◌++◌, ◌∷◌, ◌∙◌, [], List, ℕ, Some, Ok, Err, true, ap, refl, sym, arith, drop}
use Rattle.std.specs.Prelude.{codes, if◌then◌else◌}
use Rattle.std.specs.List.{slice_get}
use Rattle.command_core.specs.Fields.{natural_in}
use Rattle.command_core.specs.Lines.{fields_in}
use Rattle.command_core.specs.Records.{Record}
use Rattle.command_core.specs.Words.{begins}
use Rattle.command_core.specs.declared.refusal.Refusal.{Refusal}
use Rattle.command_core.specs.declared.refusal.Refusal.TheVariants.{BadCommand}
use Rattle.command_core.proofs.Cutting.{drop-slice_get, slice_get-there}
use Rattle.script_core.specs.Effects.{naturals_in, part_of}
use Rattle.script_core.proofs.Loading.{behind, behind-next, behind-refused}
use Rattle.script_core.proofs.claims.push_part.Goals as goal
use Rattle.script_core.proofs.claims.push_part.Goals.{in-Some+in-Ok+in_ok-push-in-Ok, in_default}

-- The record has the right word.
begun : (line : Record) → begins (codes "part") line ≡ true → part_of line ≡ naturals_in (drop 1 line)
begun line e = ap (λ b. if b then naturals_in (drop 1 line) else Err BadCommand) e

-- One more id was read.
next_id : (fields : Record) (place : ℕ) (text : List ℕ) (ids : List ℕ) (id : ℕ) → slice_get fields place ≡ Some text
    → natural_in text ≡ Ok id
    → behind ids (naturals_in (drop place fields)) ≡ behind (ids ++ id ∷ []) (naturals_in (drop (place + 1) fields))
next_id fields place text ids id e good =
    ap (λ l. behind ids (naturals_in l)) (drop-slice_get fields place text e)
    ∙ behind-next ids (natural_in text) id (naturals_in (drop (place + 1) fields)) good

-- A field is refused.
no_id : (fields : Record) (place : ℕ) (text : List ℕ) (ids : List ℕ) (refusal : Refusal)
    → slice_get fields place ≡ Some text → natural_in text ≡ Err refusal
    → behind ids (naturals_in (drop place fields)) ≡ Err refusal
no_id fields place text ids refusal e bad =
    ap (λ l. behind ids (naturals_in l)) (drop-slice_get fields place text e)
    ∙ behind-refused ids (natural_in text) refusal (naturals_in (drop (place + 1) fields)) bad

pub returns-in-Err : goal.returns-in-Err
returns-in-Err c =
    let fields = fields_in c.args.line in
    let h = c.loop-place.invariant in
    let bad = no_id fields c.loop-place.place c.in-Some.text.now h.0 c.in-Err.refusal (sym c.in-Some.ensures)
    (sym c.in-Err.ensures) in
    rw c.refused-in-Err.ensures
    (c.in-Err.refusal, begun fields (sym c.begins.ensures ∙ c.if-not-begins.false) ∙ (h.2 ∙ bad), refl)

pub loop-place-preserved : goal.loop-place-preserved
loop-place-preserved c =
    let fields = fields_in c.args.line in
    let place = c.loop-place.place in
    let h = c.loop-place.invariant in
    elim c.match-get.branch [
      | in-Some+in-Ok+in_ok-push-in-Ok w ↦ (
          let more = next_id fields place w.in-Some.text.now h.0 w.in-Ok.id (sym w.in-Some.ensures)
          (sym w.in-Ok.ensures) in
          (h.0 ++ w.in-Ok.id ∷ [], w.claim-is ∙ w.in_ok-push-in-Ok.ensures.ok c.args.claim.now h.0 h.1, h.2 ∙ more))
      | in_default w ↦ absurd
          (slice_get-there fields place (omega (arith, c.loop-place-test.true, c.len-place-end.ensures))
          (sym w.in_default.ensures))
    ]
