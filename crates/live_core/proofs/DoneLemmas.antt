-- The statements that are complete in the first bytes of a script.
use Rattle.std.proofs.Common.{◌≡◌, ◌⊎◌, ℕ, ◌<◌, ◌≤◌, List, [], ◌∷◌, ◌++◌, length, take, refl, sym, ap, ◌∙◌, subst, inl, inr, append_assoc, arith}
use Rattle.std.proofs.Math.Seq.{take-append_seam}
use Rattle.std.proofs.lemmas.List.{length-append, nil_from_length}
use Rattle.book_core.specs.History.{History, IsLegal}
use Rattle.command_core.specs.Records.{AreScriptRecords, Record}
use Rattle.command_core.proofs.RecordsExistence.{some_records}
use Rattle.script_core.specs.Script.{AreStatementsOf, Done, Place, Step, Steps, start_of}
use Rattle.script_core.proofs.FrontLemmas.{first_follow}
use Rattle.script_core.proofs.OutputExistence.{rest_done}
use Rattle.script_core.proofs.OutputUniqueness.{one_step, takes_one}
use Rattle.live_core.specs.Portions.{AreDone, with_more}
use Rattle.live_core.specs.Scanning.{Reading, block_after, nothing_read, read_bytes, state_of}
use Rattle.live_core.specs.Texts.{AreFrom, AreLines, IsMarkFront, IsRest, IsScanned}
use Rattle.live_core.specs.Whole.{AreWhole, IsUnended}
use Rattle.live_core.specs.declared.blocks.Block.TheVariants as block
use Rattle.live_core.specs.declared.steps.Spot.{Spot}
use Rattle.live_core.specs.declared.steps.Spot.TheVariants as spot
use Rattle.live_core.proofs.BlockLemmas.{complete, opens-unended, unended-takes}
use Rattle.live_core.proofs.TextLemmas.{begins, begins-lead, lead-all, scanned-first, spot-bytes}
use Rattle.live_core.proofs.WholeLemmas.{whole-at, whole-mark}

-- ---- steps

-- Complete statements are executed in the same way whatever records follow.
pub steps-complete : (p q : Place) (dones : List Done) (later : List Record) → Steps p dones q
    → block_after block.Outside p.left ≡ block.Outside → Steps (with_more p later) dones (with_more q later)
steps-complete p q [] later same closed = ap (λ z. with_more z later) same
steps-complete p q (d ∷ ds) later (mid, step, rest) closed =
    let whole : block_after block.Outside (step.own ++ mid.left) ≡ block.Outside =
    ap (block_after block.Outside) (sym step.taken) ∙ closed in
    let c = complete p.number step.own mid.left d.statement step.states whole in (
      with_more mid later,
      record {
        own = step.own;
        taken = ap (λ l. l ++ later) step.taken ∙ append_assoc step.own mid.left later;
        number = step.number;
        states = c.states later;
        answers = step.answers;
      },
      steps-complete mid q ds later rest c.behind,
    )

pub steps-both : (p q r : Place) (one other : List Done) → Steps p one q → Steps q other r → Steps p (one ++ other) r
steps-both p q r [] other same steps = subst (λ z. Steps z other r) (sym same) steps
steps-both p q r (d ∷ ds) other (mid, step, rest) steps = (mid, step, steps-both mid q r ds other rest steps)

-- ---- records that were read, and statements that were executed

-- A position after this history.
abbrev pub place_at : History → ℕ → List Record → Place
place_at history number left = record { history = history; number = number; left = left }

-- These statements take the records `passed`, whatever records follow.
abbrev pub Passes : List Record → List Done → History → ℕ → Type 0
Passes passed dones history number =
    (later : List Record) → Steps (start_of (passed ++ later)) dones (place_at history number later)

-- The records of a scanned text and of the bytes that follow it.
pub text-goes-on : (text : List ℕ) (r : Reading) → IsScanned text r → (more : List ℕ) (later : List Record)
    → AreFrom r.state r.fields r.field more later → AreScriptRecords (text ++ more) (r.done ++ (r.pending ++ later))
text-goes-on text r s more later from =
    let lines : AreLines (r.whole ++ (r.behind ++ more)) (r.done ++ (r.pending ++ later)) =
    s.read.whole (r.behind ++ more) (r.pending ++ later) (s.read.pending more later from) in
    let all : AreScriptRecords ((s.lead ++ (r.whole ++ r.behind)) ++ more) (r.done ++ (r.pending ++ later)) =
    lead-all s.lead (r.whole ++ r.behind) more (r.done ++ (r.pending ++ later)) s.leads
    (subst (λ l. AreLines l (r.done ++ (r.pending ++ later))) (sym (append_assoc r.whole r.behind more)) lines) in
    subst (λ l. AreScriptRecords (l ++ more) (r.done ++ (r.pending ++ later))) (sym s.is) all

pub done-at : (bytes text : List ℕ) (passed : List Record) (r : Reading) (at : Spot) (history : History) (number : ℕ)
    (dones more : List Done) (last : Place) → IsRest bytes passed text → IsScanned text r → r.state ≡ state_of at
    → Passes passed dones history number → Steps (place_at history number r.done) more last → last.left ≡ []
    → AreDone bytes (dones ++ more)
done-at bytes text passed r at history number dones more last rest s spot steps on over = record {
  records = passed ++ (r.done ++ r.pending);
  whole = whole-at bytes (passed ++ (r.done ++ r.pending)) at r.fields r.field (λ rest_bytes later from.
      subst (AreScriptRecords (bytes ++ rest_bytes)) (regroup later)
      (rest.goes_on rest_bytes (r.done ++ (r.pending ++ later))
      (text-goes-on text r s rest_bytes later (subst (λ z. AreFrom z r.fields r.field rest_bytes later) (sym spot) from))));
  place = place_at last.history last.number r.pending;
  steps = λ later.
      let behind = r.pending ++ later in
      let second : Steps (place_at history number (r.done ++ behind)) more (with_more last behind) =
      steps-complete (place_at history number r.done) last more behind on s.read.closed in
      let end : with_more last behind ≡ place_at last.history last.number behind =
      ap (λ l. place_at last.history last.number (l ++ behind)) over in
      subst (λ l. Steps (start_of l) (dones ++ more) (place_at last.history last.number behind)) (regroup later)
      (steps-both (start_of (passed ++ (r.done ++ behind))) (place_at history number (r.done ++ behind))
      (place_at last.history last.number behind) dones more (steps (r.done ++ behind))
      (subst (Steps (place_at history number (r.done ++ behind)) more) end second));
  left = opens-unended last.number (block_after block.Outside r.pending) r.pending s.read.opens;
}
  where
    regroup : (later : List Record)
        → passed ++ (r.done ++ (r.pending ++ later)) ≡ (passed ++ (r.done ++ r.pending)) ++ later
    regroup later =
        ap (λ l. passed ++ l) (sym (append_assoc r.done r.pending later))
        ∙ sym (append_assoc passed (r.done ++ r.pending) later)

-- ---- one list of statements

same_front : (one other back more : List Record) → length one ≡ length other → one ++ back ≡ other ++ more
    → one ≡ other
same_front one other back more size same =
    sym (take-append_seam one back)
    ∙ (ap (take (length one)) same
    ∙ (ap (λ n. take n (other ++ more)) size ∙ take-append_seam other more))

one_whole : (bytes : List ℕ) (one other : List Record) → AreWhole bytes one → AreWhole bytes other → one ≡ other
one_whole bytes one other p q =
    let (all, are) = some_records (bytes ++ []) in
    let (back, first) = p.first [] all are in
    let (more, second) = q.first [] all are in
    same_front one other back more
    (omega (arith, p.longest other q.first, q.longest one p.first)) (sym first ∙ second)

-- A statement at this position takes all records.
abbrev IsLast : Place → Type 0
IsLast place = (done : Done) (next : Place) → Step place done next → next.left ≡ []

last-at : (place : Place) → (place.left ≡ []) ⊎ IsUnended place.number place.left → IsLast (with_more place ([] ∷ []))
last-at place (inl none) done next step =
    let (first, rest, is) = takes_one place.number step.own next.left done.statement step.states in
    let split : [] ∷ [] ≡ (first ∷ rest) ++ next.left =
    sym (ap (λ l. l ++ [] ∷ []) none) ∙ (step.taken ∙ ap (λ l. l ++ next.left) is) in
    nil_from_length next.left
    (omega (arith, ap (λ (l : List Record). length l) split, length-append (first ∷ rest) next.left))
last-at place (inr unended) done next step =
    unended-takes place.number place.left step.own next.left done.statement unended (sym step.taken) step.states

-- No step makes the list of remaining records longer.
steps-shrink : (p q : Place) (dones : List Done) → Steps p dones q → length q.left ≤ length p.left
steps-shrink p q [] same = omega (arith, ap (λ (z : Place). length z.left) same)
steps-shrink p q (d ∷ ds) (mid, step, rest) =
    omega (
      arith,
      steps-shrink mid q ds rest,
      ap (λ (l : List Record). length l) step.taken,
      length-append step.own mid.left,
    )

no_more : (place mid last : Place) (done : Done) (dones : List Done) → IsLast place → 0 < length last.left
    → Step place done mid → Steps mid dones last → ⊥
no_more place mid last done dones is_last some step steps =
    omega (arith, some, steps-shrink mid last dones steps, ap (λ (l : List Record). length l) (is_last done mid step))

one_way : (old p q : Place) (one other : List Done) → Steps old one p → Steps old other q → IsLast p → IsLast q
    → 0 < length p.left → 0 < length q.left → one ≡ other
one_way old p q [] [] steps steps' last last' some some' = refl
one_way old p q [] (d ∷ ds) same (mid, step, rest) last last' some some' =
    absurd (no_more old mid q d ds (subst IsLast (sym same) last) some' step rest)
one_way old p q (c ∷ cs) [] (mid, step, rest) same last last' some some' =
    absurd (no_more old mid p c cs (subst IsLast (sym same) last') some step rest)
one_way old p q (c ∷ cs) (d ∷ ds) (mid, step, rest) (mid', step', rest') last last' some some' =
    let first = one_step old c d mid mid' step step' in
    ap (λ x. x ∷ cs) first.0
    ∙ ap (λ l. d ∷ l)
    (one_way mid' p q cs ds (subst (λ z. Steps z cs p) first.1 rest) rest' last last' some some')

some-left : (lines : List Record) → 0 < length (lines ++ [] ∷ [])
some-left lines = omega (arith, length-append lines ([] ∷ []))

pub one_done : (bytes : List ℕ) (one other : List Done) → AreDone bytes one → AreDone bytes other → one ≡ other
one_done bytes one other p q =
    let same = one_whole bytes p.records q.records p.whole q.whole in
    one_way (start_of (q.records ++ [] ∷ [])) (with_more p.place ([] ∷ [])) (with_more q.place ([] ∷ [])) one other
    (subst (λ l. Steps (start_of (l ++ [] ∷ [])) one (with_more p.place ([] ∷ []))) same (p.steps ([] ∷ [])))
    (q.steps ([] ∷ [])) (last-at p.place p.left) (last-at q.place q.left) (some-left p.place.left)
    (some-left q.place.left)

-- ---- they are the first statements of a script that begins so

pub first_done : (bytes more : List ℕ) (dones all : List Done) → AreDone bytes dones
    → AreStatementsOf (bytes ++ more) all → (later : List Done) × (all ≡ dones ++ later)
first_done bytes more dones all d s =
    let (later, first) = d.whole.first more s.records s.parsed in
    let steps : Steps (start_of s.records) dones (with_more d.place later) =
    subst (λ l. Steps (start_of l) dones (with_more d.place later)) (sym first) (d.steps later) in
    let (rest, (is, onward)) =
    first_follow (start_of s.records) (with_more d.place later) s.finished.place dones all steps s.finished.steps
    s.finished.over in
    (rest, is)

-- ---- the statements exist

none_is_legal : IsLegal []
none_is_legal n c e = cc e

-- The bytes may still become a byte order mark.
pub mark-done : (bytes : List ℕ) (dones : List Done) (history : History) (number : ℕ) → IsMarkFront bytes
    → Passes [] dones history number → AreDone bytes dones
mark-done bytes dones history number front steps = record {
  records = [];
  whole = whole-mark bytes front;
  place = place_at history number [];
  steps = steps;
  left = inl refl;
}

pub some_done : (bytes : List ℕ) → (dones : List Done) × AreDone bytes dones
some_done bytes = elim (begins bytes) [
  | inl front ↦ ([], mark-done bytes [] [] 1 front (λ later. refl))
  | inr b ↦
      let r = read_bytes nothing_read b.rest in
      let (at, spot) = spot-bytes nothing_read b.rest (spot.Between, refl) in
      let (more, (last, on, over)) = rest_done (place_at [] 1 r.done) none_is_legal in (
        more,
        done-at bytes bytes [] r at [] 1 [] more last
            (record { gone = []; is = refl; goes_on = λ on later are. are })
            (scanned-first bytes b.lead b.rest b.is (begins-lead bytes b)) spot (λ later. refl) on over,
      )
]
