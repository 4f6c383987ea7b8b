-- The state after each portion.
use Rattle.std.proofs.Common.{◌≡◌, ℕ, ◌+◌, ◌-◌, ◌*◌, ◌<◌, ◌≤◌, Bool, true, false, List, [], ◌∷◌, ◌++◌, drop, length, take, refl, sym, ap, ◌∙◌, subst, inl, inr, append_assoc, append-nil, arith}
use Rattle.std.specs.Io.KnownBytes.{Keeps}
use Rattle.std.specs.Prelude.{sum_by}
use Rattle.std.proofs.KnownBytes.{Appends-kept, Appends-nil}
use Rattle.std.proofs.Math.Seq.{drop-append_seam}
use Rattle.std.proofs.lemmas.List.{length-append, length-take, take-append-drop}
use Rattle.std.proofs.lemmas.List.Sums.{sum_by-append}
use Rattle.answer_core.specs.PrintedRecords.{errors_in}
use Rattle.command_core.specs.Records.{AreScriptRecords, Record}
use Rattle.command_core.specs.Statement.{commands_in}
use Rattle.command_core.proofs.RecordsExistence.{some_records}
use Rattle.stream_core.specs.Counted.{Sink}
use Rattle.stream_core.specs.Faults.{script_limit}
use Rattle.stream_core.specs.declared.fault.RunFault.{RunFault}
use Rattle.stream_core.specs.declared.fault.RunFault.TheVariants.{NoMemory, TooLong}
use Rattle.script_core.specs.Ledgers.{ledger_history}
use Rattle.script_core.specs.Script.{AreStatementsOf, Done, Steps, Tells, output_of, start_of}
use Rattle.script_core.specs.Writing.{AreRest}
use Rattle.script_core.specs.declared.outcome.Outcome.{Outcome}
use Rattle.script_core.proofs.Calls.{ledger-legal}
use Rattle.script_core.proofs.OutputExistence.{rest_done}
use Rattle.live_core.specs.Portions.{AnswersMore, AnswersRest, AreDone, ExplainsMore, ExplainsRest, HasScanned}
use Rattle.live_core.specs.Scanning.{IsCutAt, Knows, Reading, nothing_read, read_bytes}
use Rattle.live_core.specs.Standing.{Fed, FedTo, HasAnswered, HasPassed, IsFit, StopsAnswering, place_of}
use Rattle.live_core.specs.Texts.{IsBegun, IsLead, IsMarkFront, IsReading, IsRest, IsScanned, IsScannedTo, IsWaiting}
use Rattle.live_core.specs.declared.live.Live.{Live}
use Rattle.live_core.specs.declared.scan.Scan.{Scan}
use Rattle.live_core.specs.declared.session.Session.{Session}
use Rattle.live_core.proofs.DoneLemmas.{done-at, mark-done, steps-both, steps-complete}
use Rattle.live_core.proofs.FedLemmas.{begun-cut, cut-left, cut-of, front-records, rest-cut, rest-more}
use Rattle.live_core.proofs.LineLemmas.{HasSpot}
use Rattle.live_core.proofs.SessionLemmas.{front-all, front-none, stops}
use Rattle.live_core.proofs.TextLemmas.{begins, begins-lead, scanned-bytes, scanned-first, spot-bytes}
use Rattle.live_core.specs.declared.steps.Spot.TheVariants as spot

-- ---- the complete statements

-- No record was passed.
none-passed : (dones : List Done) (live : Live) (passed : List Record) → passed ≡ []
    → ((later : List Record) → Steps (start_of (passed ++ later)) dones (place_of live.session later))
    → (later : List Record) → Steps (start_of later) dones (place_of live.session later)
none-passed dones live passed none steps later =
    subst (λ (l : List Record). Steps (start_of (l ++ later)) dones (place_of live.session later)) none (steps later)

-- The complete statements of bytes that weren't scanned yet.
waiting-done : (bytes text : List ℕ) (dones : List Done) (live : Live) (passed : List Record) (scan : Scan)
    → HasPassed bytes dones live passed → IsWaiting bytes passed text scan → AreDone bytes dones
waiting-done bytes text dones live passed scan has waits =
    mark-done bytes dones (ledger_history live.session.ledger) live.session.number
    (subst IsMarkFront (sym waits.is) waits.front) (none-passed dones live passed waits.none has.steps)

-- The complete statements of a scanned text: `dones`, then `more`.
scanned-done : (bytes text : List ℕ) (dones more : List Done) (live : Live) (passed : List Record) (r : Reading)
    → IsRest bytes passed text
    → ((later : List Record) → Steps (start_of (passed ++ later)) dones (place_of live.session later))
    → IsScanned text r → HasSpot r.state → AreRest (place_of live.session r.done) more → AreDone bytes (dones ++ more)
scanned-done bytes text dones more live passed r rest steps s (at, is) (last, on, over) =
    done-at bytes text passed r at (ledger_history live.session.ledger) live.session.number dones more last rest s is
    steps on over

-- Such statements exist.
pub some-rest : (session : Session) (records : List Record)
    → (dones : List Done) × AreRest (place_of session records) dones
some-rest session records = rest_done (place_of session records) (ledger-legal session.ledger)

-- The state that a scan knows is one that a `Spot` has.
known-spot : (scan : Scan) (r : Reading) → Knows scan r → HasSpot r.state
known-spot scan r knows = (scan.spot, sym knows.spot)

-- More bytes complete some statements.
pub some-more : (bytes portion : List ℕ) (dones : List Done) (live : Live) → Fed bytes dones live
    → (more : List Done) × AreDone (bytes ++ portion) (dones ++ more)
some-more bytes portion dones live fed = by live.is_begun fed.reads
  where
    text : List ℕ
    text = live.text.items

    rest : IsRest (bytes ++ portion) fed.passed (text ++ portion)
    rest = rest-more bytes text portion fed.passed fed.has.rest

    at : (r : Reading) → IsScanned (text ++ portion) r → HasSpot r.state
        → (more : List Done) × AreDone (bytes ++ portion) (dones ++ more)
    at r s spot =
        let (more, on) = some-rest live.session r.done in
        (more, scanned-done (bytes ++ portion) (text ++ portion) dones more live fed.passed r rest fed.has.steps s spot on)

    by : (b : Bool) → IsReading b bytes fed.passed text live.scan
        → (more : List Done) × AreDone (bytes ++ portion) (dones ++ more)
    by true begun =
        at (read_bytes begun.reading portion) (scanned-bytes text begun.reading portion begun.scanned)
        (spot-bytes begun.reading portion (known-spot live.scan begun.reading begun.knows))
    by false waits = elim (begins (text ++ portion)) [
      | inl front ↦ (
        [],
        subst (AreDone (bytes ++ portion)) (sym (append-nil dones))
            (mark-done (bytes ++ portion) dones (ledger_history live.session.ledger) live.session.number
            (subst (λ l. IsMarkFront (l ++ portion)) (sym waits.is) front)
            (none-passed dones live fed.passed waits.none fed.has.steps)),
      )
      | inr b ↦
          at (read_bytes nothing_read b.rest) (scanned-first (text ++ portion) b.lead b.rest b.is (begins-lead (text ++ portion) b))
          (spot-bytes nothing_read b.rest (spot.Between, refl))
    ]

-- Nothing of these answers was written.
pub none-written : (bytes portion : List ℕ) (dones : List Done) (live : Live) (before after : Sink) → Fed bytes dones live
    → Keeps before.written after.written → ExplainsMore (bytes ++ portion) dones before after NoMemory
none-written bytes portion dones live before after fed kept =
    let (more, are) = some-more bytes portion dones live fed in
    (more, are, front-none before.written after.written (output_of more) kept)

-- ---- scanned

-- The same session with a longer text.
pub record Grows (old new : Live) (portion : List ℕ) : Type 0 where
  pub session : new.session ≡ old.session
  pub text : new.text.items ≡ old.text.items ++ portion

passed-more : (bytes portion : List ℕ) (dones : List Done) (old new : Live) (passed : List Record)
    → Grows old new portion → HasPassed bytes dones old passed → HasPassed (bytes ++ portion) dones new passed
passed-more bytes portion dones old new passed grows has =
    let session = sym grows.session in
    record {
      rest = subst (IsRest (bytes ++ portion) passed) (sym grows.text)
          (rest-more bytes old.text.items portion passed has.rest);
      steps = λ later. subst (λ z. Steps (start_of (passed ++ later)) dones (place_of z later)) session (has.steps later);
      tells = subst (λ (z : Session). Tells z.outcome dones) session has.tells;
      fit = subst IsFit session has.fit;
    }

-- A text that was scanned, without answering statements.
has-scanned : (bytes : List ℕ) (dones : List Done) (live : Live) (passed : List Record) (end : ℕ)
    → HasPassed bytes dones live passed → length live.text.items ≤ 2 * script_limit → live.is_begun ≡ true
    → IsScannedTo live.text.items live.scan end → HasScanned bytes dones live end
has-scanned bytes dones live passed end has few begun to = record {
  some = λ some. record { passed = passed; has = has; few = few; begun = begun; reads = to };
  none = λ none.
      let nothing = to.none none in
      let empty : AreRest (place_of live.session to.reading.done) [] =
      (place_of live.session to.reading.done, refl, nothing.1) in (
        subst (AreDone bytes) (append-nil dones)
            (scanned-done bytes live.text.items dones [] live passed to.reading has.rest has.steps to.scanned
            (known-spot live.scan to.reading to.knows) empty),
        λ within. record {
          passed = passed;
          has = has;
          few = within;
          reads = subst (λ b. IsReading b bytes passed live.text.items live.scan) (sym begun)
              (record {
                reading = to.reading;
                nothing = nothing.0;
                none = nothing.1;
                scanned = to.scanned;
                knows = to.knows;
              });
        },
      );
}

-- The index of the last cut.
cut-place : (text lead bytes : List ℕ) (old new : Reading) (scan : Scan) (from end : ℕ) (s : IsScanned text new)
    → s.lead ≡ lead → old.whole ≡ [] → old.done ≡ [] → from ≡ length lead + length old.behind
    → IsCutAt old new (end - from) → (0 < end → from < end) → Knows scan new → IsScannedTo text scan end
cut-place text lead bytes old new scan from end s is nothing none at cut some knows = record {
  reading = new;
  scanned = s;
  knows = knows;
  none = λ zero.
      let same = cut.none (omega (arith, zero)) in
      (same.0 ∙ nothing, same.1 ∙ none);
  some = λ more.
      let past = some more in
      let size = cut.some (omega (arith, past)) in
      let sum : length new.whole ≡ end - length lead =
      omega (arith, size, past, at, ap (λ (l : List ℕ). length l) nothing) in (
        λ zero. omega (arith, size, past, ap (λ (l : List ℕ). length l) zero),
        omega (arith, size, past, at, ap (λ (l : List ℕ). length l) nothing, ap (λ (l : List ℕ). length l) is),
      );
}

-- One more portion of a text that was scanned before.
pub scanned-on : (bytes portion : List ℕ) (dones : List Done) (old new : Live) (from end : ℕ) → Fed bytes dones old
    → Grows old new portion → length portion ≤ script_limit → old.is_begun ≡ true → new.is_begun ≡ true
    → from ≡ length old.text.items
    → ((r : Reading) → Knows old.scan r → Knows new.scan (read_bytes r (drop from new.text.items))
    × IsCutAt r (read_bytes r (drop from new.text.items)) (end - from) × (0 < end → from < end))
    → HasScanned (bytes ++ portion) dones new end
scanned-on bytes portion dones old new from end fed grows few was begun start reads =
    by (subst (λ b. IsReading b bytes fed.passed old.text.items old.scan) was fed.reads)
  where
    by : IsBegun old.text.items old.scan → HasScanned (bytes ++ portion) dones new end
    by b =
        let r = b.reading in
        let behind : drop from new.text.items ≡ portion =
        ap (λ n. drop n new.text.items) start
        ∙ (ap (drop (length old.text.items)) grows.text ∙ drop-append_seam old.text.items portion) in
        let (knows, cut, some) =
        subst (λ (l : List ℕ). Knows new.scan (read_bytes r l) × IsCutAt r (read_bytes r l) (end - from)
        × (0 < end → from < end)) behind (reads r b.knows) in
        let size : from ≡ length b.scanned.lead + length r.behind =
        omega (
          arith,
          start,
          ap (λ (l : List ℕ). length l) b.scanned.is,
          ap (λ (l : List ℕ). length l) b.nothing,
          length-append b.scanned.lead (r.whole ++ r.behind),
          length-append r.whole r.behind,
        ) in
        let to = cut-place (old.text.items ++ portion) b.scanned.lead portion r (read_bytes r portion) new.scan
        from end (scanned-bytes old.text.items r portion b.scanned) refl b.nothing b.none size cut
        some knows in
        has-scanned (bytes ++ portion) dones new fed.passed end
        (passed-more bytes portion dones old new fed.passed grows fed.has)
        (omega (
          arith,
          fed.few,
          few,
          ap (λ (l : List ℕ). length l) grows.text,
          length-append old.text.items portion,
        ))
        begun
        (subst (λ (l : List ℕ). IsScannedTo l new.scan end) (sym grows.text) to)

-- It is known now where the text's records begin.
pub scanned-begun : (bytes portion : List ℕ) (dones : List Done) (old new : Live) (place end : ℕ) → Fed bytes dones old
    → Grows old new portion → length portion ≤ script_limit → old.is_begun ≡ false → new.is_begun ≡ true
    → place ≤ length new.text.items → IsLead (take place new.text.items) (drop place new.text.items)
    → ((r : Reading) → Knows old.scan r → Knows new.scan (read_bytes r (drop place new.text.items))
    × IsCutAt r (read_bytes r (drop place new.text.items)) (end - place) × (0 < end → place < end))
    → HasScanned (bytes ++ portion) dones new end
scanned-begun bytes portion dones old new place end fed grows few was begun within leads reads =
    by (subst (λ b. IsReading b bytes fed.passed old.text.items old.scan) was fed.reads)
  where
    by : IsWaiting bytes fed.passed old.text.items old.scan → HasScanned (bytes ++ portion) dones new end
    by w =
        let text = new.text.items in
        let (knows, cut, some) = reads nothing_read w.knows in
        let s = scanned-first text (take place text) (drop place text) (sym (take-append-drop place text)) leads in
        let to = cut-place text (take place text) (drop place text) nothing_read
        (read_bytes nothing_read (drop place text)) new.scan place end s refl refl refl
        (omega (arith, within, length-take place text)) cut some knows in
        has-scanned (bytes ++ portion) dones new fed.passed end
        (passed-more bytes portion dones old new fed.passed grows fed.has)
        (omega (
          arith,
          fed.few,
          few,
          ap (λ (l : List ℕ). length l) grows.text,
          length-append old.text.items portion,
        ))
        begun to

-- The bytes may still become a byte order mark.
pub scanned-waits : (bytes portion : List ℕ) (dones : List Done) (old new : Live) → Fed bytes dones old
    → Grows old new portion → old.is_begun ≡ false → new.is_begun ≡ false → new.scan ≡ old.scan
    → IsMarkFront new.text.items → HasScanned (bytes ++ portion) dones new 0
scanned-waits bytes portion dones old new fed grows was waits scan front =
    by (subst (λ b. IsReading b bytes fed.passed old.text.items old.scan) was fed.reads)
  where
    by : IsWaiting bytes fed.passed old.text.items old.scan → HasScanned (bytes ++ portion) dones new 0
    by w =
        let has = passed-more bytes portion dones old new fed.passed grows fed.has in
        let on : IsWaiting (bytes ++ portion) fed.passed new.text.items new.scan = record {
          is = ap (λ l. l ++ portion) w.is ∙ sym grows.text;
          none = w.none;
          front = front;
          knows = subst (λ z. Knows z nothing_read) (sym scan) w.knows;
        } in
        record {
          some = λ some. absurd (omega (arith, some));
          none = λ none. (
            waiting-done (bytes ++ portion) new.text.items dones new fed.passed new.scan has on,
            λ within. record {
              passed = fed.passed;
              has = has;
              few = within;
              reads = subst (λ b. IsReading b (bytes ++ portion) fed.passed new.text.items new.scan) (sym waits) on;
            },
          );
        }

-- ---- answered

-- No further statement is complete.
pub answers-none : (bytes : List ℕ) (dones : List Done) (live : Live) (before after : Sink) → AreDone bytes dones
    → Fed bytes dones live → Keeps before.written after.written → AnswersMore bytes dones live before after
answers-none bytes dones live before after are fed kept = record {
  more = [];
  are = subst (AreDone bytes) (sym (append-nil dones)) are;
  written = Appends-kept before.written before.written after.written [] (Appends-nil before.written) kept;
  fed = subst (λ l. Fed bytes l live) (sym (append-nil dones)) fed;
}

tells-both : (old new : Outcome) (dones more : List Done) → Tells old dones
    → new.commands ≡ old.commands + sum_by (λ (done : Done). commands_in done.statement) more
    → new.errors ≡ old.errors + sum_by (λ (done : Done). errors_in done.answer) more → Tells new (dones ++ more)
tells-both old new dones more tells commands errors = record {
  commands = commands
      ∙ (ap (λ n. n + sum_by (λ (done : Done). commands_in done.statement) more) tells.commands
      ∙ sym (sum_by-append (λ (done : Done). commands_in done.statement) dones more));
  errors = errors
      ∙ (ap (λ n. n + sum_by (λ (done : Done). errors_in done.answer) more) tells.errors
      ∙ sym (sum_by-append (λ (done : Done). errors_in done.answer) dones more));
}

-- The statements before an index of the text were answered.
pub answers-more : (bytes : List ℕ) (dones : List Done) (old new : Live) (end : ℕ) (records : List Record)
    (before after : Sink) → FedTo bytes dones old end → 0 < end
    → AreScriptRecords (take end old.text.items) records → new.text.items ≡ drop (end - 1) old.text.items
    → new.scan ≡ old.scan → new.is_begun ≡ old.is_begun → HasAnswered records old.session new.session before after
    → IsFit new.session → length new.text.items ≤ script_limit → AnswersMore bytes dones new before after
answers-more bytes dones old new end records before after fed some parsed text scan begun has fit few =
    let to = fed.reads in
    let r = to.reading in
    let s = to.scanned in
    let place = to.some some in
    let c = cut-of old.text.items r s place.0 in
    let same : records ≡ r.done = front-records old.text.items r s end records place.1 parsed in
    let left : new.text.items ≡ c.byte ∷ r.behind = text ∙ cut-left old.text.items r s.lead end c place.1 in
    let steps : Steps (place_of old.session r.done) has.dones (place_of new.session []) =
    subst (λ l. Steps (place_of old.session l) has.dones (place_of new.session [])) same has.steps in
    let passed = fed.passed ++ r.done in
    record {
      more = has.dones;
      are = scanned-done bytes old.text.items dones has.dones old fed.passed r fed.has.rest fed.has.steps s
          (known-spot old.scan r to.knows) (place_of new.session [], steps, refl);
      written = has.written;
      fed = record {
        passed = passed;
        has = record {
          rest = subst (IsRest bytes passed) (sym left) (rest-cut bytes old.text.items fed.passed r s c fed.has.rest);
          steps = λ later.
              subst (λ (l : List Record). Steps (start_of l) (dones ++ has.dones) (place_of new.session later))
              (sym (append_assoc fed.passed r.done later))
              (steps-both (start_of (fed.passed ++ (r.done ++ later))) (place_of old.session (r.done ++ later))
              (place_of new.session later) dones has.dones (fed.has.steps (r.done ++ later))
              (steps-complete (place_of old.session r.done) (place_of new.session []) has.dones later steps
              s.read.closed));
          tells = tells-both old.session.outcome new.session.outcome dones has.dones fed.has.tells has.commands
              has.errors;
          fit = fit;
        };
        few = few;
        reads = subst (λ b. IsReading b bytes passed new.text.items new.scan) (sym (begun ∙ fed.begun))
            (subst (λ (l : List ℕ). IsBegun l new.scan) (sym left)
            (subst (IsBegun (c.byte ∷ r.behind)) (sym scan)
            (begun-cut old.text.items r old.scan s c to.knows)));
      };
    }

-- Not all of them were answered.
pub stops-more : (bytes : List ℕ) (dones : List Done) (live : Live) (end : ℕ) (records : List Record)
    (before after : Sink) (fault : RunFault) → FedTo bytes dones live end → 0 < end
    → AreScriptRecords (take end live.text.items) records → StopsAnswering records live.session before after fault
    → ExplainsMore bytes dones before after fault
stops-more bytes dones live end records before after fault fed some parsed why =
    let to = fed.reads in
    let r = to.reading in
    let s = to.scanned in
    let same : records ≡ r.done = front-records live.text.items r s end records (to.some some).1 parsed in
    let (more, rest, stop) = stops records live.session before after fault (some-rest live.session records) why in (
      more,
      scanned-done bytes live.text.items dones more live fed.passed r fed.has.rest fed.has.steps s
          (known-spot live.scan r to.knows) (subst (λ l. AreRest (place_of live.session l) more) same rest),
      stop,
    )

-- All of them were answered, and too many bytes are left.
pub long-more : (bytes : List ℕ) (dones : List Done) (old : Live) (new : Session) (end : ℕ) (records : List Record)
    (before after : Sink) → FedTo bytes dones old end → 0 < end
    → AreScriptRecords (take end old.text.items) records → HasAnswered records old.session new before after
    → ExplainsMore bytes dones before after TooLong
long-more bytes dones old new end records before after fed some parsed has =
    let to = fed.reads in
    let r = to.reading in
    let same : records ≡ r.done =
    front-records old.text.items r to.scanned end records (to.some some).1 parsed in
    let rest : AreRest (place_of old.session r.done) has.dones =
    subst (λ l. AreRest (place_of old.session l) has.dones) same (place_of new [], has.steps, refl) in (
      has.dones,
      scanned-done bytes old.text.items dones has.dones old fed.passed r fed.has.rest fed.has.steps to.scanned
          (known-spot old.scan r to.knows) rest,
      front-all before.written after.written (output_of has.dones) has.written,
    )

-- None of them was answered, because memory was refused.
pub none-answered : (bytes : List ℕ) (dones : List Done) (live : Live) (end : ℕ) (before after : Sink)
    → FedTo bytes dones live end → Keeps before.written after.written → ExplainsMore bytes dones before after NoMemory
none-answered bytes dones live end before after fed kept =
    let r = fed.reads.reading in
    let (more, rest) = some-rest live.session r.done in (
      more,
      scanned-done bytes live.text.items dones more live fed.passed r fed.has.rest fed.has.steps fed.reads.scanned
          (known-spot live.scan r fed.reads.knows) rest,
      front-none before.written after.written (output_of more) kept,
    )

-- ---- at the end

-- The statements of all records.
statements-rest : (bytes : List ℕ) (dones more : List Done) (live : Live) (records : List Record)
    → Fed bytes dones live → AreScriptRecords live.text.items records → AreRest (place_of live.session records) more
    → AreStatementsOf bytes (dones ++ more)
statements-rest bytes dones more live records fed parsed (last, steps, over) =
    let text = live.text.items in
    let passed = fed.passed in
    let all : AreScriptRecords (bytes ++ []) (passed ++ records) =
    fed.has.rest.goes_on [] records (subst (λ l. AreScriptRecords l records) (sym (append-nil text)) parsed) in
    record {
      records = passed ++ records;
      parsed = subst (λ l. AreScriptRecords l (passed ++ records)) (append-nil bytes) all;
      finished = record {
        place = last;
        steps = steps-both (start_of (passed ++ records)) (place_of live.session records) last dones more
            (fed.has.steps records) steps;
        over = over;
      };
    }

pub answers-rest : (bytes : List ℕ) (dones : List Done) (live : Live) (new : Session) (records : List Record)
    (before after : Sink) → Fed bytes dones live → AreScriptRecords live.text.items records
    → HasAnswered records live.session new before after → AnswersRest bytes dones new.outcome before after
answers-rest bytes dones live new records before after fed parsed has = record {
  more = has.dones;
  are = statements-rest bytes dones has.dones live records fed parsed (place_of new [], has.steps, refl);
  written = has.written;
  tells = tells-both live.session.outcome new.outcome dones has.dones fed.has.tells has.commands has.errors;
}

pub stops-rest : (bytes : List ℕ) (dones : List Done) (live : Live) (records : List Record) (before after : Sink)
    (fault : RunFault) → Fed bytes dones live → AreScriptRecords live.text.items records
    → StopsAnswering records live.session before after fault → ExplainsRest bytes dones before after fault
stops-rest bytes dones live records before after fault fed parsed why =
    let (more, rest, stop) = stops records live.session before after fault (some-rest live.session records) why in
    (more, statements-rest bytes dones more live records fed parsed rest, stop)

pub none-rest : (bytes : List ℕ) (dones : List Done) (live : Live) (before after : Sink) → Fed bytes dones live
    → Keeps before.written after.written → ExplainsRest bytes dones before after NoMemory
none-rest bytes dones live before after fed kept =
    let (records, parsed) = some_records live.text.items in
    let (more, rest) = some-rest live.session records in (
      more,
      statements-rest bytes dones more live records fed parsed rest,
      front-none before.written after.written (output_of more) kept,
    )
