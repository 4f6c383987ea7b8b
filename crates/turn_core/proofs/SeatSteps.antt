-- The steps that make and join seats keep the rule.
use Rattle.std.proofs.Common.{◌≡◌, ◌≢◌, ℕ, zero, suc, ◌+◌, ◌<◌, ◌≤◌, false, List, [], ◌∷◌, set, length, slice_index, slice_set, Option, Some, sym, refl, ap, ◌∙◌, subst, ⊎_elim, arith, le_refl, length-set}
use mathlib.Core.Option.{some, none, some-injective, some-ne-none}
use mathlib.Core.List.{IsPrefix}
use mathlib.Core.Bool.{true≢false}
use native.Mathlib.Decide.{dec_lt}
use lib.ListN.{get_elem?}
use Rattle.atomic_table.specs.Table.{State, Me, step, keeps, Allows, Splits, Joins, opening}
use Rattle.atomic_table.proofs.Lists.{at_set}
use Rattle.turn_core.specs.declared.view.View.{View}
use Rattle.turn_core.specs.declared.view.Stage.TheVariants.{Resting}
use Rattle.turn_core.specs.Entries.{own, AreOfCallers}
use Rattle.turn_core.specs.Limits.{call_limit, seat_limit}
use Rattle.turn_core.specs.Rule.{Round, StageFits, Fits, Serves}
use Rattle.turn_core.specs.Steps.{view_from, sole, following, longer, telling, hearing, spent_view, Learns}
use Rattle.turn_core.proofs.RoundLemmas.{pick, pick-yes, pick-no, each-set}
use Rattle.turn_core.proofs.ViewSums.{sum-set}
use Rattle.turn_core.proofs.EntryLemmas.{at-push, own-between, longer-meets, numbered-front}
use Rattle.std.proofs.lemmas.List.Sums.{sum_by_push}

module _ {S E : Type 0} (entries : S → List E) (by : E → ℕ) (mark_of : S → ℕ) (seats : ℕ) where
  abbrev V : Type 0
  V = View E

  abbrev St : Type 0
  St = State (Option S) V

  abbrev M : Type 0
  M = Me (Option S) V

  abbrev Rule : St → Type 0
  Rule = Serves entries by mark_of seats

  opening_round : Round E
  opening_round = record { log = []; drawn = 0; served = 0; out = false; drawer = λ _. 0; holder = λ _. 0 }

  first-fits : 1 ≤ seats → Fits by seats opening_round 0 (view_from 1 seats)
  unfolding opening_round
  first-fits some_seat = record {
    sits = λ _. record {
      mark = refl;
      source = refl;
      last = omega arith;
      top = λ _. omega arith;
      holds = λ k low high. refl;
      mine = refl;
      unused = λ k low high. refl;
    };
    seen = ([], refl);
    own = refl;
    before = ([], refl);
    heard = ([], refl);
    stage = tt;
  }

  opens-each : 1 ≤ seats → (i : ℕ) (v : V) → get_elem? (view_from 1 seats ∷ []) i ≡ some v
      → Fits by seats opening_round i v
  opens-each some_seat zero v at = subst (Fits by seats opening_round 0) (some-injective (view_from 1 seats) v at)
      (first-fits some_seat)
  opens-each some_seat (suc i) v at = absurd (some-ne-none v (sym at))

  pub opens : (state : S) → 1 ≤ seats → seats ≤ seat_limit → entries state ≡ [] → mark_of state ≡ seats
      → Rule (opening (0 ∷ 0 ∷ []) (Some state ∷ []) (view_from 1 seats))
  unfolding opening_round
  opens state some_seat few none_yet marked = record {
    x = opening_round;
    words = refl;
    budget = omega arith;
    behind = le_refl 0;
    gone = λ o. absurd (true≢false (sym o));
    home = λ _. (state, refl, none_yet, marked);
    numbered = λ k d l. absurd (omega arith);
    each = opens-each some_seat;
  }

  -- the numbers above p pass to a new seat
  abbrev handed : Round E → ℕ → ℕ → Round E
  handed x p to = record x { holder = λ k. pick (dec_lt p k) to (x.holder k) }

  pub may_deal : (id : ℕ) (v : V) → 0 < v.number → 0 < v.spare → call_limit ≤ v.left
      → Splits Rule id v (sole v) (following v)
  may_deal id v pos spare room s r at =
      let x : Round E = r.x in
      let n : ℕ = length s.views in
      let x' : Round E = handed x v.number n in
      let old = r.each id v at in
      let q = old.sits pos in
      let top : v.number + v.spare ≡ seats = q.top spare in
      let t = sum_by_push (λ (u : V). u.left) (set s.views id (sole v)) (following v) in
      let t' = sum-set (λ (u : V). u.left) s.views id v (sole v) at in
      let budget = r.budget in
      let mine : Fits by seats x' id (sole v) = record {
        sits = λ _. record {
          mark = q.mark;
          source = q.source;
          last = omega arith;
          top = λ l. absurd (omega arith);
          holds = λ k low high. pick-no (dec_lt v.number k) n (x.holder k) (λ l. omega arith)
              ∙ q.holds k low (omega arith);
          mine = q.mine;
          unused = λ k low high. absurd (omega arith);
        };
        seen = old.seen;
        own = old.own;
        before = old.before;
        heard = old.heard;
        stage = old.stage;
      } in
      let theirs : Fits by seats x' n (following v) = record {
        sits = λ _. record {
          mark = q.mark;
          source = refl;
          last = omega arith;
          top = λ l. omega arith;
          holds = λ k low high. pick-yes (dec_lt v.number k) n (x.holder k) (omega arith);
          mine = q.unused (v.number + 1) (omega arith) (omega arith);
          unused = λ k low high. q.unused k (omega arith) (omega arith);
        };
        seen = (x.log, refl);
        own = refl;
        before = ([], refl);
        heard = ([], refl);
        stage = tt;
      } in
      let others : (j : ℕ) (u : V) → j ≢ id → get_elem? s.views j ≡ some u → Fits by seats x' j u =
      λ j u ne here. let f = r.each j u here in record {
        sits = λ p. let z = f.sits p in record {
          mark = z.mark;
          source = z.source;
          last = z.last;
          top = z.top;
          holds = λ k low high. let last = z.last in pick-no (dec_lt v.number k) n (x.holder k)
              (λ l. ne (sym (z.holds k low high) ∙ q.holds k (omega arith) (omega arith))) ∙ z.holds k low high;
          mine = z.mine;
          unused = z.unused;
        };
        seen = f.seen;
        own = f.own;
        before = f.before;
        heard = f.heard;
        stage = f.stage;
      } in
      record {
        x = x';
        words = r.words;
        budget = omega arith;
        behind = r.behind;
        gone = r.gone;
        home = r.home;
        numbered = r.numbered;
        each = λ j u here. ⊎_elim (each-set (Fits by seats x') s.views id (sole v) mine others j u)
            (λ (e : (j ≡ length (set s.views id (sole v))) × (following v ≡ u)).
            subst (λ (z : ℕ × V). Fits by seats x' z.0 z.1)
            (λ i. (sym (e.0 ∙ length-set s.views id (sole v)) i, e.1 i)) theirs)
            (at-push (set s.views id (sole v)) (following v) u j here);
      }

  pub may_tell : (id : ℕ) (v : V) → Splits Rule id v v (telling v)
  may_tell id v s r at =
      let x : Round E = r.x in
      let n : ℕ = length s.views in
      let old = r.each id v at in
      let t = sum_by_push (λ (u : V). u.left) (set s.views id v) (telling v) in
      let t' = sum-set (λ (u : V). u.left) s.views id v v at in
      let budget = r.budget in
      let theirs : Fits by seats x n (telling v) = record {
        sits = λ p. absurd (omega arith);
        seen = old.seen;
        own = old.own;
        before = (v.seen, refl);
        heard = (v.seen, refl);
        stage = tt;
      } in
      record {
        x = x;
        words = r.words;
        budget = omega arith;
        behind = r.behind;
        gone = r.gone;
        home = r.home;
        numbered = r.numbered;
        each = λ j u here. ⊎_elim (each-set (Fits by seats x) s.views id v old (λ j u _ at. r.each j u at) j u)
            (λ (e : (j ≡ length (set s.views id v)) × (telling v ≡ u)).
            subst (λ (z : ℕ × V). Fits by seats x z.0 z.1)
            (λ i. (sym (e.0 ∙ length-set s.views id v) i, e.1 i)) theirs)
            (at-push (set s.views id v) (telling v) u j here);
      }

  -- what the other seat knows also fits
  at-other : (s : St) (r : Rule s) (id other : ℕ) (z w : V) → ¬ (other ≡ id)
      → get_elem? (set s.views id z) other ≡ some w → Fits by seats r.x other w
  at-other s r id other z w apart there =
      ⊎_elim (λ (t : (other ≡ id) × (z ≡ w)). absurd (apart t.0))
      (λ (t : (other ≢ id) × (get_elem? s.views other ≡ some w)). r.each other w t.1)
      (at_set s.views id other z w there)

  pub may_join : (id : ℕ) (v : V) (other : ℕ) (w : V) → 0 < v.number → v.stage ≡ Resting
      → Joins Rule id v other w (hearing v w) spent_view
  may_join id v other w pos rests s r at apart there =
      let x : Round E = r.x in
      let old = r.each id v at in
      let q = old.sits pos in
      let z : V = hearing v w in
      let its = at-other s r id other z w apart there in
      let t = sum-set (λ (u : V). u.left) s.views id v z at in
      let t' = sum-set (λ (u : V). u.left) (set s.views id z) other w spent_view there in
      let budget = r.budget in
      let meets = longer-meets v.seen w.seen old.seen.0 its.seen.0 (old.seen.1 ∙ sym its.seen.1) in
      let begins : IsPrefix z.seen x.log = subst (IsPrefix (longer v.seen w.seen)) old.seen.1 meets.0 in
      let mine : Fits by seats x id z = record {
        sits = λ _. record {
          mark = q.mark;
          source = q.source;
          last = q.last;
          top = q.top;
          holds = q.holds;
          mine = q.mine;
          unused = q.unused;
        };
        seen = begins;
        own = own-between by v.source v.seen z.seen x.log meets.1 begins (old.own ∙ (sym q.mine
            ∙ ap (λ (k : ℕ). own by k x.log) (sym q.source))) ∙ old.own;
        before = meets.1;
        heard = meets.2;
        stage = subst (StageFits x id z.seen) (sym rests) tt;
      } in
      let gone : Fits by seats x other spent_view = record {
        sits = λ p. absurd (omega arith);
        seen = (x.log, refl);
        own = refl;
        before = ([], refl);
        heard = ([], refl);
        stage = tt;
      } in
      record {
        x = x;
        words = r.words;
        budget = omega arith;
        behind = r.behind;
        gone = r.gone;
        home = r.home;
        numbered = r.numbered;
        each = each-set (Fits by seats x) (set s.views id z) other spent_view gone
            (λ j u _ here. each-set (Fits by seats x) s.views id z mine (λ j u _ at. r.each j u at) j u here);
      }

  pub may_learn : (slots id : ℕ) (me : M) → Allows Rule slots id me 1 (λ n. n) (Learns by (step slots 1 0 0 none) me)
  may_learn slots id me s r _ at _ = let old = r.each id me.0 at in (
    me.0,
    keeps,
    tt,
    record {
      x = r.x;
      words = ap (λ ws. slice_set ws 1 (slice_index ws 1)) r.words;
      budget = let t = sum-set (λ (u : V). u.left) s.views id me.0 me.0 at in let b = r.budget in omega arith;
      behind = r.behind;
      gone = r.gone;
      home = r.home;
      numbered = r.numbered;
      each = each-set (Fits by seats r.x) s.views id me.0 old (λ j u _ here. r.each j u here);
    },
    (
      refl,
      old.before,
      old.heard,
      old.own,
      λ p. numbered-front by me.0.mark me.0.seen r.x.log old.seen
          (subst (λ (k : ℕ). AreOfCallers by k r.x.log) (sym (old.sits p).mark) r.numbered),
    ),
  )
