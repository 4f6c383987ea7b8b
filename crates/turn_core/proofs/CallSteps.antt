-- The steps of one call keep the rule: drawing a ticket, checking for it, and passing the turn on.
use Rattle.std.proofs.Common.{◌≡◌, ◌≢◌, ℕ, ◌+◌, ◌-◌, ◌%◌, ◌^◌, ◌<◌, ◌≤◌, Bool, true, false, List, [], ◌∷◌, slice_index, slice_set, Option, Some, sym, refl, ap, ◌∙◌, subst, arith, le_refl, append-nil, None}
use mathlib.Core.Option.{some, none}
use mathlib.Core.List.{IsPrefix}
use mathlib.Core.Bool.{true≢false}
use mathlib.Core.Logic.{dite}
use native.Mathlib.Decide.{ℕ_discrete}
use lib.ListN.{get_elem?}
use Rattle.atomic_table.specs.Table.{State, Me, Act, step, keeps, takes, gives, stepped, carried_after, Valid, Allows}
use Rattle.turn_core.specs.declared.view.View.{View}
use Rattle.turn_core.specs.declared.view.Stage.{Stage}
use Rattle.turn_core.specs.declared.view.Stage.TheVariants.{Resting, Waiting, Serving}
use Rattle.turn_core.specs.Entries.{own, AreOfCallers, AddsAtMostOne}
use Rattle.turn_core.specs.Rule.{Round, StageFits, Fits, Serves}
use Rattle.turn_core.specs.Steps.{DrawsTicket, Looks, PassesOn}
use Rattle.turn_core.proofs.RoundLemmas.{pick, pick-yes, pick-no, each-set}
use Rattle.turn_core.proofs.ViewSums.{sum-set, one-le-sum}
use Rattle.turn_core.proofs.EntryLemmas.{prefix-trans, own-added, prefix-added, numbered-added}

-- the state taken out of the first slot
state_of : {S : Type 0} → S → List (ℕ × Option S) → S
state_of y [] = y
state_of y ((n, None) ∷ c) = y
state_of y ((n, Some z) ∷ c) = z

module _ {S E : Type 0} (entries : S → List E) (by : E → ℕ) (mark_of : S → ℕ) (seats : ℕ) where
  abbrev V : Type 0
  V = View E

  abbrev St : Type 0
  St = State (Option S) V

  abbrev M : Type 0
  M = Me (Option S) V

  abbrev Rule : St → Type 0
  Rule = Serves entries by mark_of seats

  -- one ticket more, drawn by me
  abbrev with_ticket : Round E → ℕ → Round E
  with_ticket x me = record x { drawn = x.drawn + 1; drawer = λ k. pick (ℕ_discrete k x.drawn) me (x.drawer k) }

  others-wait : (x : Round E) (me j : ℕ) (seen : List E) → (x.out ≡ true → x.served < x.drawn) → (st : Stage)
      → StageFits x j seen st → StageFits (with_ticket x me) j seen st
  others-wait x me j seen behind Resting fits = tt
  others-wait x me j seen behind (Waiting k) fits = let low = fits.1 in
      (fits.0, omega arith, pick-no (ℕ_discrete k x.drawn) me (x.drawer k) (λ e. omega arith) ∙ fits.2, fits.3)
  others-wait x me j seen behind (Serving k) fits = let low = behind fits.2 in let here = fits.0 in
      (fits.0, pick-no (ℕ_discrete k x.drawn) me (x.drawer k) (λ e. omega arith) ∙ fits.1, fits.2, fits.3)

  not-out : (b : Bool) (P : Type 0) → (b ≡ true → P) → ¬ P → b ≡ false
  not-out true P h n = absurd (n (h refl))
  not-out false P h n = refl

  pub may_draw : (slots id : ℕ) (me : M) → 0 < me.0.left
      → Allows Rule slots id me 0 (λ n. (n + 1) % 2 ^ 64) (DrawsTicket (step slots 0 1 0 none) me)
  may_draw slots id me some_left s r _ at _ =
      let x = r.x in
      let v : V = me.0 in
      let old = r.each id v at in
      let w : V = record v { left = v.left - 1; stage = Waiting x.drawn } in
      let t = one-le-sum (λ (u : V). u.left) s.views id v at in
      let t' = sum-set (λ (u : V). u.left) s.views id v w at in
      let budget = r.budget in
      let n : slice_index s.words 0 ≡ x.drawn = ap (λ ws. slice_index ws 0) r.words in (
        w,
        keeps,
        tt,
        record {
          x = with_ticket x id;
          words = ap (λ ws. slice_set ws 0 ((slice_index ws 0 + 1) % 2 ^ 64)) r.words
              ∙ ap (λ (k : ℕ). k ∷ x.served ∷ []) (omega arith);
          budget = omega arith;
          behind = let b = r.behind in omega arith;
          gone = λ o. let g = r.gone o in let b = g.1 in (g.0, omega arith);
          home = r.home;
          numbered = r.numbered;
          each = each-set (Fits by seats (with_ticket x id)) s.views id w
              record {
                sits = λ p. let q = old.sits p in record {
                  mark = q.mark;
                  source = q.source;
                  last = q.last;
                  top = q.top;
                  holds = q.holds;
                  mine = q.mine;
                  unused = q.unused;
                };
                seen = old.seen;
                own = old.own;
                before = old.before;
                heard = old.heard;
                stage = (
                  r.behind,
                  omega arith,
                  pick-yes (ℕ_discrete x.drawn x.drawn) id (x.drawer x.drawn) refl,
                  λ e. not-out x.out (x.served < x.drawn) (λ o. (r.gone o).1) (λ l. omega arith),
                );
              }
              (λ j u _ here. let f = r.each j u here in record {
                sits = λ p. let q = f.sits p in record {
                  mark = q.mark;
                  source = q.source;
                  last = q.last;
                  top = q.top;
                  holds = q.holds;
                  mine = q.mine;
                  unused = q.unused;
                };
                seen = f.seen;
                own = f.own;
                before = f.before;
                heard = f.heard;
                stage = others-wait x id j u.seen (λ o. (r.gone o).1) u.stage f.stage;
              });
        },
        (refl, ap (λ (k : ℕ). record v { left = v.left - 1; stage = Waiting k }) (sym n)),
      )

  -- a seat fits a round with the same log and numbers if its stage does
  refits : (x x' : Round E) (i : ℕ) (v : V) → x.log ≡ x'.log → x.holder ≡ x'.holder → Fits by seats x i v
      → StageFits x' i v.seen v.stage → Fits by seats x' i v
  refits x x' i v same hold f stage = record {
    sits = λ p. let q = f.sits p in record {
      mark = q.mark;
      source = q.source;
      last = q.last;
      top = q.top;
      holds = λ k low high. ap (λ h. h k) (sym hold) ∙ q.holds k low high;
      mine = ap (own by v.number) (sym same) ∙ q.mine;
      unused = λ k low high. ap (own by k) (sym same) ∙ q.unused k low high;
    };
    seen = subst (IsPrefix v.seen) same f.seen;
    own = f.own;
    before = f.before;
    heard = f.heard;
    stage = stage;
  }

  ticket_of : Stage → ℕ
  ticket_of Resting = 0
  ticket_of (Waiting k) = k
  ticket_of (Serving k) = k

  Waiting-injective : (a b : ℕ) → Waiting a ≡ Waiting b → a ≡ b
  unfolding ticket_of
  Waiting-injective a b e = ap ticket_of e

  -- the round while a seat has the state
  abbrev taken : Round E → Round E
  taken x = record x { out = true }

  others-stay : (x : Round E) (me j : ℕ) (seen : List E) → x.drawer x.served ≡ me → j ≢ me → x.out ≡ false
      → (st : Stage) → StageFits x j seen st → StageFits (taken x) j seen st
  others-stay x me j seen drew ne home Resting fits = tt
  others-stay x me j seen drew ne home (Waiting k) fits = (
    fits.0,
    fits.1,
    fits.2,
    λ e. absurd (ne (sym fits.2
        ∙ (ap x.drawer e ∙ drew))),
  )
  others-stay x me j seen drew ne home (Serving k) fits = absurd (true≢false (sym fits.2 ∙ home))

  miss-keeps : (slots id : ℕ) (me : M) (k : ℕ) (s : St) (r : Rule s) → me.0.stage ≡ Waiting k
      → get_elem? s.views id ≡ some me.0 → r.x.served ≢ k
      → (w : V) × (a : Act (Option S)) × Valid s.homes me.1 a × Rule (stepped s 1 (slice_index s.words 1) id me.1 w a)
      × Looks entries by mark_of (step slots 1 0 0 none) me (slice_index s.words 1) (w, carried_after me.1 a)
  miss-keeps slots id me k s r is at miss = let n : slice_index s.words 1 ≡ r.x.served =
      ap (λ ws. slice_index ws 1) r.words in (
        me.0,
        keeps,
        tt,
        record {
          x = r.x;
          words = ap (λ ws. slice_set ws 1 (slice_index ws 1)) r.words;
          budget = let t = sum-set (λ (u : V). u.left) s.views id me.0 me.0 at in let b = r.budget in omega arith;
          behind = r.behind;
          gone = r.gone;
          home = r.home;
          numbered = r.numbered;
          each = each-set (Fits by seats r.x) s.views id me.0 (r.each id me.0 at) (λ j u _ here. r.each j u here);
        },
        λ k' is'. ((λ _. refl), λ e. absurd (miss (sym n ∙ (e ∙ Waiting-injective k' k (sym is' ∙ is))))),
      )

  hit-keeps : (slots id : ℕ) (me : M) (k : ℕ) (s : St) (r : Rule s) → 0 < me.0.number → me.0.stage ≡ Waiting k
      → get_elem? s.views id ≡ some me.0 → r.x.served ≡ k
      → (w : V) × (a : Act (Option S)) × Valid s.homes me.1 a × Rule (stepped s 1 (slice_index s.words 1) id me.1 w a)
      × Looks entries by mark_of (step slots 1 0 0 none) me (slice_index s.words 1) (w, carried_after me.1 a)
  hit-keeps slots id me k s r p is at hit =
      let x : Round E = r.x in
      let v : V = me.0 in
      let n : slice_index s.words 1 ≡ x.served = ap (λ ws. slice_index ws 1) r.words in
      let old = r.each id v at in
      let q = old.sits p in
      let fits = subst (StageFits x id v.seen) is old.stage in
      let home : x.out ≡ false = fits.3 (sym hit) in
      let y = r.home home in
      let w : V = record v { seen = entries y.0; stage = Serving k } in
      let drew : x.drawer x.served ≡ id = ap x.drawer hit ∙ fits.2 in
      let low : k < x.drawn = fits.1 in
      let all : IsPrefix v.seen (entries y.0) = subst (IsPrefix v.seen) (sym y.2) old.seen in (
        w,
        takes 0 (Some y.0),
        ap (λ hs. get_elem? hs 0) y.1,
        record {
          x = taken x;
          words = ap (λ ws. slice_set ws 1 (slice_index ws 1)) r.words;
          budget = let t = sum-set (λ (u : V). u.left) s.views id v w at in let b = r.budget in omega arith;
          behind = r.behind;
          gone = λ _. (ap (λ hs. slice_set hs 0 none) y.1, omega arith);
          home = λ o. absurd (true≢false o);
          numbered = r.numbered;
          each = each-set (Fits by seats (taken x)) s.views id w
              record {
                sits = λ _. record {
                  mark = q.mark;
                  source = q.source;
                  last = q.last;
                  top = q.top;
                  holds = q.holds;
                  mine = q.mine;
                  unused = q.unused;
                };
                seen = ([], append-nil (entries y.0) ∙ y.2);
                own = ap (own by v.source) y.2 ∙ (ap (λ (z : ℕ). own by z x.log) q.source ∙ q.mine);
                before = prefix-trans v.before v.seen (entries y.0) old.before all;
                heard = prefix-trans v.heard v.seen (entries y.0) old.heard all;
                stage = (sym hit, fits.2, refl, y.2);
              }
              (λ j u ne here. refits x (taken x) j u refl refl (r.each j u here) (others-stay x id j u.seen drew ne
              home u.stage (r.each j u here).stage));
        },
        λ k' is'. (
          (λ miss. absurd (miss (n ∙ (hit ∙ Waiting-injective k k' (sym is ∙ is'))))),
          λ _. (
            y.0,
            refl,
            ap (λ (z : ℕ). record v { seen = entries y.0; stage = Serving z }) (Waiting-injective k k' (sym is ∙ is')),
            record {
              begins = all;
              own = ap (own by v.number) y.2 ∙ q.mine;
              numbered = subst (λ (m : ℕ). AreOfCallers by m (entries y.0)) (sym q.mark)
                  (subst (AreOfCallers by seats) (sym y.2) r.numbered);
              mark = y.3 ∙ sym q.mark;
            },
          ),
        ),
      )

  pub may_look : (slots id : ℕ) (me : M) (k : ℕ) → 0 < me.0.number → me.0.stage ≡ Waiting k
      → Allows Rule slots id me 1 (λ n. n) (Looks entries by mark_of (step slots 1 0 0 none) me)
  may_look slots id me k p is s r _ at _ =
      dite (ℕ_discrete r.x.served k) (λ hit. hit-keeps slots id me k s r p is at hit)
      (λ miss. miss-keeps slots id me k s r is at miss)

  -- the round after the state was put back as y
  abbrev passed_on : Round E → S → Round E
  passed_on x y = record x { log = entries y; served = x.served + 1; out = false }

  others-follow : (x : Round E) (y : S) (me j : ℕ) (seen : List E) → x.drawer x.served ≡ me → j ≢ me
      → (st : Stage) → StageFits x j seen st → StageFits (passed_on x y) j seen st
  others-follow x y me j seen drew ne Resting fits = tt
  others-follow x y me j seen drew ne (Waiting k) fits =
      let low : x.served ≤ k = fits.0 in
      let other : k ≢ x.served = λ e. ne (sym fits.2 ∙ (ap x.drawer e ∙ drew)) in
      (omega arith, fits.1, fits.2, λ _. refl)
  others-follow x y me j seen drew ne (Serving k) fits = absurd (ne (sym fits.1 ∙ (ap x.drawer fits.0 ∙ drew)))

  pass-keeps : (slots id : ℕ) (v : V) (y : S) (k : ℕ) → 0 < v.number → v.stage ≡ Serving k → mark_of y ≡ v.mark
      → AddsAtMostOne by v.number v.seen (entries y)
      → Allows Rule slots id (v, (0, Some y) ∷ []) 1 (λ n. (n + 1) % 2 ^ 64)
      (PassesOn entries by (step slots 1 1 0 none) (v, (0, Some y) ∷ []))
  unfolding state_of
  pass-keeps slots id v y k p is marked adds s r _ at _ =
      let x : Round E = r.x in
      let old = r.each id v at in
      let q = old.sits p in
      let fits = subst (StageFits x id v.seen) is old.stage in
      let drew : x.drawer x.served ≡ id = ap x.drawer (sym fits.0) ∙ fits.1 in
      let gone = r.gone fits.2 in
      let below = gone.1 in
      let budget = r.budget in
      let added : AddsAtMostOne by v.number x.log (entries y) =
      subst (λ l. AddsAtMostOne by v.number l (entries y)) fits.3 adds in
      let w : V = record v { seen = entries y; mine = own by v.number (entries y); stage = Resting } in
      let x' : Round E = passed_on x y in
      let high : v.number ≤ seats = (let l = q.last in omega arith) in
      let numbered : AreOfCallers by seats (entries y) = numbered-added by seats v.number x.log (entries y) p high
      r.numbered added in (
        w,
        gives,
        tt,
        record {
          x = x';
          words = ap (λ ws. slice_set ws 1 ((slice_index ws 1 + 1) % 2 ^ 64)) r.words
              ∙ ap (λ (z : ℕ). x.drawn ∷ z ∷ []) (omega arith);
          budget = let t = sum-set (λ (u : V). u.left) s.views id v w at in omega arith;
          behind = omega arith;
          gone = λ o. absurd (true≢false (sym o));
          home = λ _. (y, ap (λ hs. slice_set hs 0 (some (Some y))) gone.0, refl, marked ∙ q.mark);
          numbered = numbered;
          each = each-set (Fits by seats x') s.views id w
              record {
                sits = λ _. record {
                  mark = q.mark;
                  source = q.source;
                  last = q.last;
                  top = q.top;
                  holds = q.holds;
                  mine = refl;
                  unused = λ n low high'. own-added by n v.number x.log (entries y) (λ e. omega arith) added
                      ∙ q.unused n low high';
                };
                seen = ([], append-nil (entries y));
                own = ap (λ (z : ℕ). own by z (entries y)) q.source;
                before = prefix-added by v.number v.before v.seen (entries y) old.before adds;
                heard = prefix-added by v.number v.heard v.seen (entries y) old.heard adds;
                stage = tt;
              }
              (λ j u ne here. let f = r.each j u here in record {
                sits = λ pos. let z = f.sits pos in
                    let apart : (n : ℕ) → u.number ≤ n → n ≤ u.number + u.spare → n ≢ v.number =
                    λ n low up e. ne (sym (z.holds n low up)
                    ∙ (ap x.holder e ∙ q.holds v.number (le_refl v.number) (omega arith))) in record {
                      mark = z.mark;
                      source = z.source;
                      last = z.last;
                      top = z.top;
                      holds = z.holds;
                      mine = own-added by u.number v.number x.log (entries y) (apart u.number (le_refl u.number)
                          (omega arith)) added ∙ z.mine;
                      unused = λ n low up. own-added by n v.number x.log (entries y) (apart n (omega arith) up)
                          added ∙ z.unused n low up;
                    };
                seen = prefix-added by v.number u.seen x.log (entries y) f.seen added;
                own = f.own;
                before = f.before;
                heard = f.heard;
                stage = others-follow x y id j u.seen drew ne u.stage f.stage;
              });
        },
        λ y' e. let same : y ≡ y' = ap (λ (c : List (ℕ × Option S)). state_of y c) e in (
          refl,
          ap (λ (z : S). record v { seen = entries z; mine = own by v.number (entries z); stage = Resting }) same,
          subst (λ (z : ℕ × S). AreOfCallers by z.0 (entries z.1)) (λ i. (sym q.mark i, same i)) numbered,
        ),
      )

  pub may_pass_on : (slots id : ℕ) (me : M) (y : S) (k : ℕ) → me.1 ≡ (0, Some y) ∷ [] → 0 < me.0.number
      → me.0.stage ≡ Serving k → mark_of y ≡ me.0.mark → AddsAtMostOne by me.0.number me.0.seen (entries y)
      → Allows Rule slots id me 1 (λ n. (n + 1) % 2 ^ 64) (PassesOn entries by (step slots 1 1 0 none) me)
  may_pass_on slots id me y k has p is marked adds =
      subst (λ (c : List (ℕ × Option S)). Allows Rule slots id (
        me.0,
        c,
      ) 1 (λ n. (n + 1) % 2 ^ 64) (PassesOn entries by (step slots 1 1 0 none) (
        me.0,
        c,
      ))) (sym has) (pass-keeps slots id me.0 y k p is marked adds)
