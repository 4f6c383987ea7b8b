use Rattle.std.proofs.Common.{arith, ◌≡◌, ◌∙◌, ◌<◌, [], ◌∷◌, ap, length}
use Rattle.std.proofs.lemmas.Result.{IfOk-at_ok, IfOk-weaker}
use Rattle.work_core.specs.declared.claim_view.ClaimView.{ClaimView}
use Rattle.work_core.specs.declared.kept.KeptValues.{KeptValues}
use Rattle.work_core.specs.Counting.{times}
use Rattle.work_core.specs.Workers.{AreOfDrawn, IsCalledAfter}
use Rattle.work_core.proofs.Counting.{times-append, times-last}
use Rattle.work_core.proofs.Handed.{drawn_next, length-places-kept}
use Rattle.std.proofs.Common.{rules, refl, sym, subst, ℕ, List, ◌≤◌, ◌++◌}
use Rattle.work_core.proofs.Handed.{drawn_none, drawn_past}
use Rattle.work_core.proofs.worker.work.Goals as goal

pub loop-number-preserved : goal.loop-number-preserved
loop-number-preserved g c =
    let was = c.loop-number.invariant in
    let draw = c.draw-number-in-loop-number in
    let after = draw.ensures.drawn in
    let rises = draw.ensures.rises in
    let room = ap (λ (v : ClaimView). v.room) after in
    let least = ap (λ (v : ClaimView). v.least) after in
    let drawn = ap (λ (v : ClaimView). v.drawn) after in
    let old = c.loop-number.seat.me.0.drawn in
    let n = c.loop-number.number in
    let inside : n < g.C.Calls.count_of c.args.calls.now =
    omega (arith, c.loop-number-test.true, c.count-count.ensures) in
    let both = times-append n old (draw.result ∷ []) in
    let mine : 0 < times n draw.new.seat.me.0.drawn = rw drawn (omega (arith, both, was.last)) in
    record {
      table_is = draw.ensures.table ∙ was.table_is;
      part = ap (λ (v : ClaimView). v.parts) after ∙ was.part;
      free = draw.ensures.kept ∙ was.free;
      reached = least;
      room = omega arith;
      last = rw drawn (times-last draw.result old);
      places =
          IfOk-weaker c.call_next-kept.result _ _
          (λ (new : KeptValues g.row.C-Out.Denot) (run : IsCalledAfter (g.C.Calls.IsValue c.args.calls.now) n c.loop-number.kept new).
          length-places-kept n run.call.value run.before new run.call.keeps ∙ IfOk-at_ok (λ (kept : KeptValues g.row.C-Out.Denot). length kept.places.items ≡ length c.args.worker.kept.places.items)
          run.was was.places)
          c.call_next-kept.ensures;
      drawn =
          IfOk-weaker c.call_next-kept.result _ _
          (λ (new : KeptValues g.row.C-Out.Denot) (run : IsCalledAfter (g.C.Calls.IsValue c.args.calls.now) n c.loop-number.kept new).
          rw drawn
          (drawn_next (g.C.Calls.count_of c.args.calls.now) (g.C.Calls.IsValue c.args.calls.now) old n draw.result run.before new inside run.call
          (IfOk-at_ok (AreOfDrawn (g.C.Calls.count_of c.args.calls.now) (g.C.Calls.IsValue c.args.calls.now) old (n ∷ [])) run.was was.drawn)))
          c.call_next-kept.ensures;
      refused = λ refused. (n, inside, mine);
    }

pub loop-number-init : goal.loop-number-init
loop-number-init g c =
    let fresh = c.requires.fresh.0.1 in
    let draw = c.draw-number in
    let n = draw.result in
    let after = draw.ensures.drawn in
    let room = ap (λ (v : ClaimView). v.room) after in
    let least = ap (λ (v : ClaimView). v.least) after in
    let drawn = ap (λ (v : ClaimView). v.drawn) after ∙ ap (λ m. m.0.drawn ++ n ∷ []) fresh in
    let before = ap (λ m. m.0.room) fresh in
    record {
      table_is = draw.ensures.table;
      part = ap (λ (v : ClaimView). v.parts) after ∙ ap (λ m. m.0.parts) fresh;
      free = draw.ensures.kept ∙ ap (λ m. m.1) fresh;
      reached = least;
      room = omega (arith, room, least, before);
      last = rw drawn (times-last n []);
      places = refl;
      drawn =
          subst (λ (l : List ℕ). AreOfDrawn (g.C.Calls.count_of c.args.calls.now) (g.C.Calls.IsValue c.args.calls.now) l (n ∷ []) c.args.worker.kept) (sym drawn)
          (drawn_none (g.C.Calls.count_of c.args.calls.now) (g.C.Calls.IsValue c.args.calls.now) n c.args.worker.kept c.requires.fresh.1 c.requires.fresh.2);
      refused = search rules;
    }

pub returns : goal.returns
returns g c =
    let was = c.loop-number.invariant in
    let past : g.C.Calls.count_of c.args.calls.now ≤ c.loop-number.number =
    omega (arith, c.loop-number-test.false, c.count-count.ensures) in
    record {
      table_is = was.table_is ∙ c.requires.fresh.0.0;
      free = was.free;
      part = was.part;
      past = omega (arith, was.reached, past);
      places = was.places;
      values = IfOk-weaker c.loop-number.kept _ _
          (λ (kept : KeptValues g.row.C-Out.Denot) (are : AreOfDrawn (g.C.Calls.count_of c.args.calls.now) (g.C.Calls.IsValue c.args.calls.now) c.loop-number.seat.me.0.drawn (c.loop-number.number ∷ []) kept).
          drawn_past (g.C.Calls.count_of c.args.calls.now) (g.C.Calls.IsValue c.args.calls.now) c.loop-number.seat.me.0.drawn c.loop-number.number kept past are)
          was.drawn;
      refused = was.refused;
    }
