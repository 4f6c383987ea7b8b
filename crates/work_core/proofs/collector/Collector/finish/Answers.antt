use Rattle.std.proofs.Common.{rules, Option, List, All, IsSome, refl, ap, sym, subst, ◌∙◌}
use Rattle.work_core.specs.Collected.{Collected, IsFirstGap, AreJobPlaces}
use Rattle.work_core.proofs.Places.{values_at_places}
use Rattle.work_core.proofs.collector.Collector.finish.Goals as goal

pub at_places-requires : goal.at_places-requires
at_places-requires g c =
    subst (λ (l : List (Option g.row.W-Out.Denot)). All IsSome l) c.deref.ensures.value c.in_default.ensures.none

pub returns-in-Some : goal.returns-in-Some
returns-in-Some g c =
    let number = c.in-Some.i in
    let same = ap (λ (v : Collected g.row.W.Denot g.row.W-Out.Denot). v.places) c.self.view_is in
    record {
      values = tt;
      accepted = tt;
      back = refl;
      first = record {
        number = number;
        name_is = search rules;
        first = subst (λ (l : List (Option g.row.W-Out.Denot)). IsFirstGap l number)
            (c.deref.ensures.value ∙ same) c.in-Some.ensures.some;
      };
    }

pub returns : goal.returns
returns g c =
    let Seen = Collected g.row.W.Denot g.row.W-Out.Denot in
    let accepted = sym (ap (λ (v : Seen). v.places) c.self.view_is) ∙ c.at_places.ensures in
    record {
      values = values_at_places g.W.PairWork c.args.self.job c.args.self.places c.at_places.result
          (subst (λ (v : Seen). AreJobPlaces g.W.PairWork v.job v.places) c.self.view_is c.self.invariant)
          accepted;
      accepted = accepted;
      back = tt;
      first = tt;
    }
