use Rattle.std.proofs.Common.{arith, ◌≡◌, ◌<◌, sym, refl, length, slice_index_or, None}
use Rattle.work_core.specs.Jobs.{Shares}
use Rattle.work_core.proofs.Places.{place_read, place_inside, shared_value, places-set}
use Rattle.work_core.proofs.collector.Collector.accept.Goals as goal

pub index-requires : goal.index-requires
index-requires g c =
    let laws = g.met.W.PairWork g.world.𝓛 g.world.𝓜 g.world.𝓡 ((λ s x. x), (λ x. x), (λ x. x), λ x. x) in
    let job = c.self.inside.job.now in
    let places = c.self.inside.places.items in
    let inside : c.in-Some.number < length places =
    place_inside g.W.PairWork job c.args.piece.name c.in-Some.number places (laws.named job) (sym c.in-Some.ensures)
    c.self.invariant in
    omega (arith, inside)

pub returns-then-is_some-clause-double : goal.returns-then-is_some-clause-double
returns-then-is_some-clause-double g c e =
    let laws = g.met.W.PairWork g.world.𝓛 g.world.𝓜 g.world.𝓡 ((λ s x. x), (λ x. x), (λ x. x), λ x. x) in
    let job = c.self.inside.job.now in
    let piece = c.args.piece in
    let number = c.in-Some.number in
    let places = c.self.inside.places.items in
    let shares : Shares g.W.PairWork job piece.job.now piece.name = c.if-not-same.ensures.0 refl in
    let inside : number < length places =
    place_inside g.W.PairWork job piece.name number places (laws.named job) (sym c.in-Some.ensures)
    c.self.invariant in
    let read : slice_index_or places number None ≡ c.index.result.now =
    place_read places number c.index.result.now inside c.index.ensures in
    rw (← c.self.view_is) (
      shares,
      record { number = number; number_is = sym c.in-Some.ensures; full = rw read (sym c.if-is_some.ensures) },
    )

pub index_mut-requires : goal.index_mut-requires
index_mut-requires g c =
    let laws = g.met.W.PairWork g.world.𝓛 g.world.𝓜 g.world.𝓡 ((λ s x. x), (λ x. x), (λ x. x), λ x. x) in
    let job = c.self.inside.job.now in
    let places = c.self.inside.places.items in
    let inside : c.in-Some.number < length places =
    place_inside g.W.PairWork job c.args.piece.name c.in-Some.number places (laws.named job) (sym c.in-Some.ensures)
    c.self.invariant in
    omega (arith, inside)

pub invariant_of-self : goal.invariant_of-self
invariant_of-self g c =
    let laws = g.met.W.PairWork g.world.𝓛 g.world.𝓜 g.world.𝓡 ((λ s x. x), (λ x. x), (λ x. x), λ x. x) in
    let job = c.self.inside.job.now in
    let piece = c.args.piece in
    let shares : Shares g.W.PairWork job piece.job.now piece.name = c.if-not-same.ensures.0 refl in
    let value = piece.is_value in
    let gives = shared_value g.W.PairWork laws.value_prop piece.job.now job piece.name piece.out shares value in
    places-set g.W.PairWork job piece.name c.in-Some.number piece.out c.self.inside.places.items (laws.named job)
    (sym c.in-Some.ensures) gives c.self.invariant
