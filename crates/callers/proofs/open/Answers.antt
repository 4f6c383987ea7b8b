use Rattle.std.proofs.Common.{◌≡◌, [], ◌∷◌, slice_get, ap}
use Rattle.callers.proofs.Two.{two-of}
use Rattle.callers.proofs.open.Goals as goal

pub returns-clause-loader : goal.returns-clause-loader
returns-clause-loader c =
    let got = c.in-Some-Some in
    let new = c.in_ok-store.ensures.1 in
    let both : c.in_ok-store.passes.items ≡ got.loader ∷ got.auditor ∷ [] =
    two-of c.in_ok-store.passes.items c.pop.new.self.items c.pop-2.new.self.items got.loader got.auditor new.count
    got.ensures.items got.ensures'.items in
    new.each 0 got.loader (ap (λ l. slice_get l 0) both)

pub returns-clause-auditor : goal.returns-clause-auditor
returns-clause-auditor c =
    let got = c.in-Some-Some in
    let new = c.in_ok-store.ensures.1 in
    let both : c.in_ok-store.passes.items ≡ got.loader ∷ got.auditor ∷ [] =
    two-of c.in_ok-store.passes.items c.pop.new.self.items c.pop-2.new.self.items got.loader got.auditor new.count
    got.ensures.items got.ensures'.items in
    new.each 1 got.auditor (ap (λ l. slice_get l 1) both)
