use Rattle.std.proofs.Common.{◌≡◌, IfNone, IfSome, None, ap, ◌∙◌}
use Rattle.numbered_form.specs.PointChecks.inner.Faults.{least}
use Rattle.numbered_form.proofs.PointChecks.Least.{ok_along}
use Rattle.ownership_kinds.specs.inner.Ends.{IsFirstFault}
use Rattle.ownership_kinds.specs.inner.Faults.{faults_of}
use Rattle.ownership_kinds.specs.inner.Known.{kind_told}
use Rattle.ownership_kinds.specs.Statics.{HasKinds}
use Rattle.ownership_kinds.proofs.First.{first_none, first_some, known_faults}
use Rattle.ownership_kinds.proofs.check.first_broken.Goals as goal

pub returns-clause-some : goal.returns-clause-some
returns-clause-some c =
    let k = c.args.check.now in
    let d = k.types.now in
    let f = c.args.f.now in
    ok_along c.least_fault.result (λ r. r ≡ least None (faults_of (kind_told k.facts.now) k.ring k.borrows.now d f)) (λ r. IfSome r (IsFirstFault d f))
    (λ r e. first_some d f k.ring c.requires.counted c.requires.known.ring r (e ∙ ap (least None) (known_faults d f k c.requires.known))) c.least_fault.ensures

pub returns-clause-none : goal.returns-clause-none
returns-clause-none c =
    let k = c.args.check.now in
    let d = k.types.now in
    let f = c.args.f.now in
    ok_along c.least_fault.result (λ r. r ≡ least None (faults_of (kind_told k.facts.now) k.ring k.borrows.now d f)) (λ r. IfNone r (HasKinds d f))
    (λ r e. first_none d f k.ring c.requires.counted c.requires.known.ring r (e ∙ ap (least None) (known_faults d f k c.requires.known))) c.least_fault.ensures
