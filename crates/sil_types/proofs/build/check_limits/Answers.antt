use Rattle.std.proofs.Common.{sym, ap, ◌∙◌}
use Rattle.sil_types.specs.inner.Limits.{any_past}
use Rattle.sil_types.specs.declared.limits.Limit.TheVariants.{Either}
use Rattle.sil_types.proofs.PastLimits.{exceeds_either, within_limits}
use Rattle.sil_types.proofs.build.check_limits.Goals as goal

pub refused_limit-requires-clause-past : goal.refused_limit-requires-clause-past
refused_limit-requires-clause-past c =
    let m = c.args.m.now in
    sym (c.any_past.ensures ∙ ap (λ d. any_past Either d m) c.requires.table ∙ exceeds_either m) ∙ c.if-any_past.true

pub returns-clause-ok : goal.returns-clause-ok
returns-clause-ok c =
    let m = c.args.m.now in
    within_limits m (sym (c.any_past.ensures ∙ ap (λ d. any_past Either d m) c.requires.table) ∙ c.if-any_past.false)
