use Rattle.std.proofs.Common.{ap, sym, ◌∙◌}
use Rattle.std.specs.List.{list_any}
use Rattle.sil_types.specs.inner.Limits.{is_past}
use Rattle.sil_types.proofs.PastLimits.{no_name_past}
use Rattle.sil_types.proofs.limits.any_declared_past.Goals as goal

pub returns : goal.returns
returns c = λ none name.
    no_name_past c.args.what c.args.table.now name (sym (c.any_measure_past.ensures ∙ ap (list_any (is_past c.args.what)) c.declared_measures.ensures) ∙ none)
