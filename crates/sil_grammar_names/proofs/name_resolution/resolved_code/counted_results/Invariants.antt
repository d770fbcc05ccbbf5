use Rattle.std.proofs.Common.{◌≡◌, take}
use Rattle.sil_grammar_names.specs.NameResolution.Resolved.{counted, defined_by_inst}
use Rattle.sil_grammar_names.proofs.name_resolution.resolved_code.counted_results.Given as goal

abbrev pub invariant-loop-i : goal.invariant-loop-i
invariant-loop-i l = l.results ≡ counted l.first (take l.i (defined_by_inst l.inst))
