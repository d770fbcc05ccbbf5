use Rattle.sil_grammar_names.specs.NameResolution.inner.Tables.{names_of_functions}
use Rattle.sil_grammar_names.proofs.name_resolution.resolving.resolve_module.Given as goal

abbrev pub ghost-resolve_items : goal.ghost-resolve_items
ghost-resolve_items a = names_of_functions a.items
