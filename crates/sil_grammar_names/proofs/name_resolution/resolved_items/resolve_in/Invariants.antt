use Rattle.sil_grammar_names.specs.NameResolution.inner.Tables.{scope_in}
use Rattle.sil_grammar_names.proofs.name_resolution.resolved_items.resolve_in.Given as goal

abbrev pub ghost-resolve_blocks : goal.ghost-resolve_blocks
ghost-resolve_blocks g a = scope_in g.names a.blocks
