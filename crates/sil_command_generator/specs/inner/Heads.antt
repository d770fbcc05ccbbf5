-- What stands before the functions.
use Rattle.std.specs.Prelude.{ℕ, List, [], ◌∷◌, ◌++◌}
use Rattle.sil_ast.specs.declared.module.Stage.TheVariants.{Canonical}
use Rattle.sil_printer.specs.CanonicalDecls.{decl_text}
use Rattle.sil_printer.specs.CanonicalModules.{imports_text, stage_text}
use Rattle.sil_printer.specs.Words.{each_behind, line_feed}
use Rattle.sil_command_generator.specs.GeneratedModules.{both_imports, node_class}

abbrev pub head_text : List ℕ
head_text = stage_text Canonical ++ imports_text both_imports ++ each_behind line_feed decl_text (node_class ∷ [])
