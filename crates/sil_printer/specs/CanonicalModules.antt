-- The canonical text of a module. Every line ends with a line feed, and an empty line stands before each part.
use Rattle.std.specs.Prelude.{ℕ, List, [], ◌++◌, Option, Some, None, Bool, false, codes}
use Rattle.sil_ast.specs.declared.function.Function.{Function}
use Rattle.sil_ast.specs.declared.module.Imports.{Imports}
use Rattle.sil_ast.specs.declared.module.Module.{Module}
use Rattle.sil_ast.specs.declared.module.Stage.{Stage}
use Rattle.sil_ast.specs.declared.module.Stage.TheVariants.{Raw, Canonical}
use Rattle.sil_ast.specs.declared.vtable.DeinitEntry.{DeinitEntry}
use Rattle.sil_ast.specs.declared.vtable.Vtable.{Vtable}
use Rattle.sil_printer.specs.Words.{line_feed, line, opening, each_behind, if_set}
use Rattle.sil_printer.specs.CanonicalDecls.{decl_text}
use Rattle.sil_printer.specs.CanonicalInsts.{function_name}
use Rattle.sil_printer.specs.CanonicalFunctions.{function_text}

abbrev pub stage_text : Stage → List ℕ
stage_text Raw = line (codes "sil_stage raw")
stage_text Canonical = line (codes "sil_stage canonical")

-- an empty line and the imports that are set, and nothing where there are none
abbrev pub imports_by : Bool → Bool → List ℕ
imports_by false false = []
imports_by builtin swift =
    line_feed ++ if_set (line (codes "import Builtin")) builtin ++ if_set (line (codes "import Swift")) swift

abbrev pub imports_text : Imports → List ℕ
imports_text imports = imports_by imports.builtin imports.swift

-- `#T.deinit!destroyer: @f`
abbrev pub entry_text : List Function → DeinitEntry → List ℕ
entry_text functions e = codes "#" ++ e.owner ++ codes ".deinit!destroyer: " ++ function_name functions e.function

abbrev pub entry_line : List Function → Option DeinitEntry → List ℕ
entry_line functions None = []
entry_line functions (Some e) = codes "  " ++ line (entry_text functions e)

-- `sil_vtable T {`, the line of its entry, and `}`
abbrev pub vtable_text : List Function → Vtable → List ℕ
vtable_text functions v =
    opening (codes "sil_vtable ") v.class_name ++ entry_line functions v.entry ++ line (codes "}")

abbrev pub canonical_text : Module → List ℕ
canonical_text m =
    stage_text m.stage
    ++ imports_text m.imports
    ++ each_behind line_feed decl_text m.decls
    ++ each_behind line_feed (function_text m.functions) m.functions
    ++ each_behind line_feed (vtable_text m.functions) m.vtables
