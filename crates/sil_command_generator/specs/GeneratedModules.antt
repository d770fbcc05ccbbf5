-- The module of each size that the program can make by itself, and its text.
use Rattle.std.specs.Prelude.{ℕ, ◌+◌, ◌*◌, List, [], ◌∷◌, ◌++◌, None, Some, true, map, codes}
use Rattle.std.specs.List.{flat_map, range_with_len}
use Rattle.instruction_table.specs.declared.op.Op.TheVariants as op
use Rattle.sil_ast.specs.declared.decl.Decl.TheVariants.{Class}
use Rattle.sil_ast.specs.declared.decl.Decl.{Decl}
use Rattle.sil_ast.specs.declared.decl.Storage.TheVariants.{Strong}
use Rattle.sil_ast.specs.declared.function.Function.{Function}
use Rattle.sil_ast.specs.declared.inst.Inst.{Inst}
use Rattle.sil_ast.specs.declared.module.Imports.{Imports}
use Rattle.sil_ast.specs.declared.module.Module.{Module}
use Rattle.sil_ast.specs.declared.module.Stage.TheVariants.{Canonical}
use Rattle.sil_printer.specs.CanonicalModules.{canonical_text}
use Rattle.sil_command_generator.specs.Parts.{v, fn, bare, inst, block, of_nothing, function}
use Rattle.sil_command_generator.specs.WorkFunctions.{empty_tuple, int, list, return_of, work}

-- `class Node { var value: Builtin.Int64 .. var next: Optional<Node> }`
abbrev pub node_class : Decl
node_class = Class (codes "Node") None (
    record { name = codes "value"; storage = Strong; ty = int }
    ∷ record { name = codes "next"; storage = Strong; ty = list }
    ∷ []
    )

-- `%2k = function_ref @workk`, and `%2k+1 = apply %2k()`
abbrev pub call_of : ℕ → List Inst
call_of k =
    record (inst op.FunctionRef (v (2 * k) ∷ []) []) { function = Some (fn k); signature = Some of_nothing }
    ∷ record (inst op.Apply (v (2 * k + 1) ∷ []) (bare (2 * k) ∷ [])) { signature = Some of_nothing }
    ∷ []

-- `@main` calls each of the first n functions once, in their order
abbrev pub main : ℕ → Function
main n = function (codes "main") (block [] (flat_map call_of (range_with_len 0 n) ++ empty_tuple (2 * n) ∷ []) (return_of (2 * n)) ∷ [])

abbrev pub functions_of : ℕ → List Function
functions_of n = map work (range_with_len 0 n) ++ main n ∷ []

abbrev pub both_imports : Imports
both_imports = record { builtin = true; swift = true }

-- `@work0` to `@work` followed by n - 1, and behind them `@main`
abbrev pub generated_module : ℕ → Module
generated_module n = record {
  stage = Canonical;
  imports = both_imports;
  decls = node_class ∷ [];
  functions = functions_of n;
  vtables = [];
}

-- the text that the mode `generate` takes in place of a source's
abbrev pub generated : ℕ → List ℕ
generated n = canonical_text (generated_module n)
