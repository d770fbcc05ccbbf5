-- Which imports are kept.
use Rattle.std.specs.Prelude.{ℕ, List, Bool, ◌||◌, codes, nat_eq}
use Rattle.std.specs.Cmp.Lexicographic.{pointwise}
use Rattle.sil_ast.specs.declared.module.Imports.{Imports}

-- of the imports these two are kept
abbrev pub is_text : List ℕ → List ℕ → Bool
is_text = pointwise nat_eq

abbrev pub with_import : List ℕ → Imports → Imports
with_import name imports = record {
  builtin = is_text name (codes "Builtin") || imports.builtin;
  swift = is_text name (codes "Swift") || imports.swift;
}
