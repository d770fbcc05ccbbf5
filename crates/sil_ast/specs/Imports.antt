-- The names that a module's imports declare.
use Rattle.std.specs.Prelude.{ℕ, List, [], ◌∷◌, Bool, true, false, codes}
use Rattle.sil_ast.specs.declared.module.Imports.{Imports}

-- what `import Swift` declares
abbrev pub swift_names : Bool → List (List ℕ)
swift_names true = codes "Int" ∷ codes "Bool" ∷ codes "Optional" ∷ []
swift_names false = []

-- the names that no declaration may have: `Builtin`, and what the imports declare
abbrev pub reserved : Imports → List (List ℕ)
reserved imports = codes "Builtin" ∷ swift_names imports.swift
