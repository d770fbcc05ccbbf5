-- How many results the row of an instruction gives.
use Rattle.std.specs.Prelude.{ℕ, List, [], ◌∷◌, Option, length, option_map}
use Rattle.sil_ast.specs.declared.function.BlockArg.{BlockArg}
use Rattle.sil_ast.specs.declared.inst.Inst.{Inst}
use Rattle.sil_types.specs.sil_types_declarations.TypeDefinitions.Declarations.{Declarations}
use Rattle.sil_types.specs.Typing.RowTypes.{row_types}

-- none where what it asks of the types that are written isn't kept
abbrev pub given_count : Declarations → Inst → Option ℕ
given_count d i = option_map length (row_types d i)

-- in a table of these numbers an instruction has one, and arguments have none
abbrev pub given_counts : Declarations → Inst → List (Option ℕ)
given_counts d i = given_count d i ∷ []

abbrev pub no_counts : ℕ → List BlockArg → List (Option ℕ)
no_counts n args = []
