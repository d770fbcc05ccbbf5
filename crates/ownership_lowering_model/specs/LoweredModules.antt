-- The lowered module.
use Rattle.std.specs.Prelude.{map}
use Rattle.sil_ast.specs.declared.function.Form.{Form}
use Rattle.sil_ast.specs.declared.function.Form.TheVariants.{Ossa, Lowered, External}
use Rattle.sil_ast.specs.declared.function.Function.{Function}
use Rattle.sil_ast.specs.declared.module.Module.{Module}
use Rattle.sil_types_declarations.specs.TypeDefinitions.Declarations.{Declarations, declarations_of}
use Rattle.ownership_lowering_model.specs.LoweredBlocks.{lowered_blocks}
use Rattle.ownership_lowering_model.specs.Numbers.{new_number, numbering_of, renumbered}

-- a function in ownership form. Its signature keeps its conventions
abbrev pub lowered_body : Declarations → Function → Function
lowered_body d f = record f { form = Lowered; blocks = renumbered (new_number (numbering_of d f)) (lowered_blocks d f) }

-- functions of other forms stay
abbrev pub lowered_by : Form → Declarations → Function → Function
lowered_by Ossa d f = lowered_body d f
lowered_by Lowered d f = f
lowered_by External d f = f

abbrev pub lowered_function : Declarations → Function → Function
lowered_function d f = lowered_by f.form d f

-- the module with its functions lowered. All its other parts stay
abbrev pub lowered : Module → Module
lowered m = record m { functions = map (lowered_function (declarations_of m)) m.functions }
