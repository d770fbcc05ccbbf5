-- What loads, stores and destroys do where their place is as they ask: no fault, and the change that they leave.
use Rattle.std.proofs.Common.{◌≡◌, List, refl}
use Rattle.holder_model_laws.specs.holder_model.Effects.{Effect}
use Rattle.holder_model_laws.specs.holder_model.Faults.{HolderFault}
use Rattle.holder_model_laws.specs.holder_model.MemoryEffects.{asked_before}
use Rattle.holder_model_laws.specs.holder_model.MemoryEffects.{where_held}
use Rattle.holder_model_laws.specs.holder_model.ModuleShapes.{ModuleShapes}
use Rattle.holder_model_laws.specs.memory_rules_accesses.declared.access.Operation.{Operation}
use Rattle.holder_model_values.specs.RunValues.Memory.{Memory}
use Rattle.holder_model_values.specs.RunValues.Places.{Home, Inside, OnStack, Place, with_home_cells}
use Rattle.holder_model_values.specs.RunValues.Cells.{Cell}
use Rattle.holder_model_values.specs.RunValues.Shapes.{Shape}
use Rattle.sil_ast.specs.declared.inst.Inst.{Inst}
use Rattle.sil_types_declarations.specs.TypeDefinitions.Declarations.{Declarations}

module _ (d : Declarations) (shapes : ModuleShapes) (values : List Shape) (m : Memory) (x : Inst) where
  -- the place is as the operation asks
  abbrev pub IsMet : Place → Operation → Type 0
  IsMet p o = (e : Effect HolderFault) → where_held d shapes values m x p (asked_before p.is_part o) e ≡ e

-- what is done in an object leaves the stack
pub stack_stays : (m : Memory) (h : Home) (cells : List Cell) → (h ≡ OnStack → ⊥) → (with_home_cells m h cells).stack ≡ m.stack
stack_stays m OnStack cells other = absurd (other refl)
stack_stays m (Inside o) cells other = refl
