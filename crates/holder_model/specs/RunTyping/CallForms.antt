-- What typing says of functions that a run enters, and of the values that their items take and define.
use Rattle.std.specs.Prelude.{◌≡◌, ◌<◌, [], ◌∷◌, true, Some, slice_get}
use Rattle.holder_model.specs.Calling.{value_count}
use Rattle.holder_model.specs.Frames.{has_any}
use Rattle.memory_rules_accesses.specs.sil_cfg_items.Items.{item_defined}
use Rattle.holder_model.specs.LoweredRun.LowStepParts.{values_taken}
use Rattle.ownership_kinds_origins.specs.numbered_form.Lists.{Each}
use Rattle.ownership_kinds_origins.specs.numbered_form.Names.{Name}
use Rattle.holder_model_values.specs.RunValues.Shapes.{Reference}
use Rattle.sil_ast.specs.declared.function.Function.{Function}
use Rattle.sil_ast.specs.declared.module.Module.{Module}
use Rattle.sil_ast.specs.declared.place.FuncId.{FuncId}
use Rattle.sil_ast.specs.declared.place.ValueId.{ValueId}
use Rattle.memory_rules_accesses.specs.sil_cfg.declared.item.Item.{Item}
use Rattle.holder_model_values.specs.sil_types_declarations.TypeDefinitions.Declarations.{declarations_of}
use Rattle.holder_model_values.specs.sil_types_declarations.TypeDefinitions.Lookups.{deinit_of}
use Rattle.holder_model.specs.RunTyping.Forms.{OfValue, entry_forms}

-- the value is one of the function's
abbrev pub IsOf : Function → ValueId → Type 0
IsOf f v = v.0 < value_count f

-- an item takes and defines values of its function
pub record ItemIsOf (f : Function) (i : Item) : Type 0 where
  pub taken : Each (IsOf f) (values_taken f i)
  pub defined : Each (IsOf f) (item_defined f i)

-- the deinitialiser of a class has a body, and takes an object of the class
pub record IsDeinitOf (m : Module) (class : Name) (g : FuncId) : Type 0 where
  pub body : Function
  pub there : slice_get m.functions g.0 ≡ Some body
  pub bodied : has_any body.blocks ≡ true
  pub takes : entry_forms (declarations_of m) body ≡ OfValue (Reference class) ∷ []

abbrev pub DeinitsAreTyped : Module → Type 0
DeinitsAreTyped m = (class : Name) (g : FuncId) → deinit_of (declarations_of m) class ≡ Some g → IsDeinitOf m class g
