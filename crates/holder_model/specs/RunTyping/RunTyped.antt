-- Whatever a run relies on of the types of a module.
use Rattle.std.specs.Prelude.{◌≡◌, ℕ, [], true, Some, map, slice_get}
use Rattle.memory_rules_accesses.specs.sil_cfg_items.Parts.{inst_at, terminator_of}
use Rattle.memory_rules_accesses.specs.sil_cfg_items.Roles.{taken_by}
use Rattle.holder_model.specs.LoweredRun.LowStepParts.{taken_value, values_taken}
use Rattle.ownership_kinds_origins.specs.numbered_form.Lists.{Each}
use Rattle.holder_model_values.specs.RunValues.Leaves.{in_leaves}
use Rattle.holder_model_values.specs.RunValues.Shapes.{shape_of}
use Rattle.holder_model_values.specs.RunValues.inner.Laws.{has_no_address}
use Rattle.sil_ast.specs.declared.function.Function.{Function}
use Rattle.sil_ast.specs.declared.inst.Inst.{Inst}
use Rattle.sil_ast.specs.declared.module.Module.{Module}
use Rattle.sil_ast.specs.declared.place.PointId.{PointId}
use Rattle.sil_ast.specs.declared.type_name.TypeName.{TypeName}
use Rattle.memory_rules_accesses.specs.sil_cfg.declared.item.Item.{Item}
use Rattle.memory_rules_accesses.specs.sil_cfg.declared.item.Item.TheVariants as item
use Rattle.holder_model_values.specs.sil_types_declarations.TypeDefinitions.Declarations.{Declarations, declarations_of}
use Rattle.holder_model_values.specs.sil_types_declarations.TypeDefinitions.Measures.{leaves_of}
use Rattle.holder_model.specs.RunTyping.CallForms.{DeinitsAreTyped, ItemIsOf}
use Rattle.holder_model.specs.RunTyping.Classes.{ClassesAreSound}
use Rattle.holder_model.specs.RunTyping.FieldForms.{AreFieldsTyped}
use Rattle.holder_model.specs.RunTyping.EndForms.{EndForms, value_in}
use Rattle.holder_model.specs.RunTyping.Forms.{IsCarried, entry_forms, forms_of}
use Rattle.holder_model.specs.RunTyping.RowForms.{RowForms}
use Rattle.holder_model.specs.RunTyping.Runnable.{IsRunnable}

-- the instruction takes its operands, all of them and in their order, and they and its results are of the forms that its row has to do with
pub record InstIsTyped (m : Module) (f : Function) (p : PointId) (i : Inst) : Type 0 where
  pub takes : values_taken f (item.Inst p) ≡ map value_in i.operands
  pub row : RowForms m i (forms_of (declarations_of m) f (map value_in i.operands)) (forms_of (declarations_of m) f i.results)

pub record FunctionIsTyped (m : Module) (f : Function) : Type 0 where
  pub insts : (p : PointId) (i : Inst) → inst_at f p ≡ Some i → InstIsTyped m f p i
  pub ends : (b : ℕ) (i : Inst) → terminator_of f b ≡ Some i → EndForms (declarations_of m) f i
  -- so does a terminator
  pub ends_take : (b : ℕ) (i : Inst) → terminator_of f b ≡ Some i → map taken_value (taken_by i) ≡ map value_in i.operands
  pub items : (i : Item) → ItemIsOf f i
  -- the arguments of its first block are values and addresses
  pub entry : Each IsCarried (entry_forms (declarations_of m) f)

-- a type without an address has as many leaves as its shape
abbrev pub SizesAreMeasured : Declarations → Type 0
SizesAreMeasured d = (t : TypeName) → has_no_address t ≡ true → (in_leaves (shape_of d t)).size ≡ leaves_of d t

pub record RunTyped (m : Module) : Type 0 where
  pub functions : (n : ℕ) (f : Function) → slice_get m.functions n ≡ Some f → FunctionIsTyped m f
  pub deinits : DeinitsAreTyped m
  pub classes : ClassesAreSound m
  pub fields : AreFieldsTyped m
  pub sizes : SizesAreMeasured (declarations_of m)

-- a runnable module is typed in the words of a run
abbrev pub RunnableIsTyped : Type 0
RunnableIsTyped = (m : Module) → IsRunnable m → RunTyped m
