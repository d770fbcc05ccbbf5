-- Whatever a run by holders relies on of the types of a module in ownership form.
use Rattle.std.specs.Prelude.{◌≡◌, ℕ, Some, map, slice_get}
use Rattle.holder_model.specs.sil_cfg_items.Parts.{inst_at, terminator_of}
use Rattle.holder_model.specs.sil_cfg_items.Roles.{taken_by}
use Rattle.holder_model.specs.LoweredRun.LowStepParts.{taken_value, values_taken}
use Rattle.numbered_form.specs.Lists.{Each}
use Rattle.holder_model.specs.RunTyping.CallForms.{DeinitsAreTyped, ItemIsOf}
use Rattle.holder_model.specs.RunTyping.Classes.{ClassesAreSound}
use Rattle.holder_model.specs.RunTyping.EndForms.{value_in}
use Rattle.holder_model.specs.RunTyping.FieldForms.{AreFieldsTyped}
use Rattle.holder_model.specs.RunTyping.Forms.{IsCarried, entry_forms, forms_of}
use Rattle.holder_model.specs.RunTyping.RunTyped.{SizesAreMeasured}
use Rattle.holder_model_typing.specs.RunTypingLaws.inner.WellTyped.{IsWellTyped}
use Rattle.sil_ast.specs.declared.function.Form.TheVariants.{Lowered}
use Rattle.sil_ast.specs.declared.function.Function.{Function}
use Rattle.sil_ast.specs.declared.inst.Inst.{Inst}
use Rattle.sil_ast.specs.declared.module.Module.{Module}
use Rattle.sil_ast.specs.declared.place.PointId.{PointId}
use Rattle.sil_cfg.specs.declared.item.Item.{Item}
use Rattle.sil_cfg.specs.declared.item.Item.TheVariants as item
use Rattle.holder_model.specs.sil_types_declarations.TypeDefinitions.Declarations.{declarations_of}
use Rattle.holder_model_typing.specs.OwnedRunTyping.inner.OwnedEnds.{OwnedEndForms}
use Rattle.holder_model_typing.specs.OwnedRunTyping.inner.OwnedRows.{OwnedRowForms}

-- the instruction takes its operands, all of them and in their order, and they and its results are of the forms that its row has to do with
pub record OwnedInst (m : Module) (f : Function) (p : PointId) (i : Inst) : Type 0 where
  pub takes : values_taken f (item.Inst p) ≡ map value_in i.operands
  pub row : OwnedRowForms m i (forms_of (declarations_of m) f (map value_in i.operands)) (forms_of (declarations_of m) f i.results)

pub record OwnedFunction (m : Module) (f : Function) : Type 0 where
  pub insts : (p : PointId) (i : Inst) → inst_at f p ≡ Some i → OwnedInst m f p i
  pub ends : (b : ℕ) (i : Inst) → terminator_of f b ≡ Some i → OwnedEndForms (declarations_of m) f i
  -- so does a terminator
  pub ends_take : (b : ℕ) (i : Inst) → terminator_of f b ≡ Some i → map taken_value (taken_by i) ≡ map value_in i.operands
  pub items : (i : Item) → ItemIsOf f i
  -- the arguments of its first block are values and addresses
  pub entry : Each IsCarried (entry_forms (declarations_of m) f)

pub record OwnedTyped (m : Module) : Type 0 where
  pub functions : (n : ℕ) (f : Function) → slice_get m.functions n ≡ Some f → OwnedFunction m f
  pub deinits : DeinitsAreTyped m
  pub classes : ClassesAreSound m
  pub fields : AreFieldsTyped m
  pub sizes : SizesAreMeasured (declarations_of m)

-- no function is in lowered form
abbrev pub HasNoLowered : Module → Type 0
HasNoLowered m = (n : ℕ) (f : Function) → slice_get m.functions n ≡ Some f → f.form ≡ Lowered → ⊥

-- a typed module in ownership form is typed in the words of a run
abbrev pub OwnedIsTyped : Type 0
OwnedIsTyped = (m : Module) → IsWellTyped m → HasNoLowered m → OwnedTyped m
