-- Where each of 201 to 212 is broken, and the modules that break none.
use Rattle.std.specs.Prelude.{◌≡◌, ℕ, true, Some, slice_get}
use Rattle.sil_ast.specs.declared.function.Function.{Function}
use Rattle.sil_ast.specs.declared.inst.Inst.{Inst}
use Rattle.sil_ast.specs.declared.module.Module.{Module}
use Rattle.sil_ast.specs.declared.vtable.Vtable.{Vtable}
use Rattle.sil_types_declarations.specs.numbered_form.PointChecks.Points.{IsAt}
use Rattle.sil_rules.specs.declared.rule.Rule.{Rule}
use Rattle.sil_rules.specs.declared.rule.Rule.TheVariants as rule
use Rattle.sil_types_declarations.specs.TypeDefinitions.Declarations.{declarations_of}
use Rattle.sil_types.specs.Typing.EdgeRules.{goes_to_entry, has_wrong_edge_arguments, lets_address_escape}
use Rattle.sil_types.specs.Typing.FormRules.{has_wrong_qualifier, is_of_other_form, mixes_forms}
use Rattle.sil_types.specs.Typing.OperandTypes.{has_wrong_operand_type}
use Rattle.sil_types.specs.Typing.ResultCounts.{has_wrong_result_count}
use Rattle.sil_types.specs.Typing.SignatureRules.{calls_no_function, differs_from_signature, has_wrong_deinitialiser, has_wrong_signature, is_no_output_call}
use Rattle.sil_types.specs.Typing.SwitchRules.{has_wrong_cases}
use Rattle.sil_types.specs.Typing.Values.{value_functions, value_types}

-- the function itself breaks the rule
pub data BreaksAtFunction (m : Module) (f : Function) : Rule → Type 0 where
  external : is_no_output_call f ≡ true → BreaksAtFunction m f rule.External
  signature : has_wrong_signature (declarations_of m) f ≡ true → BreaksAtFunction m f rule.Signature
  mixed_forms : mixes_forms m f ≡ true → BreaksAtFunction m f rule.MixedForms
  address_escapes : lets_address_escape f ≡ true → BreaksAtFunction m f rule.AddressEscapes

-- the instruction with this index in this block breaks the rule
pub data BreaksAtPoint (m : Module) (f : Function) (block index : ℕ) (i : Inst) : Rule → Type 0 where
  operand_type : has_wrong_operand_type (declarations_of m) (value_types (declarations_of m) f) i ≡ true → BreaksAtPoint m f block index i rule.OperandType
  result_count : has_wrong_result_count (declarations_of m) i ≡ true → BreaksAtPoint m f block index i rule.ResultCount
  edge_arguments : has_wrong_edge_arguments f i ≡ true → BreaksAtPoint m f block index i rule.EdgeArguments
  callee : calls_no_function (value_functions f) i ≡ true → BreaksAtPoint m f block index i rule.Callee
  signature : differs_from_signature m f (value_functions f) i ≡ true → BreaksAtPoint m f block index i rule.Signature
  mixed_forms : is_of_other_form f block index i ≡ true → BreaksAtPoint m f block index i rule.MixedForms
  switch_cases : has_wrong_cases (declarations_of m) f i ≡ true → BreaksAtPoint m f block index i rule.SwitchCases
  entry_has_predecessor : goes_to_entry i ≡ true → BreaksAtPoint m f block index i rule.EntryHasPredecessor
  qualifier : has_wrong_qualifier (declarations_of m) f i ≡ true → BreaksAtPoint m f block index i rule.Qualifier

-- the vtable's deinitialiser breaks the rule
pub data BreaksAtVtable (m : Module) (v : Vtable) : Rule → Type 0 where
  deinit_signature : has_wrong_deinitialiser m v ≡ true → BreaksAtVtable m v rule.DeinitSignature

-- where a rule of typing is broken
pub data Site : Type 0 where
  at_function : (function : ℕ) → Site
  at_point : (function block index : ℕ) → Site
  at_vtable : (vtable : ℕ) → Site

-- the rule is broken at the place
pub data BreaksAt (m : Module) : Site → Rule → Type 0 where
  function : (n : ℕ) (f : Function) (r : Rule) → slice_get m.functions n ≡ Some f → BreaksAtFunction m f r → BreaksAt m (at_function n) r
  point : (n : ℕ) (f : Function) (block index : ℕ) (i : Inst) (r : Rule) → slice_get m.functions n ≡ Some f → IsAt f block index i →
      BreaksAtPoint m f block index i r → BreaksAt m (at_point n block index) r
  vtable : (n : ℕ) (v : Vtable) (r : Rule) → slice_get m.vtables n ≡ Some v → BreaksAtVtable m v r → BreaksAt m (at_vtable n) r

-- none of 201 to 212 is broken anywhere
abbrev pub Typed : Module → Type 0
Typed m = (where_it_is : Site) (r : Rule) → BreaksAt m where_it_is r → ⊥
