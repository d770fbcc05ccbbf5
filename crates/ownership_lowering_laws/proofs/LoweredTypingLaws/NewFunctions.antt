-- The functions that the values stand for that are defined in the place of an instruction: those of its own results, and none else.
use Rattle.std.proofs.Common.{◌≡◌, ℕ, ◌+◌, List, [], ◌∷◌, ◌++◌, length, map, replicate, refl, sym, ap, ap₂, ◌∙◌, append-nil, false, Option, None}
use Rattle.std.specs.List.{flat_map}
use Rattle.instruction_table.specs.declared.op.Op.{Op}
use Rattle.instruction_table.specs.declared.op.Op.TheVariants as op
use Rattle.numbered_form.specs.Numbering.{results_of}
use Rattle.numbered_form.specs.inner.Parts.{is_callee, row_has}
use Rattle.sil_ast.specs.declared.function.BlockArg.{BlockArg}
use Rattle.sil_ast.specs.declared.function.Function.{Function}
use Rattle.sil_ast.specs.declared.inst.Inst.{Inst}
use Rattle.sil_ast.specs.declared.member.Member.{Member}
use Rattle.sil_ast.specs.declared.module.Module.{Module}
use Rattle.sil_ast.specs.declared.operands.Operand.{Operand}
use Rattle.sil_ast.specs.declared.place.FuncId.{FuncId}
use Rattle.sil_ast.specs.declared.place.ValueId.{ValueId}
use Rattle.sil_types_declarations.specs.TypeDefinitions.Declarations.{Declarations, declarations_of}
use Rattle.holder_model_typing.specs.sil_types.Typing.Values.{functions_by, result_functions}
use Rattle.ownership_lowering_model.specs.Extracts.{element_extracts, field_extracts, member_of}
use Rattle.ownership_lowering_model.specs.LoweredBlocks.{value_with}
use Rattle.ownership_lowering_model.specs.LoweredInsts.{becomes}
use Rattle.holder_model_typing.proofs.RunTypingLaws.Rows.Finding.{none_of}
use Rattle.ownership_lowering_laws.proofs.LoweredTypingLaws.Becomes.{Becomes, at_storage, assigns, becomes_so, by_elements, by_fields, copies, destroys, loads, releases, retains}
use Rattle.ownership_lowering_laws.proofs.LoweredTypingLaws.Becomes.{stays, stores, vanishes}
use Rattle.ownership_lowering_laws.proofs.LoweredTypingLaws.Sound.{Sound, Source}
use Rattle.ownership_lowering_laws.proofs.LoweredTypingLaws.Told.{InstTold}

-- no argument stands for a function, and no spare value does
abbrev pub no_function : BlockArg → Option FuncId
no_function a = None

abbrev pub no_spare : Inst → Option FuncId
no_spare i = None

module _ (m : Module) (f : Function) (source : Source m f) (i : Inst) (sound : Sound m f i) (h : ValueId → Option FuncId) (s : ℕ)
    (told : InstTold no_function result_functions no_spare h s i) where
  abbrev d : Declarations
  d = declarations_of m

  named_none : (o : Op) → i.op ≡ o → row_has is_callee o ≡ false → i.function ≡ None
  named_none o is none = none_of i.function (sound.parts.function ∙ ap (row_has is_callee) is ∙ none)

  none_by : (vs : List ValueId) → functions_by None vs ≡ replicate (length vs) None
  none_by [] = refl
  none_by (v ∷ vs) = refl

  field_functions : (o : Operand) (ms : List Member) (vs : List ValueId) → map h vs ≡ replicate (length vs) None
      → map h (flat_map results_of (field_extracts o ms vs)) ≡ flat_map result_functions (field_extracts o ms vs)
  field_functions o [] vs e = refl
  field_functions o (x ∷ ms) [] e = refl
  field_functions o (x ∷ ms) (v ∷ vs) e = let first : h v ≡ None = cc in ap₂ (λ y ys. y ∷ ys) first (field_functions o ms vs (cc))

  part_functions : (o : Operand) (n : ℕ) (vs : List ValueId) → map h vs ≡ replicate (length vs) None
      → map h (flat_map results_of (element_extracts o n vs)) ≡ flat_map result_functions (element_extracts o n vs)
  part_functions o n [] e = refl
  part_functions o n (v ∷ vs) e = let first : h v ≡ None = cc in ap₂ (λ y ys. y ∷ ys) first (part_functions o (n + 1) vs (cc))

  own : map h (i.results ++ []) ≡ result_functions i ++ []
  own = ap (map h) (append-nil i.results) ∙ told.own ∙ sym (append-nil (result_functions i))

  no_one : (o : Op) → i.op ≡ o → row_has is_callee o ≡ false → map h i.results ≡ replicate (length i.results) None
  no_one o is none = told.own ∙ ap (λ g. functions_by g i.results) (named_none o is none) ∙ none_by i.results

  functions_so : (js : List Inst) → Becomes d i (value_with s) js → map h (flat_map results_of js) ≡ flat_map result_functions js
  functions_so _ (stays e) = own
  functions_so _ (at_storage is e) = own
  functions_so _ vanishes = refl
  functions_so _ (retains o t one nontrivial) = refl
  functions_so _ (releases o t one nontrivial) = refl
  functions_so _ (loads place p t v load) = own
  functions_so _ (copies place p t v load counted) = own
  functions_so _ (stores is) = own
  functions_so _ (assigns x place p t is both counted) = ap₂ (λ y ys. y ∷ ys) told.new own
  functions_so _ (destroys place p t is one counted) = ap (λ y. y ∷ []) told.new
  functions_so _ (by_fields o t fs struct is one size) = field_functions o (map (member_of struct.name) fs) i.results (no_one op.DestructureStruct is refl)
  functions_so _ (by_elements o t ts is one are size) = part_functions o 0 i.results (no_one op.DestructureTuple is refl)

  pub new_functions : map h (flat_map results_of (becomes d (value_with s) i)) ≡ flat_map result_functions (becomes d (value_with s) i)
  new_functions = functions_so (becomes d (value_with s) i) (becomes_so m f source i sound (value_with s))
