-- The first fault of a module, place by place.
use Rattle.std.specs.Prelude.{ℕ, List, [], ◌∷◌, ◌++◌, Option, option_map}
use Rattle.std.specs.Option.{option_or}
use Rattle.sil_ast.specs.declared.function.Block.{Block}
use Rattle.sil_ast.specs.declared.function.Function.{Function}
use Rattle.sil_ast.specs.declared.inst.Inst.{Inst}
use Rattle.sil_ast.specs.declared.module.Module.{Module}
use Rattle.sil_ast.specs.declared.vtable.Vtable.{Vtable}
use Rattle.numbered_form.specs.Insts.{insts_of}
use Rattle.sil_rules.specs.declared.rule.Rule.{Rule}
use Rattle.sil_rules.specs.declared.rule.Rule.TheVariants as rule
use Rattle.sil_types.specs.sil_types_declarations.TypeDefinitions.Declarations.{declarations_of}
use Rattle.sil_types.specs.Typing.EdgeRules.{goes_to_entry, has_wrong_edge_arguments, lets_address_escape}
use Rattle.sil_types.specs.Typing.FormRules.{has_wrong_qualifier, is_of_other_form, mixes_forms}
use Rattle.sil_types.specs.Typing.OperandTypes.{has_wrong_operand_type}
use Rattle.sil_types.specs.Typing.ResultCounts.{has_wrong_result_count}
use Rattle.sil_types.specs.Typing.SignatureRules.{calls_no_function, differs_from_signature, has_wrong_deinitialiser, has_wrong_signature, is_no_output_call}
use Rattle.sil_types.specs.Typing.SwitchRules.{has_wrong_cases}
use Rattle.sil_types.specs.Typing.Typed.{at_function, at_point, at_vtable}
use Rattle.sil_types.specs.Typing.Values.{value_functions, value_types}
use Rattle.type_check.specs.inner.Firsts.{Judged, judged, first_broken, first_from}
use Rattle.type_check.specs.Refusals.{fault_at}
use Rattle.type_check.specs.declared.fault.TypingFault.{TypingFault}

-- the rules that a function itself can break, in order
abbrev pub judged_function : Module → Function → List Judged
judged_function m f =
    judged rule.External (is_no_output_call f)
    ∷ judged rule.Signature (has_wrong_signature (declarations_of m) f)
    ∷ judged rule.MixedForms (mixes_forms m f)
    ∷ judged rule.AddressEscapes (lets_address_escape f)
    ∷ []

-- the rules that an instruction can break by its types, its results and the arguments of its edges
abbrev pub judged_types : Module → Function → Inst → List Judged
judged_types m f i =
    judged rule.OperandType (has_wrong_operand_type (declarations_of m) (value_types (declarations_of m) f) i)
    ∷ judged rule.ResultCount (has_wrong_result_count (declarations_of m) i)
    ∷ judged rule.EdgeArguments (has_wrong_edge_arguments f i)
    ∷ []

-- and those that it can break by what it calls, where it stands and where it goes
abbrev pub judged_use : Module → Function → ℕ → ℕ → Inst → List Judged
judged_use m f block index i =
    judged rule.Callee (calls_no_function (value_functions f) i)
    ∷ judged rule.Signature (differs_from_signature m f (value_functions f) i)
    ∷ judged rule.MixedForms (is_of_other_form f block index i)
    ∷ judged rule.SwitchCases (has_wrong_cases (declarations_of m) f i)
    ∷ judged rule.EntryHasPredecessor (goes_to_entry i)
    ∷ judged rule.Qualifier (has_wrong_qualifier (declarations_of m) f i)
    ∷ []

-- the rules that an instruction can break, in order
abbrev pub judged_point : Module → Function → ℕ → ℕ → Inst → List Judged
judged_point m f block index i = judged_types m f i ++ judged_use m f block index i

abbrev pub judged_vtable : Module → Vtable → List Judged
judged_vtable m v = judged rule.DeinitSignature (has_wrong_deinitialiser m v) ∷ []

abbrev pub fault_of_inst : Module → ℕ → Function → ℕ → ℕ → Inst → Option TypingFault
fault_of_inst m n f block index i = option_map (fault_at (at_point n block index)) (first_broken (judged_point m f block index i))

abbrev pub fault_of_block : Module → ℕ → Function → ℕ → Block → Option TypingFault
fault_of_block m n f block b = first_from (fault_of_inst m n f block) 0 (insts_of b)

abbrev pub fault_of_body : Module → ℕ → Function → Option TypingFault
fault_of_body m n f = first_from (fault_of_block m n f) 0 f.blocks

abbrev pub fault_of_function : Module → ℕ → Function → Option TypingFault
fault_of_function m n f = option_or (option_map (fault_at (at_function n)) (first_broken (judged_function m f))) (fault_of_body m n f)

abbrev pub fault_of_vtable : Module → ℕ → Vtable → Option TypingFault
fault_of_vtable m n v = option_map (fault_at (at_vtable n)) (first_broken (judged_vtable m v))

-- the first fault of a module: of its functions, and then of its vtables
abbrev pub fault_of : Module → Option TypingFault
fault_of m = option_or (first_from (fault_of_function m) 0 m.functions) (first_from (fault_of_vtable m) 0 m.vtables)
