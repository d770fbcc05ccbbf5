-- The lowered code that drafts stand for, in the old names of values.
use Rattle.std.specs.Prelude.{ℤ, [], ◌∷◌, List, Some, map}
use Rattle.std.specs.Option.{option_copied}
use Rattle.sil_ast.specs.declared.inst.Inst.{Inst}
use Rattle.sil_ast.specs.declared.member.Member.{Member}
use Rattle.sil_ast.specs.declared.operands.Operand.{Operand}
use Rattle.sil_ast.specs.declared.place.ValueId.{ValueId}
use Rattle.instruction_table.specs.declared.op.Op.TheVariants as op
use Rattle.numbered_form.specs.Names.{Name}
use Rattle.ownership_lowering_model.specs.NewInsts.{load, struct_extract, typed_operand, with_operands}
use Rattle.ownership_lowering_functions.specs.declared.function_lowering.draft.Draft.{Draft}
use Rattle.ownership_lowering_functions.specs.declared.function_lowering.draft.Draft.TheVariants.{Kept, Counted, Loaded, Field, Element}

-- `#S.f`
abbrev pub member_with : Name → Name → Member
member_with owner name = record { owner = owner; name = name }

-- the element with a number
abbrev pub element : Operand → ℤ → ValueId → Inst
element whole number v = record (with_operands op.TupleExtract (v ∷ []) (whole ∷ [])) { number = Some number }

abbrev pub told : Draft → Inst
told (Kept i o word) = record i.now { op = o; qualifier = word }
told (Counted o v ty) = with_operands o [] (typed_operand (option_copied ty) v ∷ [])
told (Loaded place v) = load place.now v
told (Field whole owner name v) = struct_extract whole.now (member_with owner.now name.now) v
told (Element whole number v) = element whole.now number v

abbrev pub told_insts : List Draft → List Inst
told_insts drafts = map told drafts

-- the values that an instruction defines
abbrev pub results_told : Draft → List ValueId
results_told draft = (told draft).results
