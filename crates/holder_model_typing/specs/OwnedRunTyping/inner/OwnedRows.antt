-- What typing says of an instruction in ownership form, by what its row does in a run: the forms of its operands and of its results.
use Rattle.std.specs.Prelude.{◌≡◌, List, [], ◌∷◌, true, Some, map}
use Rattle.holder_model.specs.declared.row_effect.RowEffect.TheVariants as row
use Rattle.holder_model.specs.Effects.{effect_of}
use Rattle.holder_model.specs.memory_rules_accesses.declared.access.Operation.{Operation}
use Rattle.holder_model.specs.memory_rules_accesses.declared.access.Operation.TheVariants as operation
use Rattle.holder_model.specs.RunTyping.Forms.{Form, OfPlace, OfValue, has_no_storage}
use Rattle.holder_model.specs.RunTyping.RowForms.{IsGroup, RowForms, operation_done}
use Rattle.holder_model.specs.holder_model_values.RunValues.Shapes.{Shape}
use Rattle.sil_ast.specs.declared.inst.Inst.{Inst}
use Rattle.sil_ast.specs.declared.module.Module.{Module}

-- what is done where a value is read, and where one is written
pub data IsReadOf : Operation → Type 0 where
  reads : IsReadOf operation.Read
  lends : IsReadOf operation.Lend
  takes : IsReadOf operation.Take

pub data IsWriteOf : Operation → Type 0 where
  first : IsWriteOf operation.FirstWrite
  again : IsWriteOf operation.Write
  trivial : IsWriteOf operation.TrivialStore

-- a row that stands in lowered form too, or one that stands in ownership form alone
pub data OwnedRowForms (m : Module) (i : Inst) : List Form → List Form → Type 0 where
  also_lowered : (xs ys : List Form) → RowForms m i xs ys → OwnedRowForms m i xs ys
  gives : (s : Shape) → effect_of i.op ≡ row.GivesOperand → has_no_storage s ≡ true → OwnedRowForms m i (OfValue s ∷ []) (OfValue s ∷ [])
  copies : (s : Shape) → effect_of i.op ≡ row.CopiesOperand → has_no_storage s ≡ true → OwnedRowForms m i (OfValue s ∷ []) (OfValue s ∷ [])
  loads : (s : Shape) (o : Operation) → effect_of i.op ≡ row.LoadsValue → operation_done i ≡ Some o → IsReadOf o → has_no_storage s ≡ true
      → OwnedRowForms m i (OfPlace s ∷ []) (OfValue s ∷ [])
  stores : (s : Shape) (o : Operation) → effect_of i.op ≡ row.StoresValue → operation_done i ≡ Some o → IsWriteOf o → has_no_storage s ≡ true
      → OwnedRowForms m i (OfValue s ∷ OfPlace s ∷ []) []
  destroys : (s : Shape) → effect_of i.op ≡ row.DestroysPlace → operation_done i ≡ Some operation.Take → has_no_storage s ≡ true
      → OwnedRowForms m i (OfPlace s ∷ []) []
  members : (s : Shape) (ss : List Shape) → effect_of i.op ≡ row.GivesMembers → IsGroup s ss → OwnedRowForms m i (OfValue s ∷ []) (map OfValue ss)
