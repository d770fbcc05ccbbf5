-- None values: without an owner, though values of their types may have references. They are made of values without owners alone, and their entries hold none.
use Rattle.std.specs.Prelude.{◌≡◌, ℕ, [], Ok, Some, map, slice_get, true}
use Rattle.numbered_form.specs.Lists.{Each}
use Rattle.numbered_form.specs.PointChecks.Points.{IsAt}
use Rattle.sil_verifier_values.specs.holder_model_values.RunValues.Values.{Value, references_of}
use Rattle.sil_ast.specs.declared.function.Function.{Function}
use Rattle.sil_ast.specs.declared.inst.Inst.{Inst}
use Rattle.sil_ast.specs.declared.place.ValueId.{ValueId}
use Rattle.sil_ast.specs.declared.type_name.TypeName.{TypeName}
use Rattle.sil_verifier_values.specs.sil_types_declarations.TypeDefinitions.Declarations.{Declarations}
use Rattle.numbered_form.specs.ValueTables.FirstValue.{value_of}
use Rattle.sil_verifier_values.specs.sil_types.Typing.Shapes.{is_nontrivial}
use Rattle.sil_verifier_values.specs.inner.Known.{InAccepted, IsValue, kind_at, type_in}
use Rattle.sil_verifier_values.specs.inner.Operands.{HasNoOwner}
use Rattle.sil_verifier_values.specs.holder_model.Data.{ValueOf}
use Rattle.sil_verifier_values.specs.holder_model.Frames.{Entry, made_entry}

-- it has no owner, and its type is an object's that isn't trivial
pub record IsNone (d : Declarations) (f : Function) (v : ValueId) : Type 0 where
  pub is_value : IsValue f v
  pub no_owner : HasNoOwner d f v
  pub ty : TypeName
  pub typed : type_in d f v ≡ Some ty
  pub holds : is_nontrivial d ty ≡ true

-- an instruction makes it, whose operands have no owners either
pub record IsMadeWithoutOwners (d : Declarations) (f : Function) (v : ValueId) : Type 0 where
  pub block : ℕ
  pub index : ℕ
  pub number : ℕ
  pub inst : Inst
  pub here : IsAt f block index inst
  pub gives : slice_get inst.results number ≡ Some v
  pub operands : Each (HasNoOwner d f) (map value_of inst.operands)

abbrev pub AreNonesMadeWithoutOwners : Type 0
AreNonesMadeWithoutOwners = InAccepted (λ d f. (v : ValueId) → IsNone d f v → IsMadeWithoutOwners d f v)

-- what a run keeps of a value without an owner has no references: of a value that has some it makes no entry
abbrev pub HaveNonesNoReferences : Type 0
HaveNonesNoReferences = InAccepted (λ d f. (v : ValueId) (x : Value) (e : Entry) → HasNoOwner d f v → made_entry (kind_at d f v) (ValueOf x) ≡ Ok e
    → references_of x ≡ [])
