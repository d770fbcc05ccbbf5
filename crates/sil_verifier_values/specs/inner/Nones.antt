-- Values that have no owner, told apart: addresses, values without a type, values of trivial types, and what is made of such values alone.
use Rattle.std.specs.Prelude.{◌≡◌, ℕ, None, Some, map, slice_get, true}
use Rattle.numbered_form.specs.Lists.{Each}
use Rattle.numbered_form.specs.PointChecks.Points.{IsAt}
use Rattle.sil_ast.specs.declared.function.Function.{Function}
use Rattle.sil_ast.specs.declared.inst.Inst.{Inst}
use Rattle.sil_ast.specs.declared.place.ValueId.{ValueId}
use Rattle.sil_ast.specs.declared.type_name.TypeName.{TypeName}
use Rattle.holder_model_typing.specs.sil_types.Typing.Shapes.{target}
use Rattle.holder_model_typing.specs.sil_types_declarations.TypeDefinitions.Declarations.{Declarations}
use Rattle.holder_model_typing.specs.sil_types_declarations.TypeDefinitions.Measures.{is_trivial}
use Rattle.numbered_form.specs.ValueTables.FirstValue.{value_of}
use Rattle.sil_verifier_values.specs.inner.Known.{InAccepted, IsValue, type_in}
use Rattle.sil_verifier_values.specs.inner.Operands.{HasNoOwner}

-- an address has no owner
abbrev pub AreAddressesPlain : Type 0
AreAddressesPlain = InAccepted (λ d f. (v : ValueId) (t u : TypeName) → type_in d f v ≡ Some t → target t ≡ Some u → HasNoOwner d f v)

-- why a value has no owner: of another type the value is a None value, forwarded or extracted from such values, or an enum's case without a payload
pub data WhyPlain (d : Declarations) (f : Function) (v : ValueId) : Type 0 where
  untyped : type_in d f v ≡ None → WhyPlain d f v
  trivial : (t : TypeName) → type_in d f v ≡ Some t → is_trivial d t ≡ true → WhyPlain d f v
  address : (t u : TypeName) → type_in d f v ≡ Some t → target t ≡ Some u → WhyPlain d f v
  made : (block index k : ℕ) (i : Inst) → IsAt f block index i → slice_get i.results k ≡ Some v → Each (HasNoOwner d f) (map value_of i.operands)
      → WhyPlain d f v

-- there is no other reason
abbrev pub ArePlainTold : Type 0
ArePlainTold = InAccepted (λ d f. (v : ValueId) → IsValue f v → HasNoOwner d f v → WhyPlain d f v)
