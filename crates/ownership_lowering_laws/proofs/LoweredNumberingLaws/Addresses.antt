-- What stands behind an address: its type is written where the address's is, and the operand of a load or a store is an address.
use Rattle.std.proofs.Common.{◌≡◌, ◌≤◌, ℕ, [], ◌∷◌, refl, sym, ap, ◌∙◌, subst, true, false, Option, Some, None}
use Rattle.std.specs.Prelude.{◌||◌, is_some, not, option_and_then, slice_get}
use Rattle.std.proofs.lemmas.Bool.{and_parts}
use Rattle.instruction_table.specs.declared.op.Op.TheVariants as op
use Rattle.sil_ast.specs.TypeName.{depth_of, depth_over}
use Rattle.sil_ast.specs.declared.inst.Inst.{Inst}
use Rattle.sil_ast.specs.declared.operands.Operand.{Operand}
use Rattle.sil_ast.specs.declared.type_name.TypeName.{TypeName, TypeName-F, out-TypeName, roll-TypeName, roll-out-TypeName}
use Rattle.sil_ast.specs.declared.type_name.TypeName.TheVariants as type
use Rattle.sil_ast.specs.declared.type_name.TypeName.TheVariants.{rolls-Address}
use Rattle.numbered_form.specs.inner.Types.{IsPlacedType, is_placed_at, is_plain_type}
use Rattle.holder_model_typing.specs.sil_types.Typing.RowTypes.{given_by, passes, type_of, written}
use Rattle.holder_model_typing.specs.sil_types.Typing.FormRules.{is_at_storage}
use Rattle.holder_model_typing.specs.sil_types.Typing.Shapes.{is_nontrivial, is_object, is_storage, object_at, target, target_in}
use Rattle.sil_types_declarations.specs.TypeDefinitions.Declarations.{Declarations}
use Rattle.sil_types_declarations.specs.TypeDefinitions.Measures.{is_trivial}
use Rattle.holder_model_typing.proofs.RunTypingLaws.Opened.{fold-Address}
use Rattle.holder_model_typing.proofs.RunTypingLaws.Rows.Addresses.{no_target}
use Rattle.holder_model_typing.proofs.RunTypingLaws.Rows.Finding.{found_behind, or_first, where_found}
use Rattle.holder_model_typing.proofs.RunTypingLaws.Rows.Shares.{given_one, taken_from}
use Rattle.holder_model_typing.proofs.RunTypingLaws.Sizes.{plain_type}

pub address_is : (t u : TypeName) → target t ≡ Some u → t ≡ type.Address u
address_is t u e = at (out-TypeName t) refl e
  where
    at : (layer : TypeName-F TypeName) → out-TypeName t ≡ layer → target_in layer ≡ Some u → t ≡ type.Address u
    at (TypeName-F.Int w) o h = absurd (cc)
    at (TypeName-F.Named name) o h = absurd (cc)
    at (TypeName-F.Optional inner) o h = absurd (cc)
    at (TypeName-F.Tuple parts) o h = absurd (cc)
    at (TypeName-F.Weak inner) o h = absurd (cc)
    at (TypeName-F.Unowned inner) o h = absurd (cc)
    at (TypeName-F.Address inner) o h = sym (roll-out-TypeName t) ∙ ap roll-TypeName o ∙ rolls-Address inner ∙ ap type.Address (cc)

plain_behind : (t u : TypeName) (layer : TypeName-F TypeName) → target_in layer ≡ Some u → is_placed_at t layer ≡ true → is_plain_type u ≡ true
plain_behind t u (TypeName-F.Address inner) e h = let same : inner ≡ u = cc in subst (λ x. is_plain_type x ≡ true) same h
plain_behind t u _ e h = absurd (cc)

plain_placed : (t : TypeName) → is_plain_type t ≡ true → is_placed_at t (out-TypeName t) ≡ true
plain_placed t plain = at (out-TypeName t) (no_target t (plain_type t plain))
  where
    at : (layer : TypeName-F TypeName) → target_in layer ≡ None → is_placed_at t layer ≡ true
    at (TypeName-F.Address inner) e = absurd (cc)
    at _ e = plain

pub placed_behind : (t u : TypeName) → target t ≡ Some u → IsPlacedType t → IsPlacedType u
placed_behind t u e h = record {
  written = plain_placed u (plain_behind t u (out-TypeName t) e h.written);
  depth = subst (λ n. n ≤ 32) (ap depth_of (address_is t u e) ∙ fold-Address ℕ depth_over u) h.depth;
}

-- ---- operands that are addresses

-- the operand's written type is that of an object's address
pub record IsAddress (x : Operand) : Type 0 where
  pub ty : TypeName
  pub is_type : x.ty ≡ Some ty
  pub inner : TypeName
  pub is_inner : target ty ≡ Some inner
  pub object : is_object inner ≡ true

address_from : (x : Operand) (o : Option TypeName) (u : TypeName) → x.ty ≡ o → option_and_then target o ≡ Some u → is_object u ≡ true → IsAddress x
address_from x o u is e object = let t = found_behind target o u e in record { ty = t.0; is_type = is ∙ t.1; inner = u; is_inner = t.2; object = object }

object_address : (x : Operand) (o : Option TypeName) (u : TypeName) → x.ty ≡ o → option_and_then object_at o ≡ Some u → IsAddress x
object_address x o u is e =
    let t = found_behind object_at o u e in
    let found = where_found is_object (target t.0) u t.2 in
    record { ty = t.0; is_type = is ∙ t.1; inner = u; is_inner = found.0; object = found.1 }

nontrivial_object : (d : Declarations) (u : TypeName) → is_nontrivial d u ≡ true → is_object u ≡ true
nontrivial_object d u e = (and_parts (is_object u) (not (is_trivial d u)) e).0

first_written : (i : Inst) (x : Operand) → i.operands ≡ x ∷ [] → x.ty ≡ written 0 i
first_written i x only = ap (λ os. option_and_then type_of (slice_get os 0)) (sym only)

second_written : (i : Inst) (x y : Operand) → i.operands ≡ x ∷ y ∷ [] → y.ty ≡ written 1 i
second_written i x y both = ap (λ os. option_and_then type_of (slice_get os 1)) (sym both)

pub loads_from : (d : Declarations) (i : Inst) (x : Operand) → i.operands ≡ x ∷ [] → is_some (given_by op.Load d i) ≡ true → IsAddress x
loads_from d i x only e =
    let t = given_one (option_and_then object_at (written 0 i)) e in object_address x (written 0 i) t.0 (first_written i x only) t.1

pub borrows_from : (d : Declarations) (i : Inst) (x : Operand) → i.operands ≡ x ∷ [] → is_some (given_by op.LoadBorrow d i) ≡ true → IsAddress x
borrows_from d i x only e =
    let at : Option TypeName = option_and_then target (written 0 i) in
    let t = given_one _ e in
    let found = where_found (is_nontrivial d) at t.0 t.1 in
    address_from x (written 0 i) t.0 (first_written i x only) found.0 (nontrivial_object d t.0 found.1)

pub stores_to : (d : Declarations) (i : Inst) (x y : Operand) → i.operands ≡ x ∷ y ∷ [] → is_some (given_by op.Store d i) ≡ true → IsAddress y
stores_to d i x y both e =
    let t = taken_from (option_and_then object_at (written 1 i)) e in object_address y (written 1 i) t.0 (second_written i x y both) t.1

pub destroys_at : (d : Declarations) (i : Inst) (x : Operand) → i.operands ≡ x ∷ [] → is_some (given_by op.DestroyAddr d i) ≡ true → is_at_storage i ≡ false
    → IsAddress x
destroys_at d i x only e stored =
    let at : Option TypeName = option_and_then target (written 0 i) in
    let t = taken_from _ e in
    let found = where_found (λ u. is_nontrivial d u || is_storage u) at t.0 t.1 in
    let no_storage : is_storage t.0 ≡ false = ap (passes is_storage) (sym found.0) ∙ stored in
    address_from x (written 0 i) t.0 (first_written i x only) found.0
    (nontrivial_object d t.0 (or_first (is_nontrivial d t.0) (is_storage t.0) no_storage found.1))
