-- Instructions that compute, that make objects and groups, choose cases, and that read or name members are made ready as is meant.
use Rattle.std.proofs.Common.{◌≡◌, ℕ, ◌≤◌, List, [], ◌∷◌, length, map, refl, sym, ap, ap₂, ◌∙◌, subst, arith, Option, Some}
use Rattle.std.specs.Prelude.{option_and_then, option_map, slice_get}
use Rattle.std.proofs.lemmas.List.{length-map}
use Rattle.holder_model.specs.ModuleShapes.{case_place}
use Rattle.holder_model.specs.declared.row_effect.RowEffect.{RowEffect}
use Rattle.holder_model.specs.declared.row_effect.RowEffect.TheVariants as row
use Rattle.holder_model.specs.RunTyping.EndForms.{value_in}
use Rattle.holder_model_values.specs.RunValues.Shapes.{member_shapes, shape_of}
use Rattle.sil_ast.specs.declared.function.Function.{Function}
use Rattle.sil_ast.specs.declared.inst.Inst.{Inst}
use Rattle.sil_ast.specs.declared.module.Module.{Module}
use Rattle.sil_ast.specs.declared.place.ValueId.{ValueId}
use Rattle.sil_ast.specs.declared.type_name.TypeName.{TypeName}
use Rattle.sil_types.specs.Typing.Builtins.{Builtin, builtin_named}
use Rattle.sil_types_declarations.specs.TypeDefinitions.Declarations.{Declarations, declarations_of}
use Rattle.sil_types_declarations.specs.TypeDefinitions.Lookups.{class_at}
use Rattle.count_machine_model.specs.ReadyCode.Layout.{local, local_address}
use Rattle.count_machine_model.specs.ReadyCode.ReadyOps.{IsReadyOp, first_of, leaf_offset, operands_of}
use Rattle.count_machine_model.specs.ReadyCode.ReadyOps as made
use Rattle.count_machine_model.specs.declared.ready_code.local.Local.{Local}
use Rattle.count_machine_model.specs.declared.ready_code.local.LocalAddress.{LocalAddress}
use Rattle.count_machine_model.specs.declared.ready_code.op.ReadyOp.{ReadyOp}
use Rattle.count_machine_model.specs.declared.ready_code.op.ReadyOp.TheVariants as op
use Rattle.count_machine_ready.specs.inner.Rows.{HasRow}
use Rattle.count_machine_ready.proofs.MadeOps.{operand_address, operand_local, result_address, result_local, second_local}

third_is : {A : Type 0} (xs rest : List A) (w x : A) → xs ≡ w ∷ x ∷ rest → slice_get xs 2 ≡ first_of rest
third_is xs rest w x e = subst (λ zs. slice_get zs 2 ≡ first_of rest) (sym e) (at rest)
  where
    at : (ys : List _) → slice_get (w ∷ x ∷ ys) 2 ≡ first_of ys
    at [] = refl
    at (y ∷ ys) = refl

module _ (m : Module) (f : Function) (i : Inst) where
  abbrev d : Declarations
  d = declarations_of m

  abbrev Made : ReadyOp → Type 0
  Made x = IsReadyOp m f i x

  abbrev Row : RowEffect → Type 0
  Row effect = HasRow m f i effect

  pub compute_made : Row row.Computes → (b : Builtin) (v w r : ValueId) (left right to : Local) (other : Option ValueId)
      → Some b ≡ option_and_then builtin_named i.text
      → slice_get (operands_of i) 0 ≡ Some v → slice_get (operands_of i) 1 ≡ Some w → slice_get i.results 0 ≡ Some r → left ≡ local d f v → right ≡ local d f w
      → other ≡ slice_get (operands_of i) 2 → to ≡ local d f r → Made (op.Compute b.operation b.width left right other to)
  compute_made h b v w r left right to other named at second gives is_left is_right is_other is_to =
      let has = h.has in
      let same : b ≡ has.builtin = (let e : Some b ≡ Some has.builtin = named ∙ has.named in cc) in
      subst (λ (x : Builtin). Made (op.Compute x.operation x.width left right other to)) (sym same)
      (subst (λ x. Made (op.Compute has.builtin.operation has.builtin.width x right other to))
      (sym (operand_local m f i v has.left (has.right ∷ has.more) left has.operands at is_left))
      (subst (λ x. Made (op.Compute has.builtin.operation has.builtin.width (local d f has.left) x other to))
      (sym (second_local m f i w has.right has.left has.more right has.operands second is_right))
      (subst (λ x. Made (op.Compute has.builtin.operation has.builtin.width (local d f has.left) (local d f has.right) x to))
      (sym (is_other ∙ third_is (operands_of i) has.more has.left has.right has.operands))
      (subst (λ x. Made (op.Compute has.builtin.operation has.builtin.width (local d f has.left) (local d f has.right) (first_of has.more) x))
      (sym (result_local m f i r has.result to has.results gives is_to))
      (made.computes has.builtin has.left has.right has.result has.more h.does has.named has.operands has.results)))))

  pub object_made : (h : Row row.MakesObject) → (k : ℕ) (r : ValueId) (to : Local) → class_at d k ≡ Some h.has.class
      → slice_get i.results 0 ≡ Some r → to ≡ local d f r → Made (op.MakeObject k to)
  object_made h k r to class at is =
      let has = h.has in
      subst (λ x. Made (op.MakeObject k x)) (sym (result_local m f i r has.result to has.results at is))
      (made.object has.class k has.result h.does has.results has.form class)

  pub group_made : Row row.Groups → (r : ValueId) (operands : List Local) (to : Local) → operands ≡ map (local d f) (operands_of i)
      → slice_get i.results 0 ≡ Some r → to ≡ local d f r
      → Made (op.Group operands to)
  group_made h r operands to is_operands at is =
      let has = h.has in
      subst (λ x. Made (op.Group x to)) (sym is_operands)
      (subst (λ x. Made (op.Group (map (local d f) (operands_of i)) x)) (sym (result_local m f i r has.result to has.results at is))
      (made.groups has.result h.does has.results))

  few_values : length i.operands ≤ 1 → length (operands_of i) ≤ 1
  few_values le = let e = length-map i.operands value_in in omega (arith, e, le)

  pub choice_made : (h : Row row.ChoosesCase) → (k : ℕ) (r : ValueId) (payload : Option Local) (to : Local) → k ≡ h.has.payload.place
      → payload ≡ option_map (local d f) (slice_get (operands_of i) 0) → slice_get i.results 0 ≡ Some r → to ≡ local d f r → Made (op.Choose k payload to)
  choice_made h k r payload to is_k is_payload at is = by (operands_of i) refl (few_values h.has.few)
    where
      place : case_place (shape_of d h.has.ty) i.member ≡ Some k
      place = h.has.place ∙ ap Some (sym is_k)

      to_result : Made (op.Choose k payload (local d f h.has.result)) → Made (op.Choose k payload to)
      to_result made_so = subst (λ x. Made (op.Choose k payload x)) (sym (result_local m f i r h.has.result to h.has.results at is)) made_so

      by : (vs : List ValueId) → operands_of i ≡ vs → length vs ≤ 1 → Made (op.Choose k payload to)
      by [] e le =
          to_result (subst (λ x. Made (op.Choose k x (local d f h.has.result))) (sym (is_payload ∙ ap (λ vs. option_map (local d f) (slice_get vs 0)) e))
          (made.chooses_plain h.has.result (shape_of d h.has.ty) k h.does e h.has.results h.has.form place))
      by (v ∷ []) e le =
          to_result (subst (λ x. Made (op.Choose k x (local d f h.has.result))) (sym (is_payload ∙ ap (λ vs. option_map (local d f) (slice_get vs 0)) e))
          (made.chooses_full v h.has.result (shape_of d h.has.ty) k h.does e h.has.results h.has.form place))
      by (v ∷ w ∷ vs) e le = absurd (omega arith)

  pub member_made : (h : Row row.GivesMember) → (v r : ValueId) (ty : TypeName) (k from : ℕ) (operand to : Local) → ty ≡ h.has.ty → k ≡ h.has.place
      → from ≡ leaf_offset (member_shapes (shape_of d ty)) k → slice_get (operands_of i) 0 ≡ Some v
      → slice_get i.results 0 ≡ Some r → operand ≡ local d f v → to ≡ local d f r
      → Made (op.Member operand from to)
  member_made h v r ty k from operand to is_ty is_k is_from at gives is_operand is_to =
      let has = h.has in
      subst (λ n. Made (op.Member operand n to)) (sym (is_from ∙ ap₂ (λ t n. leaf_offset (member_shapes (shape_of d t)) n) is_ty is_k))
      (subst (λ x. Made (op.Member x (leaf_offset (member_shapes (shape_of d has.ty)) has.place) to))
      (sym (operand_local m f i v has.operand [] operand has.operands at is_operand))
      (subst (λ x. Made (op.Member (local d f has.operand) (leaf_offset (member_shapes (shape_of d has.ty)) has.place) x))
      (sym (result_local m f i r has.result to has.results gives is_to))
      (made.member has.operand has.result (shape_of d has.ty) has.place h.does has.operands has.results has.form has.number)))

  pub member_address_made : (h : Row row.AddressesMember) → (v r : ValueId) (ty : TypeName) (k from : ℕ) (address to : LocalAddress)
      → ty ≡ h.has.inner → k ≡ h.has.place
      → from ≡ leaf_offset (member_shapes (shape_of d ty)) k → slice_get (operands_of i) 0 ≡ Some v
      → slice_get i.results 0 ≡ Some r → address ≡ local_address d f v → to ≡ local_address d f r
      → Made (op.MemberAddress address from to)
  member_address_made h v r ty k from address to is_ty is_k is_from at gives is_address is_to =
      let has = h.has in
      subst (λ n. Made (op.MemberAddress address n to)) (sym (is_from ∙ ap₂ (λ t n. leaf_offset (member_shapes (shape_of d t)) n) is_ty is_k))
      (subst (λ x. Made (op.MemberAddress x (leaf_offset (member_shapes (shape_of d has.inner)) has.place) to))
      (sym (operand_address m f i v has.address [] address has.operands at is_address))
      (subst (λ x. Made (op.MemberAddress (local_address d f has.address) (leaf_offset (member_shapes (shape_of d has.inner)) has.place) x))
      (sym (result_address m f i r has.result to has.results gives is_to))
      (made.member_address has.address has.result (shape_of d has.inner) has.place h.does has.operands has.results has.form has.number)))

  pub field_address_made : (h : Row row.AddressesField) → (v r : ValueId) (k : ℕ) (operand : Local) (to : LocalAddress)
      → k ≡ h.has.place → slice_get (operands_of i) 0 ≡ Some v
      → slice_get i.results 0 ≡ Some r → operand ≡ local d f v → to ≡ local_address d f r → Made (op.FieldAddress operand k to)
  field_address_made h v r k operand to is_k at gives is_operand is_to =
      let has = h.has in
      subst (λ n. Made (op.FieldAddress operand n to)) (sym is_k)
      (subst (λ x. Made (op.FieldAddress x has.place to)) (sym (operand_local m f i v has.operand [] operand has.operands at is_operand))
      (subst (λ x. Made (op.FieldAddress (local d f has.operand) has.place x)) (sym (result_address m f i r has.result to has.results gives is_to))
      (made.field_address has.operand has.result has.place h.does has.operands has.results has.number)))
