-- Instructions are made ready as is meant, where their parts are those of their rows.
use Rattle.std.proofs.Common.{◌≡◌, ℕ, ℤ, List, [], ◌∷◌, sym, ap, ◌∙◌, subst, Bool, Option, Some, None}
use Rattle.std.specs.Prelude.{slice_get}
use Rattle.holder_model.specs.MemoryEffects.{takes}
use Rattle.holder_model.specs.declared.row_effect.RowEffect.{RowEffect}
use Rattle.holder_model.specs.declared.row_effect.RowEffect.TheVariants as row
use Rattle.holder_model.specs.LoweredRun.LowEffects.{is_first_write}
use Rattle.holder_model.specs.memory_rules_accesses.Operations.{load_operation, store_operation}
use Rattle.holder_model.specs.RunTyping.Forms.{OfPlace, form_of}
use Rattle.holder_model_values.specs.RunValues.Shapes as shapes
use Rattle.holder_model_values.specs.RunValues.Shapes.{Shape, Stored, storage_in}
use Rattle.sil_ast.specs.declared.decl.Storage.{Storage}
use Rattle.sil_ast.specs.declared.function.Function.{Function}
use Rattle.sil_ast.specs.declared.inst.Inst.{Inst}
use Rattle.sil_ast.specs.declared.module.Module.{Module}
use Rattle.sil_ast.specs.declared.place.ValueId.{ValueId}
use Rattle.sil_types_declarations.specs.TypeDefinitions.Declarations.{Declarations, declarations_of}
use Rattle.count_machine_model.specs.ReadyCode.Layout.{local, local_address, size_of}
use Rattle.count_machine_model.specs.ReadyCode.ReadyOps.{IsReadyOp, operands_of}
use Rattle.count_machine_model.specs.ReadyCode.ReadyOps as made
use Rattle.count_machine_model.specs.declared.ready_code.local.Local.{Local}
use Rattle.count_machine_model.specs.declared.ready_code.local.LocalAddress.{LocalAddress}
use Rattle.count_machine_model.specs.declared.ready_code.op.ReadyOp.{ReadyOp}
use Rattle.count_machine_model.specs.declared.ready_code.op.ReadyOp.TheVariants as op
use Rattle.count_machine_layouts.specs.declared.frame_layouts.layout.Kept.TheVariants as kept
use Rattle.count_machine_layouts.specs.FrameLayouts.inner.Layouts.{kept_of}
use Rattle.count_machine_ready.specs.inner.Rows.{HasRow}

pub first_is : {A : Type 0} (xs rest : List A) (x y : A) → xs ≡ x ∷ rest → slice_get xs 0 ≡ Some y → y ≡ x
first_is xs rest x y e at = let first : slice_get (x ∷ rest) 0 ≡ Some y = subst (λ zs. slice_get zs 0 ≡ Some y) e at in cc

pub second_is : {A : Type 0} (xs rest : List A) (w x y : A) → xs ≡ w ∷ x ∷ rest → slice_get xs 1 ≡ Some y → y ≡ x
second_is xs rest w x y e at = let second : slice_get (w ∷ x ∷ rest) 1 ≡ Some y = subst (λ zs. slice_get zs 1 ≡ Some y) e at in cc

module _ (m : Module) (f : Function) (i : Inst) where
  abbrev d : Declarations
  d = declarations_of m

  abbrev Made : ReadyOp → Type 0
  Made x = IsReadyOp m f i x

  abbrev Row : RowEffect → Type 0
  Row effect = HasRow m f i effect

  -- the local of the first or second operand or of the result
  pub operand_local : (v w : ValueId) (rest : List ValueId) (l : Local) → operands_of i ≡ w ∷ rest
      → slice_get (operands_of i) 0 ≡ Some v → l ≡ local d f v → l ≡ local d f w
  operand_local v w rest l e at is = is ∙ ap (local d f) (first_is (operands_of i) rest w v e at)

  pub second_local : (v w x : ValueId) (rest : List ValueId) (l : Local) → operands_of i ≡ x ∷ w ∷ rest
      → slice_get (operands_of i) 1 ≡ Some v → l ≡ local d f v → l ≡ local d f w
  second_local v w x rest l e at is = is ∙ ap (local d f) (second_is (operands_of i) rest x w v e at)

  pub result_local : (v w : ValueId) (l : Local) → i.results ≡ w ∷ [] → slice_get i.results 0 ≡ Some v → l ≡ local d f v → l ≡ local d f w
  result_local v w l e at is = is ∙ ap (local d f) (first_is i.results [] w v e at)

  pub operand_address : (v w : ValueId) (rest : List ValueId) (l : LocalAddress) → operands_of i ≡ w ∷ rest
      → slice_get (operands_of i) 0 ≡ Some v → l ≡ local_address d f v
      → l ≡ local_address d f w
  operand_address v w rest l e at is = is ∙ ap (local_address d f) (first_is (operands_of i) rest w v e at)

  pub second_address : (v w x : ValueId) (rest : List ValueId) (l : LocalAddress) → operands_of i ≡ x ∷ w ∷ rest
      → slice_get (operands_of i) 1 ≡ Some v → l ≡ local_address d f v
      → l ≡ local_address d f w
  second_address v w x rest l e at is = is ∙ ap (local_address d f) (second_is (operands_of i) rest x w v e at)

  pub result_address : (v w : ValueId) (l : LocalAddress) → i.results ≡ w ∷ [] → slice_get i.results 0 ≡ Some v
      → l ≡ local_address d f v → l ≡ local_address d f w
  result_address v w l e at is = is ∙ ap (local_address d f) (first_is i.results [] w v e at)

  pub look_made : Row row.NoEffect → (v : ValueId) → slice_get (operands_of i) 0 ≡ Some v → Made (op.Look v)
  look_made h v at =
      let has = h.has in
      subst (λ x. Made (op.Look x)) (sym (first_is (operands_of i) [] has.operand v has.operands at)) (made.look has.operand h.does has.operands)

  pub function_made : Row row.GivesFunction → (r : ValueId) → slice_get i.results 0 ≡ Some r → Made (op.Function r)
  function_made h r at =
      let has = h.has in
      subst (λ x. Made (op.Function x)) (sym (first_is i.results [] has.result r has.results at)) (made.function has.result h.does has.results)

  pub literal_made : Row row.GivesLiteral → (n : ℤ) (r : ValueId) (to : Local) → i.number ≡ Some n
      → slice_get i.results 0 ≡ Some r → to ≡ local d f r → Made (op.Literal n to)
  literal_made h n r to number at is =
      let has = h.has in
      subst (λ x. Made (op.Literal n x)) (sym (result_local r has.result to has.results at is)) (made.literal n has.result h.does number has.results)

  pub trap_made : Row row.TrapsWhereSet → (v : ValueId) (l : Local) → slice_get (operands_of i) 0 ≡ Some v → l ≡ local d f v → Made (op.TrapWhereSet l)
  trap_made h v l at is =
      let has = h.has in
      subst (λ x. Made (op.TrapWhereSet x)) (sym (operand_local v has.operand [] l has.operands at is)) (made.traps has.operand h.does has.operands)

  pub removal_made : Row row.RemovesSlot → (v : ValueId) (l : LocalAddress) → slice_get (operands_of i) 0 ≡ Some v
      → l ≡ local_address d f v → Made (op.RemoveSlot l)
  removal_made h v l at is =
      let has = h.has in
      subst (λ x. Made (op.RemoveSlot x)) (sym (operand_address v has.operand [] l has.operands at is)) (made.removes has.operand h.does has.operands)

  pub retain_made : Row row.RetainsOperand → (v : ValueId) (l : Local) → slice_get (operands_of i) 0 ≡ Some v → l ≡ local d f v → Made (op.Retain l)
  retain_made h v l at is =
      let has = h.has in
      subst (λ x. Made (op.Retain x)) (sym (operand_local v has.operand [] l has.operands at is)) (made.retains has.operand h.does has.operands)

  pub release_made : Row row.DropsOperand → (v : ValueId) (l : Local) → slice_get (operands_of i) 0 ≡ Some v → l ≡ local d f v → Made (op.Drop l)
  release_made h v l at is =
      let has = h.has in
      subst (λ x. Made (op.Drop x)) (sym (operand_local v has.operand [] l has.operands at is)) (made.drops has.operand h.does has.operands)

  pub same_made : Row row.GivesOperand → (v r : ValueId) (from to : Local) → slice_get (operands_of i) 0 ≡ Some v
      → slice_get i.results 0 ≡ Some r → from ≡ local d f v → to ≡ local d f r
      → Made (op.Same from to)
  same_made h v r from to at gives is_from is_to =
      let has = h.has in
      subst (λ x. Made (op.Same x to)) (sym (operand_local v has.operand [] from has.operands at is_from))
      (subst (λ y. Made (op.Same (local d f has.operand) y)) (sym (result_local r has.result to has.results gives is_to))
      (made.same has.operand has.result h.does has.operands has.results))

  pub load_made : Row row.LoadsValue → (v r : ValueId) (address : LocalAddress) (to : Local)
      → slice_get (operands_of i) 0 ≡ Some v → slice_get i.results 0 ≡ Some r
      → address ≡ local_address d f v → to ≡ local d f r → Made (op.Load address to)
  load_made h v r address to at gives is_from is_to =
      let has = h.has in
      subst (λ x. Made (op.Load x to)) (sym (operand_address v has.operand [] address has.operands at is_from))
      (subst (λ y. Made (op.Load (local_address d f has.operand) y)) (sym (result_local r has.result to has.results gives is_to))
      (made.loads has.operand has.result h.does has.operands has.results))

  -- what the place of a value is, by what is kept of it

  kept_place : (v w : ValueId) (size : ℕ) (storage : Option Storage) (s : Shape) → v ≡ w
      → kept.Address size storage ≡ kept_of (form_of d f v) → form_of d f w ≡ OfPlace s
      → kept.Address size storage ≡ kept.Address (size_of s) (storage_in s)
  kept_place v w size storage s same is form = is ∙ ap kept_of (ap (form_of d f) same ∙ form)

  pub slot_made : Row row.MakesSlot → (r : ValueId) (size : ℕ) (storage : Option Storage) (to : LocalAddress) → slice_get i.results 0 ≡ Some r
      → kept.Address size storage ≡ kept_of (form_of d f r) → to ≡ local_address d f r → Made (op.MakeSlot size to)
  slot_made h r size storage to at is place =
      let has = h.has in
      let same = kept_place r has.result size storage has.shape (first_is i.results [] has.result r has.results at) is has.form in
      let sizes : size ≡ size_of has.shape = cc in
      subst (λ n. Made (op.MakeSlot n to)) (sym sizes)
      (subst (λ x. Made (op.MakeSlot (size_of has.shape) x)) (sym (result_address r has.result to has.results at place))
      (made.slot has.shape has.result h.does has.results has.form))

  pub store_made : Row row.StoresValue → (v p : ValueId) (size : ℕ) (from : Local) (address : LocalAddress)
      → slice_get (operands_of i) 0 ≡ Some v → slice_get (operands_of i) 1 ≡ Some p
      → kept.Address size None ≡ kept_of (form_of d f p) → from ≡ local d f v → address ≡ local_address d f p → Made (op.Store from address)
  store_made h v p size from address at second is is_from is_address =
      let has = h.has in
      let same = kept_place p has.address size None has.shape (second_is (operands_of i) [] has.value has.address p has.operands second) is has.form in
      let none : storage_in has.shape ≡ None = cc in
      subst (λ x. Made (op.Store x address)) (sym (operand_local v has.value (has.address ∷ []) from has.operands at is_from))
      (subst (λ x. Made (op.Store (local d f has.value) x)) (sym (second_address p has.address has.value [] address has.operands second is_address))
      (made.stores has.value has.address has.shape h.does has.operands has.form none))

  stored_shape : (s : Shape) (w : Storage) → storage_in s ≡ Some w → (inner : Shape) × (s ≡ Stored w inner)
  stored_shape (shapes.Integer width) w e = absurd (cc)
  stored_shape (shapes.Reference class) w e = absurd (cc)
  stored_shape (shapes.Struct name fields) w e = absurd (cc)
  stored_shape (shapes.Tuple elements) w e = absurd (cc)
  stored_shape (shapes.Enum name cases) w e = absurd (cc)
  stored_shape (Stored own inner) w e = let same : own ≡ w = cc in (inner, ap (λ x. Stored x inner) same)
  stored_shape shapes.Unknown w e = absurd (cc)

  pub store_name_made : Row row.StoresValue → (v p : ValueId) (size : ℕ) (w : Storage) (first : Bool) (from : Local) (address : LocalAddress)
      → slice_get (operands_of i) 0 ≡ Some v
      → slice_get (operands_of i) 1 ≡ Some p → kept.Address size (Some w) ≡ kept_of (form_of d f p) → first ≡ is_first_write (store_operation i.qualifier)
      → from ≡ local d f v → address ≡ local_address d f p → Made (op.StoreName w first from address)
  store_name_made h v p size w first from address at second is is_first is_from is_address =
      let has = h.has in
      let same = kept_place p has.address size (Some w) has.shape (second_is (operands_of i) [] has.value has.address p has.operands second) is has.form in
      let storage : storage_in has.shape ≡ Some w = cc in
      let inner = stored_shape has.shape w storage in
      subst (λ x. Made (op.StoreName w x from address)) (sym is_first)
      (subst (λ x. Made (op.StoreName w (is_first_write (store_operation i.qualifier)) x address))
      (sym (operand_local v has.value (has.address ∷ []) from has.operands at is_from))
      (subst (λ x. Made (op.StoreName w (is_first_write (store_operation i.qualifier)) (local d f has.value) x))
      (sym (second_address p has.address has.value [] address has.operands second is_address))
      (made.stores_name has.value has.address w inner.0 (store_operation i.qualifier) h.does has.operands (has.form ∙ ap OfPlace inner.1) has.operation)))

  pub load_name_made : Row row.LoadsName → (p r : ValueId) (size : ℕ) (w : Storage) (taking : Bool) (address : LocalAddress) (to : Local)
      → slice_get (operands_of i) 0 ≡ Some p
      → slice_get i.results 0 ≡ Some r → kept.Address size (Some w) ≡ kept_of (form_of d f p) → taking ≡ takes (load_operation i.qualifier)
      → address ≡ local_address d f p → to ≡ local d f r → Made (op.LoadName w taking address to)
  load_name_made h p r size w taking address to at gives is is_taking is_address is_to =
      let has = h.has in
      let same = kept_place p has.address size (Some w) (Stored has.storage has.shape)
      (first_is (operands_of i) [] has.address p has.operands at) is has.form in
      let own : has.storage ≡ w = cc in
      subst (λ x. Made (op.LoadName w x address to)) (sym is_taking)
      (subst (λ x. Made (op.LoadName w (takes (load_operation i.qualifier)) x to)) (sym (operand_address p has.address [] address has.operands at is_address))
      (subst (λ x. Made (op.LoadName w (takes (load_operation i.qualifier)) (local_address d f has.address) x))
      (sym (result_local r has.result to has.results gives is_to))
      (made.loads_name has.address has.result w has.shape (load_operation i.qualifier) h.does has.operands has.results
      (has.form ∙ ap (λ x. OfPlace (Stored x has.shape)) own) has.operation)))

  pub forget_made : Row row.DestroysPlace → (p : ValueId) (size : ℕ) (w : Storage) (address : LocalAddress) → slice_get (operands_of i) 0 ≡ Some p
      → kept.Address size (Some w) ≡ kept_of (form_of d f p) → address ≡ local_address d f p → Made (op.ForgetName w address)
  forget_made h p size w address at is is_address =
      let has = h.has in
      let same = kept_place p has.address size (Some w) (Stored has.storage has.shape)
      (first_is (operands_of i) [] has.address p has.operands at) is has.form in
      let own : has.storage ≡ w = cc in
      subst (λ x. Made (op.ForgetName w x)) (sym (operand_address p has.address [] address has.operands at is_address))
      (made.forgets_name has.address w has.shape h.does has.operands (has.form ∙ ap (λ x. OfPlace (Stored x has.shape)) own))
