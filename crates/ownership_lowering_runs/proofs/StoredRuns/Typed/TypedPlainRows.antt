-- Rows of typed states that do nothing at places, call nothing and take nothing apart find what they need.
use Rattle.std.proofs.Common.{◌≡◌, List, [], ◌∷◌, map, refl, sym, ap, ap₂, ◌∙◌, subst, true, false}
use Rattle.std.proofs.lemmas.Bool.{false≢true}
use Rattle.instruction_table.specs.declared.op.Op.{Op}
use Rattle.instruction_table.specs.declared.op.Op.TheVariants as op
use Rattle.numbered_form.specs.Lists.{Each}
use Rattle.sil_ast.specs.declared.function.Function.{Function}
use Rattle.sil_ast.specs.declared.inst.Inst.{Inst}
use Rattle.sil_ast.specs.declared.module.Module.{Module}
use Rattle.sil_ast.specs.declared.place.ValueId.{ValueId}
use Rattle.sil_types_declarations.specs.TypeDefinitions.Declarations.{declarations_of}
use Rattle.holder_model_values.specs.RunValues.Shapes.{Reference, Shape}
use Rattle.holder_model_values.specs.RunValues.Values.{Value, references_of}
use Rattle.sil_verifier_runs.specs.sil_verifier_values.inner.Known.{IsAcceptedBody}
use Rattle.ownership_lowering_laws.specs.holder_model_typing.OwnedRunTyping.inner.OwnedRows.{OwnedRowForms}
use Rattle.ownership_lowering_laws.specs.holder_model_typing.OwnedRunTyping.inner.OwnedRows as owned
use Rattle.sil_verifier_runs.specs.holder_model.RunTyping.Forms.{Form, OfPlace, OfValue, form_of}
use Rattle.sil_verifier_runs.specs.holder_model.RunTyping.RowForms.{RowForms, operand_shapes}
use Rattle.sil_verifier_runs.specs.holder_model.RunTyping.RowForms as lowered
use Rattle.sil_verifier_runs.specs.holder_model.Data.{Datum, ValueOf}
use Rattle.sil_verifier_runs.specs.holder_model.Effects.{Change, Effect, Makes, effect_by, effect_of, unchanged}
use Rattle.sil_verifier_runs.specs.holder_model.Faults.{HolderFault}
use Rattle.sil_verifier_runs.specs.holder_model.Frames.{Frame, Operands}
use Rattle.sil_verifier_runs.specs.holder_model.HolderStates.{HolderState}
use Rattle.sil_verifier_runs.specs.holder_model.MemoryEffects.{at_places}
use Rattle.sil_verifier_runs.specs.holder_model.ModuleShapes.{shapes_in, shapes_of}
use Rattle.sil_verifier_runs.specs.holder_model.States.{Task}
use Rattle.sil_verifier_runs.specs.holder_model.declared.row_effect.RowEffect.{RowEffect}
use Rattle.sil_verifier_runs.specs.holder_model.declared.row_effect.RowEffect.TheVariants as row
use Rattle.sil_verifier_runs.specs.holder_model.LoweredRun.LowStepParts.{LowState}
use Rattle.ownership_lowering_laws.specs.ownership_lowering_model.LoweredInsts.{lowering_of}
use Rattle.ownership_lowering_laws.specs.ownership_lowering_model.declared.lowering.Lowering.TheVariants as lowering
use Rattle.sil_verifier_runs.specs.ownership_kinds_origins.Renamings.{renames}
use Rattle.sil_verifier_runs.specs.sil_verifier_frames.inner.Typed.TypedStates.{FrameIs}
use Rattle.ownership_lowering_laws.specs.holder_model_typing.TypedMemory.inner.Worlds.{Suits, World}
use Rattle.sil_verifier_runs.proofs.sil_verifier_frames.Typed.Data.{DataAre, read_value}
use Rattle.ownership_lowering_runs.specs.StoredRuns.inner.Frames.{IsNoAddress}
use Rattle.ownership_lowering_runs.specs.StoredRuns.inner.PlaceRows.{StandsAt}
use Rattle.ownership_lowering_runs.specs.StoredRuns.inner.RowsRight.{RowRight, held_effect, is_place_row}
use Rattle.ownership_lowering_runs.specs.StoredRuns.inner.TypedPlainRows.{AreTypedPlainRows, is_plain_row}
use Rattle.ownership_lowering_runs.proofs.StoredRuns.PlacesFound.{no_result, one_of, one_place_of, one_result}
use Rattle.ownership_lowering_runs.proofs.StoredRuns.Typed.TypedInsts.{given_typed, inst_typed, operand_forms, result_forms}

-- ---- rows and their operations

abbrev StaysItself : Op → Type 0
StaysItself o = (lowering_of o ≡ lowering.Stays) × (renames o ≡ false)

literal_op : (o : Op) → effect_of o ≡ row.GivesLiteral → StaysItself o
literal_op op.IntegerLiteral e = (refl, refl)
literal_op _ e = absurd (cc)

function_op : (o : Op) → effect_of o ≡ row.GivesFunction → StaysItself o
function_op op.FunctionRef e = (refl, refl)
function_op _ e = absurd (cc)

computes_op : (o : Op) → effect_of o ≡ row.Computes → StaysItself o
computes_op op.Builtin e = (refl, refl)
computes_op _ e = absurd (cc)

pub traps_op : (o : Op) → effect_of o ≡ row.TrapsWhereSet → StaysItself o
traps_op op.CondFail e = (refl, refl)
traps_op _ e = absurd (cc)

object_op : (o : Op) → effect_of o ≡ row.MakesObject → StaysItself o
object_op op.AllocRef e = (refl, refl)
object_op _ e = absurd (cc)

slot_op : (o : Op) → effect_of o ≡ row.MakesSlot → StaysItself o
slot_op op.AllocStack e = (refl, refl)
slot_op _ e = absurd (cc)

retains_op : (o : Op) → effect_of o ≡ row.RetainsOperand → StaysItself o
retains_op op.StrongRetain e = (refl, refl)
retains_op op.RetainValue e = (refl, refl)
retains_op _ e = absurd (cc)

groups_op : (o : Op) → effect_of o ≡ row.Groups → StaysItself o
groups_op op.Struct e = (refl, refl)
groups_op op.Tuple e = (refl, refl)
groups_op _ e = absurd (cc)

case_op : (o : Op) → effect_of o ≡ row.ChoosesCase → StaysItself o
case_op op.Enum e = (refl, refl)
case_op _ e = absurd (cc)

member_op : (o : Op) → effect_of o ≡ row.GivesMember → StaysItself o
member_op op.StructExtract e = (refl, refl)
member_op op.TupleExtract e = (refl, refl)
member_op _ e = absurd (cc)

member_address_op : (o : Op) → effect_of o ≡ row.AddressesMember → StaysItself o
member_address_op op.StructElementAddr e = (refl, refl)
member_address_op op.TupleElementAddr e = (refl, refl)
member_address_op _ e = absurd (cc)

field_address_op : (o : Op) → effect_of o ≡ row.AddressesField → StaysItself o
field_address_op op.RefElementAddr e = (refl, refl)
field_address_op _ e = absurd (cc)

data LooksSo (o : Op) : Type 0 where
  looks_itself : StaysItself o → LooksSo o
  ends_lending : lowering_of o ≡ lowering.Vanishes → LooksSo o

looks_op : (o : Op) → effect_of o ≡ row.NoEffect → LooksSo o
looks_op op.EndBorrow e = LooksSo.ends_lending refl
looks_op op.DebugValue e = LooksSo.looks_itself (refl, refl)
looks_op op.Br e = LooksSo.looks_itself (refl, refl)
looks_op op.CondBr e = LooksSo.looks_itself (refl, refl)
looks_op op.SwitchEnum e = LooksSo.looks_itself (refl, refl)
looks_op op.Return e = LooksSo.looks_itself (refl, refl)
looks_op op.Unreachable e = LooksSo.looks_itself (refl, refl)
looks_op _ e = absurd (cc)

data GivesSo (o : Op) : Type 0 where
  gives_itself : StaysItself o → GivesSo o
  renames_it : lowering_of o ≡ lowering.Vanishes → renames o ≡ true → GivesSo o

gives_op : (o : Op) → effect_of o ≡ row.GivesOperand → GivesSo o
gives_op op.MoveValue e = GivesSo.renames_it refl refl
gives_op op.BeginBorrow e = GivesSo.renames_it refl refl
gives_op op.Upcast e = GivesSo.gives_itself (refl, refl)
gives_op _ e = absurd (cc)

copies_op : (o : Op) → effect_of o ≡ row.CopiesOperand → (lowering_of o ≡ lowering.Retains) × (renames o ≡ true)
copies_op op.CopyValue e = (refl, refl)
copies_op _ e = absurd (cc)

data DropsSo (o : Op) : Type 0 where
  drops_itself : StaysItself o → DropsSo o
  releases : lowering_of o ≡ lowering.Releases → DropsSo o

drops_op : (o : Op) → effect_of o ≡ row.DropsOperand → DropsSo o
drops_op op.DestroyValue e = DropsSo.releases refl
drops_op op.StrongRelease e = DropsSo.drops_itself (refl, refl)
drops_op op.ReleaseValue e = DropsSo.drops_itself (refl, refl)
drops_op _ e = absurd (cc)

-- ---- operands that are no addresses

module _ (m : Module) (w : World) where
  pub record OneValue (u : Shape) (xs : List Datum) : Type 0 where
    pub value : Value
    pub given : xs ≡ ValueOf value ∷ []
    pub suits : Suits m w u value

  none_given : (forms : List Form) (xs : List Datum) → DataAre m w forms xs → forms ≡ [] → xs ≡ []
  none_given _ _ DataAre.none e = refl
  none_given _ _ (DataAre.more form x forms xs is rest) e = absurd (cc)

  pub one_value_of : (forms : List Form) (xs : List Datum) → DataAre m w forms xs → (u : Shape) → forms ≡ OfValue u ∷ [] → OneValue u xs
  one_value_of _ _ DataAre.none u e = absurd (cc)
  one_value_of _ _ (DataAre.more form x forms xs is rest) u e =
      let v = read_value m w is u (cc) in
      record { value = v.0; given = ap₂ (λ y ys. y ∷ ys) v.1 (none_given forms xs rest (cc)); suits = v.2 }

  no_addresses : (forms : List Form) (xs : List Datum) → DataAre m w forms xs → (us : List Shape) → forms ≡ map OfValue us → Each IsNoAddress xs
  no_addresses _ _ DataAre.none us e = tt
  no_addresses _ _ (DataAre.more form x forms xs is rest) [] e = absurd (cc)
  no_addresses _ _ (DataAre.more form x forms xs is rest) (u ∷ us) e =
      (subst IsNoAddress (sym (read_value m w is u (cc)).1) refl, no_addresses forms xs rest us (cc))

-- ---- typed rows

module _ (m : Module) (s : HolderState) (l : LowState) (w : World) (frame : Frame) (rest : List (Task Frame)) (f : Function) (i : Inst) (ops : Operands) (c : Change)
    (a : IsAcceptedBody m frame.function.0 f) (frame_is : FrameIs m w f frame) (x : StandsAt m s l frame rest f i ops)
    (plain_row : is_plain_row (effect_of i.op) ≡ true) (is : held_effect m s l frame f i ops ≡ Makes c) where
  abbrev ins_are : List Form
  ins_are = operand_forms m f i

  abbrev outs_are : List Form
  outs_are = result_forms m f i

  abbrev form : ValueId → Form
  form v = form_of (declarations_of m) f v

  given : DataAre m w ins_are ops.given
  given = given_typed m s l w frame rest f i ops a frame_is x

  abbrev Right : Change → Type 0
  Right k = RowRight m s l frame f i ops k

  is_made : (k : Change) → Right k → ◌≡◌ {A = Effect HolderFault} (Makes k) (Makes c) → Right c
  is_made k right e = subst Right (cc) right

  other : {r : RowEffect} → effect_of i.op ≡ r → is_plain_row r ≡ false → Right c
  other e none = absurd (false≢true (sym none ∙ sym (ap is_plain_row e) ∙ plain_row))

  plain_by : {r : RowEffect} → effect_of i.op ≡ r → is_place_row r ≡ false → StaysItself i.op → (us : List Shape) → ins_are ≡ map OfValue us → Right c
  plain_by e none stays us ins = RowRight.plain c is stays.0 stays.1 (ap is_place_row e ∙ none) (no_addresses m w ins_are ops.given given us ins)

  abbrev done : RowEffect → List Datum → Effect HolderFault
  done r xs =
      effect_by (declarations_of m) (shapes_of m) (shapes_in (shapes_of m) frame.function) s.memory i
      (at_places (declarations_of m) (shapes_of m) (shapes_in (shapes_of m) frame.function) s.memory i) r xs

  by_row : (r : RowEffect) → effect_of i.op ≡ r → (xs : List Datum) → ops.given ≡ xs → ◌≡◌ {A = Effect HolderFault} (done r xs) (Makes c)
  by_row r e xs g = sym (ap₂ (λ z ys. done z ys) e g) ∙ is

  looks_right : effect_of i.op ≡ row.NoEffect → outs_are ≡ [] → Right c
  looks_right e outs = by (looks_op i.op e)
    where
      by : LooksSo i.op → Right c
      by (LooksSo.looks_itself stays) = RowRight.looks c is stays.0 stays.1 e
      by (LooksSo.ends_lending ends) = is_made (unchanged s.memory) (RowRight.ends e ends (no_result form i.results outs)) (by_row row.NoEffect e ops.given refl)

  gives_right : (u v : Shape) → effect_of i.op ≡ row.GivesOperand → ins_are ≡ OfValue u ∷ [] → outs_are ≡ OfValue v ∷ [] → Right c
  gives_right u v e ins outs = by (gives_op i.op e)
    where
      by : GivesSo i.op → Right c
      by (GivesSo.gives_itself stays) = plain_by e refl stays (u ∷ []) ins
      by (GivesSo.renames_it gone other_name) =
          let y = one_value_of m w ins_are ops.given given u ins in
          let o = one_of form i.operands (OfValue u) ins in
          let r = one_result form i.results (OfValue v) outs in
          is_made (record (unchanged s.memory) { results = ValueOf y.value ∷ [] }) (RowRight.renaming o.0 y.value r.0 e gone other_name o.1 y.given r.1)
          (by_row row.GivesOperand e (ValueOf y.value ∷ []) y.given)

  copies_right : (u v : Shape) → effect_of i.op ≡ row.CopiesOperand → ins_are ≡ OfValue u ∷ [] → outs_are ≡ OfValue v ∷ [] → Right c
  copies_right u v e ins outs =
      let y = one_value_of m w ins_are ops.given given u ins in
      let o = one_of form i.operands (OfValue u) ins in
      let r = one_result form i.results (OfValue v) outs in
      is_made (record (unchanged s.memory) { results = ValueOf y.value ∷ []; retained = references_of y.value })
      (RowRight.copies o.0 y.value r.0 e (copies_op i.op e).0 (copies_op i.op e).1 o.1 y.given r.1)
      (by_row row.CopiesOperand e (ValueOf y.value ∷ []) y.given)

  drops_right : (u : Shape) → effect_of i.op ≡ row.DropsOperand → ins_are ≡ OfValue u ∷ [] → outs_are ≡ [] → Right c
  drops_right u e ins outs = by (drops_op i.op e)
    where
      by : DropsSo i.op → Right c
      by (DropsSo.drops_itself stays) = plain_by e refl stays (u ∷ []) ins
      by (DropsSo.releases lowers) =
          let y = one_value_of m w ins_are ops.given given u ins in
          let o = one_of form i.operands (OfValue u) ins in
          is_made (record (unchanged s.memory) { dropped = references_of y.value }) (RowRight.drops o.0 y.value e lowers o.1 y.given (no_result form i.results outs))
          (by_row row.DropsOperand e (ValueOf y.value ∷ []) y.given)

  member_address_right : (u : Shape) → effect_of i.op ≡ row.AddressesMember → ins_are ≡ OfPlace u ∷ [] → Right c
  member_address_right u e ins =
      let y = one_place_of m w ins_are ops.given given u ins in
      let o = one_of form i.operands (OfPlace u) ins in
      let stays = member_address_op i.op e in
      RowRight.member c o.0 y.place is stays.0 stays.1 e o.1 y.given

  -- ---- by the forms of the row

  by_lowered : (xs ys : List Form) → RowForms m i xs ys → ins_are ≡ xs → outs_are ≡ ys → Right c
  by_lowered _ _ (lowered.looks a0 e) ins outs = looks_right e outs
  by_lowered _ _ (lowered.literal a0 a1 e b0 b1) ins outs = plain_by e refl (literal_op i.op e) [] ins
  by_lowered _ _ (lowered.function a0 e b0) ins outs = plain_by e refl (function_op i.op e) [] ins
  by_lowered _ _ (lowered.computes b e b0) ins outs = plain_by e refl (computes_op i.op e) (operand_shapes b) ins
  by_lowered _ _ (lowered.traps a0 e b0) ins outs = plain_by e refl (traps_op i.op e) (lowered.bit ∷ []) ins
  by_lowered _ _ (lowered.object a0 e b0) ins outs = plain_by e refl (object_op i.op e) [] ins
  by_lowered _ _ (lowered.slot a0 a1 e b0) ins outs = plain_by e refl (slot_op i.op e) [] ins
  by_lowered _ _ (lowered.upcast class above e b0) ins outs = gives_right (Reference class) (Reference above) e ins outs
  by_lowered _ _ (lowered.retains u e b0) ins outs = plain_by e refl (retains_op i.op e) (u ∷ []) ins
  by_lowered _ _ (lowered.drops u e b0) ins outs = drops_right u e ins outs
  by_lowered _ _ (lowered.groups u us e b0) ins outs = plain_by e refl (groups_op i.op e) us ins
  by_lowered _ _ (lowered.chooses_plain a0 a1 a2 e b0 b1 b2 b3) ins outs = plain_by e refl (case_op i.op e) [] ins
  by_lowered _ _ (lowered.chooses_full u payload a2 a3 e b0 b1 b2 b3) ins outs = plain_by e refl (case_op i.op e) (payload ∷ []) ins
  by_lowered _ _ (lowered.member u a1 a2 e b0 b1) ins outs = plain_by e refl (member_op i.op e) (u ∷ []) ins
  by_lowered _ _ (lowered.member_address u a1 a2 e b0 b1) ins outs = member_address_right u e ins
  by_lowered _ _ (lowered.field_address class a1 a2 a3 e b0 b1 b2 b3) ins outs = plain_by e refl (field_address_op i.op e) (Reference class ∷ []) ins
  by_lowered _ _ (lowered.calls a0 a1 e b0 b1) ins outs = other e refl
  by_lowered _ _ (lowered.calls_out a0 a1 a2 e b0 b1) ins outs = other e refl
  by_lowered _ _ (lowered.removes u e) ins outs = other e refl
  by_lowered _ _ (lowered.loads u e is_done bare) ins outs = other e refl
  by_lowered _ _ (lowered.stores u e is_done bare) ins outs = other e refl
  by_lowered _ _ (lowered.loads_name how u done e named is_done load) ins outs = other e refl
  by_lowered _ _ (lowered.stores_name how u done e named is_done store) ins outs = other e refl
  by_lowered _ _ (lowered.destroys_name how u e named is_done) ins outs = other e refl

  by_owned : (xs ys : List Form) → OwnedRowForms m i xs ys → ins_are ≡ xs → outs_are ≡ ys → Right c
  by_owned _ _ (owned.also_lowered xs ys row) ins outs = by_lowered xs ys row ins outs
  by_owned _ _ (owned.gives u e bare) ins outs = gives_right u u e ins outs
  by_owned _ _ (owned.copies u e bare) ins outs = copies_right u u e ins outs
  by_owned _ _ (owned.loads u done e is_done what bare) ins outs = other e refl
  by_owned _ _ (owned.stores u done e is_done write bare) ins outs = other e refl
  by_owned _ _ (owned.destroys u e is_done bare) ins outs = other e refl
  by_owned _ _ (owned.members u us e group) ins outs = other e refl

pub are_typed_plain_rows : AreTypedPlainRows
are_typed_plain_rows m s l w frame rest f i ops c a of memory frame_is x plain_row is =
    by_owned m s l w frame rest f i ops c a frame_is x plain_row is _ _ (inst_typed m s l w frame rest f i ops a frame_is x).row refl refl
