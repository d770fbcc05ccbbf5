-- Rows whose operands are values, and which take no unfinished object: so their operands name whole objects alone.
use Rattle.std.proofs.Common.{◌≡◌, ℕ, List, [], ◌∷◌, map, refl, sym, ap, ◌∙◌, Bool, true, false, Some}
use Rattle.std.proofs.lemmas.Bool.{false≢true}
use Rattle.instruction_table.specs.Forms.{is_terminator}
use Rattle.instruction_table.specs.declared.op.Op.{Op}
use Rattle.instruction_table.specs.declared.op.Op.TheVariants as op
use Rattle.sil_verifier_frames.specs.holder_model.Data.{Datum}
use Rattle.sil_verifier_frames.specs.holder_model.Effects.{effect_of}
use Rattle.sil_verifier_frames.specs.holder_model.Frames.{Entry}
use Rattle.sil_verifier_frames.specs.holder_model.declared.row_effect.RowEffect.{RowEffect}
use Rattle.sil_verifier_frames.specs.holder_model.declared.row_effect.RowEffect.TheVariants as row
use Rattle.sil_verifier_frames.specs.sil_verifier_values.inner.Known.{IsAcceptedBody}
use Rattle.sil_verifier_frames.specs.holder_model.RunTyping.Forms.{Form, OfValue, form_of}
use Rattle.sil_verifier_frames.proofs.sil_verifier_values.Accepted.{in_ownership_form, well_typed}
use Rattle.sil_verifier_frames.specs.holder_model_laws.HolderLaws.inner.Built.FrameObjects.{Names}
use Rattle.sil_cfg_items.specs.Items.{item_taken}
use Rattle.sil_cfg_items.specs.Parts.{inst_at}
use Rattle.sil_cfg_items.specs.declared.taken.Taken.{Taken}
use Rattle.sil_verifier_frames.specs.holder_model_typing.OwnedRunTyping.inner.OwnedRows.{OwnedRowForms}
use Rattle.sil_verifier_frames.proofs.holder_model_typing.OwnedRunTyping.OwnedInsts.{owned_inst}
use Rattle.holder_model_values.specs.RunValues.Memory.{Memory}
use Rattle.sil_ast.specs.declared.function.Function.{Function}
use Rattle.sil_ast.specs.declared.inst.Inst.{Inst}
use Rattle.sil_ast.specs.declared.module.Module.{Module}
use Rattle.sil_ast.specs.declared.place.PointId.{PointId}
use Rattle.sil_cfg.specs.declared.item.Item.TheVariants as item
use Rattle.sil_types_declarations.specs.TypeDefinitions.Declarations.{declarations_of}
use Rattle.sil_verifier_frames.specs.inner.Typed.TypedStates.{EntriesAre}
use Rattle.sil_verifier_frames.specs.holder_model_typing.TypedMemory.inner.Worlds.{World}
use Rattle.sil_verifier_frames.proofs.Typed.Data.{read_value}
use Rattle.sil_verifier_runs.proofs.Built.EntriesNamed.{AreNamed}
use Rattle.sil_verifier_runs.proofs.Built.GoesOn.{TakesWhole}
use Rattle.sil_verifier_runs.proofs.Built.Reading.{named_datum}
use Rattle.sil_verifier_runs.proofs.Built.RowsSay.{OneValue, Says, row_says}
use Rattle.sil_verifier_runs.proofs.Built.WholeOperands.{IsValueOf}

-- ---- rows

-- the row has one operand, a value
abbrev pub has_value : RowEffect → Bool
has_value row.GivesOperand = true
has_value row.CopiesOperand = true
has_value row.RetainsOperand = true
has_value row.DropsOperand = true
has_value _ = false

-- the row takes no unfinished object
abbrev pub takes_whole : RowEffect → Bool
takes_whole row.CopiesOperand = true
takes_whole row.DropsOperand = true
takes_whole row.StoresValue = true
takes_whole row.Groups = true
takes_whole row.ChoosesCase = true
takes_whole row.GivesMember = true
takes_whole row.GivesMembers = true
takes_whole row.CallsFunction = true
takes_whole _ = false

pub whole_row : (o : Op) → takes_whole (effect_of o) ≡ true → TakesWhole o
whole_row op.CopyValue e = record { keeps = refl; object = refl; borrow = refl }
whole_row op.DestroyValue e = record { keeps = refl; object = refl; borrow = refl }
whole_row op.Store e = record { keeps = refl; object = refl; borrow = refl }
whole_row op.StoreWeak e = record { keeps = refl; object = refl; borrow = refl }
whole_row op.StoreUnowned e = record { keeps = refl; object = refl; borrow = refl }
whole_row op.Struct e = record { keeps = refl; object = refl; borrow = refl }
whole_row op.Tuple e = record { keeps = refl; object = refl; borrow = refl }
whole_row op.Enum e = record { keeps = refl; object = refl; borrow = refl }
whole_row op.StructExtract e = record { keeps = refl; object = refl; borrow = refl }
whole_row op.TupleExtract e = record { keeps = refl; object = refl; borrow = refl }
whole_row op.DestructureStruct e = record { keeps = refl; object = refl; borrow = refl }
whole_row op.DestructureTuple e = record { keeps = refl; object = refl; borrow = refl }
whole_row op.Apply e = record { keeps = refl; object = refl; borrow = refl }
whole_row op.StrongRelease e = record { keeps = refl; object = refl; borrow = refl }
whole_row op.ReleaseValue e = record { keeps = refl; object = refl; borrow = refl }
whole_row _ e = absurd (false≢true e)

-- nor does a terminator
pub ending_whole : (o : Op) → is_terminator o ≡ true → TakesWhole o
ending_whole op.Br e = record { keeps = refl; object = refl; borrow = refl }
ending_whole op.CondBr e = record { keeps = refl; object = refl; borrow = refl }
ending_whole op.SwitchEnum e = record { keeps = refl; object = refl; borrow = refl }
ending_whole op.Return e = record { keeps = refl; object = refl; borrow = refl }
ending_whole op.Unreachable e = record { keeps = refl; object = refl; borrow = refl }
ending_whole _ e = absurd (false≢true e)

-- the operand of a row that has one value has the form of a value
one_value : (m : Module) (x : Inst) → has_value (effect_of x.op) ≡ true → (xs ys : List Form) → OwnedRowForms m x xs ys → OneValue xs
one_value m x has xs ys r = by (effect_of x.op) has (row_says m x xs ys r)
  where
    by : (e : RowEffect) → has_value e ≡ true → Says e xs ys → OneValue xs
    by row.GivesOperand h says = says
    by row.CopiesOperand h says = says
    by row.RetainsOperand h says = says
    by row.DropsOperand h says = says
    by _ h says = absurd (false≢true h)

-- ---- the operand

module _ (m : Module) (n : ℕ) (f : Function) (a : IsAcceptedBody m n f) (w : World) (memory : Memory) (entries left : List Entry) (typed : EntriesAre m w f entries)
    (p : PointId) (x : Inst) (is : inst_at f p ≡ Some x) where
  -- what it takes, where one datum was given
  pub record TakesOne (z : Datum) : Type 0 where
    pub taken : Taken
    pub alone : item_taken f (item.Inst p) ≡ taken ∷ []
    pub names : Names entries taken.value z

  pub takes_one : (z : Datum) → AreNamed memory entries left (item_taken f (item.Inst p)) (z ∷ []) → TakesOne z
  takes_one z named = at (item_taken f (item.Inst p)) refl named
    where
      at : (ts : List Taken) → item_taken f (item.Inst p) ≡ ts → AreNamed memory entries left ts (z ∷ []) → TakesOne z
      at [] e h = absurd h
      at (t ∷ []) e h = record { taken = t; alone = e; names = h.0.0 }
      at (t ∷ u ∷ ts) e h = absurd h.1

  -- it is a value
  pub one_given : has_value (effect_of x.op) ≡ true → (z : Datum) → AreNamed memory entries left (item_taken f (item.Inst p)) (z ∷ []) → IsValueOf z
  one_given has z named =
      let one = takes_one z named in
      let inst = owned_inst m (well_typed m a.verified) n f a.body.there p x is (in_ownership_form m n f a) in
      let value = one_value m x has _ _ inst.row in
      let forms : form_of (declarations_of m) f one.taken.value ∷ [] ≡ OfValue value.0 ∷ [] =
      ap (map (form_of (declarations_of m) f)) (ap (map (λ (t : Taken). t.value)) (sym one.alone) ∙ inst.takes) ∙ value.1 in
      let form : form_of (declarations_of m) f one.taken.value ≡ OfValue value.0 = cc in
      let v = read_value m w (named_datum m w f entries typed one.taken.value z one.names) value.0 form in
      (v.0, v.1)
