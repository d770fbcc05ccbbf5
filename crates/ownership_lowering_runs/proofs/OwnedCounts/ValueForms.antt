-- Rows whose operands or results are values, by the forms that typing says they have.
use Rattle.std.proofs.Common.{◌≡◌, List, [], ◌∷◌, map, refl, sym, ap, ◌∙◌, Bool, true, false}
use Rattle.std.proofs.lemmas.Bool.{false≢true}
use Rattle.numbered_form.specs.Lists.{Each}
use Rattle.sil_ast.specs.declared.inst.Inst.{Inst}
use Rattle.sil_ast.specs.declared.module.Module.{Module}
use Rattle.holder_model_values.specs.RunValues.Shapes.{Shape}
use Rattle.ownership_lowering_laws.specs.holder_model_typing.OwnedRunTyping.inner.OwnedRows as owned
use Rattle.ownership_lowering_laws.specs.holder_model_typing.OwnedRunTyping.inner.OwnedRows.{OwnedRowForms}
use Rattle.sil_verifier_runs.specs.holder_model.RunTyping.Forms.{Form, OfValue}
use Rattle.sil_verifier_runs.specs.holder_model.RunTyping.RowForms as lowered
use Rattle.sil_verifier_runs.specs.holder_model.RunTyping.RowForms.{RowForms}
use Rattle.sil_verifier_runs.specs.holder_model.Data.{Datum}
use Rattle.sil_verifier_runs.specs.holder_model.Effects.{effect_of}
use Rattle.sil_verifier_runs.specs.holder_model.declared.row_effect.RowEffect.{RowEffect}
use Rattle.sil_verifier_runs.specs.holder_model.declared.row_effect.RowEffect.TheVariants as row
use Rattle.ownership_lowering_laws.specs.holder_model_typing.TypedMemory.inner.Worlds.{World}
use Rattle.sil_verifier_runs.proofs.sil_verifier_frames.Typed.Data.{DataAre, read_value}
use Rattle.ownership_lowering_runs.proofs.OwnedCounts.TakenOwned.{IsValue}

abbrev pub IsValueForm : Form → Type 0
IsValueForm form = (s : Shape) × (form ≡ OfValue s)

value_forms : (ss : List Shape) → Each IsValueForm (map OfValue ss)
value_forms [] = tt
value_forms (s ∷ ss) = ((s, refl), value_forms ss)

-- rows whose operands are values, and whose results are
abbrev pub asks_values : RowEffect → Bool
asks_values row.GivesOperand = true
asks_values row.CopiesOperand = true
asks_values row.DropsOperand = true
asks_values row.Groups = true
asks_values row.ChoosesCase = true
asks_values row.GivesMember = true
asks_values row.GivesMembers = true
asks_values r = false

abbrev pub gives_values : RowEffect → Bool
gives_values row.GivesOperand = true
gives_values row.CopiesOperand = true
gives_values row.MakesObject = true
gives_values row.LoadsValue = true
gives_values row.LoadsName = true
gives_values row.Groups = true
gives_values row.ChoosesCase = true
gives_values row.GivesMember = true
gives_values row.GivesMembers = true
gives_values r = false

other_row : {P : Type 0} (test : RowEffect → Bool) (o e : RowEffect) → o ≡ e → test e ≡ false → test o ≡ true → P
other_row test o e is none h = absurd (false≢true (sym none ∙ sym (ap test is) ∙ h))

module _ (m : Module) (i : Inst) where
  lowered_in : (ins outs : List Form) → RowForms m i ins outs → asks_values (effect_of i.op) ≡ true → Each IsValueForm ins
  lowered_in _ _ (lowered.looks form is) h = other_row asks_values (effect_of i.op) row.NoEffect is refl h
  lowered_in _ _ (lowered.literal n w is number within) h = tt
  lowered_in _ _ (lowered.function g is function) h = tt
  lowered_in _ _ (lowered.computes b is named) h = other_row asks_values (effect_of i.op) row.Computes is refl h
  lowered_in _ _ (lowered.traps text is named) h = other_row asks_values (effect_of i.op) row.TrapsWhereSet is refl h
  lowered_in _ _ (lowered.object class is declared) h = tt
  lowered_in _ _ (lowered.slot w s is shape) h = tt
  lowered_in _ _ (lowered.removes s is) h = other_row asks_values (effect_of i.op) row.RemovesSlot is refl h
  lowered_in _ _ (lowered.upcast class above is below) h = ((_, refl), tt)
  lowered_in _ _ (lowered.retains s is bare) h = ((s, refl), tt)
  lowered_in _ _ (lowered.drops s is bare) h = ((s, refl), tt)
  lowered_in _ _ (lowered.loads s is done bare) h = other_row asks_values (effect_of i.op) row.LoadsValue is refl h
  lowered_in _ _ (lowered.stores s is done bare) h = other_row asks_values (effect_of i.op) row.StoresValue is refl h
  lowered_in _ _ (lowered.loads_name w s o is named done load) h = other_row asks_values (effect_of i.op) row.LoadsName is refl h
  lowered_in _ _ (lowered.stores_name w s o is named done store) h = other_row asks_values (effect_of i.op) row.StoresValue is refl h
  lowered_in _ _ (lowered.destroys_name w s is named done) h = other_row asks_values (effect_of i.op) row.DestroysPlace is refl h
  lowered_in _ _ (lowered.groups s ss is group) h = value_forms ss
  lowered_in _ _ (lowered.chooses_plain s k c is cases_are number there none) h = tt
  lowered_in _ _ (lowered.chooses_full s payload k c is cases_are number there some) h = ((payload, refl), tt)
  lowered_in _ _ (lowered.member s part k is number there) h = ((s, refl), tt)
  lowered_in _ _ (lowered.member_address s part k is number there) h = other_row asks_values (effect_of i.op) row.AddressesMember is refl h
  lowered_in _ _ (lowered.field_address class named s k is member owner number there) h = other_row asks_values (effect_of i.op) row.AddressesField is refl h
  lowered_in _ _ (lowered.calls g callee is there bodied) h = other_row asks_values (effect_of i.op) row.CallsFunction is refl h
  lowered_in _ _ (lowered.calls_out g callee widths is there bodiless) h = other_row asks_values (effect_of i.op) row.CallsFunction is refl h

  pub forms_in : (ins outs : List Form) → OwnedRowForms m i ins outs → asks_values (effect_of i.op) ≡ true → Each IsValueForm ins
  forms_in _ _ (owned.also_lowered ins outs forms) h = lowered_in ins outs forms h
  forms_in _ _ (owned.gives s is bare) h = ((s, refl), tt)
  forms_in _ _ (owned.copies s is bare) h = ((s, refl), tt)
  forms_in _ _ (owned.loads s o is done reading bare) h = other_row asks_values (effect_of i.op) row.LoadsValue is refl h
  forms_in _ _ (owned.stores s o is done write bare) h = other_row asks_values (effect_of i.op) row.StoresValue is refl h
  forms_in _ _ (owned.destroys s is done bare) h = other_row asks_values (effect_of i.op) row.DestroysPlace is refl h
  forms_in _ _ (owned.members s ss is group) h = ((s, refl), tt)

  lowered_out : (ins outs : List Form) → RowForms m i ins outs → gives_values (effect_of i.op) ≡ true → Each IsValueForm outs
  lowered_out _ _ (lowered.looks form is) h = tt
  lowered_out _ _ (lowered.literal n w is number within) h = ((_, refl), tt)
  lowered_out _ _ (lowered.function g is function) h = other_row gives_values (effect_of i.op) row.GivesFunction is refl h
  lowered_out _ _ (lowered.computes b is named) h = ((_, refl), tt)
  lowered_out _ _ (lowered.traps text is named) h = tt
  lowered_out _ _ (lowered.object class is declared) h = ((_, refl), tt)
  lowered_out _ _ (lowered.slot w s is shape) h = other_row gives_values (effect_of i.op) row.MakesSlot is refl h
  lowered_out _ _ (lowered.removes s is) h = tt
  lowered_out _ _ (lowered.upcast class above is below) h = ((_, refl), tt)
  lowered_out _ _ (lowered.retains s is bare) h = tt
  lowered_out _ _ (lowered.drops s is bare) h = tt
  lowered_out _ _ (lowered.loads s is done bare) h = ((_, refl), tt)
  lowered_out _ _ (lowered.stores s is done bare) h = tt
  lowered_out _ _ (lowered.loads_name w s o is named done load) h = ((_, refl), tt)
  lowered_out _ _ (lowered.stores_name w s o is named done store) h = tt
  lowered_out _ _ (lowered.destroys_name w s is named done) h = tt
  lowered_out _ _ (lowered.groups s ss is group) h = ((_, refl), tt)
  lowered_out _ _ (lowered.chooses_plain s k c is cases_are number there none) h = ((_, refl), tt)
  lowered_out _ _ (lowered.chooses_full s payload k c is cases_are number there some) h = ((_, refl), tt)
  lowered_out _ _ (lowered.member s part k is number there) h = ((_, refl), tt)
  lowered_out _ _ (lowered.member_address s part k is number there) h = other_row gives_values (effect_of i.op) row.AddressesMember is refl h
  lowered_out _ _ (lowered.field_address class named s k is member owner number there) h = other_row gives_values (effect_of i.op) row.AddressesField is refl h
  lowered_out _ _ (lowered.calls g callee is there bodied) h = other_row gives_values (effect_of i.op) row.CallsFunction is refl h
  lowered_out _ _ (lowered.calls_out g callee widths is there bodiless) h = other_row gives_values (effect_of i.op) row.CallsFunction is refl h

  pub forms_out : (ins outs : List Form) → OwnedRowForms m i ins outs → gives_values (effect_of i.op) ≡ true → Each IsValueForm outs
  forms_out _ _ (owned.also_lowered ins outs forms) h = lowered_out ins outs forms h
  forms_out _ _ (owned.gives s is bare) h = ((s, refl), tt)
  forms_out _ _ (owned.copies s is bare) h = ((s, refl), tt)
  forms_out _ _ (owned.loads s o is done reading bare) h = ((s, refl), tt)
  forms_out _ _ (owned.stores s o is done write bare) h = tt
  forms_out _ _ (owned.destroys s is done bare) h = tt
  forms_out _ _ (owned.members s ss is group) h = value_forms ss

pub values_of_forms : (m : Module) (w : World) (forms : List Form) (xs : List Datum) → DataAre m w forms xs → Each IsValueForm forms → Each IsValue xs
values_of_forms m w _ _ DataAre.none are = tt
values_of_forms m w _ _ (DataAre.more form x forms xs is rest) are =
    let v = read_value m w is are.0.0 are.0.1 in ((v.0, v.1), values_of_forms m w forms xs rest are.1)
