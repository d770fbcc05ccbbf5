-- Tracked entries go along with the trail. What is handed on as a whole is a value.
use Rattle.std.proofs.Common.{◌≡◌, inl, inr, List, [], ◌∷◌, refl, sym, ap, ◌∙◌, Bool, true, false}
use Rattle.std.specs.List.{AllZip}
use Rattle.std.proofs.lemmas.Bool.{false≢true}
use Rattle.sil_ast.specs.declared.inst.Inst.{Inst}
use Rattle.sil_ast.specs.declared.module.Module.{Module}
use Rattle.holder_model_values.specs.RunValues.Shapes.{Shape, Reference}
use Rattle.sil_verifier_frames.specs.holder_model.RunTyping.Forms.{Form, OfValue}
use Rattle.sil_verifier_frames.specs.holder_model.RunTyping.RowForms as lowered
use Rattle.sil_verifier_frames.specs.holder_model.RunTyping.RowForms.{RowForms}
use Rattle.sil_verifier_frames.specs.holder_model_typing.OwnedRunTyping.inner.OwnedRows as owned
use Rattle.sil_verifier_frames.specs.holder_model_typing.OwnedRunTyping.inner.OwnedRows.{OwnedRowForms}
use Rattle.sil_verifier_frames.specs.holder_model_typing.TypedMemory.inner.Worlds.{DatumIs, World}
use Rattle.sil_verifier_frames.proofs.Typed.Data.{read_value}
use Rattle.sil_verifier_frames.specs.inner.Tracked.TrackedStates as tracked
use Rattle.sil_verifier_frames.specs.holder_model.Data.{Datum}
use Rattle.sil_verifier_frames.specs.holder_model.Effects.{effect_of}
use Rattle.sil_verifier_frames.specs.holder_model.Frames.{Entry, Gone, Held, Lent, Plain, entry_at}
use Rattle.sil_verifier_frames.specs.holder_model.declared.row_effect.RowEffect.{RowEffect}
use Rattle.sil_verifier_frames.specs.holder_model.declared.row_effect.RowEffect.TheVariants as row
use Rattle.sil_verifier_runs.specs.inner.Guarded.Given.{AreTrackedAlong, HandTypedValues}
use Rattle.sil_verifier_runs.specs.inner.Guarded.Guards.{IsThere}
use Rattle.sil_verifier_runs.specs.inner.Guarded.Rows.{HandsValues}

-- ---- entries

there : (e : Entry) → tracked.IsThere e → IsThere e
there Gone h gone = h
there (Held x) h gone = absurd (cc)
there (Lent x) h gone = absurd (cc)
there (Plain x) h gone = absurd (cc)

pub tracked_along : AreTrackedAlong
tracked_along d f frame along = record {
  tracked = along.tracked;
  others = λ v not_owned not_scope made.
      there (entry_at frame.entries v) (along.others v (record { not_owned = not_owned; not_scope = not_scope }) made);
}

-- ---- operands

-- the row hands on or copies its operand as a whole
abbrev is_handing : RowEffect → Bool
is_handing row.GivesOperand = true
is_handing row.CopiesOperand = true
is_handing _ = false

module _ (m : Module) (w : World) (i : Inst) where
  another : (xs : List Datum) (r : RowEffect) → effect_of i.op ≡ r → is_handing r ≡ false → HandsValues i xs
  another xs r is none x (inl gives) same = absurd (false≢true (sym none ∙ ap is_handing (sym is ∙ gives)))
  another xs r is none x (inr copies) same = absurd (false≢true (sym none ∙ ap is_handing (sym is ∙ copies)))

  a_value : (s : Shape) (xs : List Datum) → AllZip (DatumIs m w) (OfValue s ∷ []) xs → HandsValues i xs
  a_value s [] typed x how same = absurd typed
  a_value s (y ∷ []) typed x how same =
      let v = read_value m w typed.0 s refl in
      let alike : y ≡ x = cc in
      (v.0, sym alike ∙ v.1)
  a_value s (y ∷ z ∷ xs) typed x how same = absurd typed.1

  by_lowered : {ins outs : List Form} → RowForms m i ins outs → (xs : List Datum) → AllZip (DatumIs m w) ins xs → HandsValues i xs
  by_lowered (lowered.looks form is) xs typed = another xs _ is refl
  by_lowered (lowered.literal n width is number residue) xs typed = another xs _ is refl
  by_lowered (lowered.function g is function) xs typed = another xs _ is refl
  by_lowered (lowered.computes b is named) xs typed = another xs _ is refl
  by_lowered (lowered.traps text is told) xs typed = another xs _ is refl
  by_lowered (lowered.object class is declared) xs typed = another xs _ is refl
  by_lowered (lowered.slot how s is shape) xs typed = another xs _ is refl
  by_lowered (lowered.removes s is) xs typed = another xs _ is refl
  by_lowered (lowered.upcast class above is below) xs typed = a_value (Reference class) xs typed
  by_lowered (lowered.retains s is bare) xs typed = another xs _ is refl
  by_lowered (lowered.drops s is bare) xs typed = another xs _ is refl
  by_lowered (lowered.loads s is done bare) xs typed = another xs _ is refl
  by_lowered (lowered.stores s is done bare) xs typed = another xs _ is refl
  by_lowered (lowered.loads_name how s o is named done _) xs typed = another xs _ is refl
  by_lowered (lowered.stores_name how s o is named done write) xs typed = another xs _ is refl
  by_lowered (lowered.destroys_name how s is named done) xs typed = another xs _ is refl
  by_lowered (lowered.groups s ss is group) xs typed = another xs _ is refl
  by_lowered (lowered.chooses_plain s k c is of_enum at there no_payload) xs typed = another xs _ is refl
  by_lowered (lowered.chooses_full s payload k c is of_enum at there has) xs typed = another xs _ is refl
  by_lowered (lowered.member s part k is number there) xs typed = another xs _ is refl
  by_lowered (lowered.member_address s part k is number there) xs typed = another xs _ is refl
  by_lowered (lowered.field_address class named s k is member owner number there) xs typed = another xs _ is refl
  by_lowered (lowered.calls g callee is there bodied) xs typed = another xs _ is refl
  by_lowered (lowered.calls_out g callee widths is there bodiless) xs typed = another xs _ is refl

  by_row : {ins outs : List Form} → OwnedRowForms m i ins outs → (xs : List Datum) → AllZip (DatumIs m w) ins xs → HandsValues i xs
  by_row (owned.also_lowered ins outs forms) xs typed = by_lowered forms xs typed
  by_row (owned.gives s is bare) xs typed = a_value s xs typed
  by_row (owned.copies s is bare) xs typed = a_value s xs typed
  by_row (owned.loads s o is done _ bare) xs typed = another xs _ is refl
  by_row (owned.stores s o is done write bare) xs typed = another xs _ is refl
  by_row (owned.destroys s is done bare) xs typed = another xs _ is refl
  by_row (owned.members s ss is group) xs typed = another xs _ is refl

pub hand_typed_values : HandTypedValues
hand_typed_values m w i ins outs xs row typed = by_row m w i row xs typed
