-- What typing says of the operands and the result of a call.
use Rattle.std.proofs.Common.{◌≡◌, ◌∙◌, ℕ, List, [], ◌∷◌, true, false, Some, drop, map, refl, sym, ap}
use Rattle.std.specs.Prelude.{slice_get}
use Rattle.std.proofs.lemmas.Bool.{false≢true}
use Rattle.std.proofs.lemmas.Option.{same_Some}
use Rattle.count_machine_model.specs.holder_model.Effects.{effect_of}
use Rattle.count_machine_model.specs.holder_model.Frames.{has_any}
use Rattle.count_machine_model.specs.holder_model.declared.row_effect.RowEffect.TheVariants as row
use Rattle.count_machine_model.specs.ReadyCode.ReadyOps.{operands_of}
use Rattle.count_machine_model.specs.holder_model.RunTyping.Forms.{Form, OfFunction, OfValue, entry_forms, form_of, forms_of, given_shape}
use Rattle.count_machine_model.specs.holder_model.RunTyping.RowForms.{RowForms}
use Rattle.count_machine_model.specs.holder_model.RunTyping.RowForms as forms
use Rattle.holder_model_values.specs.RunValues.Shapes.{Integer, NoMember, Tuple}
use Rattle.sil_ast.specs.declared.function.Function.{Function}
use Rattle.sil_ast.specs.declared.inst.Inst.{Inst}
use Rattle.sil_ast.specs.declared.module.Module.{Module}
use Rattle.sil_ast.specs.declared.place.FuncId.{FuncId}
use Rattle.sil_ast.specs.declared.place.ValueId.{ValueId}
use Rattle.sil_types_declarations.specs.TypeDefinitions.Declarations.{declarations_of}

-- a function with a body is called, or one without
pub data CallsAt (m : Module) (ins outs : List Form) : Type 0 where
  inside : (g : FuncId) (callee : Function) → slice_get m.functions g.0 ≡ Some callee → has_any callee.blocks ≡ true
      → ins ≡ OfFunction g ∷ entry_forms (declarations_of m) callee → outs ≡ OfValue (given_shape (declarations_of m) callee) ∷ [] → CallsAt m ins outs
  outside : (g : FuncId) (callee : Function) (widths : List ℕ) → slice_get m.functions g.0 ≡ Some callee → has_any callee.blocks ≡ false
      → ins ≡ OfFunction g ∷ map (λ w. OfValue (Integer w)) widths → outs ≡ OfValue (Tuple NoMember) ∷ [] → CallsAt m ins outs

pub calls_at : (m : Module) (i : Inst) {ins outs : List Form} → RowForms m i ins outs → effect_of i.op ≡ row.CallsFunction → CallsAt m ins outs
calls_at m i (forms.calls g callee e there bodied) is = inside g callee there bodied refl refl
calls_at m i (forms.calls_out g callee widths e there bodiless) is = outside g callee widths there bodiless refl refl
calls_at m i (forms.looks form e) is = absurd (cc)
calls_at m i (forms.literal n w e number within) is = absurd (cc)
calls_at m i (forms.function g e function) is = absurd (cc)
calls_at m i (forms.computes b e named) is = absurd (cc)
calls_at m i (forms.traps text e told) is = absurd (cc)
calls_at m i (forms.object class e class_is) is = absurd (cc)
calls_at m i (forms.slot w s e shape) is = absurd (cc)
calls_at m i (forms.removes s e) is = absurd (cc)
calls_at m i (forms.upcast class above e below) is = absurd (cc)
calls_at m i (forms.retains s e bare) is = absurd (cc)
calls_at m i (forms.drops s e bare) is = absurd (cc)
calls_at m i (forms.loads s e done bare) is = absurd (cc)
calls_at m i (forms.stores s e done bare) is = absurd (cc)
calls_at m i (forms.loads_name w s o e named done load) is = absurd (cc)
calls_at m i (forms.stores_name w s o e named done store) is = absurd (cc)
calls_at m i (forms.destroys_name w s e named done) is = absurd (cc)
calls_at m i (forms.groups s ss e group) is = absurd (cc)
calls_at m i (forms.chooses_plain s k c e shape place there none) is = absurd (cc)
calls_at m i (forms.chooses_full s payload k c e shape place there has) is = absurd (cc)
calls_at m i (forms.member s part k e place there) is = absurd (cc)
calls_at m i (forms.member_address s part k e place there) is = absurd (cc)
calls_at m i (forms.field_address class told s k e named owner place there) is = absurd (cc)

-- the call of a function, by its operands
pub record CallOf (m : Module) (f : Function) (i : Inst) (c r : ValueId) (args : List ValueId) (g : FuncId) (callee : Function) : Type 0 where
  pub calls : effect_of i.op ≡ row.CallsFunction
  pub operands : operands_of i ≡ c ∷ args
  pub results : i.results ≡ r ∷ []
  pub names : form_of (declarations_of m) f c ≡ OfFunction g
  pub there : slice_get m.functions g.0 ≡ Some callee

module _ {m : Module} {f : Function} {i : Inst} {c r : ValueId} {args : List ValueId} {g : FuncId} {callee : Function} (call : CallOf m f i c r args g callee)
    (row_forms : RowForms m i (forms_of (declarations_of m) f (operands_of i)) (forms_of (declarations_of m) f i.results)) where
  -- the function that typing names is the one that is called
  same_callee : (h : FuncId) (body : Function) (others : List Form) → slice_get m.functions h.0 ≡ Some body
      → forms_of (declarations_of m) f (operands_of i) ≡ OfFunction h ∷ others → (body ≡ callee) × (forms_of (declarations_of m) f args ≡ others)
  same_callee h body others there ins =
      let operands : forms_of (declarations_of m) f (c ∷ args) ≡ OfFunction h ∷ others = ap (forms_of (declarations_of m) f) (sym call.operands) ∙ ins in
      let first : OfFunction g ≡ OfFunction h = sym call.names ∙ same_Some (form_of (declarations_of m) f c) (OfFunction h) (ap (λ fs. slice_get fs 0) operands) in
      let same : g ≡ h = cc in
      (same_Some body callee (sym there ∙ ap (λ k. slice_get m.functions k.0) (sym same) ∙ call.there), ap (drop 1) operands)

  result_form : (form : Form) → forms_of (declarations_of m) f i.results ≡ form ∷ [] → form_of (declarations_of m) f r ≡ form
  result_form form outs = same_Some (form_of (declarations_of m) f r) form (ap (λ fs. slice_get fs 0) (ap (forms_of (declarations_of m) f) (sym call.results) ∙ outs))

  -- of a function with a body
  pub record ArgumentsTaken : Type 0 where
    pub taken : forms_of (declarations_of m) f args ≡ entry_forms (declarations_of m) callee
    pub given : form_of (declarations_of m) f r ≡ OfValue (given_shape (declarations_of m) callee)

  pub arguments_taken : has_any callee.blocks ≡ true → ArgumentsTaken
  arguments_taken bodied = at (calls_at m i row_forms call.calls)
    where
      at : CallsAt m (forms_of (declarations_of m) f (operands_of i)) (forms_of (declarations_of m) f i.results) → ArgumentsTaken
      at (inside h body there has ins outs) =
          let same = same_callee h body (entry_forms (declarations_of m) body) there ins in
          record {
            taken = same.1 ∙ ap (entry_forms (declarations_of m)) same.0;
            given = result_form (OfValue (given_shape (declarations_of m) body)) outs ∙ ap (λ b. OfValue (given_shape (declarations_of m) b)) same.0;
          }
      at (outside h body widths there none ins outs) =
          let same = same_callee h body (map (λ w. OfValue (Integer w)) widths) there ins in
          absurd (false≢true (sym none ∙ ap (λ b. has_any b.blocks) same.0 ∙ bodied))

  -- of a function without one
  pub record IntegersTaken : Type 0 where
    pub widths : List ℕ
    pub taken : forms_of (declarations_of m) f args ≡ map (λ w. OfValue (Integer w)) widths
    pub given : form_of (declarations_of m) f r ≡ OfValue (Tuple NoMember)

  pub integers_taken : has_any callee.blocks ≡ false → IntegersTaken
  integers_taken bodiless = at (calls_at m i row_forms call.calls)
    where
      at : CallsAt m (forms_of (declarations_of m) f (operands_of i)) (forms_of (declarations_of m) f i.results) → IntegersTaken
      at (inside h body there has ins outs) =
          let same = same_callee h body (entry_forms (declarations_of m) body) there ins in
          absurd (false≢true (sym bodiless ∙ ap (λ b. has_any b.blocks) (sym same.0) ∙ has))
      at (outside h body widths there none ins outs) =
          let same = same_callee h body (map (λ w. OfValue (Integer w)) widths) there ins in
          record { widths = widths; taken = same.1; given = result_form (OfValue (Tuple NoMember)) outs }
