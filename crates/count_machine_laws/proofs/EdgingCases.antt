-- Which case a value of an enum is, and what its edge brings.
use Rattle.std.proofs.Common.{◌≡◌, ◌==◌, ◌∙◌, ℕ, List, [], ◌∷◌, Bool, true, false, Option, Some, None, cond, drop, length, map, refl, sym, ap, subst, take, arith}
use Rattle.std.specs.Prelude.{slice_get}
use Rattle.std.proofs.lemmas.Bool.{cond-false, cond-true}
use Rattle.std.proofs.lemmas.Option.{same_Some, slice_get_within}
use Rattle.count_machine_model.specs.holder_model.Data.{ValueOf}
use Rattle.count_machine_model.specs.holder_model.Edges.{case_edge, edge_for, is_default, payload_data, switched_data}
use Rattle.sil_cfg_items.specs.Items.{arg_value}
use Rattle.sil_cfg_items.specs.Parts.{args_behind}
use Rattle.count_machine_model.specs.MachineSteps.Operands.{first_leaf}
use Rattle.count_machine_model.specs.declared.ready_code.block.ReadyCase.{ReadyCase}
use Rattle.count_machine_model.specs.ReadyCode.Layout.{size_of}
use Rattle.count_machine_model.specs.ReadyCode.ReadyEnds.{AreReadyCases, ready_case}
use Rattle.count_machine_model.specs.holder_model.RunTyping.EndForms.{CaseForms, TakenCase, arguments_at, payload_forms}
use Rattle.count_machine_model.specs.holder_model.RunTyping.Forms.{OfValue, form_of, forms_of}
use Rattle.count_machine_model.specs.holder_model.RunTyping.RowForms.{IsEnum, enum}
use Rattle.holder_model_values.specs.RunValues.Layers.{CaseLayer}
use Rattle.holder_model_values.specs.RunValues.Leaves.{leaves_of}
use Rattle.holder_model_values.specs.RunValues.Shapes.{Enum, Shape, case_shapes}
use Rattle.holder_model_values.specs.RunValues.Values.{Case, Full, Value}
use Rattle.holder_model_values.specs.declared.run_values.leaf.Leaf.TheVariants as leaf
use Rattle.sil_ast.specs.declared.function.Function.{Function}
use Rattle.sil_ast.specs.declared.inst.Edge.{Edge}
use Rattle.sil_ast.specs.declared.inst.Inst.{Inst}
use Rattle.sil_ast.specs.declared.place.ValueId.{ValueId}
use Rattle.sil_types_declarations.specs.TypeDefinitions.Declarations.{Declarations}
use Rattle.holder_model_values.specs.ValueParts.inner.Choices.{IsChoice}
use Rattle.holder_model_values.specs.ValueParts.inner.Suits.{ClassTest, suits}
use Rattle.holder_model_values.proofs.ValueParts.Cases.{case_leaves, full_leaves, payload_read, suits_choice}
use Rattle.holder_model_values.proofs.ValueParts.Suiting.{suits_fits}
use Rattle.count_machine_laws.proofs.DeinitSteps.{one_of}
use Rattle.count_machine_laws.proofs.LayoutsLists.{there_below}

-- the payload of a value's case
pub data PayloadIs (test : ClassTest) (s : Shape) (x : Value) : Option Shape → Type 0 where
  none : payload_data x ≡ [] → PayloadIs test s x None
  some : (t : Shape) (y : Value) → suits test t y ≡ true → payload_data x ≡ ValueOf y ∷ [] → take (size_of t) (drop 1 (leaves_of s x)) ≡ leaves_of t y
      → PayloadIs test s x (Some t)

pub record CaseIs (test : ClassTest) (s : Shape) (x : Value) : Type 0 where
  pub place : ℕ
  pub case_ : CaseLayer Shape
  pub there : slice_get (case_shapes s) place ≡ Some case_
  pub tag : first_leaf (leaves_of s x) ≡ leaf.Tag place
  pub chosen : (edges : List Edge) → case_edge s edges x ≡ edge_for s edges place
  pub payload : PayloadIs test s x case_.payload

case_choice : (test : ClassTest) (s : Shape) (x : Value) → IsChoice test (case_shapes s) x → CaseIs test s x
case_choice test s _ (IsChoice.plain k c there bare) = record {
  place = k;
  case_ = c;
  there = there;
  tag = ap first_leaf (case_leaves s k c there bare);
  chosen = λ edges. refl;
  payload = subst (PayloadIs test s (Case k)) (sym bare) (none refl);
}
case_choice test s _ (IsChoice.full k y c t there payload good) = record {
  place = k;
  case_ = c;
  there = there;
  tag = ap first_leaf (full_leaves s k c t y there payload (suits_fits test t y good));
  chosen = λ edges. refl;
  payload = subst (PayloadIs test s (Full k y)) (sym payload) (some t y good refl (payload_read s k c t y there payload (suits_fits test t y good)));
}

-- a value of an enum is one of its cases
pub case_is : (test : ClassTest) (s : Shape) (x : Value) → IsEnum s → suits test s x ≡ true → CaseIs test s x
case_is test _ x (enum name cs) good = case_choice test (Enum name cs) x (suits_choice test name cs x good)

-- what the edge of a case brings to its block: nothing, or the payload
pub data Brings (d : Declarations) (f : Function) (test : ClassTest) (s : Shape) (x : Value) (e : Edge) : Type 0 where
  nothing : arguments_at f e ≡ [] → switched_data e (length (args_behind f (Some e))) x ≡ [] → Brings d f test s x e
  payload : (w : ValueId) (t : Shape) (y : Value) → arguments_at f e ≡ w ∷ [] → form_of d f w ≡ OfValue t → suits test t y ≡ true
      → take (size_of t) (drop 1 (leaves_of s x)) ≡ leaves_of t y → switched_data e (length (args_behind f (Some e))) x ≡ ValueOf y ∷ [] → Brings d f test s x e

no_values : {A B : Type 0} (f : A → B) (xs : List A) → map f xs ≡ [] → xs ≡ []
no_values f [] e = refl
no_values f (x ∷ xs) e = absurd (omega (arith, ap length e))

module _ (d : Declarations) (f : Function) (test : ClassTest) (s : Shape) (x : Value) (e : Edge) where
  with_payload : (p : Option Shape) → PayloadIs test s x p → forms_of d f (arguments_at f e) ≡ payload_forms p → is_default e ≡ false → Brings d f test s x e
  with_payload _ (none is) forms named =
      nothing (no_values (form_of d f) (arguments_at f e) forms) (cond-false (is_default e) (cond (length (args_behind f (Some e)) == 0) [] (ValueOf x ∷ [])) (payload_data x) named ∙ is)
  with_payload _ (some t y good is read) forms named =
      let one = one_of (form_of d f) (arguments_at f e) (OfValue t) forms in
      payload one.0 t y one.1 one.2 good read (cond-false (is_default e) (cond (length (args_behind f (Some e)) == 0) [] (ValueOf x ∷ [])) (payload_data x) named ∙ is)

  pub brings : (c : CaseLayer Shape) → PayloadIs test s x c.payload → CaseForms d f c e → Brings d f test s x e
  brings c is forms = at (is_default e) refl
    where
      at : (b : Bool) → is_default e ≡ b → Brings d f test s x e
      at false named = with_payload c.payload is (forms.payload named) named
      at true default =
          nothing (ap (map arg_value) (forms.nothing default))
          (cond-true (is_default e) (cond (length (args_behind f (Some e)) == 0) [] (ValueOf x ∷ [])) (payload_data x) default
          ∙ ap (λ args. cond (length args == 0) [] (ValueOf x ∷ [])) (forms.nothing default))

-- the ready case of a value's case is that of the edge that it takes
pub ready_there : (d : Declarations) (f : Function) (i : Inst) (s : Shape) (ready : List ReadyCase) (k : ℕ) (c : CaseLayer Shape) → AreReadyCases d f i s ready
    → slice_get (case_shapes s) k ≡ Some c → (taken : TakenCase d f i s k c) → slice_get ready k ≡ Some (ready_case d f taken.to)
ready_there d f i s ready k c are there taken =
    let found = there_below ready k (omega (arith, slice_get_within (case_shapes s) k c there, are.all)) in
    let each = are.each k found.0 found.1 in
    let same_place : each.0 ≡ taken.edge = same_Some each.0 taken.edge (sym each.2 ∙ taken.chosen) in
    let same_edge : each.1 ≡ taken.to = same_Some each.1 taken.to (sym each.3 ∙ ap (slice_get i.edges) same_place ∙ taken.there) in
    found.1 ∙ ap (λ y. Some y) (each.4 ∙ ap (ready_case d f) same_edge)
