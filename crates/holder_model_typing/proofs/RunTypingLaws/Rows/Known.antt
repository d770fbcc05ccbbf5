-- All that is known of an instruction of a typed module, by its row: what typing, numbered form and the form of its function say of it.
use Rattle.std.proofs.Common.{◌≡◌, ℕ, suc, List, [], ◌∷◌, length, map, refl, sym, ap, subst, arith, Bool, true, false, not, Option, Some}
use Rattle.std.specs.Prelude.{◌==◌, ◌&&◌, IfSome, IsTrue, is_some, slice_get, unwrap_or}
use Rattle.std.specs.List.{list_all}
use Rattle.std.proofs.lemmas.Bool.{and_parts, eqb-true, not-false, or_parts}
use Rattle.std.proofs.lemmas.List.{nil_from_length}
use Rattle.instruction_table.specs.Forms.{bare_operands_of, forms_of as forms_of_row, is_terminator, results_of}
use Rattle.instruction_table.specs.declared.entries.Results.TheVariants.{NoResult, OneResult, ResultList}
use Rattle.instruction_table.specs.declared.op.Op.{Op}
use Rattle.holder_model.specs.sil_cfg_items.Parts.{inst_at}
use Rattle.numbered_form.specs.inner.Literals.{is_number_of}
use Rattle.numbered_form.specs.inner.Parts.{IsInside, has_operands, is_callee, is_member, is_number, is_signature, is_text, is_type, may_have, row_has}
use Rattle.numbered_form.specs.inner.Types.{HasInstTypes}
use Rattle.sil_ast.specs.declared.function.Form.{Form}
use Rattle.sil_ast.specs.declared.function.Form.TheVariants.{Ossa, Lowered, External}
use Rattle.sil_ast.specs.declared.function.Function.{Function}
use Rattle.sil_ast.specs.declared.inst.Inst.{Inst}
use Rattle.sil_ast.specs.declared.module.Module.{Module}
use Rattle.sil_ast.specs.declared.operands.Operand.{Operand}
use Rattle.sil_ast.specs.declared.place.PointId.{PointId}
use Rattle.sil_ast.specs.declared.type_name.TypeName.{TypeName}
use Rattle.numbered_form.specs.PointChecks.Points.{IsAt}
use Rattle.holder_model.specs.sil_types_declarations.TypeDefinitions.Declarations.{declarations_of}
use Rattle.holder_model.specs.sil_types_declarations.TypeDefinitions.Rules.{is_misplaced_at, is_misplaced_value}
use Rattle.holder_model.specs.sil_types_declarations.TypeDefinitions.Mentions.{standing_in}
use Rattle.holder_model.specs.sil_types.Typing.FormRules.{is_annotated_at, is_of_form, may_stand_lowered, may_stand_owned}
use Rattle.holder_model.specs.sil_types.Typing.OperandTypes.{are_as_asked, are_as_asked_by, are_as_written, edge_is_as_written}
use Rattle.holder_model.specs.sil_types.Typing.ResultCounts.{is_count_by, is_count_of}
use Rattle.holder_model.specs.sil_types.Typing.RowTypes.{MadeTypes, given_by, keeps_row, row_types}
use Rattle.holder_model.specs.sil_types.Typing.Values.{value_types}
use Rattle.holder_model.specs.RunTyping.Forms.{form_by, forms_of}
use Rattle.holder_model_typing.specs.RunTypingLaws.inner.WellTyped.{IsWellTyped}
use Rattle.holder_model_typing.proofs.RunTypingLaws.Rows.Forms.{list_forms, one_form, typed_form}
use Rattle.holder_model_typing.proofs.RunTypingLaws.Rows.Mentioned.{operand_placed, type_placed}
use Rattle.holder_model_typing.proofs.RunTypingLaws.Rows.Points.{counted, has_literals, has_types, is_at, is_inside, keeps_form, operands_typed, results_counted}

-- the row may stand in a function of this form
abbrev pub stands_in : Form → Op → Inst → Bool
stands_in Ossa o i = may_stand_owned (forms_of_row o)
stands_in Lowered o i = may_stand_lowered (forms_of_row o) i
stands_in External o i = true

pub record Known (m : Module) (f : Function) (i : Inst) (o : Op) : Type 0 where
  pub op : i.op ≡ o
  pub inside : is_terminator o ≡ false
  pub keeps : is_some (given_by o (declarations_of m) i) ≡ true
  pub written : are_as_written (value_types (declarations_of m) f) i.operands ≡ true
  pub asked : are_as_asked_by (bare_operands_of o) (value_types (declarations_of m) f) i ≡ true
  pub operands : has_operands o i.operands ≡ true
  pub no_result : results_of o ≡ NoResult → forms_of (declarations_of m) f i.results ≡ []
  pub one_result : results_of o ≡ OneResult
      → forms_of (declarations_of m) f i.results ≡ form_by (declarations_of m) (slice_get (unwrap_or (given_by o (declarations_of m) i) []) 0) i.function ∷ []
  pub all_results : results_of o ≡ ResultList → (ts : List TypeName) → given_by o (declarations_of m) i ≡ Some ts
      → forms_of (declarations_of m) f i.results ≡ map (typed_form (declarations_of m)) ts
  pub stands : stands_in f.form o i ≡ true
  pub ty : is_some i.ty ≡ row_has is_type o
  pub signature : is_some i.signature ≡ row_has is_signature o
  pub function : is_some i.function ≡ row_has is_callee o
  pub member : is_some i.member ≡ row_has is_member o
  pub number : is_some i.number ≡ row_has is_number o
  pub text : is_some i.text ≡ row_has is_text o
  pub word : may_have o i.qualifier ≡ true
  pub literal : IfSome i.number (λ n. IsTrue (is_number_of o i.ty n))
  pub types : HasInstTypes i
  pub placed : (k : ℕ) (x : Operand) (t : TypeName) → slice_get i.operands k ≡ Some x → x.ty ≡ Some t → is_misplaced_value (declarations_of m) t ≡ false
  pub type_placed : (t : TypeName) → i.ty ≡ Some t → is_misplaced_at (declarations_of m) (standing_in o) t ≡ false

single : {A : Type 0} (xs : List A) → (length xs == 1) ≡ true → (x : A) × (xs ≡ x ∷ [])
single [] e = absurd (cc)
single (x ∷ []) e = (x, refl)
single (x ∷ y ∷ xs) e = let none : suc (suc (length xs)) ≡ 1 = eqb-true (suc (suc (length xs))) 1 e in absurd (omega arith)

module _ (m : Module) (r : IsWellTyped m) (n : ℕ) (f : Function) (is_function : slice_get m.functions n ≡ Some f) (p : PointId) (i : Inst) (here : inst_at f p ≡ Some i) where
  spot : IsAt f p.block.0 p.index i
  spot = is_at f p i here

  typed_parts : (keeps_row (declarations_of m) i ≡ true) × (are_as_written (value_types (declarations_of m) f) i.operands ≡ true) × (are_as_asked (value_types (declarations_of m) f) i ≡ true)
  typed_parts =
      let types : List (Option TypeName) = value_types (declarations_of m) f in
      let keeps : Bool = keeps_row (declarations_of m) i in
      let written : Bool = are_as_written types i.operands in
      let edges : Bool = list_all (edge_is_as_written types) i.edges in
      let all = and_parts (keeps && written && edges) (are_as_asked types i) (operands_typed m r n f is_function p.block.0 p.index i spot) in
      let three = and_parts (keeps && written) edges all.0 in
      let two = and_parts keeps written three.0 in
      (two.0, two.1, all.1)

  in_form : stands_in f.form i.op i ≡ true
  in_form =
      stands f.form
      (not-false (is_of_form f.form i) (or_parts (not (is_of_form f.form i)) (is_annotated_at f p.block.0 p.index) (keeps_form m r n f is_function p.block.0 p.index i spot)).0)
    where
      stands : (x : Form) → is_of_form x i ≡ true → stands_in x i.op i ≡ true
      stands Ossa e = e
      stands Lowered e = e
      stands External e = e

  number_of_results : is_count_by (results_of i.op) (row_types (declarations_of m) i) (length i.results) ≡ true
  number_of_results = not-false _ (results_counted m r n f is_function p.block.0 p.index i spot)

  abbrev given : MadeTypes
  given = row_types (declarations_of m) i

  pub known : Known m f i i.op
  known =
      let inside : IsInside i = is_inside m r n f is_function p i here in
      record {
        op = refl;
        inside = inside.goes_on;
        keeps = typed_parts.0;
        written = typed_parts.1;
        asked = typed_parts.2;
        operands = inside.parts.operands;
        no_result = λ e.
            let none = eqb-true (length i.results) 0 (subst (λ x. is_count_by x given (length i.results) ≡ true) e number_of_results) in
            ap (forms_of (declarations_of m) f) (nil_from_length i.results none);
        one_result = λ e.
            let it = single i.results (subst (λ x. is_count_by x given (length i.results) ≡ true) e number_of_results) in
            one_form (declarations_of m) f (counted m r n f is_function) p.block.0 p.index i spot it.0 it.1;
        all_results = λ e ts gives.
            let counted_so = subst (λ (x : MadeTypes). is_count_of x (length i.results) ≡ true) gives (subst (λ x. is_count_by x given (length i.results) ≡ true) e number_of_results) in
            list_forms (declarations_of m) f (counted m r n f is_function) p.block.0 p.index i spot ts (ap (λ (x : MadeTypes). unwrap_or x []) gives)
            (sym (eqb-true (length ts) (length i.results) counted_so));
        stands = in_form;
        ty = inside.parts.ty;
        signature = inside.parts.signature;
        function = inside.parts.function;
        member = inside.parts.member;
        number = inside.parts.number;
        text = inside.parts.text;
        word = inside.parts.qualifier;
        literal = (has_literals m r n f is_function p i here).number;
        types = has_types m r n f is_function p i here;
        placed = operand_placed m r.declared n f is_function p.block.0 p.index i spot;
        type_placed = type_placed m r.declared n f is_function p.block.0 p.index i spot;
      }

-- in a lowered function
pub in_lowered : (m : Module) (f : Function) (i : Inst) (o : Op) → Known m f i o → f.form ≡ Lowered → may_stand_lowered (forms_of_row o) i ≡ true
in_lowered m f i o k lowered = subst (λ x. stands_in x o i ≡ true) lowered k.stands

-- in one in ownership form
pub in_owned : (m : Module) (f : Function) (i : Inst) (o : Op) → Known m f i o → f.form ≡ Ossa → may_stand_owned (forms_of_row o) ≡ true
in_owned m f i o k owned = subst (λ x. stands_in x o i ≡ true) owned k.stands
