-- What the rows of instructions share: how many operands there are and of what forms, and the form of the one result.
use Rattle.std.proofs.Common.{◌≡◌, ℕ, List, [], ◌∷◌, map, refl, sym, ap, ap₂, ◌∙◌, subst, Bool, true, false, Option, Some, None}
use Rattle.std.specs.Prelude.{◌||◌, is_some, option_and_then, slice_get, take, unwrap_or, if◌then◌else◌}
use Rattle.std.specs.List.{list_all}
use Rattle.std.proofs.lemmas.Bool.{and_parts}
use Rattle.instruction_table.specs.Forms.{results_of}
use Rattle.instruction_table.specs.declared.entries.Results.TheVariants.{OneResult}
use Rattle.instruction_table.specs.declared.forms.Part.TheVariants as part
use Rattle.instruction_table.specs.declared.op.Op.{Op}
use Rattle.numbered_form.specs.Lists.{is_empty}
use Rattle.numbered_form.specs.inner.Parts.{are_of_parts, is_bare, is_typed}
use Rattle.sil_ast.specs.declared.function.Function.{Function}
use Rattle.sil_ast.specs.declared.inst.Inst.{Inst}
use Rattle.sil_ast.specs.declared.module.Module.{Module}
use Rattle.sil_ast.specs.declared.operands.Operand.{Operand}
use Rattle.sil_ast.specs.declared.type_name.TypeName.{TypeName}
use Rattle.sil_ast.specs.declared.type_name.TypeName.TheVariants as type
use Rattle.holder_model.specs.sil_types_declarations.TypeDefinitions.Declarations.{declarations_of}
use Rattle.holder_model.specs.sil_types.Typing.OperandTypes.{are_as_written, has_type, is_as_written}
use Rattle.holder_model.specs.sil_types.Typing.RowTypes.{MadeTypes, all_written, gives, given_by, takes, type_of, written}
use Rattle.holder_model.specs.sil_types.Typing.Same.{all_pairs, are_same_types, is_same_type}
use Rattle.holder_model.specs.sil_types.Typing.Values.{value_types}
use Rattle.holder_model.specs.holder_model_values.RunValues.Shapes.{Integer}
use Rattle.holder_model.specs.RunTyping.EndForms.{operand_forms, value_in}
use Rattle.holder_model.specs.RunTyping.Forms.{Form, OfValue, form_by, form_of, forms_of}
use Rattle.holder_model.specs.RunTyping.RowForms.{RowForms}
use Rattle.holder_model_typing.proofs.RunTypingLaws.ShapeFacts.{int_shape, same_types}
use Rattle.holder_model_typing.proofs.RunTypingLaws.Rows.Finding.{mapped_some, or_first, some_of}
use Rattle.holder_model_typing.proofs.RunTypingLaws.Rows.Forms.{asked_form, typed_form, value_form, written_form, written_forms}
use Rattle.holder_model_typing.proofs.RunTypingLaws.Rows.Known.{Known}
use Rattle.holder_model_typing.proofs.RunTypingLaws.Rows.Layers.{target-Int}

-- the instruction's operands and results are those that its row has to do with
abbrev pub Row : Module → Function → Inst → Type 0
Row m f i = RowForms m i (operand_forms (declarations_of m) f i) (forms_of (declarations_of m) f i.results)

pub row_of : (m : Module) (f : Function) (i : Inst) (xs ys : List Form) → operand_forms (declarations_of m) f i ≡ xs → forms_of (declarations_of m) f i.results ≡ ys
    → RowForms m i xs ys → Row m f i
row_of m f i xs ys e h row =
    subst (λ x. RowForms m i x (forms_of (declarations_of m) f i.results)) (sym e) (subst (λ y. RowForms m i xs y) (sym h) row)

-- ---- where a row is kept

pub given_one : (t : Option TypeName) → is_some (gives t) ≡ true → (u : TypeName) × (t ≡ Some u)
given_one t e = mapped_some (λ ty. ty ∷ []) t e

pub taken_from : (t : Option TypeName) → is_some (takes t) ≡ true → (u : TypeName) × (t ≡ Some u)
taken_from None e = absurd (cc)
taken_from (Some t) e = (t, refl)

pub some_behind : {A B : Type 0} (g : A → Option B) (o : Option A) → is_some (option_and_then g o) ≡ true → (x : A) × (o ≡ Some x) × (is_some (g x) ≡ true)
some_behind g None e = absurd (cc)
some_behind g (Some x) e = (x, refl, e)

pub some_where : {A : Type 0} (test : Bool) (o : Option A) → is_some (if test then o else None) ≡ true → (test ≡ true) × (is_some o ≡ true)
some_where true o e = (refl, e)
some_where false o e = absurd (cc)

pub same_lists : (ts us : List TypeName) → are_same_types ts us ≡ true → ts ≡ us
same_lists [] [] e = refl
same_lists [] (u ∷ us) e = absurd (cc)
same_lists (t ∷ ts) [] e = absurd (cc)
same_lists (t ∷ ts) (u ∷ us) e =
    let both = and_parts (is_same_type t u) (are_same_types ts us) e in
    ap₂ (λ x y. x ∷ y) (same_types t u both.0) (same_lists ts us both.1)

-- ---- operands

pub is_nothing : {A : Type 0} (xs : List A) → is_empty xs ≡ true → xs ≡ []
is_nothing [] e = refl
is_nothing (x ∷ xs) e = absurd (cc)

-- an operand that has a type, and it alone
record OneTyped (os : List Operand) : Type 0 where
  operand : Operand
  ty : TypeName
  only : os ≡ operand ∷ []
  typed : operand.ty ≡ Some ty

one_typed : (os : List Operand) → are_of_parts (part.Typed ∷ []) os ≡ true → OneTyped os
one_typed [] e = absurd (cc)
one_typed (o ∷ os) e =
    let both = and_parts (is_typed o) (is_empty os) e in
    let it = some_of o.ty both.0 in
    record { operand = o; ty = it.0; only = ap (λ xs. o ∷ xs) (is_nothing os both.1); typed = it.1 }

-- an operand without a type, and one behind it that has one
record ThenTyped (os : List Operand) : Type 0 where
  bare : Operand
  operand : Operand
  ty : TypeName
  both : os ≡ bare ∷ operand ∷ []
  typed : operand.ty ≡ Some ty

then_typed : (os : List Operand) → are_of_parts (part.Bare ∷ part.Typed ∷ []) os ≡ true → ThenTyped os
then_typed [] e = absurd (cc)
then_typed (o ∷ os) e =
    let it = one_typed os (and_parts (is_bare o) (are_of_parts (part.Typed ∷ []) os) e).1 in
    record { bare = o; operand = it.operand; ty = it.ty; both = ap (λ xs. o ∷ xs) it.only; typed = it.typed }

module _ (m : Module) (f : Function) (i : Inst) (o : Op) (k : Known m f i o) where
  pub no_operand : is_empty i.operands ≡ true → operand_forms (declarations_of m) f i ≡ []
  no_operand e = ap (λ os. forms_of (declarations_of m) f (map value_in os)) (is_nothing i.operands e)

  -- the one operand has its written type
  pub one_operand : are_of_parts (part.Typed ∷ []) i.operands ≡ true → (t : TypeName) → written 0 i ≡ Some t → operand_forms (declarations_of m) f i ≡ typed_form (declarations_of m) t ∷ []
  one_operand e t is =
      let it = one_typed i.operands e in
      let ty : it.operand.ty ≡ Some t = ap (λ os. option_and_then type_of (slice_get os 0)) (sym it.only) ∙ is in
      let kept : list_all (is_as_written (value_types (declarations_of m) f)) (it.operand ∷ []) ≡ true = subst (λ os. are_as_written (value_types (declarations_of m) f) os ≡ true) it.only k.written in
      ap (λ os. forms_of (declarations_of m) f (map value_in os)) it.only
      ∙ ap (λ x. x ∷ []) (written_form (declarations_of m) f it.operand t ty (and_parts (is_as_written (value_types (declarations_of m) f) it.operand) true kept).0)

  -- it is there, whatever its type
  pub some_operand : are_of_parts (part.Typed ∷ []) i.operands ≡ true → (form : Form) × (operand_forms (declarations_of m) f i ≡ form ∷ [])
  some_operand e =
      let it = one_typed i.operands e in
      (form_of (declarations_of m) f (value_in it.operand), ap (λ os. forms_of (declarations_of m) f (map value_in os)) it.only)

  -- the first of two operands has the type that the row asks for, and the second its written type
  pub two_operands : are_of_parts (part.Bare ∷ part.Typed ∷ []) i.operands ≡ true → (u t : TypeName) → written 1 i ≡ Some t
      → all_pairs (has_type (value_types (declarations_of m) f)) (take 1 i.operands) (u ∷ []) ≡ true
      → operand_forms (declarations_of m) f i ≡ typed_form (declarations_of m) u ∷ typed_form (declarations_of m) t ∷ []
  two_operands e u t is asked =
      let it = then_typed i.operands e in
      let ty : it.operand.ty ≡ Some t = ap (λ os. option_and_then type_of (slice_get os 1)) (sym it.both) ∙ is in
      let kept : are_as_written (value_types (declarations_of m) f) (it.bare ∷ it.operand ∷ []) ≡ true = subst (λ os. are_as_written (value_types (declarations_of m) f) os ≡ true) it.both k.written in
      let second = (and_parts (is_as_written (value_types (declarations_of m) f) it.bare) (are_as_written (value_types (declarations_of m) f) (it.operand ∷ [])) kept).1 in
      let first : all_pairs (has_type (value_types (declarations_of m) f)) (it.bare ∷ []) (u ∷ []) ≡ true =
      subst (λ os. all_pairs (has_type (value_types (declarations_of m) f)) (take 1 os) (u ∷ []) ≡ true) it.both asked in
      ap (λ os. forms_of (declarations_of m) f (map value_in os)) it.both
      ∙ ap₂ (λ x y. x ∷ y ∷ []) (asked_form (declarations_of m) f it.bare u (and_parts (has_type (value_types (declarations_of m) f) it.bare u) true first).0)
      (written_form (declarations_of m) f it.operand t ty (and_parts (is_as_written (value_types (declarations_of m) f) it.operand) true second).0)

  pub all_operands : list_all is_typed i.operands ≡ true → operand_forms (declarations_of m) f i ≡ map (typed_form (declarations_of m)) (all_written i.operands)
  all_operands e = written_forms (declarations_of m) f i.operands e k.written

  -- ---- the one result

  pub gives_form : results_of o ≡ OneResult → (t : TypeName) → given_by o (declarations_of m) i ≡ Some (t ∷ []) → forms_of (declarations_of m) f i.results ≡ typed_form (declarations_of m) t ∷ []
  gives_form one t e = k.one_result one ∙ ap (λ (x : MadeTypes). form_by (declarations_of m) (slice_get (unwrap_or x []) 0) i.function ∷ []) e

pub int_form : (m : Module) (w : ℕ) → typed_form (declarations_of m) (type.Int w) ≡ OfValue (Integer w)
int_form m w = value_form (declarations_of m) (type.Int w) (target-Int w) ∙ ap OfValue (int_shape m w)

-- all operands are there
pub of_parts : (b : Bool) → (b || false) ≡ true → b ≡ true
of_parts b e = or_first b false refl e
