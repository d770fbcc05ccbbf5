-- A copy in an accepted function, what it takes, and the kinds of both.
use Rattle.std.proofs.Common.{◌≡◌, ℕ, [], ◌∷◌, ◌++◌, refl, sym, ap, ◌∙◌, subst, true, false, cond, not, Some}
use Rattle.std.specs.Prelude.{option_and_then, slice_get, unwrap_or}
use Rattle.std.specs.List.{list_all}
use Rattle.std.proofs.lemmas.Bool.{and_parts, not-true}
use Rattle.instruction_table.specs.Forms.{result_kind_of}
use Rattle.instruction_table.specs.declared.op.Op.{Op}
use Rattle.instruction_table.specs.declared.op.Op.TheVariants as op
use Rattle.instruction_table.specs.declared.entries.Role.TheVariants as role
use Rattle.sil_cfg_items.specs.Items.{item_taken, taken_in}
use Rattle.sil_cfg_items.specs.Parts.{inst_at}
use Rattle.sil_cfg_items.specs.Roles.{by_row, taken_as}
use Rattle.sil_verifier_trails.specs.memory_rules_accesses.Sources.{result_source, source_at, sources_of}
use Rattle.ownership_kinds_chains.specs.OwnershipChains.Facts.{facts_with}
use Rattle.copy_pairing_model.specs.ownership_kinds_origins.Facts.{facts_in}
use Rattle.copy_pairing_model.specs.ownership_kinds_origins.Origins.{is_trivial_or_untyped}
use Rattle.numbered_form.specs.PointChecks.Points.{IsAt}
use Rattle.sil_ast.specs.declared.function.Function.{Function}
use Rattle.sil_ast.specs.declared.inst.Inst as inst
use Rattle.sil_ast.specs.declared.module.Module.{Module}
use Rattle.sil_ast.specs.declared.place.PointId.{PointId}
use Rattle.sil_ast.specs.declared.place.ValueId.{ValueId}
use Rattle.sil_ast.specs.declared.type_name.TypeName.{TypeName}
use Rattle.sil_cfg.specs.declared.item.Item.TheVariants.{Inst}
use Rattle.sil_types.specs.Typing.OperandTypes.{are_as_written, is_as_written, is_as_written_by}
use Rattle.sil_types.specs.Typing.RowTypes.{MadeTypes, gives, given_by, type_of, written}
use Rattle.sil_types.specs.Typing.Same.{is_same_type}
use Rattle.sil_types.specs.Typing.Shapes.{is_nontrivial, is_object, where_it}
use Rattle.sil_types.specs.Typing.Values.{type_of_value, value_types}
use Rattle.sil_types_declarations.specs.TypeDefinitions.Declarations.{Declarations, declarations_of}
use Rattle.sil_types_declarations.specs.TypeDefinitions.Measures.{is_trivial}
use Rattle.sil_types_declarations.specs.declared.type_definitions.kind.Kind.TheVariants as kind
use Rattle.sil_verifier_trails.proofs.holder_model_typing.RunTypingLaws.Rows.Finding.{passed, where_found}
use Rattle.sil_verifier_trails.proofs.holder_model_typing.RunTypingLaws.Rows.Known.{Known, known}
use Rattle.sil_verifier_trails.proofs.holder_model_typing.RunTypingLaws.Rows.Shares.{given_one}
use Rattle.sil_verifier_trails.proofs.holder_model_typing.RunTypingLaws.ShapeFacts.{same_types}
use Rattle.sil_verifier_trails.specs.sil_verifier_values.inner.Known.{IsAcceptedBody, kind_at, type_in}
use Rattle.sil_verifier_trails.specs.sil_verifier_values.inner.Operands.{kind_by_row, kind_together}
use Rattle.sil_verifier_trails.specs.sil_verifier_values.inner.Rows.{IsResult}
use Rattle.sil_verifier_trails.proofs.sil_verifier_values.Accepted.{typed, well_typed}
use Rattle.sil_verifier_trails.proofs.sil_verifier_values.Based.{owned_own_bases}
use Rattle.sil_verifier_trails.proofs.sil_verifier_values.Suited.{results_of_kinds}
use Rattle.sil_verifier_trails.proofs.sil_verifier_values.TableRows.{result_rows}
use Rattle.copy_pairing_model.specs.Copies.{IsCopy}
use Rattle.copy_pairing_acceptance.proofs.LentFunctions.Insts.{op_is}
use Rattle.copy_pairing_acceptance.proofs.LentMemory.Becoming.{taken_one}

module _ (m : Module) (n : ℕ) (f : Function) (a : IsAcceptedBody m n f) where
  abbrev d : Declarations
  d = declarations_of m

  pub place : (p : PointId) (i : inst.Inst) → inst_at f p ≡ Some i → IsAt f p.block.0 p.index i
  place p i e = ((typed m n f a).inside p i e).1

  -- what is known of an instruction by its row
  pub known_as : (p : PointId) (i : inst.Inst) (o : Op) → inst_at f p ≡ Some i → i.op ≡ o → Known m f i o
  known_as p i o e is = subst (λ x. Known m f i x) is (known m (well_typed m a.verified) n f a.body.there p i e)

  module _ (p : PointId) (c v : ValueId) (copy : IsCopy f p c v) where
    pub copies : copy.inst.op ≡ op.CopyValue
    copies = op_is op.CopyValue copy.inst copy.copies.copies

    pub takes_copied : item_taken f (Inst p) ≡ taken_as copy.copies.operand (by_row role.Used) ∷ []
    takes_copied =
        ap (λ o. taken_in o ++ []) copy.stands
        ∙ ap (λ ts. ts ++ []) (taken_one copy.inst copy.copies.operand op.CopyValue role.Used copy.copies.operands copies refl)

    first_result : slice_get copy.inst.results 0 ≡ Some c
    first_result = ap (λ vs. slice_get vs 0) copy.copies.result

    pub row_of_copy : IsResult d f copy.inst 0 c
    row_of_copy = result_rows m n f a p.block.0 p.index 0 copy.inst c (place p copy.inst copy.stands) first_result

    -- its type, which is no trivial one
    record IsCounted : Type 0 where
      ty : TypeName
      written_there : written 0 copy.inst ≡ Some ty
      counted : is_nontrivial (declarations_of m) ty ≡ true
      given : given_by op.CopyValue (declarations_of m) copy.inst ≡ Some (ty ∷ [])

    counted_type : IsCounted
    counted_type =
        let k = known_as p copy.inst op.CopyValue copy.stands copies in
        let it = given_one (where_it (is_nontrivial d) (written 0 copy.inst)) k.keeps in
        let found = where_found (is_nontrivial d) (written 0 copy.inst) it.0 it.1 in
        record { ty = it.0; written_there = found.0; counted = found.1; given = ap gives it.1 }

    not_trivial : (t : TypeName) → is_nontrivial d t ≡ true → is_trivial d t ≡ false
    not_trivial t e = not-true (is_trivial d t) (and_parts (is_object t) (not (is_trivial d t)) e).1

    copied_type : type_in d f c ≡ Some counted_type.ty
    copied_type =
        row_of_copy.typed
        ∙ ap (λ (x : MadeTypes). slice_get (unwrap_or x []) 0) (ap (λ o. given_by o d copy.inst) copies ∙ counted_type.given)

    operand_type : type_in d f v ≡ Some counted_type.ty
    operand_type =
        let k = known_as p copy.inst op.CopyValue copy.stands copies in
        let o = copy.copies.operand in
        let ty : o.ty ≡ Some counted_type.ty = ap (λ os. option_and_then type_of (slice_get os 0)) (sym copy.copies.operands) ∙ counted_type.written_there in
        let all : list_all (is_as_written (value_types d f)) (o ∷ []) ≡ true = subst (λ os. are_as_written (value_types d f) os ≡ true) copy.copies.operands k.written in
        let one : is_as_written (value_types d f) o ≡ true = (and_parts (is_as_written (value_types d f) o) true all).0 in
        let it = passed (is_same_type counted_type.ty) (type_of_value (value_types d f) o) (subst (λ x. is_as_written_by (value_types d f) o x ≡ true) ty one) in
        ap (type_in d f) (sym copy.copies.copied) ∙ it.1 ∙ ap (λ t. Some t) (sym (same_types counted_type.ty it.0 it.2))

    pub copy_owned : kind_at d f c ≡ kind.Owned
    copy_owned =
        results_of_kinds m n f a p.block.0 p.index 0 copy.inst c (place p copy.inst copy.stands) first_result
        ∙ ap (λ t. cond (is_trivial_or_untyped d t) kind.Plain (kind_by_row (result_kind_of copy.inst.op) (kind_together d f copy.inst))) copied_type
        ∙ ap (λ b. cond b kind.Plain (kind_by_row (result_kind_of copy.inst.op) (kind_together d f copy.inst))) (not_trivial counted_type.ty counted_type.counted)
        ∙ ap (λ o. kind_by_row (result_kind_of o) (kind_together d f copy.inst)) copies

    pub copy_facts : facts_in d f c ≡ Some (facts_with kind.Owned (c ∷ []))
    copy_facts = owned_own_bases m n f a c copy_owned

    pub copy_source : source_at (sources_of d f) c ≡ result_source d copy.inst
    copy_source = row_of_copy.source

    -- what it copies is Owned, where that is made by a row that makes Owned values
    pub operand_owned : (block index k : ℕ) (i : inst.Inst) → IsAt f block index i → slice_get i.results k ≡ Some v → kind_by_row (result_kind_of i.op) (kind_together d f i) ≡ kind.Owned
        → kind_at d f v ≡ kind.Owned
    operand_owned block index k i at there row =
        results_of_kinds m n f a block index k i v at there
        ∙ ap (λ t. cond (is_trivial_or_untyped d t) kind.Plain (kind_by_row (result_kind_of i.op) (kind_together d f i))) operand_type
        ∙ ap (λ b. cond b kind.Plain (kind_by_row (result_kind_of i.op) (kind_together d f i))) (not_trivial counted_type.ty counted_type.counted)
        ∙ row
