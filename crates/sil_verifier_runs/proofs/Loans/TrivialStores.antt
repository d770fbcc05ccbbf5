-- A store of a trivial value is one at the address of a trivial type.
use Rattle.std.proofs.Common.{◌≡◌, ℕ, refl, sym, ap, ◌∙◌, subst, true, false, not, ◌&&◌, Some}
use Rattle.std.specs.Prelude.{option_and_then, slice_get}
use Rattle.std.proofs.lemmas.Bool.{not-false}
use Rattle.std.proofs.lemmas.Option.{none-some, same_Some}
use Rattle.sil_verifier_frames.specs.memory_rules_accesses.Operations.{access_kind_of, operation_by, store_operation}
use Rattle.sil_verifier_frames.specs.memory_rules_accesses.declared.access.Operation.TheVariants.{TrivialStore}
use Rattle.sil_verifier_frames.specs.sil_types.Typing.FormRules.{has_word_by, has_wrong_qualifier, is_owned_form, is_write_word}
use Rattle.sil_verifier_frames.specs.sil_types.Typing.OperandTypes.{is_as_written}
use Rattle.sil_verifier_frames.specs.sil_types.Typing.RowTypes.{passes, type_of, written}
use Rattle.sil_verifier_frames.specs.sil_types.Typing.Shapes.{is_trivial_object, target}
use Rattle.sil_verifier_frames.specs.sil_types.Typing.Typed.{BreaksAtPoint, at_point, point}
use Rattle.sil_verifier_frames.specs.sil_types.Typing.Values.{value_types}
use Rattle.sil_verifier_frames.specs.sil_verifier_values.inner.Known.{IsAcceptedBody, type_in}
use Rattle.sil_verifier_frames.proofs.sil_verifier_values.Accepted.{in_ownership_form, typed, well_typed}
use Rattle.sil_verifier_frames.proofs.sil_verifier_values.Written.{written_type}
use Rattle.sil_verifier_frames.proofs.holder_model_typing.RunTypingLaws.FunctionFacts.{TypedInst}
use Rattle.sil_verifier_frames.proofs.holder_model_typing.RunTypingLaws.Rows.Finding.{found_behind, never_passes, passed, passes_at}
use Rattle.sil_verifier_frames.proofs.holder_model_typing.RunTypingLaws.ValueForms.{operands_written}
use Rattle.instruction_table.specs.Forms.{type_words_of}
use Rattle.numbered_form.specs.inner.Parts.{may_have}
use Rattle.instruction_table.specs.declared.op.Op.{Op}
use Rattle.instruction_table.specs.declared.op.Op.TheVariants as op
use Rattle.numbered_form.specs.PointChecks.Points.{IsAt}
use Rattle.sil_ast.specs.declared.function.Function.{Function}
use Rattle.sil_ast.specs.declared.inst.Inst.{Inst}
use Rattle.sil_ast.specs.declared.inst.Qualifier.{Qualifier}
use Rattle.sil_ast.specs.declared.inst.Qualifier.TheVariants as word
use Rattle.sil_ast.specs.declared.module.Module.{Module}
use Rattle.sil_ast.specs.declared.operands.Operand.{Operand}
use Rattle.sil_ast.specs.declared.type_name.TypeName.{TypeName}
use Rattle.sil_rules.specs.declared.rule.Rule.TheVariants as rule
use Rattle.sil_types_declarations.specs.TypeDefinitions.Declarations.{Declarations, declarations_of}

stores_trivially : (q : Qualifier) → store_operation q ≡ TrivialStore → q ≡ word.Trivial
stores_trivially word.Plain e = absurd (cc)
stores_trivially word.Copy e = absurd (cc)
stores_trivially word.Take e = absurd (cc)
stores_trivially word.Trivial e = refl
stores_trivially word.Init e = absurd (cc)
stores_trivially word.Assign e = absurd (cc)

loads_never : (q : Qualifier) (o : Op) → access_kind_of o ≡ access_kind_of op.Load → operation_by (access_kind_of o) q ≡ Some TrivialStore → ⊥
loads_never q o same e = at q (ap (λ k. operation_by k q) (sym same) ∙ e)
  where
    at : (q : Qualifier) → operation_by (access_kind_of op.Load) q ≡ Some TrivialStore → ⊥
    at word.Plain e = cc
    at word.Copy e = cc
    at word.Take e = cc
    at word.Trivial e = cc
    at word.Init e = cc
    at word.Assign e = cc

-- storage is never written so
pub trivial_row : (o : Op) (q : Qualifier) → may_have o q ≡ true → operation_by (access_kind_of o) q ≡ Some TrivialStore → (o ≡ op.Store) × (q ≡ word.Trivial)
trivial_row op.Store q has e = (refl, stores_trivially q (same_Some (store_operation q) TrivialStore e))
trivial_row op.StoreWeak q has e = absurd (at q (stores_trivially q (same_Some (store_operation q) TrivialStore e)) has)
  where
    at : (q : Qualifier) → q ≡ word.Trivial → may_have op.StoreWeak q ≡ true → ⊥
    at q is h = let never : may_have op.StoreWeak word.Trivial ≡ true = ap (may_have op.StoreWeak) (sym is) ∙ h in cc
trivial_row op.StoreUnowned q has e = absurd (at q (stores_trivially q (same_Some (store_operation q) TrivialStore e)) has)
  where
    at : (q : Qualifier) → q ≡ word.Trivial → may_have op.StoreUnowned q ≡ true → ⊥
    at q is h = let never : may_have op.StoreUnowned word.Trivial ≡ true = ap (may_have op.StoreUnowned) (sym is) ∙ h in cc
trivial_row op.Load q has e = absurd (loads_never q op.Load refl e)
trivial_row op.LoadWeak q has e = absurd (loads_never q op.LoadWeak refl e)
trivial_row op.LoadUnowned q has e = absurd (loads_never q op.LoadUnowned refl e)
trivial_row op.LoadBorrow q has e = absurd (cc)
trivial_row op.DestroyAddr q has e = absurd (cc)
trivial_row o q has e = absurd (none-some TrivialStore e)

module _ (m : Module) (n : ℕ) (f : Function) (a : IsAcceptedBody m n f) (b k : ℕ) (x : Inst) (here : IsAt f b k x) where
  abbrev d : Declarations
  d = declarations_of m

  known : TypedInst m f x
  known = (typed m n f a).insts b k x here

  pub has_word : may_have x.op x.qualifier ≡ true
  has_word = known.parts.qualifier

  module _ (store : x.op ≡ op.Store) (q : x.qualifier ≡ word.Trivial) where
    word_kept : has_wrong_qualifier d f x ≡ false
    word_kept = never_passes _ (λ e. (well_typed m a.verified).typed (at_point n b k) rule.Qualifier (point n f b k x rule.Qualifier a.body.there here (BreaksAtPoint.qualifier e)))

    word_by : has_word_by (type_words_of op.Store) d x ≡ true
    word_by =
        subst (λ y. has_word_by (type_words_of y) d x ≡ true) store
        (not-false (has_word_by (type_words_of x.op) d x)
        (subst (λ y. (is_owned_form y && not (has_word_by (type_words_of x.op) d x)) ≡ false) (in_ownership_form m n f a) word_kept))

    pub stored_trivial : (z : Operand) → slice_get x.operands 1 ≡ Some z → (ty t : TypeName) → type_in d f z.value ≡ Some ty → target ty ≡ Some t
        → is_trivial_object d t ≡ true
    stored_trivial z second ty t has_type points =
        let fits : passes (is_write_word d word.Trivial) (option_and_then target (written 1 x)) ≡ true =
        subst (λ y. passes (is_write_word d y) (option_and_then target (written 1 x)) ≡ true) q word_by in
        let it = passed (is_write_word d word.Trivial) (option_and_then target (written 1 x)) fits in
        let wrote = found_behind target (written 1 x) it.0 it.1 in
        let own : z.ty ≡ Some wrote.0 = sym (ap (option_and_then type_of) second) ∙ wrote.1 in
        let kept : is_as_written (value_types d f) z ≡ true = passes_at (is_as_written (value_types d f)) x.operands 1 z (operands_written m f x known) second in
        let as_written : type_in d f z.value ≡ Some wrote.0 = written_type d f z wrote.0 own kept in
        let same : ty ≡ wrote.0 = same_Some ty wrote.0 (sym has_type ∙ as_written) in
        ap (is_trivial_object d) (same_Some t it.0 (sym points ∙ ap target same ∙ wrote.2)) ∙ it.2
