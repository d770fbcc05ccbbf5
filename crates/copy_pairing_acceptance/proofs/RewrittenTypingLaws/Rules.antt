-- A typed module stays typed, and its functions in ownership form, where its functions become alike ones.
use Rattle.std.proofs.Common.{◌≡◌, ℕ, List, [], ◌∷◌, ◌++◌, refl, sym, ap, ◌∙◌, subst, Bool, false, Some}
use Rattle.std.specs.Prelude.{◌&&◌, ◌||◌, drop, not, slice_get}
use Rattle.std.specs.List.{list_all, list_any}
use Rattle.std.specs.Option.{option_to_list}
use Rattle.argument_conventions.specs.Arguments.{arguments_of}
use Rattle.numbered_form.specs.Insts.{insts_of}
use Rattle.numbered_form.specs.PointChecks.Points.{IsAt}
use Rattle.sil_ast.specs.declared.function.Block.{Block}
use Rattle.sil_ast.specs.declared.function.BlockArg.{BlockArg}
use Rattle.sil_ast.specs.declared.function.Form.{Form}
use Rattle.sil_ast.specs.declared.function.Form.TheVariants.{Ossa, Lowered, External}
use Rattle.sil_ast.specs.declared.function.Function.{Function}
use Rattle.sil_ast.specs.declared.inst.Inst.{Inst}
use Rattle.sil_ast.specs.declared.module.Module.{Module}
use Rattle.sil_ast.specs.declared.vtable.DeinitEntry.{DeinitEntry}
use Rattle.sil_ast.specs.declared.vtable.Vtable.{Vtable}
use Rattle.sil_rules.specs.declared.rule.Rule.{Rule}
use Rattle.sil_rules.specs.declared.rule.Rule.TheVariants as rule
use Rattle.sil_types.specs.Typing.EdgeRules.{lets_address_escape, takes_address}
use Rattle.sil_types.specs.Typing.FormRules.{has_other_form, is_lowered}
use Rattle.sil_types.specs.Typing.RowTypes.{passes}
use Rattle.sil_types.specs.Typing.Same.{all_pairs}
use Rattle.sil_types.specs.Typing.SignatureRules.{has_fitting_conventions, has_wrong_deinitialiser, has_wrong_signature, is_argument_for, is_deinitialiser, is_external}
use Rattle.sil_types.specs.Typing.SignatureRules.{is_no_output_call, names_deinitialiser}
use Rattle.sil_types.specs.Typing.Typed.{BreaksAtFunction, BreaksAtPoint, BreaksAtVtable, Typed, address_escapes, at_function, at_point, at_vtable}
use Rattle.sil_types.specs.Typing.Typed.{deinit_signature, external, function, mixed_forms, point, signature, vtable}
use Rattle.sil_verifier_trails.specs.sil_verifier_accepted.AcceptedModules.Refusals.{IsOwned, lowered}
use Rattle.sil_verifier_trails.specs.type_check.Refusals.{fault_at}
use Rattle.sil_types_declarations.specs.TypeDefinitions.Declarations.{Declarations, declarations_of}
use Rattle.copy_pairing_acceptance.proofs.RewrittenTypingLaws.Alike.{Blocks, Functions, block, block_from, function_from, inst_from, no_block}
use Rattle.copy_pairing_acceptance.proofs.RewrittenTypingLaws.Points.{breaks_before, same_args, same_first, same_found}

module _ (m : Module) (gs : List Function) (alike : Functions (declarations_of m) m.functions gs) where
  abbrev next : Module
  next = record m { functions = gs }

  abbrev d : Declarations
  d = declarations_of m

  module _ (f : Function) (bs : List Block) (r : Blocks d f.blocks bs) where
    abbrev g : Function
    g = record f { blocks = bs }

    outputs_same : is_no_output_call g ≡ is_no_output_call f
    unfolding is_no_output_call
    outputs_same = refl

    signature_same : has_wrong_signature d g ≡ has_wrong_signature d f
    unfolding has_wrong_signature
    signature_same =
        ap (λ (args : ℕ → List BlockArg). not (has_fitting_conventions d f.signature
        && (is_external f.form || all_pairs (is_argument_for f.form) (args 0) (arguments_of f.signature)))) (same_args m gs alike f bs r)

    escapes_same : lets_address_escape g ≡ lets_address_escape f
    unfolding lets_address_escape
    escapes_same = behind f.blocks bs r
      where
        all : (bs cs : List Block) → Blocks d bs cs → list_any takes_address cs ≡ list_any takes_address bs
        all _ _ no_block = refl
        all _ _ (block {b = b} {is = is} {bs = bs} {cs = cs} x rest) = ap (λ t. takes_address b || t) (all bs cs rest)

        behind : (bs cs : List Block) → Blocks d bs cs → list_any takes_address (drop 1 cs) ≡ list_any takes_address (drop 1 bs)
        behind _ _ no_block = refl
        behind _ _ (block {b = b} {is = is} {bs = bs} {cs = cs} x rest) = all bs cs rest

    breaks_itself_before : (x : Rule) → BreaksAtFunction next g x → BreaksAtFunction m f x
    breaks_itself_before _ (external e) = external (sym outputs_same ∙ e)
    breaks_itself_before _ (signature e) = signature (sym signature_same ∙ e)
    breaks_itself_before _ (mixed_forms e) = mixed_forms (sym (ap (λ first. has_other_form first f) (same_first m gs alike)) ∙ e)
    breaks_itself_before _ (address_escapes e) = address_escapes (sym escapes_same ∙ e)

  deinitialiser_same : (v : Vtable) → has_wrong_deinitialiser next v ≡ has_wrong_deinitialiser m v
  unfolding has_wrong_deinitialiser
  deinitialiser_same v = ap (λ (test : DeinitEntry → Bool). not (list_all test (option_to_list v.entry))) same_tests
    where
      same_tests : names_deinitialiser next v.class_name ≡ names_deinitialiser m v.class_name
      same_tests = λ i. λ e. same_found m gs alike (passes (is_deinitialiser v.class_name)) (λ f bs. refl) e.function.0 i

  breaks_vtable_before : (v : Vtable) (x : Rule) → BreaksAtVtable next v x → BreaksAtVtable m v x
  breaks_vtable_before v _ (deinit_signature e) = deinit_signature (sym (deinitialiser_same v) ∙ e)

  module _ (typed : Typed m) (owned : IsOwned m) where
    pub stays_owned : IsOwned next
    stays_owned _ (lowered n g there e) =
        let h = function_from d m.functions gs n g alike there in
        owned (fault_at (at_function n) rule.MixedForms) (lowered n h.from h.there (ap (λ (x : Function). x.form) h.is ∙ e))

    not_lowered : (n : ℕ) (f : Function) → slice_get m.functions n ≡ Some f → is_lowered f.form ≡ false
    not_lowered n f there = at f.form refl
      where
        at : (form : Form) → f.form ≡ form → is_lowered form ≡ false
        at Ossa e = refl
        at Lowered e = absurd (owned (fault_at (at_function n) rule.MixedForms) (lowered n f there e))
        at External e = refl

    none_at : (n : ℕ) (f : Function) (bs : List Block) → Blocks d f.blocks bs → slice_get m.functions n ≡ Some f → (b k : ℕ) (j : Inst) (x : Rule)
        → IsAt (record f { blocks = bs }) b k j → BreaksAtPoint next (record f { blocks = bs }) b k j x → ⊥
    none_at n f bs r there b k j x at broken =
        let c = block_from d f.blocks bs b at.within r at.is_block in
        let stands : slice_get (c.insts ++ c.from.terminator ∷ []) k ≡ Some j = ap (λ (z : Block). slice_get (insts_of z) k) c.is ∙ at.is_inst in
        let i = inst_from d c.from.insts c.insts c.from.terminator k j c.alike stands in
        typed (at_point n b i.index) x
        (point n f b i.index i.from x there (record { within = c.from; is_block = c.there; is_inst = i.there })
        (breaks_before m gs alike f bs r i.from j i.alike (not_lowered n f there) b k b i.index x broken))

    pub stays_typed : Typed next
    stays_typed _ _ (function n g x there broken) =
        let h = function_from d m.functions gs n g alike there in
        typed (at_function n) x
        (function n h.from x h.there (breaks_itself_before h.from h.blocks h.alike x (subst (λ z. BreaksAtFunction next z x) (sym h.is) broken)))
    stays_typed _ _ (point n g b k j x there at broken) =
        let h = function_from d m.functions gs n g alike there in
        none_at n h.from h.blocks h.alike h.there b k j x (subst (λ z. IsAt z b k j) (sym h.is) at) (subst (λ z. BreaksAtPoint next z b k j x) (sym h.is) broken)
    stays_typed _ _ (vtable n v x there broken) = typed (at_vtable n) x (vtable n v x there (breaks_vtable_before v x broken))
