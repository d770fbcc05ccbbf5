-- What a function of a runnable module gives can be read.
use Rattle.std.proofs.Common.{◌≡◌, ◌+◌, ℕ, List, [], ◌∷◌, ◌++◌, Bool, true, false, Some, map, cond, refl, sym, ap₂, ◌∙◌, subst, arith}
use Rattle.std.specs.Prelude.{◌&&◌, filter, nat_le, slice_get}
use Rattle.std.specs.List.{flat_map, list_any, list_all}
use Rattle.std.proofs.lemmas.Bool.{and_parts, leb-true}
use Rattle.argument_conventions.specs.Arguments.{is_direct}
use Rattle.numbered_form.specs.Lists.{Each}
use Rattle.numbered_form.specs.inner.Types.{HasFunctionTypes, IsGivenWritten}
use Rattle.holder_model.specs.RunTyping.Runnable.{IsRunnable}
use Rattle.holder_model_typing.proofs.RunTypingLaws.Found.{each_at, neither_first, neither_second, not_false}
use Rattle.holder_model_typing.proofs.RunTypingLaws.ListFacts.{each_parts, each_within}
use Rattle.holder_model_typing.proofs.RunTypingLaws.Opened.{fold-Tuple}
use Rattle.holder_model_typing.proofs.RunTypingLaws.Sizes.{plain_type}
use Rattle.holder_model_values.specs.RunValues.inner.Laws.{has_no_address, has_no_address_over}
use Rattle.sil_ast.specs.declared.function.Function.{Function}
use Rattle.sil_ast.specs.declared.module.Module.{Module}
use Rattle.sil_ast.specs.declared.signature.Given.{Given}
use Rattle.sil_ast.specs.declared.type_name.TypeName.{TypeName}
use Rattle.sil_rules.specs.declared.limits.TheConstants.{DEPTH, LEAVES}
use Rattle.sil_types_declarations.specs.TypeDefinitions.Declarations.{Declarations, declarations_of}
use Rattle.sil_types_declarations.specs.TypeDefinitions.Measures.{depth_of, leaves_of}
use Rattle.sil_types_declarations.specs.TypeDefinitions.Mentions.{Mention, direct_types, given_type, in_decl, in_function, in_block, in_param, in_result, in_signature, mention, mentions_of}
use Rattle.sil_types_declarations.specs.TypeDefinitions.Mentions.{result_type, together}
use Rattle.sil_types_declarations.specs.TypeDefinitions.Rules.{has_too_many_leaves, is_too_deep, is_too_low}
use Rattle.sil_types_declarations.specs.declared.type_definitions.standing.Standing.TheVariants.{Unwritten}
use Rattle.count_machine.specs.ValueReading.inner.Reading.{IsWithinLimits}
use Rattle.count_machine.specs.ValueReading.inner.Levels.{IsReadable}
use Rattle.count_machine.proofs.ValueReading.Heights.{height_within}
use Rattle.count_machine.proofs.ValueReading.Parts.{all_plain}

each_fails : {A : Type 0} (test : A → Bool) (xs : List A) → list_any test xs ≡ false → Each (λ x. test x ≡ false) xs
each_fails test [] h = tt
each_fails test (x ∷ xs) h = (neither_first (test x) (list_any test xs) h, each_fails test xs (neither_second (test x) (list_any test xs) h))

-- of a mention that fails a test like all others of the module, the type that a function gives
given_fails : (m : Module) (test : Mention → Bool) → list_any test (mentions_of m) ≡ false → (n : ℕ) (f : Function) → slice_get m.functions n ≡ Some f
    → test (mention Unwritten (given_type f.signature)) ≡ false
given_fails m test h n f there =
    let Fails : Mention → Type 0 = λ x. test x ≡ false in
    let all = each_parts Fails (flat_map in_decl m.decls) (flat_map in_function m.functions) (each_fails test (mentions_of m) h) in
    let here = each_within in_function Fails m.functions n f all.1 there in
    let signature = each_parts Fails (in_signature f.signature) (flat_map in_block f.blocks) here in
    (each_parts Fails (map in_param f.signature.params ++ map in_result f.signature.results) (mention Unwritten (given_type f.signature) ∷ []) signature.0).1.0

together_plain : (ts : List TypeName) → list_all has_no_address ts ≡ true → has_no_address (together ts) ≡ true
together_plain [] h = fold-Tuple Bool has_no_address_over []
together_plain (t ∷ []) h = (and_parts (has_no_address t) true h).0
together_plain (t ∷ u ∷ ts) h = fold-Tuple Bool has_no_address_over (t ∷ u ∷ ts) ∙ sym (all_plain (t ∷ u ∷ ts)) ∙ h

direct_plain : (results : List Given) → Each IsGivenWritten results → list_all has_no_address (direct_types results) ≡ true
direct_plain [] h = refl
direct_plain (x ∷ results) h = at (is_direct x) (direct_plain results h.1)
  where
    at : (b : Bool) → list_all has_no_address (direct_types results) ≡ true
        → list_all has_no_address (map result_type (cond b (x ∷ filter is_direct results) (filter is_direct results))) ≡ true
    at true rest = ap₂ (λ a b. a && b) (plain_type x.ty h.0.ty.written) rest
    at false rest = rest

pub given_within : (m : Module) → IsRunnable m → (n : ℕ) (f : Function) → slice_get m.functions n ≡ Some f
    → IsWithinLimits (declarations_of m) (given_type f.signature)
given_within m r n f there =
    let d = declarations_of m in
    let t = given_type f.signature in
    let types = each_at HasFunctionTypes m.functions n f r.numbered.types.functions there in
    let deep = neither_first (list_any (is_too_deep d) (mentions_of m)) (list_any (is_too_low d) m.decls) r.limits.depth in
    let shallow : is_too_deep d (mention Unwritten t) ≡ false = given_fails m (is_too_deep d) deep n f there in
    let few : has_too_many_leaves d (mention Unwritten t) ≡ false = given_fails m (has_too_many_leaves d) r.limits.leaves n f there in
    record {
      plain = together_plain (direct_types f.signature.results) (direct_plain f.signature.results types.signature.results);
      depth = leb-true (depth_of d t) DEPTH (not_false (nat_le (depth_of d t) DEPTH) shallow);
      leaves = leb-true (leaves_of d t) LEAVES (not_false (nat_le (leaves_of d t) LEAVES) few);
    }

-- a type within the limits has no more levels than the limit on depth
pub within_readable : (m : Module) → IsRunnable m → (d : Declarations) → d ≡ declarations_of m → (t : TypeName) → IsWithinLimits d t → IsReadable d (DEPTH + 1) t
within_readable m r d e t h =
    let low = height_within d t in
    let deep = h.depth in
    record { runnable = (m, r, e); plain = h.plain; leaves = h.leaves; height = omega arith }

pub given_readable : (m : Module) → IsRunnable m → (d : Declarations) → d ≡ declarations_of m → (n : ℕ) (f : Function) → slice_get m.functions n ≡ Some f
    → IsReadable d (DEPTH + 1) (given_type f.signature)
given_readable m r d e n f there =
    within_readable m r d e (given_type f.signature) (subst (λ d. IsWithinLimits d (given_type f.signature)) (sym e) (given_within m r n f there))

pub one_within : (m : Module) → IsRunnable m → (d : Declarations) → d ≡ declarations_of m → (n : ℕ) (f : Function) → slice_get m.functions n ≡ Some f
    → (t : TypeName) → given_type f.signature ≡ t → IsWithinLimits d t
one_within m r d e n f there t is = subst (IsWithinLimits d) is (subst (λ d. IsWithinLimits d (given_type f.signature)) (sym e) (given_within m r n f there))
