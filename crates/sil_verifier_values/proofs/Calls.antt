-- What a call hands over: operands of the types and kinds that the signature tells of.
use Rattle.std.proofs.Common.{◌≡◌, append-nil, ℕ, zero, suc, List, [], ◌∷◌, length, map, refl, sym, ap, ap₂, ◌∙◌, subst, Bool, true, Some}
use Rattle.std.specs.Prelude.{◌&&◌, Contains, drop, option_map, slice_get}
use Rattle.std.specs.List.{AllZip, flat_map}
use Rattle.std.specs.Option.{option_to_list}
use Rattle.std.proofs.lemmas.Bool.{and_parts}
use Rattle.std.proofs.lemmas.Option.{same_Some, slice_get-map}
use Rattle.argument_conventions.specs.Arguments.{Told, argument_type, arguments_of, conventions_of, handed_type}
use Rattle.argument_conventions.specs.declared.convention.ArgumentConvention.{ArgumentConvention}
use Rattle.argument_conventions.specs.declared.convention.ArgumentConvention.TheVariants as convention
use Rattle.instruction_table.specs.Forms.{bare_operands_of, roles_of}
use Rattle.instruction_table.specs.declared.entries.Role.TheVariants as role
use Rattle.instruction_table.specs.declared.op.Op.TheVariants as op
use Rattle.sil_cfg_items.specs.Roles.{by_convention, by_row, conventions_by, conventions_in, role_handed, roles_for, taken_as, taken_by, taken_each}
use Rattle.sil_cfg_items.specs.declared.taken.Treatment.{Treatment}
use Rattle.numbered_form.proofs.Lists.{contained}
use Rattle.sil_verifier_accepted.specs.ownership_kinds.Statics.{all_taken}
use Rattle.numbered_form.specs.PointChecks.Points.{IsAt}
use Rattle.holder_model_typing.proofs.RunTypingLaws.CallFacts.{called}
use Rattle.holder_model_typing.proofs.RunTypingLaws.FunctionFacts.{TypedInst, typed_function}
use Rattle.holder_model_typing.proofs.RunTypingLaws.Rows.Points.{in_front}
use Rattle.holder_model_typing.proofs.RunTypingLaws.ValueForms.{operands_asked}
use Rattle.sil_ast.specs.declared.function.Function.{Function}
use Rattle.sil_ast.specs.declared.inst.Inst.{Inst}
use Rattle.sil_ast.specs.declared.module.Module.{Module}
use Rattle.sil_ast.specs.declared.operands.Operand.{Operand}
use Rattle.sil_ast.specs.declared.signature.Signature.{Signature}
use Rattle.holder_model_typing.specs.sil_types.Typing.OperandTypes.{are_as_asked_by, argument_types, has_type}
use Rattle.holder_model_typing.specs.sil_types.Typing.Same.{all_pairs}
use Rattle.holder_model_typing.specs.sil_types.Typing.Shapes.{is_object}
use Rattle.holder_model_typing.specs.sil_types.Typing.SignatureRules.{fits_by}
use Rattle.holder_model_typing.specs.sil_types.Typing.Values.{value_types}
use Rattle.holder_model_typing.specs.sil_types_declarations.TypeDefinitions.Declarations.{Declarations, declarations_of}
use Rattle.holder_model_typing.specs.sil_types_declarations.TypeDefinitions.Measures.{is_trivial}
use Rattle.holder_model_typing.specs.ownership_kinds_origins.Origins.{is_trivial_or_untyped}
use Rattle.sil_verifier_values.specs.inner.Handed.{AreCallsHanded, Hands, IsHanded}
use Rattle.sil_verifier_values.specs.inner.Known.{IsAcceptedBody, type_in}
use Rattle.sil_verifier_values.specs.inner.Operands.{SuitsRole}
use Rattle.sil_verifier_values.proofs.Accepted.{typed, well_typed}
use Rattle.sil_verifier_values.proofs.Parameters.{fits, told_fits, zip_by_place}
use Rattle.sil_verifier_values.proofs.Suited.{by_operand, suits_at, trivial_so}
use Rattle.sil_verifier_values.proofs.Written.{asked_type}

pub taken_each_at : (os : List Operand) (ts : List Treatment) (k : ℕ) (o : Operand) (t : Treatment) → slice_get os k ≡ Some o → slice_get ts k ≡ Some t
    → slice_get (taken_each os ts) k ≡ Some (taken_as o t)
taken_each_at [] ts k o t e h = cc
taken_each_at (x ∷ os) [] k o t e h = cc
taken_each_at (x ∷ os) (y ∷ ts) zero o t e h = ap₂ (λ u w. Some (taken_as u w)) (same_Some x o e) (same_Some y t h)
taken_each_at (x ∷ os) (y ∷ ts) (suc k) o t e h = taken_each_at os ts k o t e h

pairs_map : {A B C : Type 0} (test : A → C → Bool) (g : B → C) (xs : List A) (ys : List B) → all_pairs test xs (map g ys) ≡ all_pairs (λ x y. test x (g y)) xs ys
pairs_map test g [] [] = refl
pairs_map test g [] (y ∷ ys) = refl
pairs_map test g (x ∷ xs) [] = refl
pairs_map test g (x ∷ xs) (y ∷ ys) = ap (λ b. test x (g y) && b) (pairs_map test g xs ys)

module _ (m : Module) (n : ℕ) (f : Function) (a : IsAcceptedBody m n f) (block index : ℕ) (i : Inst) (here : IsAt f block index i) (call : i.op ≡ op.Apply)
    (o : Operand) (os : List Operand) (s : Signature) (operands : i.operands ≡ o ∷ os) (signature : i.signature ≡ Some s) where
  abbrev d : Declarations
  d = declarations_of m

  known : TypedInst m f i
  known = (typed m n f a).insts block index i here

  -- the operands have the types that are told of
  asked : all_pairs (λ x t. has_type (value_types d f) x (argument_type t)) os (arguments_of s) ≡ true
  asked =
      sym (pairs_map (has_type (value_types d f)) argument_type os (arguments_of s))
      ∙ ap (all_pairs (has_type (value_types d f)) os) (sym (append-nil (argument_types s)))
      ∙ ap₂ (λ xs g. all_pairs (has_type (value_types d f)) (drop 1 xs) (flat_map argument_types (option_to_list g))) (sym operands) (sym signature)
      ∙ ap (λ x. are_as_asked_by (bare_operands_of x) (value_types d f) i) (sym call)
      ∙ operands_asked m f i known

  -- and are taken by their conventions
  taken_is : taken_by i ≡ taken_as o (by_row role.Used) ∷ taken_each os (map by_convention (conventions_in i))
  taken_is = ap₂ (λ x xs. taken_each xs (roles_for (roles_of x) (conventions_in i) (length xs))) call operands

  treated : (k : ℕ) (t : Told) → slice_get (arguments_of s) k ≡ Some t → slice_get (map by_convention (conventions_in i)) k ≡ Some (by_convention t.convention)
  treated k t at =
      slice_get-map by_convention (conventions_in i) k
      ∙ ap (λ g. option_map by_convention (slice_get (conventions_by g) k)) signature
      ∙ ap (option_map by_convention) (in_front (conventions_of s) [] k t.convention
      (slice_get-map (λ (x : Told). x.convention) (arguments_of s) k ∙ ap (option_map (λ (x : Told). x.convention)) at))

  taken : (k : ℕ) (t : Told) (x : Operand) → slice_get (arguments_of s) k ≡ Some t → slice_get os k ≡ Some x
      → Contains (all_taken i) (taken_as x (by_convention t.convention))
  taken k t x at is =
      by_operand i (taken_as x (by_convention t.convention))
      (subst (λ ts. Contains ts (taken_as x (by_convention t.convention))) (sym taken_is)
      (contained (taken_as o (by_row role.Used) ∷ taken_each os (map by_convention (conventions_in i))) (suc k) (taken_as x (by_convention t.convention))
      (taken_each_at os (map by_convention (conventions_in i)) k x (by_convention t.convention) is (treated k t at))))

  -- the signature is that of a function of the module
  fits_there : (k : ℕ) (t : Told) → slice_get (arguments_of s) k ≡ Some t → fits d t ≡ true
  fits_there k t at =
      let c = called m (well_typed m a.verified) n f a.body.there block index i here call in
      let same : s ≡ c.body.signature = same_Some s c.body.signature (sym signature ∙ c.told) in
      told_fits m c.body (typed_function m (well_typed m a.verified) c.named.0 c.body c.there) k t (ap (λ g. slice_get (arguments_of g) k) (sym same) ∙ at)

  hands : (k : ℕ) (t : Told) (x : Operand) (c : ArgumentConvention) → t.convention ≡ c → slice_get (arguments_of s) k ≡ Some t → slice_get os k ≡ Some x
      → type_in d f x.value ≡ Some (argument_type t) → Hands d f c x.value
  hands k t x convention.Plain e at is ty =
      let object : fits_by d convention.Plain t.ty ≡ true = ap (λ c. fits_by d c t.ty) (sym e) ∙ fits_there k t at in
      let trivial : is_trivial d t.ty ≡ true = (and_parts (is_object t.ty) (is_trivial d t.ty) object).1 in
      trivial_so m n f a x.value (ap (is_trivial_or_untyped d) ty ∙ ap (λ c. is_trivial d (handed_type c t.ty)) e ∙ trivial)
  hands k t x convention.Owned e at is ty =
      subst (λ c. SuitsRole d f (role_handed c) x.value) e
      (suits_at m n f a block index i (taken_as x (by_convention t.convention)) here (taken k t x at is))
  hands k t x convention.Guaranteed e at is ty = tt
  hands k t x (convention.Address c) e at is ty = tt

  handed : AllZip (IsHanded d f) (arguments_of s) os
  handed = zip_by_place (IsHanded d f) (λ x t. has_type (value_types d f) x (argument_type t)) (arguments_of s) os asked
      (λ k t x at is e. let ty = asked_type d f x (argument_type t) e in record { typed = ty; hands = hands k t x t.convention refl at is ty })

pub calls_handed : AreCallsHanded
calls_handed m n f a block index i o os s here call operands signature = handed m n f a block index i here call o os s operands signature
