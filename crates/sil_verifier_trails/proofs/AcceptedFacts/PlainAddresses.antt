-- A Plain value with a base is an address by its type: the result of a row that gives addresses.
use Rattle.std.proofs.Common.{◌≡◌, ℕ, zero, suc, List, [], length, refl, sym, ap, ◌∙◌, Bool, true, false, inl, inr, Option, Some, None}
use Rattle.std.specs.Prelude.{option_map, slice_get, unwrap_or}
use Rattle.std.proofs.lemmas.Option.{none-some, same_Some}
use Rattle.instruction_table.specs.Forms.{result_kind_of}
use Rattle.instruction_table.specs.declared.entries.ResultKind.{ResultKind}
use Rattle.instruction_table.specs.declared.entries.ResultKind.TheVariants.{AddressResult, ForwardedResult, NoneResult, OperandResult, OwnedResult, ScopeResult}
use Rattle.instruction_table.specs.declared.op.Op.{Op}
use Rattle.instruction_table.specs.declared.op.Op.TheVariants as op
use Rattle.sil_verifier_values.specs.ownership_kinds_chains.OwnershipChains.Chains.{operands_at}
use Rattle.sil_verifier_values.specs.ownership_kinds_chains.OwnershipChains.Facts.{has, origin_at, told_by}
use Rattle.sil_verifier_values.specs.ownership_kinds_chains.declared.ownership_chains.definition.Definition.{Definition}
use Rattle.sil_verifier_values.specs.ownership_kinds_chains.declared.ownership_chains.definition.Origin.TheVariants as origin
use Rattle.sil_verifier_values.specs.ownership_kinds_chains.declared.ownership_chains.facts.Facts.{Facts}
use Rattle.sil_ast.specs.declared.function.ArgKind.{ArgKind}
use Rattle.sil_ast.specs.declared.function.ArgKind.TheVariants as annotation
use Rattle.sil_ast.specs.declared.function.Function.{Function}
use Rattle.sil_ast.specs.declared.inst.Inst.{Inst}
use Rattle.sil_ast.specs.declared.module.Module.{Module}
use Rattle.sil_ast.specs.declared.place.ValueId.{ValueId}
use Rattle.sil_ast.specs.declared.type_name.TypeName.{TypeName}
use Rattle.sil_ast.specs.declared.type_name.TypeName.TheVariants as type
use Rattle.sil_verifier_values.specs.sil_types_declarations.TypeDefinitions.Declarations.{Declarations, declarations_of}
use Rattle.sil_verifier_values.specs.sil_types_declarations.declared.type_definitions.kind.Kind.TheVariants as kind
use Rattle.sil_verifier_values.specs.sil_types.Typing.RowTypes.{address_of, address_of_field, given_by, gives}
use Rattle.sil_verifier_values.specs.sil_types.Typing.Shapes.{field_address, stored_as, target}
use Rattle.sil_verifier_trails.specs.AcceptedTrails.inner.Bases.{IsBaseOf}
use Rattle.sil_verifier_values.specs.ownership_kinds_origins.Origins.{arg_definition_by, definitions_of, is_zero, result_origin}
use Rattle.sil_verifier_values.specs.ownership_kinds_origins.Switched.{switch_to}
use Rattle.sil_verifier_values.specs.ownership_kinds_origins.declared.switched.Switched.{Switched}
use Rattle.sil_verifier_values.specs.inner.Known.{IsAcceptedBody, facts_at, kind_at, told_in_function, type_in}
use Rattle.sil_verifier_values.proofs.Based.{based}
use Rattle.sil_verifier_values.proofs.Defined.{IsDefined, a_result, an_argument, defined_so}
use Rattle.sil_verifier_values.proofs.Facts.{facts_so}
use Rattle.sil_verifier_values.proofs.TableRows.{argument_rows, result_rows}
use Rattle.sil_verifier_values.proofs.Told.{BaseFrom, addressed, base_from, itself, lent}
use Rattle.sil_verifier_values.proofs.holder_model_typing.RunTypingLaws.Rows.Layers.{target-Address}

-- ---- the rows that give addresses

only_addresses : (k : ResultKind) (trivial : Bool) → result_origin k trivial ≡ origin.Address → k ≡ AddressResult
only_addresses AddressResult trivial e = refl
only_addresses NoneResult trivial e = cc
only_addresses OwnedResult true e = cc
only_addresses OwnedResult false e = cc
only_addresses ScopeResult true e = cc
only_addresses ScopeResult false e = cc
only_addresses ForwardedResult true e = cc
only_addresses ForwardedResult false e = cc
only_addresses OperandResult true e = cc
only_addresses OperandResult false e = cc

no_address_argument : (entry : Bool) (s : Option Switched) (k : ArgKind) (trivial : Bool) → (arg_definition_by entry s k trivial).origin ≡ origin.Address → ⊥
no_address_argument entry s annotation.Plain trivial e = cc
no_address_argument entry s annotation.Owned true e = cc
no_address_argument entry s annotation.Owned false e = cc
no_address_argument true s annotation.Guaranteed true e = cc
no_address_argument true s annotation.Guaranteed false e = cc
no_address_argument false s annotation.Guaranteed true e = cc
no_address_argument false s annotation.Guaranteed false e = cc

-- the type of an address
abbrev pub IsAddressType : TypeName → Type 0
IsAddressType t = (u : TypeName) × (target t ≡ Some u)

given_address : {A : Type 0} (g : A → TypeName) (o : Option A) → ((x : A) → (u : TypeName) × (g x ≡ type.Address u)) → (k : ℕ) (t : TypeName)
    → slice_get (unwrap_or (gives (option_map g o)) []) k ≡ Some t → IsAddressType t
given_address g None addresses k t e = absurd (none-some t e)
given_address g (Some x) addresses zero t e =
    let a = addresses x in (a.0, ap target (sym (same_Some (g x) t e) ∙ a.1) ∙ target-Address a.0)
given_address g (Some x) addresses (suc k) t e = absurd (none-some t e)

address_type : (d : Declarations) (i : Inst) (o : Op) → result_kind_of o ≡ AddressResult → (k : ℕ) (t : TypeName)
    → slice_get (unwrap_or (given_by o d i) []) k ≡ Some t → IsAddressType t
address_type d i op.AllocStack r k t e = given_address address_of _ (λ u. (u, refl)) k t e
address_type d i op.StructElementAddr r k t e = given_address address_of_field _ (λ x. (x.ty, refl)) k t e
address_type d i op.TupleElementAddr r k t e = given_address address_of _ (λ u. (u, refl)) k t e
address_type d i op.RefElementAddr r k t e = given_address field_address _ (λ x. (stored_as x.storage x.ty, refl)) k t e
address_type d i _ r k t e = absurd (cc)

module _ (m : Module) (n : ℕ) (f : Function) (a : IsAcceptedBody m n f) where
  abbrev d : Declarations
  d = declarations_of m

  abbrev defs : List Definition
  defs = definitions_of d f

  from_address : (v b : ValueId) → kind_at d f v ≡ kind.Plain → IsBaseOf d f b v → origin_at defs v ≡ origin.Address
  from_address v b plain base =
      by (base_from (length defs) v (facts_at d f) (operands_at defs v) (origin_at defs v) b.0 (ap (λ (x : Facts). has x.bases b.0) so ∙ base))
    where
      so : told_in_function d f v ≡ facts_at d f v
      so = sym (facts_so m n f a v (based m n f a v b base))

      told_plain : (told_in_function d f v).kind ≡ kind.Plain
      told_plain = ap (λ (x : Facts). x.kind) so ∙ plain

      no_lender : origin_at defs v ≡ origin.Lender → ⊥
      no_lender o =
          let guaranteed : (told_in_function d f v).kind ≡ kind.Guaranteed = ap (λ o. (told_by (length defs) v (facts_at d f) (operands_at defs v) o).kind) o in
          let two : kind.Guaranteed ≡ kind.Plain = sym guaranteed ∙ told_plain in cc

      by : BaseFrom (length defs) v (facts_at d f) (operands_at defs v) (origin_at defs v) (told_in_function d f v).kind b.0 → origin_at defs v ≡ origin.Address
      by (itself same (inl o)) = absurd (no_lender o)
      by (itself same (inr is)) = let two : kind.Owned ≡ kind.Plain = sym is ∙ told_plain in cc
      by (lent lt is w c k h) = let two : kind.Guaranteed ≡ kind.Plain = sym is ∙ told_plain in cc
      by (addressed lt o w c h) = o

  by_row : (v : ValueId) → IsDefined f v → origin_at defs v ≡ origin.Address → (t : TypeName) → type_in d f v ≡ Some t → IsAddressType t
  by_row _ (a_result block index k i v here at) o t e =
      let row = result_rows m n f a block index k i v here at in
      address_type d i i.op (only_addresses (result_kind_of i.op) _ (sym row.defined.origin ∙ o)) k t (sym row.typed ∙ e)
  by_row _ (an_argument b k x at) o t e =
      let row = argument_rows m n f a b k x at in absurd (no_address_argument (is_zero b) (switch_to f b) x.kind _ (sym row.defined.origin ∙ o))

  pub plain_address : (v b : ValueId) → kind_at d f v ≡ kind.Plain → IsBaseOf d f b v → (t : TypeName) → type_in d f v ≡ Some t → IsAddressType t
  plain_address v b plain base t e = by_row v (defined_so m n f v a (based m n f a v b base)) (from_address v b plain base) t e
