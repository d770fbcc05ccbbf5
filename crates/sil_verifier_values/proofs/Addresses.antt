-- The bases of addresses lend themselves: no operand of an address is Owned.
use Rattle.std.proofs.Common.{◌≡◌, ℕ, zero, suc, List, [], ◌∷◌, length, map, refl, sym, ap, ap₂, ◌∙◌, subst, arith, Bool, true, false, not, cond, ◌⊎◌, inl, inr, Option, Some, None}
use Rattle.std.specs.Prelude.{Contains, is_some, option_and_then, option_map, slice_get}
use Rattle.std.proofs.lemmas.Bool.{and_parts, ne_eqb}
use Rattle.std.proofs.lemmas.Option.{same_Some, slice_get-map}
use Rattle.argument_conventions.specs.Arguments.{argument_type, arguments_of}
use Rattle.argument_conventions.specs.declared.convention.ArgumentConvention.{ArgumentConvention}
use Rattle.argument_conventions.specs.declared.convention.ArgumentConvention.TheVariants as convention
use Rattle.holder_model_typing.specs.holder_model.Effects.{effect_of}
use Rattle.holder_model_typing.specs.holder_model.declared.row_effect.RowEffect.{RowEffect}
use Rattle.holder_model_typing.specs.holder_model.declared.row_effect.RowEffect.TheVariants as effect
use Rattle.instruction_table.specs.Forms.{result_kind_of, roles_of}
use Rattle.instruction_table.specs.declared.entries.ResultKind.{ResultKind}
use Rattle.instruction_table.specs.declared.entries.ResultKind.TheVariants.{NoneResult, OwnedResult, ScopeResult, AddressResult, ForwardedResult, OperandResult}
use Rattle.instruction_table.specs.declared.entries.Role.TheVariants as role
use Rattle.instruction_table.specs.declared.op.Op.{Op}
use Rattle.instruction_table.specs.declared.op.Op.TheVariants as op
use Rattle.sil_cfg_items.specs.Roles.{by_row, conventions_in, roles_for, taken_as, taken_by, taken_each}
use Rattle.numbered_form.proofs.Lists.{contained}
use Rattle.numbered_form.specs.inner.Parts.{has_operands, is_typed}
use Rattle.holder_model_typing.proofs.OwnedRunTyping.OwnedInsts.{owned_inst}
use Rattle.holder_model_typing.specs.OwnedRunTyping.inner.OwnedRows as owned
use Rattle.holder_model_typing.specs.OwnedRunTyping.inner.OwnedRows.{OwnedRowForms}
use Rattle.holder_model_typing.proofs.ownership_kinds_chains.OwnershipChains.FactLemmas.{are_unique}
use Rattle.holder_model_typing.specs.ownership_kinds_chains.OwnershipChains.Chains.{operands_at}
use Rattle.holder_model_typing.specs.ownership_kinds_chains.OwnershipChains.Facts.{AreFactsOf, facts_with, has, origin_at, told, told_by, value_of}
use Rattle.holder_model_typing.specs.ownership_kinds_chains.declared.ownership_chains.definition.Definition.{Definition}
use Rattle.holder_model_typing.specs.ownership_kinds_chains.declared.ownership_chains.definition.Origin.TheVariants as origin
use Rattle.holder_model_typing.specs.ownership_kinds_chains.declared.ownership_chains.facts.Facts.{Facts}
use Rattle.holder_model_typing.specs.ownership_kinds_origins.Origins.{arg_definition_by, chain_operands, definitions_of, is_trivial_or_untyped, is_zero, result_origin}
use Rattle.holder_model_typing.specs.ownership_kinds_origins.Switched.{switch_to}
use Rattle.holder_model_typing.specs.ownership_kinds_origins.declared.switched.Switched.{Switched}
use Rattle.numbered_form.specs.PointChecks.Points.{IsAt}
use Rattle.holder_model_typing.specs.holder_model.RunTyping.Forms.{Form, OfPlace, OfValue, form_by, form_of, form_with, forms_of}
use Rattle.holder_model_typing.specs.holder_model.RunTyping.RowForms as rows
use Rattle.holder_model_typing.specs.holder_model.RunTyping.RowForms.{RowForms}
use Rattle.holder_model_typing.proofs.RunTypingLaws.BlockFacts.{no_address}
use Rattle.holder_model_typing.proofs.RunTypingLaws.EndFacts.{no_operand, one_operand}
use Rattle.holder_model_typing.proofs.RunTypingLaws.FunctionFacts.{TypedInst}
use Rattle.holder_model_typing.proofs.RunTypingLaws.Rows.Finding.{found_behind, mapped_some, passes_at}
use Rattle.holder_model_typing.proofs.RunTypingLaws.Rows.Layers.{object_target}
use Rattle.holder_model_typing.proofs.RunTypingLaws.ValueForms.{operands_written, row_kept}
use Rattle.holder_model_typing.specs.holder_model_values.RunValues.Shapes.{Shape, shape_of}
use Rattle.sil_ast.specs.Blocks.{args_of}
use Rattle.sil_ast.specs.declared.function.ArgKind.{ArgKind}
use Rattle.sil_ast.specs.declared.function.ArgKind.TheVariants as annotation
use Rattle.sil_ast.specs.declared.function.BlockArg.{BlockArg}
use Rattle.sil_ast.specs.declared.function.Form.TheVariants.{Ossa}
use Rattle.sil_ast.specs.declared.function.Function.{Function}
use Rattle.sil_ast.specs.declared.inst.Inst.{Inst}
use Rattle.sil_ast.specs.declared.member.Member.{Member}
use Rattle.sil_ast.specs.declared.module.Module.{Module}
use Rattle.sil_ast.specs.declared.operands.Operand.{Operand}
use Rattle.sil_ast.specs.declared.place.ValueId.{ValueId}
use Rattle.sil_ast.specs.declared.type_name.TypeName.{TypeName}
use Rattle.sil_cfg.specs.Items.{point_at}
use Rattle.holder_model_typing.specs.sil_types.Typing.EdgeRules.{lets_address_escape}
use Rattle.holder_model_typing.specs.sil_types.Typing.OperandTypes.{is_as_written}
use Rattle.holder_model_typing.specs.sil_types.Typing.RowTypes.{address_of, address_of_field, given_by, gives, type_of, written}
use Rattle.holder_model_typing.specs.sil_types.Typing.Shapes.{element_of, is_object, struct_field, target}
use Rattle.holder_model_typing.specs.sil_types.Typing.SignatureRules.{fits_by, is_argument_for}
use Rattle.holder_model_typing.specs.sil_types.Typing.Values.{function_at, value_functions, value_types}
use Rattle.holder_model_typing.specs.sil_types_declarations.TypeDefinitions.Declarations.{Declarations, declarations_of}
use Rattle.holder_model_typing.specs.sil_types_declarations.TypeDefinitions.Measures.{is_trivial}
use Rattle.holder_model_typing.specs.sil_types_declarations.declared.type_definitions.kind.Kind.{Kind}
use Rattle.holder_model_typing.specs.sil_types_declarations.declared.type_definitions.kind.Kind.TheVariants as kind
use Rattle.numbered_form.specs.ValueTables.FirstValue as values
use Rattle.sil_verifier_values.specs.inner.Bases.{AreAddressesOfLenders}
use Rattle.sil_verifier_values.specs.inner.Handed.{kind_told}
use Rattle.sil_verifier_values.specs.inner.Known.{IsAcceptedBody, IsValue, facts_at, kind_at, type_in}
use Rattle.sil_verifier_values.specs.inner.Nones.{AreAddressesPlain}
use Rattle.sil_verifier_values.specs.inner.Operands.{MayLend, kind_by_row, kind_together}
use Rattle.sil_verifier_values.proofs.Accepted.{in_ownership_form, typed, well_typed}
use Rattle.sil_verifier_values.proofs.Based.{based, lender, lent_so}
use Rattle.sil_verifier_values.proofs.Counted.{nothing_in, stands}
use Rattle.sil_verifier_values.proofs.Defined.{IsDefined, a_result, an_argument, defined_so}
use Rattle.sil_verifier_values.proofs.Facts.{known, operand_is_value, value_or_none}
use Rattle.sil_verifier_values.proofs.Made.{at_point_of_result}
use Rattle.sil_verifier_values.proofs.Parameters.{entry_pairs, pair_at, told_fits, told_of}
use Rattle.sil_verifier_values.proofs.Suited.{by_operand, result_kind, suits_at}
use Rattle.sil_verifier_values.proofs.TableRows.{argument_rows, result_rows}
use Rattle.sil_verifier_values.proofs.Told.{BaseFrom, addressed, base_from, itself, lent}
use Rattle.sil_verifier_values.proofs.Written.{written_type}

-- ---- the rows that give addresses

abbrev names_place : RowEffect → Bool
names_place effect.MakesSlot = true
names_place effect.AddressesMember = true
names_place effect.AddressesField = true
names_place _ = false

gives_address : (o : Op) → names_place (effect_of o) ≡ true → result_kind_of o ≡ AddressResult
gives_address op.AllocStack e = refl
gives_address op.StructElementAddr e = refl
gives_address op.TupleElementAddr e = refl
gives_address op.RefElementAddr e = refl
gives_address _ e = absurd (cc)

no_place : (form : Form) (s : Shape) (k : ℕ) → (form ≡ OfPlace s → ⊥) → slice_get (form ∷ []) k ≡ Some (OfPlace s) → ⊥
no_place form s zero other e = other (cc)
no_place form s (suc k) other e = cc

no_place_of_values : (ss : List Shape) (s : Shape) (k : ℕ) → slice_get (map OfValue ss) k ≡ Some (OfPlace s) → ⊥
no_place_of_values [] s k e = cc
no_place_of_values (x ∷ ss) s zero e = cc
no_place_of_values (x ∷ ss) s (suc k) e = no_place_of_values ss s k e

module _ (m : Module) (i : Inst) where
  abbrev Names : Type 0
  Names = names_place (effect_of i.op) ≡ true

  place_of_lowered : (xs ys : List Form) → RowForms m i xs ys → (k : ℕ) (s : Shape) → slice_get ys k ≡ Some (OfPlace s) → Names
  place_of_lowered _ _ (rows.looks form e) k s h = cc
  place_of_lowered _ _ (rows.literal n w e num res) k s h = absurd (no_place _ s k (λ x. cc) h)
  place_of_lowered _ _ (rows.function g e is) k s h = absurd (no_place _ s k (λ x. cc) h)
  place_of_lowered _ _ (rows.computes b e is) k s h = absurd (no_place _ s k (λ x. cc) h)
  place_of_lowered _ _ (rows.traps text e is) k s h = cc
  place_of_lowered _ _ (rows.object class e is) k s h = absurd (no_place _ s k (λ x. cc) h)
  place_of_lowered _ _ (rows.slot w t e is) k s h = ap names_place e
  place_of_lowered _ _ (rows.removes t e) k s h = cc
  place_of_lowered _ _ (rows.upcast class above e is) k s h = absurd (no_place _ s k (λ x. cc) h)
  place_of_lowered _ _ (rows.retains t e none) k s h = cc
  place_of_lowered _ _ (rows.drops t e none) k s h = cc
  place_of_lowered _ _ (rows.loads t e done none) k s h = absurd (no_place _ s k (λ x. cc) h)
  place_of_lowered _ _ (rows.stores t e done none) k s h = cc
  place_of_lowered _ _ (rows.loads_name w t o e named done is) k s h = absurd (no_place _ s k (λ x. cc) h)
  place_of_lowered _ _ (rows.stores_name w t o e named done is) k s h = cc
  place_of_lowered _ _ (rows.destroys_name w t e named done) k s h = cc
  place_of_lowered _ _ (rows.groups t ss e is) k s h = absurd (no_place _ s k (λ x. cc) h)
  place_of_lowered _ _ (rows.chooses_plain t j c e is place there none) k s h = absurd (no_place _ s k (λ x. cc) h)
  place_of_lowered _ _ (rows.chooses_full t payload j c e is place there full) k s h = absurd (no_place _ s k (λ x. cc) h)
  place_of_lowered _ _ (rows.member t part j e number there) k s h = absurd (no_place _ s k (λ x. cc) h)
  place_of_lowered _ _ (rows.member_address t part j e number there) k s h = ap names_place e
  place_of_lowered _ _ (rows.field_address class named t j e is owner number there) k s h = ap names_place e
  place_of_lowered _ _ (rows.calls g callee e there some) k s h = absurd (no_place _ s k (λ x. cc) h)
  place_of_lowered _ _ (rows.calls_out g callee widths e there none) k s h = absurd (no_place _ s k (λ x. cc) h)

  place_of_row : (xs ys : List Form) → OwnedRowForms m i xs ys → (k : ℕ) (s : Shape) → slice_get ys k ≡ Some (OfPlace s) → Names
  place_of_row _ _ (owned.also_lowered xs ys r) k s h = place_of_lowered xs ys r k s h
  place_of_row _ _ (owned.gives t e none) k s h = absurd (no_place _ s k (λ x. cc) h)
  place_of_row _ _ (owned.copies t e none) k s h = absurd (no_place _ s k (λ x. cc) h)
  place_of_row _ _ (owned.loads t o e done is none) k s h = absurd (no_place _ s k (λ x. cc) h)
  place_of_row _ _ (owned.stores t o e done is none) k s h = cc
  place_of_row _ _ (owned.destroys t e done none) k s h = cc
  place_of_row _ _ (owned.members t ss e is) k s h = absurd (no_place_of_values ss s k h)

-- ---- the operands of addresses

only_addresses : (k : ResultKind) (trivial : Bool) → result_origin k trivial ≡ origin.Address → k ≡ AddressResult
only_addresses NoneResult trivial e = cc
only_addresses OwnedResult true e = cc
only_addresses OwnedResult false e = cc
only_addresses ScopeResult true e = cc
only_addresses ScopeResult false e = cc
only_addresses AddressResult trivial e = refl
only_addresses ForwardedResult true e = cc
only_addresses ForwardedResult false e = cc
only_addresses OperandResult true e = cc
only_addresses OperandResult false e = cc

no_address_argument : (entry : Bool) (s : Option Switched) (k : ArgKind) (trivial : Bool) → (arg_definition_by entry s k trivial).origin ≡ origin.Address → ⊥
no_address_argument entry s annotation.Plain trivial e = cc
no_address_argument entry s annotation.Owned true e = cc
no_address_argument entry s annotation.Owned false e = cc
no_address_argument true s annotation.Guaranteed true e = cc
no_address_argument true s annotation.Guaranteed false e = cc
no_address_argument false s annotation.Guaranteed true e = cc
no_address_argument false s annotation.Guaranteed false e = cc

-- a slot has no operand; a field's object is lent; a part's operand is an address
data AddressRow (i : Inst) : Type 0 where
  of_slot : i.operands ≡ [] → AddressRow i
  of_field : (x : Operand) → i.operands ≡ x ∷ [] → roles_of i.op ≡ role.Lent ∷ [] → AddressRow i
  of_part : (x : Operand) (t u : TypeName) → i.operands ≡ x ∷ [] → written 0 i ≡ Some t → target t ≡ Some u → AddressRow i

some_given : (o : Option TypeName) → is_some (gives o) ≡ true → is_some o ≡ true
some_given None e = cc
some_given (Some t) e = refl

module _ (d : Declarations) (i : Inst) where
  named_at : {A : Type 0} (find : Member → TypeName → Option A) (g : A → TypeName) (at : Option TypeName)
      → is_some (option_map g (option_and_then (λ n. option_and_then (find n) at) i.member)) ≡ true → (t : TypeName) × (at ≡ Some t)
  named_at find g None e = by i.member e
    where
      by : (o : Option Member) → is_some (option_map g (option_and_then (λ (n : Member). option_and_then (find n) None) o)) ≡ true → (t : TypeName) × (None ≡ Some t)
      by None e = cc
      by (Some n) e = cc
  named_at find g (Some t) e = (t, refl)

  first_written : (x : Operand) (t : TypeName) → i.operands ≡ x ∷ [] → written 0 i ≡ Some t → x.ty ≡ Some t
  first_written x t only e = ap (λ os. option_and_then type_of (slice_get os 0)) (sym only) ∙ e

  address_row : (o : Op) → i.op ≡ o → result_kind_of o ≡ AddressResult → has_operands o i.operands ≡ true → is_some (given_by o d i) ≡ true → AddressRow i
  address_row op.AllocStack is e h g = of_slot (no_operand i.operands h)
  address_row op.RefElementAddr is e h g = let one = one_operand is_typed i.operands h in of_field one.0 one.1 (ap roles_of is)
  address_row op.StructElementAddr is e h g =
      let one = one_operand is_typed i.operands h in
      let at = named_at (struct_field d) address_of_field (option_and_then target (written 0 i)) (some_given _ g) in
      let there = found_behind target (written 0 i) at.0 at.1 in
      of_part one.0 there.0 at.0 one.1 there.1 there.2
  address_row op.TupleElementAddr is e h g =
      let one = one_operand is_typed i.operands h in
      let it = mapped_some address_of (option_and_then (element_of i.number) (option_and_then target (written 0 i))) (some_given _ g) in
      let at = found_behind (element_of i.number) (option_and_then target (written 0 i)) it.0 it.1 in
      let there = found_behind target (written 0 i) at.0 at.1 in
      of_part one.0 there.0 at.0 one.1 there.1 there.2
  address_row _ is e h g = absurd (cc)

module _ (m : Module) (n : ℕ) (f : Function) (a : IsAcceptedBody m n f) where
  abbrev d : Declarations
  d = declarations_of m

  abbrev defs : List Definition
  defs = definitions_of d f

  -- ---- an address has no owner

  place_form_of : (v : ValueId) (t u : TypeName) → type_in d f v ≡ Some t → target t ≡ Some u → form_of d f v ≡ OfPlace (shape_of d u)
  place_form_of v t u ty at = ap (λ o. form_by d o (function_at (value_functions f) v.0)) ty ∙ ap (form_with d t) at

  -- a parameter that is a value, or has no owner
  parameter_plain : (k : ℕ) (x : BlockArg) (u : TypeName) → slice_get (args_of f 0) k ≡ Some x → target x.ty ≡ Some u → kind_at d f x.value ≡ kind.Plain
  parameter_plain k x u at to =
      let pair = pair_at (is_argument_for Ossa) (args_of f 0) (arguments_of f.signature) k x (entry_pairs m n f a) at in
      let so = told_of m n f a k pair.0 x pair.1 at pair.2 in
      by pair.0.convention pair.0.ty (told_fits m f (typed m n f a) k pair.0 pair.1) so.has_kind so.typed
    where
      no_object : {P : Type 0} (t : TypeName) → is_object t ≡ true → x.ty ≡ t → P
      no_object t object same = let two : None ≡ Some u = sym (object_target t object) ∙ ap target (sym same) ∙ to in absurd (cc)

      by : (c : ArgumentConvention) (t : TypeName) → fits_by d c t ≡ true → kind_at d f x.value ≡ kind_told c → x.ty ≡ argument_type (record { convention = c; ty = t })
          → kind_at d f x.value ≡ kind.Plain
      by convention.Plain t fit e ty = e
      by convention.Owned t fit e ty = no_object t (and_parts (is_object t) (not (is_trivial d t)) fit).0 ty
      by convention.Guaranteed t fit e ty = no_object t (and_parts (is_object t) (not (is_trivial d t)) fit).0 ty
      by (convention.Address c) t fit e ty = e

  -- 210
  inner_argument : (b k : ℕ) (x : BlockArg) → slice_get (args_of f (suc b)) k ≡ Some x → target x.ty ≡ None
  unfolding lets_address_escape
  inner_argument b k x at = no_address f.blocks (suc b) k x (typed m n f a).escapes (ne_eqb (suc b) 0 (λ e. omega arith)) at

  place_plain : (v : ValueId) → IsDefined f v → (t u : TypeName) → type_in d f v ≡ Some t → target t ≡ Some u → kind_at d f v ≡ kind.Plain
  place_plain _ (a_result block index k i v here at) t u ty to =
      let row = owned_inst m (well_typed m a.verified) n f a.body.there (point_at block index) i
      (at_point_of_result m n f a v block index i here (contained i.results k v at)) (in_ownership_form m n f a) in
      let form : slice_get (forms_of d f i.results) k ≡ Some (OfPlace (shape_of d u)) =
      slice_get-map (form_of d f) i.results k ∙ ap (option_map (form_of d f)) at ∙ ap (λ x. Some x) (place_form_of v t u ty to) in
      let address = gives_address i.op (place_of_row m i _ _ row.row k (shape_of d u) form) in
      result_kind m n f a block index k i v here at
      ∙ ap (λ r. cond (is_trivial_or_untyped d (type_in d f v)) kind.Plain (kind_by_row r (kind_together d f i))) address
      ∙ both_plain (is_trivial_or_untyped d (type_in d f v))
    where
      both_plain : (b : Bool) → cond b kind.Plain kind.Plain ≡ kind.Plain
      both_plain true = refl
      both_plain false = refl
  place_plain _ (an_argument b k x at) t u ty to = by b at
    where
      same : x.ty ≡ t
      same = same_Some x.ty t (sym (argument_rows m n f a b k x at).typed ∙ ty)

      by : (b : ℕ) → slice_get (args_of f b) k ≡ Some x → kind_at d f x.value ≡ kind.Plain
      by zero at = parameter_plain k x u at (ap target same ∙ to)
      by (suc b) at = let two : None ≡ Some u = sym (inner_argument b k x at) ∙ ap target same ∙ to in absurd (cc)

  pub plain_place : (v : ValueId) (t u : TypeName) → type_in d f v ≡ Some t → target t ≡ Some u → kind_at d f v ≡ kind.Plain
  plain_place v t u ty to = at (value_or_none d f v)
    where
      at : IsValue f v ⊎ (facts_at d f v ≡ facts_with kind.Plain []) → kind_at d f v ≡ kind.Plain
      at (inl lt) = place_plain v (defined_so m n f v a lt) t u ty to
      at (inr none) = ap (λ (x : Facts). x.kind) none

  -- ---- no operand of an address is Owned

  operand_taken : (block index : ℕ) (i : Inst) (x : Operand) → IsAt f block index i → i.operands ≡ x ∷ [] → roles_of i.op ≡ role.Lent ∷ [] → kind_at d f x.value ≡ kind.Owned → ⊥
  operand_taken block index i x here only roles e =
      by (suits_at m n f a block index i (taken_as x (by_row role.Lent)) here
      (by_operand i (taken_as x (by_row role.Lent)) (contained (taken_by i) 0 (taken_as x (by_row role.Lent)) first)))
    where
      first : slice_get (taken_by i) 0 ≡ Some (taken_as x (by_row role.Lent))
      first = ap₂ (λ rs os. slice_get (taken_each os (roles_for rs (conventions_in i) (length os))) 0) roles only

      by : MayLend d f x.value → ⊥
      by (inl guaranteed) = cc
      by (inr plain) = cc

  no_owned_operand : (v w : ValueId) → IsDefined f v → origin_at defs v ≡ origin.Address → Contains (operands_at defs v) w → kind_at d f w ≡ kind.Owned → ⊥
  no_owned_operand _ w (a_result block index k i v here at) e c owned =
      let row = result_rows m n f a block index k i v here at in
      let address = only_addresses (result_kind_of i.op) _ (sym row.defined.origin ∙ e) in
      let known : TypedInst m f i = (typed m n f a).insts block index i here in
      let operands : operands_at defs v ≡ map values.value_of i.operands = row.defined.operands ∙ ap (λ x. chain_operands x (map values.value_of i.operands)) address in
      by (address_row d i i.op refl address known.parts.operands (row_kept m f i known)) (subst (λ vs. Contains vs w) operands c)
    where
      only_one : (x : Operand) → i.operands ≡ x ∷ [] → Contains (map values.value_of i.operands) w → x.value ≡ w
      only_one x only c = from (stands (x.value ∷ []) w (subst (λ os. Contains (map values.value_of os) w) only c))
        where
          from : (k : ℕ) × (slice_get (x.value ∷ []) k ≡ Some w) → x.value ≡ w
          from (zero, h) = same_Some x.value w h
          from (suc k, h) = cc

      by : AddressRow i → Contains (map values.value_of i.operands) w → ⊥
      by (of_slot none) c = nothing_in w (subst (λ os. Contains (map values.value_of os) w) none c)
      by (of_field x only roles) c = operand_taken block index i x here only roles (ap (kind_at d f) (only_one x only c) ∙ owned)
      by (of_part x t u only is to) c =
          let first : slice_get i.operands 0 ≡ Some x = ap (λ os. slice_get os 0) only in
          let ty = written_type d f x t (first_written d i x t only is)
          (passes_at (is_as_written (value_types d f)) i.operands 0 x (operands_written m f i ((typed m n f a).insts block index i here)) first) in
          let same = only_one x only c in
          let two : kind.Plain ≡ kind.Owned = sym (plain_place w t u (ap (type_in d f) (sym same) ∙ ty) to) ∙ owned in
          cc
  no_owned_operand _ w (an_argument b k x at) e c owned =
      let row = argument_rows m n f a b k x at in no_address_argument (is_zero b) (switch_to f b) x.kind _ (sym row.defined.origin ∙ e)

  -- ---- so the bases of an address lend themselves

  abbrev HasBase : Facts → ℕ → Type 0
  HasBase x b = has x.bases b ≡ true

  address_lent : (v : ValueId) (x : Facts) → AreFactsOf defs v x → IsValue f v → x.kind ≡ kind.Plain → (b : ℕ) → HasBase x b → origin_at defs (value_of b) ≡ origin.Lender
  address_lent v _ (told _ at below) lt e b h =
      by (base_from (length defs) v at (operands_at defs v) (origin_at defs v) b h) (λ w c o p. address_lent w (at w) (below w c) (operand_is_value m n f a v w lt c) p b o)
    where
      from : (w : ValueId) → origin_at defs v ≡ origin.Address → Contains (operands_at defs v) w → HasBase (at w) b
          → ((at w).kind ≡ kind.Plain → origin_at defs (value_of b) ≡ origin.Lender) → (k : Kind) → (at w).kind ≡ k → origin_at defs (value_of b) ≡ origin.Lender
      from w o c h rest kind.Owned k =
          let same = are_unique defs w (at w) (facts_at d f w) (below w c) (known m n f a w (operand_is_value m n f a v w lt c)) in
          absurd (no_owned_operand v w (defined_so m n f v a lt) o c (sym (ap (λ (y : Facts). y.kind) same) ∙ k))
      from w o c h rest kind.Guaranteed k = lent_so defs w (at w) (below w c) k b h
      from w o c h rest kind.Plain k = rest k

      by : BaseFrom (length defs) v at (operands_at defs v) (origin_at defs v) (told_by (length defs) v at (operands_at defs v) (origin_at defs v)).kind b
          → ((w : ValueId) → Contains (operands_at defs v) w → HasBase (at w) b → (at w).kind ≡ kind.Plain → origin_at defs (value_of b) ≡ origin.Lender)
          → origin_at defs (value_of b) ≡ origin.Lender
      by (itself same (inl o)) rest = ap (λ k. origin_at defs (value_of k)) same ∙ o
      by (itself same (inr owned)) rest = cc
      by (lent less g w c k h) rest = cc
      by (addressed less o w c h) rest = from w o c h (rest w c h) (at w).kind refl

pub addresses_plain : AreAddressesPlain
addresses_plain m n f a v t u ty to = plain_place m n f a v t u ty to

pub addresses_of_lenders : AreAddressesOfLenders
addresses_of_lenders m n f a v b e h =
    let lt = based m n f a v b h in
    lender m n f a b (address_lent m n f a v (facts_at (declarations_of m) f v) (known m n f a v lt) lt e b.0 h)
