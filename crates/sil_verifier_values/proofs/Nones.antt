-- Why a value has no owner: what instructions give that give no kind is of a trivial type, and what addresses they give are addresses.
use Rattle.std.proofs.Common.{◌≡◌, ℕ, zero, suc, ◌<◌, List, [], ◌∷◌, map, refl, sym, ap, ap₂, ◌∙◌, subst, arith, Bool, true, false, cond, Option, Some, None}
use Rattle.std.specs.Prelude.{◌&&◌, ◌||◌, option_and_then, option_map, slice_get, unwrap_or, if◌then◌else◌}
use Rattle.std.proofs.lemmas.Bool.{and_parts, false≢true}
use Rattle.std.proofs.lemmas.Option.{same_Some}
use Rattle.argument_conventions.specs.Arguments.{argument_type, arguments_of}
use Rattle.argument_conventions.specs.declared.convention.ArgumentConvention.{ArgumentConvention}
use Rattle.argument_conventions.specs.declared.convention.ArgumentConvention.TheVariants as convention
use Rattle.instruction_table.specs.Forms.{result_kind_of}
use Rattle.instruction_table.specs.declared.entries.ResultKind.{ResultKind}
use Rattle.instruction_table.specs.declared.entries.ResultKind.TheVariants.{NoneResult, OwnedResult, ScopeResult, AddressResult, ForwardedResult, OperandResult}
use Rattle.instruction_table.specs.declared.op.Op.{Op}
use Rattle.instruction_table.specs.declared.op.Op.TheVariants as op
use Rattle.sil_cfg_items.specs.Parts.{edge_in, terminator_in}
use Rattle.numbered_form.specs.Lists.{Each}
use Rattle.holder_model_typing.specs.ownership_kinds_chains.OwnershipChains.Facts.{forwarded, is_guaranteed, is_owned}
use Rattle.holder_model_typing.specs.ownership_kinds_origins.Facts.{kind_in}
use Rattle.sil_verifier_accepted.specs.ownership_kinds.Statics.{fits_block, forwards_by, is_annotated_well}
use Rattle.holder_model_typing.specs.ownership_kinds_origins.Origins.{is_trivial_or_untyped}
use Rattle.holder_model_typing.specs.ownership_kinds_origins.Switched.{switch_to, switched_by}
use Rattle.holder_model_typing.specs.ownership_kinds_origins.declared.switched.Switched.{Switched}
use Rattle.numbered_form.specs.PointChecks.Points.{IsAt}
use Rattle.holder_model_typing.proofs.RunTypingLaws.Rows.Finding.{where_found}
use Rattle.numbered_form.proofs.Lists.{mapped_from}
use Rattle.holder_model_typing.proofs.RunTypingLaws.Rows.Layers.{is_int, target-Address}
use Rattle.holder_model_typing.proofs.RunTypingLaws.ShapeFacts.{same_types}
use Rattle.sil_ast.specs.Blocks.{args_of}
use Rattle.sil_ast.specs.declared.function.BlockArg.{BlockArg}
use Rattle.sil_ast.specs.declared.function.Form.TheVariants.{Ossa}
use Rattle.sil_ast.specs.declared.function.Function.{Function}
use Rattle.sil_ast.specs.declared.inst.Edge.{Edge}
use Rattle.sil_ast.specs.declared.inst.Inst.{Inst}
use Rattle.sil_ast.specs.declared.module.Module.{Module}
use Rattle.sil_ast.specs.declared.place.EdgeId.{EdgeId}
use Rattle.sil_ast.specs.declared.place.ValueId.{ValueId}
use Rattle.sil_ast.specs.declared.type_name.TypeName.{TypeName, TypeName-F, out-TypeName}
use Rattle.sil_ast.specs.declared.type_name.TypeName.TheVariants as type
use Rattle.holder_model_typing.specs.sil_types.Typing.Builtins.{Builtin, Sort, bit, builtin_named, builtin_operands, builtin_result, combining, comparing, overflowing, result_by, sort_of}
use Rattle.holder_model_typing.specs.sil_types.Typing.RowTypes.{address_of, address_of_field, all_written, given_by, gives, gives_builtin, made_types, takes}
use Rattle.holder_model_typing.specs.sil_types.Typing.Same.{are_same_types, is_same_type}
use Rattle.holder_model_typing.specs.sil_types.Typing.Shapes.{field_address, stored_as, is_integer, is_integer_layer, is_object, target, where_it}
use Rattle.holder_model_typing.specs.sil_types.Typing.SignatureRules.{fits_by, is_argument_for}
use Rattle.holder_model_typing.specs.sil_types_declarations.TypeDefinitions.Declarations.{Declarations, all_names, declarations_of}
use Rattle.holder_model_typing.specs.sil_types_declarations.TypeDefinitions.Measures.{is_trivial, is_trivial_measure, measure_at, measures_of}
use Rattle.holder_model_typing.specs.sil_types_declarations.declared.type_definitions.kind.Kind.{Kind}
use Rattle.holder_model_typing.specs.sil_types_declarations.declared.type_definitions.kind.Kind.TheVariants as kind
use Rattle.holder_model_typing.proofs.sil_types_items.TypeMeasures.Agreement.{measure-Int, measure-Tuple}
use Rattle.numbered_form.specs.ValueTables.FirstValue.{first_value, value_of}
use Rattle.sil_verifier_values.specs.inner.Handed.{TakenBy, Takes, kind_told, lends, owns, trivial as is_trivial_payload}
use Rattle.sil_verifier_values.specs.inner.Known.{IsAcceptedBody, facts_at, kind_at, type_in}
use Rattle.sil_verifier_values.specs.inner.Nones.{ArePlainTold, WhyPlain, address, made, trivial, untyped}
use Rattle.sil_verifier_values.specs.inner.Operands.{Forwards, HasNoOwner, kind_by_row, kind_together}
use Rattle.sil_verifier_values.proofs.Accepted.{typed}
use Rattle.sil_verifier_values.proofs.Branches.{annotated_well, owned_annotation, owned_argument}
use Rattle.sil_verifier_values.proofs.Defined.{IsDefined, a_result, an_argument, defined_so}
use Rattle.sil_verifier_values.proofs.Extracts.{extract_row}
use Rattle.sil_verifier_values.proofs.Parameters.{entry_pairs, pair_at, told_fits, told_of}
use Rattle.sil_verifier_values.proofs.Suited.{forwarded_so, result_kind}
use Rattle.sil_verifier_values.proofs.Switches.{switched}
use Rattle.sil_verifier_values.proofs.Switching.{comes_from, only_switch}
use Rattle.sil_verifier_values.proofs.TableRows.{argument_rows, result_rows}

-- ---- what rows give

given_at : (o : Option TypeName) (k : ℕ) (t : TypeName) → slice_get (unwrap_or (gives o) []) k ≡ Some t → o ≡ Some t
given_at None k t e = cc
given_at (Some u) zero t e = e
given_at (Some u) (suc k) t e = cc

nothing_given : {P : Type 0} (o : Option TypeName) (k : ℕ) (t : TypeName) → slice_get (unwrap_or (takes o) []) k ≡ Some t → P
nothing_given None k t e = absurd (cc)
nothing_given (Some u) k t e = absurd (cc)

-- an address, where one is given
given_address : {A : Type 0} (g : A → TypeName) (h : A → TypeName) → ((x : A) → target (g x) ≡ Some (h x)) → (o : Option A) (k : ℕ) (t : TypeName)
    → slice_get (unwrap_or (gives (option_map g o)) []) k ≡ Some t → (u : TypeName) × (target t ≡ Some u)
given_address g h to o k t e =
    let it = mapped_from g o t (given_at (option_map g o) k t e) in
    (h it.0, ap target (sym it.2) ∙ to it.0)

module _ (d : Declarations) where
  int_trivial : (w : ℕ) → is_trivial d (type.Int w) ≡ true
  int_trivial w = ap is_trivial_measure (measure-Int (measure_at (all_names d) (measures_of d)) w)

  pair_trivial : (t u : TypeName) → is_trivial d t ≡ true → is_trivial d u ≡ true → is_trivial d (type.Tuple (t ∷ u ∷ [])) ≡ true
  pair_trivial t u e h =
      ap is_trivial_measure (measure-Tuple (measure_at (all_names d) (measures_of d)) (t ∷ u ∷ []))
      ∙ ap₂ (λ a b. a && (b && true)) e h

  integer_trivial : (t : TypeName) → is_integer t ≡ true → is_trivial d t ≡ true
  integer_trivial t e = at (out-TypeName t) refl e
    where
      at : (x : TypeName-F TypeName) → out-TypeName t ≡ x → is_integer_layer x ≡ true → is_trivial d t ≡ true
      at (TypeName-F.Int w) is h = ap (is_trivial d) (is_int t w is) ∙ int_trivial w
      at _ is h = absurd (cc)

  result_trivial : (s : Sort) (w : ℕ) → is_trivial d (result_by s (type.Int w)) ≡ true
  result_trivial overflowing w = pair_trivial (type.Int w) bit (int_trivial w) (int_trivial 1)
  result_trivial comparing w = int_trivial 1
  result_trivial combining w = int_trivial w

  builtin_trivial : (i : Inst) (o : Option Builtin) (k : ℕ) (t : TypeName) → slice_get (unwrap_or (option_and_then (gives_builtin i i.ty) o) []) k ≡ Some t
      → is_trivial d t ≡ true
  builtin_trivial i None k t e = cc
  builtin_trivial i (Some b) k t e = at (are_same_types (all_written i.operands) (builtin_operands b)) e
    where
      at : (c : Bool) → slice_get (unwrap_or (if c then gives (where_it (is_same_type (builtin_result b)) i.ty) else None) []) k ≡ Some t → is_trivial d t ≡ true
      at true h =
          let it = where_found (is_same_type (builtin_result b)) i.ty t (given_at _ k t h) in
          ap (is_trivial d) (sym (same_types (builtin_result b) t it.1)) ∙ result_trivial (sort_of b.operation) _
      at false h = cc

  none_trivial : (o : Op) (i : Inst) (k : ℕ) (t : TypeName) → result_kind_of o ≡ NoneResult → slice_get (unwrap_or (given_by o d i) []) k ≡ Some t → is_trivial d t ≡ true
  none_trivial op.IntegerLiteral i k t n e = integer_trivial t (where_found is_integer i.ty t (given_at _ k t e)).1
  none_trivial op.FunctionRef i k t n e = cc
  none_trivial op.Builtin i k t n e = builtin_trivial i (option_and_then builtin_named i.text) k t e
  none_trivial op.CondFail i k t n e = nothing_given _ k t e
  none_trivial op.DeallocStack i k t n e = nothing_given _ k t e
  none_trivial op.DestroyValue i k t n e = nothing_given _ k t e
  none_trivial op.EndBorrow i k t n e = nothing_given _ k t e
  none_trivial op.Store i k t n e = nothing_given _ k t e
  none_trivial op.DestroyAddr i k t n e = nothing_given _ k t e
  none_trivial op.StoreWeak i k t n e = nothing_given _ k t e
  none_trivial op.StoreUnowned i k t n e = nothing_given _ k t e
  none_trivial op.DebugValue i k t n e = cc
  none_trivial op.StrongRetain i k t n e = nothing_given _ k t e
  none_trivial op.StrongRelease i k t n e = nothing_given _ k t e
  none_trivial op.RetainValue i k t n e = nothing_given _ k t e
  none_trivial op.ReleaseValue i k t n e = nothing_given _ k t e
  none_trivial op.Br i k t n e = cc
  none_trivial op.CondBr i k t n e = cc
  none_trivial op.Return i k t n e = cc
  none_trivial op.Unreachable i k t n e = cc
  none_trivial _ i k t n e = absurd (cc)

  address_given : (o : Op) (i : Inst) (k : ℕ) (t : TypeName) → result_kind_of o ≡ AddressResult → slice_get (unwrap_or (given_by o d i) []) k ≡ Some t
      → (u : TypeName) × (target t ≡ Some u)
  address_given op.AllocStack i k t n e = given_address address_of (λ u. u) target-Address i.ty k t e
  address_given op.StructElementAddr i k t n e = given_address address_of_field (λ x. x.ty) (λ x. target-Address x.ty) _ k t e
  address_given op.TupleElementAddr i k t n e = given_address address_of (λ u. u) target-Address _ k t e
  address_given op.RefElementAddr i k t n e = given_address field_address (λ x. stored_as x.storage x.ty) (λ x. target-Address (stored_as x.storage x.ty)) _ k t e
  address_given _ i k t n e = absurd (cc)

module _ (m : Module) (n : ℕ) (f : Function) (a : IsAcceptedBody m n f) where
  abbrev d : Declarations
  d = declarations_of m

  -- ---- results of types that aren't trivial

  one_plain : (w : ValueId) → forwarded (facts_at d f) (w ∷ []) ≡ kind.Plain → HasNoOwner d f w
  one_plain w e = at (kind_at d f w) e
    where
      at : (k : Kind) → cond (is_owned k || false) kind.Owned (cond (is_guaranteed k || false) kind.Guaranteed kind.Plain) ≡ kind.Plain → k ≡ kind.Plain
      at kind.Owned h = cc
      at kind.Guaranteed h = cc
      at kind.Plain h = refl

  result_told : (block index k : ℕ) (i : Inst) (v : ValueId) (t : TypeName) → IsAt f block index i → slice_get i.results k ≡ Some v → type_in d f v ≡ Some t
      → is_trivial d t ≡ false → kind_at d f v ≡ kind.Plain → WhyPlain d f v
  result_told block index k i v t here at ty nontrivial e = by (result_kind_of i.op) refl plain
    where
      given : slice_get (made_types d i) k ≡ Some t
      given = sym (result_rows m n f a block index k i v here at).typed ∙ ty

      plain : kind_by_row (result_kind_of i.op) (kind_together d f i) ≡ kind.Plain
      plain =
          ap (λ b. cond b kind.Plain (kind_by_row (result_kind_of i.op) (kind_together d f i))) (sym (ap (is_trivial_or_untyped d) ty ∙ nontrivial))
          ∙ sym (result_kind m n f a block index k i v here at) ∙ e

      by : (r : ResultKind) → result_kind_of i.op ≡ r → kind_by_row (result_kind_of i.op) (kind_together d f i) ≡ kind.Plain → WhyPlain d f v
      by NoneResult is p = absurd (false≢true (sym nontrivial ∙ none_trivial d i.op i k t is given))
      by OwnedResult is p = let no : kind.Owned ≡ kind.Plain = ap (λ r. kind_by_row r (kind_together d f i)) (sym is) ∙ p in cc
      by ScopeResult is p = let no : kind.Guaranteed ≡ kind.Plain = ap (λ r. kind_by_row r (kind_together d f i)) (sym is) ∙ p in cc
      by AddressResult is p = let to = address_given d i.op i k t is given in address t to.0 ty to.1
      by ForwardedResult is p =
          let together : kind_together d f i ≡ kind.Plain = ap (λ r. kind_by_row r (kind_together d f i)) (sym is) ∙ p in
          made block index k i here at
          (subst (λ q. Forwards d f q (map value_of i.operands)) together (forwarded_so m n f a block index i here (ap forwards_by is)))
      by OperandResult is p =
          let one = extract_row i.op i.operands is ((typed m n f a).insts block index i here).parts.operands in
          let together : kind_together d f i ≡ kind.Plain = ap (λ r. kind_by_row r (kind_together d f i)) (sym is) ∙ p in
          let alone : forwarded (facts_at d f) (value_of one.0 ∷ []) ≡ kind.Plain = ap (λ os. forwarded (facts_at d f) (map value_of os)) (sym one.1) ∙ together in
          made block index k i here at (subst (λ os. Each (HasNoOwner d f) (map value_of os)) (sym one.1) (one_plain (value_of one.0) alone, tt))

  -- ---- arguments of types that aren't trivial

  parameter_told : (k : ℕ) (x : BlockArg) → slice_get (args_of f 0) k ≡ Some x → is_trivial d x.ty ≡ false → kind_at d f x.value ≡ kind.Plain → WhyPlain d f x.value
  parameter_told k x at nontrivial e =
      let pair = pair_at (is_argument_for Ossa) (args_of f 0) (arguments_of f.signature) k x (entry_pairs m n f a) at in
      let so = told_of m n f a k pair.0 x pair.1 at pair.2 in
      by pair.0.convention pair.0.ty (told_fits m f (typed m n f a) k pair.0 pair.1) (sym so.has_kind ∙ e) so.typed
    where
      by : (c : ArgumentConvention) (t : TypeName) → fits_by d c t ≡ true → kind_told c ≡ kind.Plain → x.ty ≡ argument_type (record { convention = c; ty = t }) → WhyPlain d f x.value
      by convention.Plain t fit p ty =
          absurd (false≢true (sym nontrivial ∙ ap (is_trivial d) ty ∙ (and_parts (is_object t) (is_trivial d t) fit).1))
      by convention.Owned t fit p ty = cc
      by convention.Guaranteed t fit p ty = cc
      by (convention.Address c) t fit p ty = address x.ty t (argument_rows m n f a 0 k x at).typed (ap target ty ∙ target-Address t)

  -- such an argument of another block has a kind
  no_plain_argument : (b k : ℕ) (x : BlockArg) → 0 < b → slice_get (args_of f b) k ≡ Some x → is_trivial d x.ty ≡ false → kind_at d f x.value ≡ kind.Plain → ⊥
  no_plain_argument b k x lt at nontrivial e = by (switch_to f b) refl
    where
      from_switch : (s : Switched) → switch_to f b ≡ Some s → ⊥
      from_switch s is =
          let it = comes_from f b s is in
          let v = mapped_from (switched_by it.edge) (first_value it.terminator) s it.made in
          let e : EdgeId = record { block = record { 0 = it.block }; index = it.index } in
          let ends = ap terminator_in it.leaves.is_block ∙ ap (λ t. Some t) it.leaves.ends in
          let there = ap (λ o. edge_in o it.index) ends ∙ it.leaves.there in
          none (args_of f it.edge.block.0) k v.0 it.edge (switched m n f a e it.terminator it.edge v.0 ends there (only_switch it.terminator.op it.switches) v.1)
          (ap (λ c. slice_get (args_of f c) k) it.to ∙ at)
        where
          no : (v : ValueId) (y : BlockArg) → y ≡ x → Takes d f v y → ⊥
          no v y same (owns ends p) = let two : kind.Owned ≡ kind.Plain = sym p ∙ ap (λ (z : BlockArg). kind_at d f z.value) same ∙ e in cc
          no v y same (lends g p bases) = let two : kind.Guaranteed ≡ kind.Plain = sym p ∙ ap (λ (z : BlockArg). kind_at d f z.value) same ∙ e in cc
          no v y same (is_trivial_payload triv p) = false≢true (sym nontrivial ∙ ap (λ (z : BlockArg). is_trivial d z.ty) (sym same) ∙ triv)

          none : (ys : List BlockArg) (k : ℕ) (v : ValueId) (x' : Edge) → TakenBy d f v x' ys → slice_get ys k ≡ Some x → ⊥
          none [] k v x' t h = cc
          none (y ∷ []) zero v x' t h = no v y (same_Some y x h) t
          none (y ∷ []) (suc k) v x' t h = cc
          none (y ∷ z ∷ ys) k v x' t h = t

      by : (o : Option Switched) → switch_to f b ≡ o → ⊥
      by None is =
          let fits : fits_block false x.kind ≡ true =
          ap (λ t. fits_block t x.kind) (sym nontrivial)
          ∙ ap (λ s. is_annotated_well (kind_in d f) s (is_trivial d x.ty) x.kind) (sym is) ∙ annotated_well m n f a b k x lt at in
          let owned : kind.Owned ≡ kind.Plain = sym (owned_argument m n f a b k x at (owned_annotation x.kind fits) nontrivial) ∙ e in
          cc
      by (Some s) is = from_switch s is

  argument_told : (b k : ℕ) (x : BlockArg) → slice_get (args_of f b) k ≡ Some x → is_trivial d x.ty ≡ false → kind_at d f x.value ≡ kind.Plain → WhyPlain d f x.value
  argument_told zero k x at nontrivial e = parameter_told k x at nontrivial e
  argument_told (suc b) k x at nontrivial e = absurd (no_plain_argument (suc b) k x (omega arith) at nontrivial e)

  told_by_type : (v : ValueId) → IsDefined f v → kind_at d f v ≡ kind.Plain → (t : TypeName) → type_in d f v ≡ Some t → is_trivial d t ≡ false → WhyPlain d f v
  told_by_type _ (a_result block index k i v here at) e t ty nontrivial = result_told block index k i v t here at ty nontrivial e
  told_by_type _ (an_argument b k x at) e t ty nontrivial =
      let same : t ≡ x.ty = same_Some t x.ty (sym ty ∙ (argument_rows m n f a b k x at).typed) in
      argument_told b k x at (ap (is_trivial d) (sym same) ∙ nontrivial) e

  plain_told_by : (v : ValueId) → IsDefined f v → kind_at d f v ≡ kind.Plain → (o : Option TypeName) → type_in d f v ≡ o → WhyPlain d f v
  plain_told_by v defined e None ty = untyped ty
  plain_told_by v defined e (Some t) ty = by (is_trivial d t) refl
    where
      by : (b : Bool) → is_trivial d t ≡ b → WhyPlain d f v
      by true h = trivial t ty h
      by false h = told_by_type v defined e t ty h

pub plain_told : ArePlainTold
plain_told m n f a v lt e = plain_told_by m n f a v (defined_so m n f v a lt) e (type_in (declarations_of m) f v) refl
