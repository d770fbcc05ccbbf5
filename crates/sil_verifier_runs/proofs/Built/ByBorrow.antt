-- A building borrow is Guaranteed, and has a building borrow of the object among its bases: it goes by a borrow of the object.
use Rattle.std.proofs.Common.{◌≡◌, inl, inr, ℕ, List, [], ◌∷◌, map, refl, sym, ap, ◌∙◌, subst, Bool, true, false, ◌||◌, Option, Some, None, eq-eqb}
use Rattle.std.specs.Prelude.{Contains, cond, option_map, slice_get}
use Rattle.std.specs.List.{list_any}
use Rattle.std.proofs.lemmas.Bool.{and_from, false≢true}
use Rattle.std.proofs.lemmas.Option.{same_Some}
use Rattle.sil_verifier_frames.specs.memory_rules_accesses.Operations.{access_kind_of}
use Rattle.sil_verifier_frames.specs.memory_rules_accesses.Sources.{source_at, sources_of}
use Rattle.sil_verifier_frames.specs.memory_rules_accesses.declared.source.Source.{Source}
use Rattle.sil_verifier_frames.specs.memory_rules_accesses.declared.source.Source.TheVariants as source
use Rattle.sil_verifier_frames.specs.memory_rules_parts.Building.{builds, goes_by_borrow}
use Rattle.sil_verifier_frames.specs.ownership_kinds_origins.Origins.{chain_operands, definitions_of, is_trivial_or_untyped, result_origin}
use Rattle.sil_verifier_frames.specs.sil_types.Typing.RowTypes.{made_types}
use Rattle.sil_verifier_frames.specs.sil_types.Typing.Shapes.{target}
use Rattle.sil_verifier_frames.specs.sil_types.Typing.Values.{function_at, value_functions}
use Rattle.sil_verifier_frames.proofs.sil_verifier_trails.AcceptedPlaces.Fields.{has_among}
use Rattle.sil_verifier_frames.specs.sil_verifier_values.inner.Bases.{IsBaseOf}
use Rattle.sil_verifier_frames.specs.sil_verifier_values.inner.Known.{IsAcceptedBody, facts_at, kind_at, type_in}
use Rattle.sil_verifier_frames.specs.sil_verifier_values.inner.Operands.{kind_by_row, kind_of_result, kind_together}
use Rattle.sil_verifier_frames.specs.holder_model.RunTyping.Forms.{OfValue, form_by, form_with}
use Rattle.sil_verifier_frames.proofs.sil_verifier_values.Based.{handed_on, lenders_own_bases}
use Rattle.sil_verifier_frames.proofs.sil_verifier_values.Accepted.{typed}
use Rattle.sil_verifier_frames.proofs.sil_verifier_values.Suited.{result_kind}
use Rattle.sil_verifier_frames.proofs.sil_verifier_values.Told.{any_of}
use Rattle.sil_verifier_frames.proofs.holder_model_laws.HolderLaws.Built.About.{built_new}
use Rattle.instruction_table.specs.Forms.{result_kind_of}
use Rattle.instruction_table.specs.declared.entries.ResultKind.TheVariants.{ForwardedResult, ScopeResult}
use Rattle.instruction_table.specs.declared.op.Op.TheVariants as op
use Rattle.numbered_form.specs.Names.{Name}
use Rattle.numbered_form.specs.inner.Parts.{has_operands, is_typed}
use Rattle.sil_verifier_frames.proofs.holder_model_typing.RunTypingLaws.EndFacts.{one_operand}
use Rattle.sil_verifier_frames.specs.ownership_kinds_chains.OwnershipChains.Chains.{operands_at}
use Rattle.sil_verifier_frames.specs.ownership_kinds_chains.OwnershipChains.Facts.{facts_with, forwarded, has, is_guaranteed, is_owned, known_or, origin_at}
use Rattle.sil_verifier_frames.specs.ownership_kinds_chains.declared.ownership_chains.definition.Definition.{Definition}
use Rattle.sil_verifier_frames.specs.ownership_kinds_chains.declared.ownership_chains.definition.Origin.TheVariants as origin
use Rattle.sil_verifier_frames.specs.ownership_kinds_chains.declared.ownership_chains.facts.Facts.{Facts}
use Rattle.numbered_form.proofs.PointChecks.Among.{contained_among}
use Rattle.holder_model_values.specs.RunValues.Shapes.{Reference, shape_of}
use Rattle.holder_model_values.specs.RunValues.Trivial.{is_trivial}
use Rattle.sil_ast.specs.declared.function.Function.{Function}
use Rattle.sil_ast.specs.declared.inst.Inst.{Inst}
use Rattle.sil_ast.specs.declared.module.Module.{Module}
use Rattle.sil_ast.specs.declared.operands.Operand.{Operand}
use Rattle.sil_ast.specs.declared.place.FuncId.{FuncId}
use Rattle.sil_ast.specs.declared.place.ValueId.{ValueId}
use Rattle.sil_ast.specs.declared.type_name.TypeName.{TypeName}
use Rattle.sil_types_declarations.specs.TypeDefinitions.Declarations.{Declarations, declarations_of}
use Rattle.sil_types_declarations.specs.declared.type_definitions.kind.Kind.TheVariants as kind
use Rattle.sil_verifier_frames.proofs.Typed.TrivialShapes.{trivial_shape}
use Rattle.numbered_form.specs.ValueTables.Borrows.{borrow_at, borrow_by, borrows, is_borrow, takes_address}
use Rattle.instruction_table.specs.Forms.{roles_of}
use Rattle.numbered_form.specs.ValueTables.FirstValue.{first_value, value_of}
use Rattle.sil_verifier_runs.specs.inner.Built.Operands.{AreBuildersByBorrow}
use Rattle.sil_verifier_runs.proofs.Built.About.{first_of, operand_of}
use Rattle.sil_verifier_runs.proofs.Built.Builders.{each_builder}
use Rattle.sil_verifier_runs.proofs.Built.Classes.{builder_below, object_class}
use Rattle.sil_verifier_runs.proofs.Built.ValueRows.{IsResultOf, is_made, made_there, makes_borrow, makes_upcast}

-- ---- reading what is computed

each_borrows : (address : Bool) (v : Option ValueId) → borrows (borrow_at address v) ≡ true
each_borrows true v = refl
each_borrows false None = refl
each_borrows false (Some v) = refl

-- what holds an object isn't trivial
class_nontrivial : (d : Declarations) (o : Option TypeName) (g : Option FuncId) (class : Name) → form_by d o g ≡ OfValue (Reference class) → is_trivial_or_untyped d o ≡ false
class_nontrivial d None None class e = cc
class_nontrivial d None (Some g) class e = cc
class_nontrivial d (Some t) g class e = at (is_trivial_or_untyped d (Some t)) refl (target t) e
  where
    at : (b : Bool) → is_trivial_or_untyped d (Some t) ≡ b → (u : Option TypeName) → form_with d t u ≡ OfValue (Reference class) → b ≡ false
    at false is u form = refl
    at true is None form =
        let same : shape_of d t ≡ Reference class = cc in
        absurd (false≢true (sym (ap is_trivial same) ∙ trivial_shape d t is))
    at true is (Some u) form = cc

-- ---- building borrows

module _ (m : Module) (n : ℕ) (f : Function) (a : IsAcceptedBody m n f) (object : ValueId) where
  abbrev d : Declarations
  d = declarations_of m

  abbrev sources : List Source
  sources = sources_of d f

  abbrev defs : List Definition
  defs = definitions_of d f

  pub record GoesBy (v : ValueId) : Type 0 where
    pub guaranteed : kind_at d f v ≡ kind.Guaranteed
    pub base : ValueId
    pub is_base : IsBaseOf d f base v
    pub builds_it : builds sources object base ≡ true

  borrow_goes : (v : ValueId) → source_at sources v ≡ source.Borrow object → builds sources object v ≡ true → GoesBy v
  borrow_goes v is built =
      record {
        guaranteed = ap (λ (x : Facts). x.kind) facts;
        base = v;
        is_base = ap (λ (x : Facts). has x.bases v.0) facts ∙ ap (λ b. b || false) (eq-eqb v.0 v.0 refl);
        builds_it = built;
      }
    where
      x : (x : Inst) × IsResultOf m n f a v x
      x = made_there m n f a v (ap is_made is)

      scope : result_kind_of x.0.op ≡ ScopeResult
      scope = ap result_kind_of (makes_borrow d x.0 object (sym x.1.row.source ∙ is))

      borrow : is_borrow f v ≡ true
      borrow = ap borrows (x.1.row.borrow ∙ ap (λ k. borrow_by k x.0) scope) ∙ each_borrows (takes_address (roles_of x.0.op)) (first_value x.0)

      facts : facts_at d f v ≡ facts_with kind.Guaranteed (v ∷ [])
      facts = ap (λ o. known_or (λ w. o) v) (lenders_own_bases m n f a v (inr borrow)).facts

  nontrivial : (v : ValueId) → builds sources object v ≡ true → is_trivial_or_untyped d (type_in d f v) ≡ false
  nontrivial v built =
      let new = built_new sources object v built in
      let own = object_class m n f a object new.0 new.1 in
      let below = builder_below m n f a object own.class own.of v built in
      class_nontrivial d (type_in d f v) (function_at (value_functions f) v.0) below.0 below.1

  upcast_goes : (v of : ValueId) → source_at sources v ≡ source.Upcast of → GoesBy of → builds sources object v ≡ true → GoesBy v
  upcast_goes v of is by built =
      record {
        guaranteed = guaranteed;
        base = by.base;
        is_base = handed_on m n f a v of by.base guaranteed no_lender among by.guaranteed by.is_base;
        builds_it = by.builds_it;
      }
    where
      x : (x : Inst) × IsResultOf m n f a v x
      x = made_there m n f a v (ap is_made is)

      from : x.0.op ≡ op.Upcast
      from = makes_upcast d x.0 of (sym x.1.row.source ∙ is)

      forwards : result_kind_of x.0.op ≡ ForwardedResult
      forwards = ap result_kind_of from

      only : (o : Operand) × (x.0.operands ≡ o ∷ []) × (is_typed o ≡ true)
      only =
          one_operand is_typed x.0.operands
          (subst (λ o. has_operands o x.0.operands ≡ true) from ((typed m n f a).insts x.1.block x.1.index x.0 x.1.here).parts.operands)

      same : only.0.value ≡ of
      same =
          same_Some only.0.value of
          (sym (ap (λ os. option_map value_of (slice_get os 0)) only.1) ∙ first_of d x.0 (access_kind_of x.0.op) of (sym (ap operand_of x.1.row.source) ∙ ap operand_of is))

      values : map value_of x.0.operands ≡ of ∷ []
      values = ap (map value_of) only.1 ∙ ap (λ w. w ∷ []) same

      together : kind_together d f x.0 ≡ kind.Guaranteed
      together =
          ap (forwarded (facts_at d f)) values
          ∙ ap (λ k. cond (is_owned k || false) kind.Owned (cond (is_guaranteed k || false) kind.Guaranteed kind.Plain)) by.guaranteed

      guaranteed : kind_at d f v ≡ kind.Guaranteed
      guaranteed =
          result_kind m n f a x.1.block x.1.index x.1.place x.0 v x.1.here x.1.at
          ∙ ap (kind_of_result d f x.0) (nontrivial v built)
          ∙ ap (λ k. kind_by_row k (kind_together d f x.0)) forwards ∙ together

      never : (trivial : Bool) → result_origin ForwardedResult trivial ≡ origin.Lender → ⊥
      never true e = cc
      never false e = cc

      no_lender : origin_at defs v ≡ origin.Lender → ⊥
      no_lender e =
          let trivial : Bool = is_trivial_or_untyped d (slice_get (made_types d x.0) x.1.place) in
          never trivial (sym (x.1.row.defined.origin ∙ ap (λ k. result_origin k trivial) forwards) ∙ e)

      among : Contains (operands_at defs v) of
      among =
          subst (λ vs. Contains vs of) (sym (x.1.row.defined.operands ∙ ap (λ k. chain_operands k (map value_of x.0.operands)) forwards ∙ values))
          (contained_among of (of ∷ []) (inl refl))

  pub goes_by : (v : ValueId) → builds sources object v ≡ true → GoesBy v
  goes_by = each_builder sources object GoesBy borrow_goes (λ v of is built by. upcast_goes v of is by built)

  so : (v : ValueId) → GoesBy v → goes_by_borrow sources (facts_at d f v) object ≡ true
  so v by =
      and_from (is_guaranteed (kind_at d f v)) (list_any (builds sources object) (facts_at d f v).bases) (ap is_guaranteed by.guaranteed)
      (any_of (builds sources object) (facts_at d f v).bases by.base
      (contained_among by.base (facts_at d f v).bases (has_among (facts_at d f v).bases by.base by.is_base)) by.builds_it)

pub builders_by_borrow : AreBuildersByBorrow
builders_by_borrow m n f a v object built = so m n f a object v (goes_by m n f a object v built)
