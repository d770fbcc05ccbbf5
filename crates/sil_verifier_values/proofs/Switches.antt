-- What a switch hands over: a payload or the whole enum, to the one argument of the block behind its edge.
use Rattle.std.proofs.Common.{◌≡◌, ℕ, zero, suc, ◌<◌, List, [], ◌∷◌, length, map, refl, sym, ap, ap₂, ◌∙◌, subst, arith, Bool, true, false, not, inl, inr, Option, Some, None}
use Rattle.std.specs.Prelude.{◌&&◌, ◌==◌, Contains, is_none, is_some, option_and_then, option_map, slice_get, unwrap_or}
use Rattle.std.specs.List.{list_all}
use Rattle.std.specs.Option.{option_to_list}
use Rattle.std.proofs.lemmas.Bool.{and_parts}
use Rattle.instruction_table.specs.Forms.{ending_of}
use Rattle.instruction_table.specs.declared.op.Op.TheVariants as op
use Rattle.sil_cfg_items.specs.Parts.{terminator_of}
use Rattle.numbered_form.proofs.Lists.{contained, mapped_from}
use Rattle.numbered_form.specs.Numbering.{IsValueBelow, values_of}
use Rattle.holder_model_typing.specs.ownership_kinds_chains.OwnershipChains.Chains.{operands_at}
use Rattle.holder_model_typing.specs.ownership_kinds_chains.OwnershipChains.Facts.{facts_with, origin_at, told_by}
use Rattle.holder_model_typing.specs.ownership_kinds_chains.declared.ownership_chains.definition.Definition.{Definition}
use Rattle.holder_model_typing.specs.ownership_kinds_chains.declared.ownership_chains.definition.Origin.TheVariants as origin
use Rattle.holder_model_typing.specs.ownership_kinds_chains.declared.ownership_chains.facts.Facts.{Facts}
use Rattle.holder_model_typing.specs.ownership_kinds_origins.Facts.{kind_in, kind_of_facts}
use Rattle.sil_verifier_accepted.specs.ownership_kinds.Statics.{fits_switch, is_annotated_well, is_guaranteed_annotation, is_lacking_default, lacks_argument, lacks_by, needs_argument, no_arguments}
use Rattle.sil_verifier_accepted.specs.ownership_kinds.Statics.IsBroken.{lacking}
use Rattle.holder_model_typing.specs.ownership_kinds_origins.Origins.{arg_definition_by, definitions_of, is_trivial_or_untyped, is_zero}
use Rattle.holder_model_typing.specs.ownership_kinds_origins.Switched.{switch_to, switched_by}
use Rattle.holder_model_typing.proofs.RunTypingLaws.FunctionFacts.{TypedInst}
use Rattle.holder_model_typing.proofs.RunTypingLaws.ListFacts.{or_second}
use Rattle.holder_model_typing.proofs.RunTypingLaws.Rows.Finding.{each_at, never_passes, passes_at}
use Rattle.holder_model_typing.proofs.RunTypingLaws.ShapeFacts.{same_types}
use Rattle.holder_model_typing.proofs.RunTypingLaws.SwitchFacts.{SwitchKept, switch_kept}
use Rattle.holder_model_typing.proofs.RunTypingLaws.ValueForms.{operands_written}
use Rattle.sil_ast.specs.Blocks.{args_in, args_of}
use Rattle.sil_ast.specs.declared.function.ArgKind.{ArgKind}
use Rattle.sil_ast.specs.declared.function.ArgKind.TheVariants as annotation
use Rattle.sil_ast.specs.declared.function.Block.{Block}
use Rattle.sil_ast.specs.declared.function.BlockArg.{BlockArg}
use Rattle.sil_ast.specs.declared.function.Form.{Form}
use Rattle.sil_ast.specs.declared.function.Function.{Function}
use Rattle.sil_ast.specs.declared.inst.Edge.{Edge}
use Rattle.sil_ast.specs.declared.inst.Inst.{Inst}
use Rattle.sil_ast.specs.declared.member.Member.{Member}
use Rattle.sil_ast.specs.declared.module.Module.{Module}
use Rattle.sil_ast.specs.declared.operands.Operand.{Operand}
use Rattle.sil_ast.specs.declared.place.EdgeId.{EdgeId}
use Rattle.sil_ast.specs.declared.place.ValueId.{ValueId}
use Rattle.sil_ast.specs.declared.type_name.TypeName.{TypeName}
use Rattle.sil_rules.specs.declared.rule.Rule.TheVariants as rule
use Rattle.holder_model_typing.specs.sil_types.Typing.FormRules.{is_lowered}
use Rattle.holder_model_typing.specs.sil_types.Typing.OperandTypes.{is_as_written}
use Rattle.holder_model_typing.specs.sil_types.Typing.RowTypes.{type_of, written}
use Rattle.holder_model_typing.specs.sil_types.Typing.Same.{are_same_types, is_same_type}
use Rattle.holder_model_typing.specs.sil_types.Typing.SwitchRules as switches
use Rattle.holder_model_typing.specs.sil_types.Typing.SwitchRules.{case_of_edge, fits_payload, has_wrong_cases_by, is_default_argument, is_of_enum, switches_wrongly}
use Rattle.holder_model_typing.specs.sil_types.Typing.Values.{arg_type, value_types}
use Rattle.holder_model_typing.specs.sil_types_declarations.TypeDefinitions.Declarations.{Declarations, declarations_of}
use Rattle.holder_model_typing.specs.sil_types_declarations.TypeDefinitions.Lookups.{Payload}
use Rattle.holder_model_typing.specs.sil_types_declarations.TypeDefinitions.Measures.{is_trivial}
use Rattle.holder_model_typing.specs.sil_types_declarations.declared.type_definitions.kind.Kind.{Kind}
use Rattle.holder_model_typing.specs.sil_types_declarations.declared.type_definitions.kind.Kind.TheVariants as kind
use Rattle.numbered_form.specs.ValueTables.FirstValue.{first_value, value_of}
use Rattle.sil_verifier_values.specs.inner.Bases.{IsBaseOf}
use Rattle.sil_verifier_values.specs.inner.Handed.{AreSwitched, TakenBy, Takes, lends, owns, trivial}
use Rattle.sil_verifier_values.specs.inner.Known.{IsAcceptedBody, IsValue, facts_at, kind_at, type_in}
use Rattle.sil_verifier_values.specs.inner.Rows.{IsArgument}
use Rattle.sil_verifier_values.proofs.Accepted.{counted, has_kinds, typed}
use Rattle.sil_verifier_values.proofs.Based.{handed_on}
use Rattle.sil_verifier_values.proofs.Branches.{annotated_well, behind_entry, edge_leaves, known_end, owned_annotation, owned_argument, plain_argument}
use Rattle.sil_verifier_values.proofs.Facts.{facts_so, told_so}
use Rattle.sil_verifier_values.proofs.Places.{argument_is_value}
use Rattle.sil_verifier_values.proofs.Suited.{trivial_so}
use Rattle.sil_verifier_values.proofs.Switching.{Leaves, switch_of}
use Rattle.sil_verifier_values.proofs.TableRows.{argument_rows}
use Rattle.sil_verifier_values.proofs.Told.{any_of}
use Rattle.sil_verifier_values.proofs.Written.{written_type}

guaranteed_annotation : (k : ArgKind) → is_guaranteed_annotation k ≡ true → k ≡ annotation.Guaranteed
guaranteed_annotation annotation.Plain e = cc
guaranteed_annotation annotation.Owned e = cc
guaranteed_annotation annotation.Guaranteed e = refl

-- one type at most
one_at_most : (xs : List BlockArg) (t : Option TypeName) → are_same_types (map arg_type xs) (option_to_list t) ≡ true → length xs < 2
one_at_most [] t e = omega arith
one_at_most (x ∷ []) t e = omega arith
one_at_most (x ∷ y ∷ xs) None e = cc
one_at_most (x ∷ y ∷ xs) (Some t) e =
    let no : are_same_types (map arg_type (y ∷ xs)) [] ≡ true = (and_parts (is_same_type x.ty t) (are_same_types (map arg_type (y ∷ xs)) []) e).1 in cc

one_by_default : (form : Form) (t : TypeName) (xs : List BlockArg) → is_default_argument form t xs ≡ true → length xs < 2
one_by_default form t [] e = omega arith
one_by_default form t (x ∷ []) e = omega arith
one_by_default form t (x ∷ y ∷ xs) e = cc

module _ (m : Module) (n : ℕ) (f : Function) (a : IsAcceptedBody m n f) (e : EdgeId) (i : Inst) (x : Edge) (v : ValueId) (ends : terminator_of f e.block.0 ≡ Some i)
    (leaves : Leaves f e.block.0 e.index i x) (switch : i.op ≡ op.SwitchEnum) (operand : first_value i ≡ Some v) where
  abbrev d : Declarations
  d = declarations_of m

  known : TypedInst m f i
  known = known_end m n f a e.block.0 i ends

  -- ---- what is switched

  first : (o : Operand) × (slice_get i.operands 0 ≡ Some o) × (value_of o ≡ v)
  first = mapped_from value_of (slice_get i.operands 0) v operand

  is_value : IsValue f v
  is_value = subst (IsValue f) first.2 (each_at (IsValueBelow (length (values_of f.blocks))) i.operands 0 first.0 known.range.operands first.1)

  kind_known : kind_in d f v ≡ Some (kind_at d f v)
  kind_known =
      let so = told_so m n f a v is_value in
      ap (option_map kind_of_facts) so ∙ ap (λ (o : Option Facts). Some (unwrap_or o (facts_with kind.Plain [])).kind) (sym so)

  -- 209
  record IsSwitched : Type 0 where
    ty : TypeName
    is_written : written 0 i ≡ Some ty
    kept : SwitchKept m f ty i.edges

  is_switched : IsSwitched
  is_switched = at (written 0 i) refl (ap (λ o. has_wrong_cases_by o d f i) (sym switch) ∙ known.cases)
    where
      at : (o : Option TypeName) → written 0 i ≡ o → switches_wrongly d f i.edges (written 0 i) ≡ false → IsSwitched
      at None is wrong = let no : true ≡ false = ap (switches_wrongly d f i.edges) (sym is) ∙ wrong in cc
      at (Some t) is right = record { ty = t; is_written = is; kept = switch_kept m f t i.edges (ap (switches_wrongly d f i.edges) (sym is) ∙ right) }

  abbrev t : TypeName
  t = is_switched.ty

  switched_type : type_in d f v ≡ Some t
  switched_type =
      let ty : first.0.ty ≡ Some t = ap (option_and_then type_of) (sym first.1) ∙ is_switched.is_written in
      ap (type_in d f) (sym first.2)
      ∙ written_type d f first.0 t ty (passes_at (is_as_written (value_types d f)) i.operands 0 first.0 (operands_written m f i known) first.1)

  -- ---- the arguments behind the edge

  abbrev target : ℕ
  target = x.block.0

  by_default : is_none x.case_of ≡ true → is_default_argument f.form t (args_of f target) ≡ true
  by_default none =
      or_second (is_some x.case_of) _ (no_case x.case_of none) (passes_at (switches.fits_default f t) i.edges e.index x is_switched.kept.defaults leaves.there)
    where
      no_case : (o : Option Member) → is_none o ≡ true → is_some o ≡ false
      no_case None h = refl
      no_case (Some y) h = cc

  by_case : is_none x.case_of ≡ false → length (args_of f target) < 2
  by_case some =
      at (case_of_edge d t x)
      (or_second (is_none x.case_of) _ some (passes_at (is_of_enum d t) i.edges e.index x is_switched.kept.of_enum leaves.there))
      (passes_at (switches.fits_case d f t) i.edges e.index x is_switched.kept.cases leaves.there)
    where
      at : (o : Option Payload) → is_some o ≡ true → list_all (fits_payload f x) (option_to_list o) ≡ true → length (args_of f target) < 2
      at None is h = cc
      at (Some p) is h = one_at_most (args_of f target) p.ty (and_parts (fits_payload f x p) true h).0

  few : length (args_of f target) < 2
  few = at (is_none x.case_of) refl
    where
      at : (b : Bool) → is_none x.case_of ≡ b → length (args_of f target) < 2
      at true none = one_by_default f.form t (args_of f target) (by_default none)
      at false some = by_case some

  goes : switch_to f target ≡ Some (switched_by x v)
  goes = switch_of m n f a e.block.0 e.index i x v leaves (ap ending_of switch) operand

  -- 305 at a default without an argument
  none_lacking : args_of f target ≡ [] → is_none x.case_of ≡ true → kind_at d f v ≡ kind.Plain
  none_lacking empty default = plain (never_passes (needs_argument (kind_in d f v)) broken)
    where
      bare : (o : Option Block) → args_in o ≡ [] → no_arguments o ≡ true
      bare None h = refl
      bare (Some b) h = ap (λ (ys : List BlockArg). length ys == 0) h

      lacks : lacks_argument f i ≡ true
      lacks =
          ap (λ o. lacks_by (ending_of o) f i) switch
          ∙ any_of (is_lacking_default f) i.edges x (contained i.edges e.index x leaves.there) (ap₂ (λ b c. b && c) default (bare (slice_get f.blocks target) empty))

      broken : needs_argument (kind_in d f v) ≡ true → ⊥
      broken needs =
          let end = (typed m n f a).ends e.block.0 i ends in
          has_kinds m n f a rule.ArgumentKind v e.block.0 end.0 (lacking e.block.0 end.0 i v end.2 lacks operand needs)

      plain : needs_argument (kind_in d f v) ≡ false → kind_at d f v ≡ kind.Plain
      plain h = by (kind_at d f v) (ap needs_argument (sym kind_known) ∙ h)
        where
          by : (k : Kind) → needs_argument (Some k) ≡ false → k ≡ kind.Plain
          by kind.Owned h = cc
          by kind.Guaranteed h = cc
          by kind.Plain h = refl

  module _ (y : BlockArg) (only : args_of f target ≡ y ∷ []) where
    there : slice_get (args_of f target) 0 ≡ Some y
    there = ap (λ ys. slice_get ys 0) only

    -- 305 at the argument
    fits : fits_switch (is_none x.case_of) (is_trivial d y.ty) (Some (kind_at d f v)) y.kind ≡ true
    fits =
        ap (λ k. fits_switch (is_none x.case_of) (is_trivial d y.ty) k y.kind) (sym kind_known)
        ∙ ap (λ s. is_annotated_well (kind_in d f) s (is_trivial d y.ty) y.kind) (sym goes)
        ∙ annotated_well m n f a target 0 y (behind_entry m n f a e i x ends leaves.there) there

    -- a `@guaranteed` argument lends on what is switched
    lent_on : kind_at d f v ≡ kind.Guaranteed → y.kind ≡ annotation.Guaranteed → is_trivial d y.ty ≡ false → Takes d f v y
    lent_on guaranteed annotated nontrivial = lends guaranteed is_guaranteed_too bases
      where
        not_entry : is_zero target ≡ false
        not_entry = at target (behind_entry m n f a e i x ends leaves.there)
          where
            at : (b : ℕ) → 0 < b → is_zero b ≡ false
            at zero lt = absurd (omega arith)
            at (suc b) lt = refl

        row : IsArgument d f target 0 y
        row = argument_rows m n f a target 0 y there

        defined_so : arg_definition_by (is_zero target) (switch_to f target) y.kind (is_trivial d y.ty)
            ≡ arg_definition_by false (Some (switched_by x v)) annotation.Guaranteed false
        defined_so =
            ap₂ (λ z s. arg_definition_by z s y.kind (is_trivial d y.ty)) not_entry goes
            ∙ ap₂ (λ k b. arg_definition_by false (Some (switched_by x v)) k b) annotated nontrivial

        lent_origin : origin_at (definitions_of d f) y.value ≡ origin.Lent
        lent_origin = row.defined.origin ∙ ap (λ (z : Definition). z.origin) defined_so

        operands : operands_at (definitions_of d f) y.value ≡ v ∷ []
        operands = row.defined.operands ∙ ap (λ (z : Definition). z.operands) defined_so

        is_guaranteed_too : kind_at d f y.value ≡ kind.Guaranteed
        is_guaranteed_too =
            ap (λ (z : Facts). z.kind) (facts_so m n f a y.value (argument_is_value f (counted m n f a) target 0 y there))
            ∙ ap (λ o. (told_by (length (definitions_of d f)) y.value (facts_at d f) (operands_at (definitions_of d f) y.value) o).kind) lent_origin

        bases : (b : ValueId) → IsBaseOf d f b v → IsBaseOf d f b y.value
        bases b h =
            handed_on m n f a y.value v b is_guaranteed_too (λ lender. let no : origin.Lent ≡ origin.Lender = sym lent_origin ∙ lender in cc)
            (subst (λ vs. Contains vs v) (sym operands) (0, omega arith, refl)) guaranteed h

    owned_on : kind_at d f v ≡ kind.Owned → y.kind ≡ annotation.Owned → is_trivial d y.ty ≡ false → Takes d f v y
    owned_on owned annotated nontrivial = owns (inl owned) (owned_argument m n f a target 0 y there annotated nontrivial)

    -- what a default takes has the type of what is switched
    same_type : is_none x.case_of ≡ true → y.ty ≡ t
    same_type default =
        let takes : is_default_argument f.form t (y ∷ []) ≡ true = ap (is_default_argument f.form t) (sym only) ∙ by_default default in
        same_types y.ty t (and_parts (not (is_lowered f.form)) (is_same_type y.ty t) takes).1

    by_kind : (c : Bool) → is_none x.case_of ≡ c → (b : Bool) → is_trivial d y.ty ≡ b → (k : Kind) → kind_at d f v ≡ k → fits_switch c b (Some k) y.kind ≡ true
        → Takes d f v y
    by_kind true is true so k has h =
        let plain = trivial_so m n f a v (ap (is_trivial_or_untyped d) switched_type ∙ ap (is_trivial d) (sym (same_type is)) ∙ so) in
        let no : fits_switch true true (Some kind.Plain) y.kind ≡ true = ap (λ z. fits_switch true true (Some z) y.kind) (sym plain ∙ has) ∙ h in
        cc
    by_kind true is false so kind.Owned has h = owned_on has (owned_annotation y.kind h) so
    by_kind true is false so kind.Guaranteed has h = lent_on has (guaranteed_annotation y.kind h) so
    by_kind true is false so kind.Plain has h = cc
    by_kind false is true so k has h = trivial so (plain_argument m n f a target 0 y there so)
    by_kind false is false so kind.Owned has h = owned_on has (owned_annotation y.kind h) so
    by_kind false is false so kind.Guaranteed has h = lent_on has (guaranteed_annotation y.kind h) so
    by_kind false is false so kind.Plain has h = owns (inr has) (owned_argument m n f a target 0 y there (owned_annotation y.kind h) so)

    takes : Takes d f v y
    takes = by_kind (is_none x.case_of) refl (is_trivial d y.ty) refl (kind_at d f v) refl fits

  taken_by : TakenBy d f v x (args_of f target)
  taken_by = at (args_of f target) refl few
    where
      at : (ys : List BlockArg) → args_of f target ≡ ys → length ys < 2 → TakenBy d f v x ys
      at [] is lt = none_lacking is
      at (y ∷ []) is lt = takes y is
      at (y ∷ z ∷ ys) is lt = absurd (omega arith)

pub switched : AreSwitched
switched m n f a e i x v ends is switch operand = taken_by m n f a e i x v ends (edge_leaves m n f a e i x ends is) switch operand
