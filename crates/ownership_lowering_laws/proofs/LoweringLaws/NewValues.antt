-- What an instruction defines in lowered code: a spare value where it takes one, and those of its results that have names of their own.
use Rattle.std.proofs.Common.{◌≡◌, ℕ, ◌+◌, ◌≤◌, List, [], ◌∷◌, ◌++◌, length, map, append-nil, refl, sym, ap, ◌∙◌, subst, arith, Bool, true, false, not}
use Rattle.std.proofs.Common.{cond}
use Rattle.std.specs.Prelude.{◌==◌, ◌||◌, filter, slice_get}
use Rattle.std.specs.List.{flat_map}
use Rattle.std.specs.Option.{option_to_list}
use Rattle.std.proofs.lemmas.Bool.{eqb-true}
use Rattle.std.proofs.lemmas.List.{length-map, nil_from_length}
use Rattle.instruction_table.specs.Forms.{results_of as results_of_row}
use Rattle.instruction_table.specs.declared.entries.Results.TheVariants.{NoResult}
use Rattle.instruction_table.specs.declared.op.Op.{Op}
use Rattle.instruction_table.specs.declared.op.Op.TheVariants as op
use Rattle.sil_ast.specs.declared.function.Function.{Function}
use Rattle.sil_ast.specs.declared.inst.Inst.{Inst}
use Rattle.sil_ast.specs.declared.inst.Qualifier.{Qualifier}
use Rattle.sil_ast.specs.declared.inst.Qualifier.TheVariants as word
use Rattle.sil_ast.specs.declared.member.Member.{Member}
use Rattle.sil_ast.specs.declared.operands.Operand.{Operand}
use Rattle.sil_ast.specs.declared.place.ValueId.{ValueId}
use Rattle.numbered_form.specs.Numbering.{results_of}
use Rattle.numbered_form.specs.inner.Limits.{is_assign}
use Rattle.numbered_form.specs.inner.Parts.{are_of_parts, has_operands}
use Rattle.instruction_table.specs.declared.forms.Part.TheVariants as part
use Rattle.ownership_kinds.specs.ownership_kinds_origins.Renamings.{renames, renamings_of}
use Rattle.holder_model_typing.specs.sil_types.Typing.FormRules.{is_at_storage}
use Rattle.holder_model_typing.specs.sil_types.Typing.ResultCounts.{is_count_by}
use Rattle.holder_model_typing.specs.sil_types.Typing.RowTypes.{row_types}
use Rattle.sil_types_declarations.specs.TypeDefinitions.Declarations.{Declarations}
use Rattle.ownership_lowering_model.specs.Extracts.{element_extracts, extracts_elements, extracts_fields, field_extracts, member_of, members_of_struct}
use Rattle.ownership_lowering_model.specs.LoweredInsts.{assigns, becomes, becomes_by, destroys_by, loads_by, lowering_of, operand_at, releases_at, retains_loaded}
use Rattle.ownership_lowering_model.specs.LoweredInsts.{stores_by}
use Rattle.ownership_lowering_model.specs.NewInsts.{loaded_from, release, retain}
use Rattle.ownership_lowering_model.specs.declared.lowering.Lowering.{Lowering}
use Rattle.ownership_lowering_model.specs.declared.lowering.Lowering.TheVariants as lowering
use Rattle.ownership_lowering_laws.proofs.LoweringLaws.Known.{Known, OneTyped, gone, has_name, kept, one_operand, two_operands}
use Rattle.ownership_lowering_laws.proofs.LoweringLaws.Structs.{TakesApart, takes_apart}

-- ---- spare values

abbrev pub takes_spare_by : Lowering → Inst → Bool
takes_spare_by lowering.Stays i = false
takes_spare_by lowering.Vanishes i = false
takes_spare_by lowering.Retains i = false
takes_spare_by lowering.Releases i = false
takes_spare_by lowering.Loads i = false
takes_spare_by lowering.Stores i = is_assign i.qualifier
takes_spare_by lowering.Destroys i = not (is_at_storage i)
takes_spare_by lowering.ExtractsFields i = false
takes_spare_by lowering.ExtractsElements i = false

-- lowering the instruction takes its spare value
abbrev pub takes_spare : Inst → Bool
takes_spare i = takes_spare_by (lowering_of i.op) i

abbrev pub spare_values_by : Bool → ValueId → List ValueId
spare_values_by takes spare = cond takes (spare ∷ []) []

-- ---- rows without results

pub no_results : (d : Declarations) (f : Function) (i : Inst) → Known d f i → (o : Op) → i.op ≡ o → results_of_row o ≡ NoResult → i.results ≡ []
no_results d f i k o e none =
    nil_from_length i.results
    (eqb-true (length i.results) 0 (subst (λ x. is_count_by x (row_types d i) (length i.results) ≡ true) (ap results_of_row e ∙ none) k.lowerable.results))

-- ---- what each kind of lowering defines

module _ (d : Declarations) (spare : ValueId) where
  retains_define : (place : Operand) (vs : List ValueId) (rest : List Inst)
      → flat_map results_of (map (λ v. retain d (loaded_from place v)) vs ++ rest) ≡ flat_map results_of rest
  retains_define place [] rest = refl
  retains_define place (v ∷ vs) rest = retains_define place vs rest

  all_retains_define : (vs : List ValueId) (places : List Operand) → flat_map results_of (flat_map (retains_loaded d spare vs) places) ≡ []
  all_retains_define vs [] = refl
  all_retains_define vs (place ∷ places) = retains_define place vs (flat_map (retains_loaded d spare vs) places) ∙ all_retains_define vs places

  loads_define : (i : Inst) (q : Qualifier) → flat_map results_of (loads_by d spare q i) ≡ i.results
  loads_define i word.Copy = ap (λ vs. i.results ++ vs) (all_retains_define i.results (operand_at 0 i)) ∙ append-nil i.results
  loads_define i _ = append-nil i.results

  stores_define : (i : Inst) (bare place : Operand) → i.operands ≡ bare ∷ place ∷ [] → (q : Qualifier)
      → flat_map results_of (stores_by d spare q i) ≡ spare_values_by (is_assign q) spare ++ i.results
  stores_define i bare place both word.Assign =
      ap (λ os. flat_map results_of (flat_map (assigns d spare i) (option_to_list (slice_get os 1)))) both ∙ ap (λ vs. spare ∷ vs) (append-nil i.results)
  stores_define i bare place both _ = append-nil i.results

  destroys_define : (i : Inst) (place : Operand) → i.operands ≡ place ∷ [] → i.results ≡ [] → (stored : Bool)
      → flat_map results_of (destroys_by d spare stored i) ≡ spare_values_by (not stored) spare ++ i.results
  destroys_define i place only none true = append-nil i.results
  destroys_define i place only none false = ap (λ os. flat_map results_of (flat_map (releases_at d spare) os)) only ∙ ap (λ vs. spare ∷ vs) (sym none)

fields_define : (o : Operand) (ms : List Member) (vs : List ValueId) → length vs ≤ length ms → flat_map results_of (field_extracts o ms vs ++ []) ≡ vs
fields_define o [] [] le = refl
fields_define o [] (v ∷ vs) le = absurd (omega arith)
fields_define o (m ∷ ms) [] le = refl
fields_define o (m ∷ ms) (v ∷ vs) le = ap (λ ws. v ∷ ws) (fields_define o ms vs (omega arith))

elements_define : (o : Operand) (n : ℕ) (vs : List ValueId) → flat_map results_of (element_extracts o n vs ++ []) ≡ vs
elements_define o n [] = refl
elements_define o n (v ∷ vs) = ap (λ ws. v ∷ ws) (elements_define o (n + 1) vs)

pub members_of_operand : (d : Declarations) (i : Inst) (x : Operand) (t : TakesApart d i x)
    → flat_map (members_of_struct d) (option_to_list x.ty) ≡ map (member_of t.struct.name) t.fields
members_of_operand d i x t =
    ap (λ o. flat_map (members_of_struct d) (option_to_list o)) t.is_type ∙ append-nil (members_of_struct d t.ty) ∙ t.struct.members

module _ (d : Declarations) (f : Function) (spare : ValueId) (i : Inst) (k : Known d f i) where
  abbrev own : List ValueId
  own = filter (has_name (renamings_of f)) i.results

  abbrev Defines : Op → Type 0
  Defines o = flat_map results_of (becomes_by d spare (lowering_of o) i) ≡ spare_values_by (takes_spare_by (lowering_of o) i) spare ++ own

  one : (o : Op) → i.op ≡ o → ((os : List Operand) → has_operands o os ≡ (are_of_parts (part.Typed ∷ []) os || false)) → OneTyped i.operands
  one o e row = one_operand d f i k o e row

  none : (o : Op) → i.op ≡ o → results_of_row o ≡ NoResult → [] ≡ own
  none o e is = sym (ap (filter (has_name (renamings_of f))) (no_results d f i k o e is))

  destructs : (x : Operand) → i.operands ≡ x ∷ [] → TakesApart d i x → flat_map results_of (flat_map (extracts_fields d i.results) i.operands) ≡ i.results
  destructs x only t =
      let same : length i.results ≡ length t.fields = t.as_many in
      let many : length (map (member_of t.struct.name) t.fields) ≡ length t.fields = length-map t.fields (member_of t.struct.name) in
      ap (λ os. flat_map results_of (flat_map (extracts_fields d i.results) os)) only
      ∙ ap (λ ms. flat_map results_of (field_extracts x ms i.results ++ [])) (members_of_operand d i x t)
      ∙ fields_define x (map (member_of t.struct.name) t.fields) i.results (omega arith)

  by : (o : Op) → i.op ≡ o → Defines o
  by op.CopyValue e =
      let x = one op.CopyValue e (λ os. refl) in
      ap (λ os. flat_map results_of (map (retain d) os)) x.only ∙ sym (gone d f i k (ap renames e) x.operand x.only)
  by op.DestroyValue e =
      let x = one op.DestroyValue e (λ os. refl) in
      ap (λ os. flat_map results_of (map (release d) os)) x.only ∙ none op.DestroyValue e refl
  by op.MoveValue e = let x = one op.MoveValue e (λ os. refl) in sym (gone d f i k (ap renames e) x.operand x.only)
  by op.BeginBorrow e = let x = one op.BeginBorrow e (λ os. refl) in sym (gone d f i k (ap renames e) x.operand x.only)
  by op.EndBorrow e = none op.EndBorrow e refl
  by op.Load e = loads_define d spare i i.qualifier ∙ sym (kept d f i k (ap renames e))
  by op.LoadBorrow e = loads_define d spare i i.qualifier ∙ sym (kept d f i k (ap renames e))
  by op.Store e =
      let x = two_operands d f i k op.Store e (λ os. refl) in
      stores_define d spare i x.bare x.operand x.both i.qualifier
      ∙ ap (λ vs. spare_values_by (is_assign i.qualifier) spare ++ vs) (sym (kept d f i k (ap renames e)))
  by op.DestroyAddr e =
      let x = one op.DestroyAddr e (λ os. refl) in
      destroys_define d spare i x.operand x.only (no_results d f i k op.DestroyAddr e refl) (is_at_storage i)
      ∙ ap (λ vs. spare_values_by (not (is_at_storage i)) spare ++ vs) (sym (kept d f i k (ap renames e)))
  by op.DestructureStruct e =
      let x = one op.DestructureStruct e (λ os. refl) in
      destructs x.operand x.only (takes_apart d f i k e x.operand x.only) ∙ sym (kept d f i k (ap renames e))
  by op.DestructureTuple e =
      let x = one op.DestructureTuple e (λ os. refl) in
      ap (λ os. flat_map results_of (flat_map (extracts_elements i.results) os)) x.only ∙ elements_define x.operand 0 i.results
      ∙ sym (kept d f i k (ap renames e))
  by o e = append-nil i.results ∙ sym (kept d f i k (ap renames e))

  pub new_values : flat_map results_of (becomes d spare i) ≡ spare_values_by (takes_spare i) spare ++ own
  new_values = by i.op refl
