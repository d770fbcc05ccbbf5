-- The terminators of lowered blocks are typed: what their edges hand over, and the cases of switches.
use Rattle.std.proofs.Common.{◌≡◌, ℕ, suc, ◌+◌, List, [], ◌∷◌, length, map, refl, sym, ap, ap₂, ◌∙◌, cond, Bool, true, false, not, Option, Some, None}
use Rattle.std.specs.Prelude.{◌&&◌, ◌||◌, ◌==◌, is_some, option_and_then, slice_get, count_by, unwrap_or}
use Rattle.std.specs.List.{cons_option, flat_map, list_all, list_any, range_with_len}
use Rattle.std.specs.Option.{option_to_list}
use Rattle.std.proofs.lemmas.Bool.{and_from, or_from, or_left}
use Rattle.std.proofs.lemmas.List.Folds.{list_all-map}
use Rattle.std.proofs.lemmas.List.Sums.{sum_by-append, sum_by-cons}
use Rattle.instruction_table.specs.declared.op.Op.{Op}
use Rattle.instruction_table.specs.declared.op.Op.TheVariants as op
use Rattle.numbered_form.specs.Numbering.{values_of}
use Rattle.ownership_kinds_chains.specs.declared.ownership_chains.definition.Definition.{Definition}
use Rattle.ownership_kinds.specs.ownership_kinds_origins.Renamings.{renamings_of}
use Rattle.sil_ast.specs.Blocks.{args_of}
use Rattle.sil_ast.specs.declared.function.Block.{Block}
use Rattle.sil_ast.specs.declared.function.Form.TheVariants.{Lowered}
use Rattle.sil_ast.specs.declared.function.Function.{Function}
use Rattle.sil_ast.specs.declared.inst.Edge.{Edge}
use Rattle.sil_ast.specs.declared.inst.Inst.{Inst}
use Rattle.sil_ast.specs.declared.member.Member.{Member}
use Rattle.sil_ast.specs.declared.module.Module.{Module}
use Rattle.sil_ast.specs.declared.place.ValueId.{ValueId}
use Rattle.sil_ast.specs.declared.type_name.TypeName.{TypeName}
use Rattle.sil_types_declarations.specs.TypeDefinitions.Declarations.{Declarations, declarations_of}
use Rattle.sil_types_declarations.specs.TypeDefinitions.Lookups.{Payload}
use Rattle.holder_model_typing.specs.sil_types.Typing.EdgeRules.{has_block_types, has_wrong_edge_arguments, have_wrong_arguments_by}
use Rattle.holder_model_typing.specs.sil_types.Typing.RowTypes.{written}
use Rattle.holder_model_typing.specs.sil_types.Typing.Same.{are_same_types}
use Rattle.holder_model_typing.specs.sil_types.Typing.Shapes.{case_count, case_in}
use Rattle.holder_model_typing.specs.sil_types.Typing.SwitchRules.{case_of_edge, edges_of_block, fits_case, fits_default, fits_payload, has_case, has_number, has_wrong_cases}
use Rattle.holder_model_typing.specs.sil_types.Typing.SwitchRules.{has_wrong_cases_by}
use Rattle.holder_model_typing.specs.sil_types.Typing.SwitchRules.{is_alone, is_default, is_default_argument, is_of_enum, is_to, leaves_out_case, misfits_default, misfits_payload}
use Rattle.holder_model_typing.specs.sil_types.Typing.SwitchRules.{names_other_case, place_in_enum, places_of, repeats_case, shares_block, switches_wrongly, are_once}
use Rattle.ownership_lowering_model.specs.LoweredBlocks.{blocks_become}
use Rattle.ownership_lowering_model.specs.LoweredModules.{lowered_body}
use Rattle.ownership_lowering_model.specs.Numbers.{new_number, numbering_of, renumbered, renumbered_edge, renumbered_inst}
use Rattle.holder_model_typing.proofs.RunTypingLaws.Rows.Finding.{passes_at}
use Rattle.ownership_lowering_laws.proofs.LoweredTypingLaws.Args.{default_gone, types_stay}
use Rattle.ownership_lowering_laws.proofs.LoweredTypingLaws.Renumbered.{all_written_same, written_same}
use Rattle.ownership_lowering_laws.proofs.LoweredTypingLaws.Sound.{Sound, SoundFunction}
use Rattle.ownership_lowering_laws.proofs.LoweredTypingLaws.Switches.{IsSwitch, branch_kept, case_kept, default_goes, is_switch, sound_block}

all_pass : {A : Type 0} (test : A → Bool) (xs : List A) → ((k : ℕ) (x : A) → slice_get xs k ≡ Some x → test x ≡ true) → list_all test xs ≡ true
all_pass test [] h = refl
all_pass test (x ∷ xs) h = and_from (test x) (list_all test xs) (h 0 x refl) (all_pass test xs (λ k y at. h (suc k) y at))

-- ---- edges with new numbers

module _ (num : ValueId → ValueId) where
  count_same : (k : ℕ) (es : List Edge) → count_by (is_to k) (map (renumbered_edge num) es) ≡ count_by (is_to k) es
  count_same k [] = refl
  count_same k (e ∷ es) =
      sum_by-cons (λ x. cond (is_to k x) 1 0) (renumbered_edge num e) (map (renumbered_edge num) es)
      ∙ ap (λ n. cond (is_to k e) 1 0 + n) (count_same k es)
      ∙ sym (sum_by-cons (λ x. cond (is_to k x) 1 0) e es)

  places_same : (d : Declarations) (t : TypeName) (es : List Edge) → places_of d t (map (renumbered_edge num) es) ≡ places_of d t es
  places_same d t [] = refl
  places_same d t (e ∷ es) = ap (cons_option (place_in_enum d t e)) (places_same d t es)

  default_same : (es : List Edge) → list_any is_default (map (renumbered_edge num) es) ≡ list_any is_default es
  default_same [] = refl
  default_same (e ∷ es) = ap (λ b. is_default e || b) (default_same es)

  enum_same : (d : Declarations) (t : TypeName) (es : List Edge) → list_all (is_of_enum d t) (map (renumbered_edge num) es) ≡ list_all (is_of_enum d t) es
  enum_same d t [] = refl
  enum_same d t (e ∷ es) = ap (λ b. is_of_enum d t e && b) (enum_same d t es)

  edges_same : (d : Declarations) (renamings : List Definition) (k s : ℕ) (bs : List Block)
      → count_by (is_to k) (flat_map edges_of_block (renumbered num (blocks_become d renamings s bs))) ≡ count_by (is_to k) (flat_map edges_of_block bs)
  edges_same d renamings k s [] = refl
  edges_same d renamings k s (b ∷ bs) =
      sum_by-append (λ x. cond (is_to k x) 1 0) (map (renumbered_edge num) b.terminator.edges)
      (flat_map edges_of_block (renumbered num (blocks_become d renamings (s + length b.insts) bs)))
      ∙ ap₂ (λ x y. x + y) (count_same k b.terminator.edges) (edges_same d renamings k (s + length b.insts) bs)
      ∙ sym (sum_by-append (λ x. cond (is_to k x) 1 0) b.terminator.edges (flat_map edges_of_block bs))

module _ (m : Module) (f : Function) (sound : SoundFunction m f) (n : ℕ) (b : Block) (is_block : slice_get f.blocks n ≡ Some b) where
  abbrev d : Declarations
  d = declarations_of m

  abbrev num : ValueId → ValueId
  num = new_number (numbering_of d f)

  abbrev low : Function
  low = lowered_body d f

  abbrev i : Inst
  i = b.terminator

  end : Sound m f i
  end = (sound_block m f sound n b is_block).end.sound

  -- ---- 203

  block_types : (j : ℕ) (e : Edge) → slice_get i.edges j ≡ Some e → (i.op ≡ op.SwitchEnum → ⊥)
      → has_block_types low (renumbered_edge num e) ≡ has_block_types f e
  block_types j e at other =
      ap₂ are_same_types (all_written_same num e.args) (types_stay d f sound.numbered.values e.block.0 (branch_kept m f sound n j b e is_block at other))

  all_fit : (i.op ≡ op.SwitchEnum → ⊥) → (es : List Edge)
      → ((j : ℕ) (e : Edge) → slice_get es j ≡ Some e → has_block_types low (renumbered_edge num e) ≡ has_block_types f e)
      → list_all (has_block_types low) (map (renumbered_edge num) es) ≡ list_all (has_block_types f) es
  all_fit other [] same = refl
  all_fit other (e ∷ es) same = ap₂ (λ x y. x && y) (same 0 e refl) (all_fit other es (λ j x at. same (suc j) x at))

  arguments_by : (o : Op) → i.op ≡ o → have_wrong_arguments_by o low (map (renumbered_edge num) i.edges) ≡ have_wrong_arguments_by o f i.edges
  arguments_by op.Br is = let other : (i.op ≡ op.SwitchEnum → ⊥) = λ e. (cc) in ap not (all_fit other i.edges (λ j e at. block_types j e at other))
  arguments_by op.CondBr is = let other : (i.op ≡ op.SwitchEnum → ⊥) = λ e. (cc) in ap not (all_fit other i.edges (λ j e at. block_types j e at other))
  arguments_by _ is = refl

  pub arguments_kept : has_wrong_edge_arguments low (renumbered_inst num i) ≡ false
  unfolding has_wrong_edge_arguments
  arguments_kept = arguments_by i.op refl ∙ end.edges

  -- ---- 209

  module _ (switch : i.op ≡ op.SwitchEnum) where
    sw : IsSwitch m f sound i
    sw = is_switch m f sound i end switch

    alone_same : (e : Edge) → is_alone low (renumbered_edge num e) ≡ is_alone f e
    alone_same e = ap (λ k. k == 1) (edges_same num d (renamings_of f) e.block.0 (length (values_of f.blocks)) f.blocks)

    alone : list_all (is_alone low) (map (renumbered_edge num) i.edges) ≡ true
    alone = list_all-map (is_alone low) (renumbered_edge num) i.edges ∙ all_pass (λ e. is_alone low (renumbered_edge num e)) i.edges (λ j e at.
        alone_same e ∙ passes_at (is_alone f) i.edges j e sw.kept.alone at)

    payloads : list_all (fits_case d low sw.ty) (map (renumbered_edge num) i.edges) ≡ true
    payloads =
        list_all-map (fits_case d low sw.ty) (renumbered_edge num) i.edges ∙ all_pass (λ e. fits_case d low sw.ty (renumbered_edge num e)) i.edges (λ j e at.
        by j e at e.case_of refl)
      where
        by : (j : ℕ) (e : Edge) → slice_get i.edges j ≡ Some e → (o : Option Member) → e.case_of ≡ o → fits_case d low sw.ty (renumbered_edge num e) ≡ true
        by j e at None none = ap (λ o. list_all (fits_payload low (renumbered_edge num e)) (option_to_list (option_and_then (λ n. case_in d n sw.ty) o))) none
        by j e at (Some c) some =
            let types = types_stay d f sound.numbered.values e.block.0 (case_kept m f sound n j b e is_block at switch (ap is_some some)) in
            ap (λ ts. list_all (λ (p : Payload). are_same_types ts (option_to_list p.ty)) (option_to_list (case_of_edge d sw.ty e))) types
            ∙ passes_at (fits_case d f sw.ty) i.edges j e sw.kept.cases at

    defaults : list_all (fits_default low sw.ty) (map (renumbered_edge num) i.edges) ≡ true
    defaults =
        list_all-map (fits_default low sw.ty) (renumbered_edge num) i.edges
        ∙ all_pass (λ e. fits_default low sw.ty (renumbered_edge num e)) i.edges (λ j e at. by j e at (has_case e) refl)
      where
        by : (j : ℕ) (e : Edge) → slice_get i.edges j ≡ Some e → (c : Bool) → has_case e ≡ c → fits_default low sw.ty (renumbered_edge num e) ≡ true
        by j e at true case = or_left (has_case e) (is_default_argument Lowered sw.ty (args_of low e.block.0)) case
        by j e at false default =
            let v = default_goes m f sound n j b e is_block at switch default in
            ap₂ (λ x y. x || y) default (ap (is_default_argument Lowered sw.ty) (default_gone d f sound.numbered.values e.block.0 v.0 v.1))

    switches : switches_wrongly d low (map (renumbered_edge num) i.edges) (Some sw.ty) ≡ false
    switches =
        let es : List Edge = map (renumbered_edge num) i.edges in
        let t : TypeName = sw.ty in
        let one = names_other_case d t es in
        let two = one || repeats_case d t es in
        let three = two || leaves_out_case d t es in
        let four = three || shares_block low es in
        let five = four || misfits_payload d low t es in
        or_from five (misfits_default low t es)
        (or_from four (misfits_payload d low t es)
        (or_from three (shares_block low es)
        (or_from two (leaves_out_case d t es)
        (or_from one (repeats_case d t es)
        (ap not (enum_same num d t i.edges) ∙ sw.kept.of_enum)
        (ap (λ ns. not (are_once ns)) (places_same num d t i.edges) ∙ sw.kept.once))
        (ap₂ (λ x ns. not (x || list_all (has_number ns) (range_with_len 0 (unwrap_or (case_count d t) 0))))
        (default_same num i.edges) (places_same num d t i.edges)
        ∙ sw.kept.all_there))
        (ap not alone))
        (ap not payloads))
        (ap not defaults)

    switch_typed : switches_wrongly d low (map (renumbered_edge num) i.edges) (written 0 (renumbered_inst num i)) ≡ false
    switch_typed = ap (switches_wrongly d low (map (renumbered_edge num) i.edges)) (written_same num 0 i ∙ sw.typed) ∙ switches

  cases_by : (o : Op) → i.op ≡ o → has_wrong_cases_by o d low (renumbered_inst num i) ≡ false
  cases_by op.SwitchEnum is = switch_typed is
  cases_by _ is = refl

  pub cases_kept : has_wrong_cases d low (renumbered_inst num i) ≡ false
  cases_kept = cases_by i.op refl
