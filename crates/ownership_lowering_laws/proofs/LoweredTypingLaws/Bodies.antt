-- What stands at the points of a lowered body: an instruction that stands in the place of one, or a terminator; and what is asked of the body itself.
use Rattle.std.proofs.Common.{◌≡◌, ℕ, zero, suc, ◌+◌, List, [], ◌∷◌, ◌++◌, length, map, refl, sym, ap, ap₂, ◌∙◌, subst, cond, Bool, true, false, not, Option}
use Rattle.std.proofs.Common.{Some, ◌⊎◌, inl, inr}
use Rattle.std.specs.Prelude.{◌&&◌, ◌||◌, drop, filter, slice_get}
use Rattle.std.specs.List.{flat_map, list_any}
use Rattle.std.proofs.lemmas.Bool.{and_from, and_parts, not-false, or_parts}
use Rattle.std.proofs.lemmas.List.Concat.{flat_map-append}
use Rattle.argument_conventions.specs.Arguments.{Told, argument_type, arguments_of}
use Rattle.numbered_form.specs.Insts.{insts_of}
use Rattle.numbered_form.specs.Lists.{Each}
use Rattle.numbered_form.specs.Numbering.{defined_in, results_of, value_of, values_of}
use Rattle.ownership_kinds.specs.ownership_kinds_origins.Renamings.{renamings_of}
use Rattle.numbered_form.specs.PointChecks.Points.{IsAt}
use Rattle.sil_ast.specs.Blocks.{args_of}
use Rattle.sil_ast.specs.declared.function.Block.{Block}
use Rattle.sil_ast.specs.declared.function.BlockArg.{BlockArg}
use Rattle.sil_ast.specs.declared.function.Form.TheVariants.{Ossa, Lowered}
use Rattle.sil_ast.specs.declared.function.Function.{Function}
use Rattle.sil_ast.specs.declared.inst.Inst.{Inst}
use Rattle.sil_ast.specs.declared.module.Module.{Module}
use Rattle.sil_ast.specs.declared.place.ValueId.{ValueId}
use Rattle.sil_ast.specs.declared.type_name.TypeName.{TypeName}
use Rattle.sil_types_declarations.specs.TypeDefinitions.Declarations.{Declarations, declarations_of}
use Rattle.holder_model_typing.specs.sil_types.Typing.EdgeRules.{has_address_type, lets_address_escape, takes_address}
use Rattle.holder_model_typing.specs.sil_types.Typing.Same.{all_pairs, is_same_type}
use Rattle.holder_model_typing.specs.sil_types.Typing.SignatureRules.{has_entry_arguments, has_fitting_conventions, has_wrong_signature, is_annotated_for, is_argument_for}
use Rattle.holder_model_typing.specs.sil_types.Typing.SignatureRules.{is_external}
use Rattle.holder_model_typing.specs.sil_types.Typing.Values.{arg_has, result_types, type_at}
use Rattle.ownership_lowering_model.specs.LoweredBlocks.{args_become, block_becomes, blocks_become, has_own_name, insts_become, lowered_blocks, value_with}
use Rattle.ownership_lowering_model.specs.LoweredBlocks.{without_annotation}
use Rattle.ownership_lowering_model.specs.LoweredInsts.{becomes}
use Rattle.ownership_lowering_model.specs.LoweredModules.{lowered_body}
use Rattle.ownership_lowering_model.specs.Numbers.{new_number, numbering_of, renumbered, renumbered_arg, renumbered_block, renumbered_inst}
use Rattle.holder_model_typing.proofs.RunTypingLaws.Declared.{each_append}
use Rattle.holder_model_typing.proofs.RunTypingLaws.Found.{each_at}
use Rattle.holder_model_typing.proofs.RunTypingLaws.ListFacts.{each_parts, or_second}
use Rattle.ownership_lowering_laws.proofs.LoweredTypingLaws.Args.{args_stay, lowered_args}
use Rattle.ownership_lowering_laws.proofs.LoweredTypingLaws.Lists.{from_mapped}
use Rattle.ownership_lowering_laws.proofs.LoweredTypingLaws.NewTypes.{spare_type}
use Rattle.ownership_lowering_laws.proofs.LoweredTypingLaws.Points.{Low, becomes_low}
use Rattle.ownership_lowering_laws.proofs.LoweredTypingLaws.Sound.{SoundBlock, SoundInside, Source}
use Rattle.ownership_lowering_laws.proofs.LoweredTypingLaws.Switches.{entry_kept}
use Rattle.ownership_lowering_laws.proofs.LoweredTypingLaws.Tables.{blocks_typed, defined_typed, new_table, operands_kept, type_told}
use Rattle.ownership_lowering_laws.proofs.LoweredTypingLaws.Told.{BlocksTold, InstsTold}

in_or_last : {A : Type 0} (xs : List A) (x : A) (k : ℕ) (y : A) → slice_get (xs ++ x ∷ []) k ≡ Some y → (slice_get xs k ≡ Some y) ⊎ (y ≡ x)
in_or_last [] x zero y e = inr (cc)
in_or_last [] x (suc k) y e = cc
in_or_last (z ∷ xs) x zero y e = inl e
in_or_last (z ∷ xs) x (suc k) y e = in_or_last xs x k y e

module _ (m : Module) (f : Function) (source : Source m f) where
  abbrev d : Declarations
  d = declarations_of m

  abbrev num : ValueId → ValueId
  num = new_number (numbering_of d f)

  abbrev table : List (Option TypeName)
  table = new_table m f source

  abbrev told : ValueId → Option TypeName
  told = type_told m f source

  abbrev pub LowHere : Inst → Type 0
  LowHere = Low m f num table

  abbrev IsPlaced : ValueId → Type 0
  IsPlaced v = type_at table (num v).0 ≡ told v

  insts_low : (s : ℕ) (is : List Inst) → Each (SoundInside m f) is → InstsTold arg_has (result_types d) spare_type told s is
      → Each IsPlaced (flat_map results_of (insts_become d (renamings_of f) s is)) → Each LowHere (insts_become d (renamings_of f) s is)
  insts_low s [] h t placed = tt
  insts_low s (i ∷ is) h t placed =
      let here = becomes d (value_with s) i in
      let rest = insts_become d (renamings_of f) (s + 1) is in
      let both =
      each_parts IsPlaced (flat_map results_of here) (flat_map results_of rest) (subst (Each IsPlaced) (flat_map-append results_of here rest) placed) in
      each_append LowHere here rest
      (becomes_low m f num table source i h.0 told s t.0 (operands_kept m f source i.operands h.0.sound.range.operands) both.0)
      (insts_low (s + 1) is h.1 t.1 both.1)

  abbrev AreLow : Block → Type 0
  AreLow b = Each LowHere b.insts

  blocks_low : (s : ℕ) (bs : List Block) → Each (SoundBlock m f) bs → BlocksTold arg_has (result_types d) spare_type told s bs
      → Each IsPlaced (values_of (blocks_become d (renamings_of f) s bs)) → Each AreLow (blocks_become d (renamings_of f) s bs)
  blocks_low s [] h t placed = tt
  blocks_low s (b ∷ bs) h t placed =
      let here = block_becomes d (renamings_of f) s b in
      let both = each_parts IsPlaced (defined_in here) (values_of (blocks_become d (renamings_of f) (s + length b.insts) bs)) placed in
      let own = each_parts IsPlaced (map value_of here.args) (flat_map results_of (insts_of here)) both.0 in
      let inner = each_parts IsPlaced (flat_map results_of here.insts) (flat_map results_of (b.terminator ∷ []))
      (subst (Each IsPlaced) (flat_map-append results_of here.insts (b.terminator ∷ [])) own.1) in
      (insts_low s b.insts h.0.insts t.0.insts inner.0, blocks_low (s + length b.insts) bs h.1 t.1 both.1)

  all_low : Each AreLow (lowered_blocks d f)
  all_low =
      blocks_low (length (values_of f.blocks)) f.blocks source.sound.blocks (blocks_typed m f source)
      (defined_typed m f source)

  -- ---- what stands at a point

  pub data StandsAt (block : ℕ) (i : Inst) : Type 0 where
    inside : (j : Inst) → LowHere j → renumbered_inst num j ≡ i → StandsAt block i
    end : (b : Block) → slice_get f.blocks block ≡ Some b → renumbered_inst num b.terminator ≡ i → StandsAt block i

  block_from : (s : ℕ) (bs : List Block) (k : ℕ) (b : Block) → slice_get (blocks_become d (renamings_of f) s bs) k ≡ Some b
      → (c : Block) × (slice_get bs k ≡ Some c) × (c.terminator ≡ b.terminator)
  block_from s [] k b e = cc
  block_from s (c ∷ bs) zero b e = let same : block_becomes d (renamings_of f) s c ≡ b = cc in (c, refl, ap (λ x. x.terminator) same)
  block_from s (c ∷ bs) (suc k) b e = block_from (s + length c.insts) bs k b e

  pub stands_at : (block index : ℕ) (i : Inst) → IsAt (lowered_body d f) block index i → StandsAt block i
  stands_at block index i at =
      let b = from_mapped (renumbered_block num) (lowered_blocks d f) block at.within at.is_block in
      let c = block_from (length (values_of f.blocks)) f.blocks block b.0 b.1 in
      let low : AreLow b.0 = each_at AreLow (lowered_blocks d f) block b.0 all_low b.1 in
      let there : slice_get (map (renumbered_inst num) b.0.insts ++ renumbered_inst num b.0.terminator ∷ []) index ≡ Some i =
      ap (λ x. slice_get (insts_of x) index) b.2 ∙ at.is_inst in
      by b.0 c.0 c.1 c.2 low (in_or_last (map (renumbered_inst num) b.0.insts) (renumbered_inst num b.0.terminator) index i there)
    where
      by : (b c : Block) → slice_get f.blocks block ≡ Some c → c.terminator ≡ b.terminator → AreLow b
          → (slice_get (map (renumbered_inst num) b.insts) index ≡ Some i) ⊎ (i ≡ renumbered_inst num b.terminator) → StandsAt block i
      by b c is same low (inl e) = let j = from_mapped (renumbered_inst num) b.insts index i e in inside j.0 (each_at LowHere b.insts index j.0 low j.1) j.2
      by b c is same low (inr e) = end c is (ap (renumbered_inst num) same ∙ sym e)

  -- ---- 206 and 210 of the body itself

  args_fit : (args : List BlockArg) (ts : List Told) → all_pairs (is_argument_for Ossa) args ts ≡ true
      → all_pairs (is_argument_for Lowered) (map (renumbered_arg num) (map without_annotation args)) ts ≡ true
  args_fit [] [] e = refl
  args_fit [] (t ∷ ts) e = cc
  args_fit (a ∷ args) [] e = cc
  args_fit (a ∷ args) (t ∷ ts) e =
      let both = and_parts (is_argument_for Ossa a t) (all_pairs (is_argument_for Ossa) args ts) e in
      let typed = and_parts (is_same_type a.ty (argument_type t)) (is_annotated_for Ossa a t.convention) both.0 in
      and_from (is_same_type a.ty (argument_type t) && true) _ (and_from (is_same_type a.ty (argument_type t)) true typed.0 refl) (args_fit args ts both.1)

  pub signature_fits : has_wrong_signature d (lowered_body d f) ≡ false
  unfolding has_wrong_signature
  signature_fits =
      let both = and_parts (has_fitting_conventions d f.signature) (has_entry_arguments f) (not-false _ source.sound.signature) in
      let entry : all_pairs (is_argument_for Ossa) (args_of f 0) (arguments_of f.signature) ≡ true =
      subst (λ x. all_pairs (is_argument_for x) (args_of f 0) (arguments_of f.signature) ≡ true) source.owned
      (or_second (is_external f.form) _ (ap is_external source.owned) both.1) in
      let args = lowered_args d f 0 ∙ ap (map (renumbered_arg num)) (args_stay f source.sound.numbered.values 0 (entry_kept m f source.sound)) in
      ap not (and_from (has_fitting_conventions d f.signature) _ both.0
      (ap (λ xs. all_pairs (is_argument_for Lowered) xs (arguments_of f.signature)) args ∙ args_fit (args_of f 0) (arguments_of f.signature) entry))

  no_addresses : (args : List BlockArg) → list_any has_address_type args ≡ false
      → list_any has_address_type (map (renumbered_arg num) (args_become (renamings_of f) args)) ≡ false
  no_addresses [] e = refl
  no_addresses (a ∷ args) e =
      let both = or_parts (has_address_type a) (list_any has_address_type args) e in
      at (has_own_name (renamings_of f) a) both.0 (no_addresses args both.1)
    where
      at : (b : Bool) → has_address_type a ≡ false → list_any has_address_type (map (renumbered_arg num) (args_become (renamings_of f) args)) ≡ false
          → list_any has_address_type
          (map (renumbered_arg num)
          (map without_annotation (cond b (a ∷ filter (has_own_name (renamings_of f)) args) (filter (has_own_name (renamings_of f)) args)))) ≡ false
      at true here rest = ap₂ (λ x y. x || y) here rest
      at false here rest = rest

  none_escape : (s : ℕ) (bs : List Block) → list_any takes_address bs ≡ false
      → list_any takes_address (renumbered num (blocks_become d (renamings_of f) s bs)) ≡ false
  none_escape s [] e = refl
  none_escape s (b ∷ bs) e =
      let both = or_parts (takes_address b) (list_any takes_address bs) e in
      ap₂ (λ x y. x || y) (no_addresses b.args both.0) (none_escape (s + length b.insts) bs both.1)

  pub addresses_stay : lets_address_escape (lowered_body d f) ≡ false
  unfolding lets_address_escape
  addresses_stay = at (length (values_of f.blocks)) f.blocks source.sound.escapes
    where
      at : (s : ℕ) (bs : List Block) → list_any takes_address (drop 1 bs) ≡ false
          → list_any takes_address (drop 1 (renumbered num (blocks_become d (renamings_of f) s bs))) ≡ false
      at s [] e = refl
      at s (b ∷ bs) e = none_escape (s + length b.insts) bs e
