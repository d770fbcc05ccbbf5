-- The arguments of lowered blocks: those of a default's block go, and all others stay, without annotation.
use Rattle.std.proofs.Common.{◌≡◌, ℕ, zero, suc, ◌+◌, List, [], ◌∷◌, length, map, refl, sym, ap, ◌∙◌, cond, Bool, true, false, not, Option, Some, None}
use Rattle.std.specs.Prelude.{filter, is_some, slice_get, unwrap_or}
use Rattle.std.specs.List.{list_any}
use Rattle.std.proofs.lemmas.List.{length-map, length-replicate}
use Rattle.sil_ast.specs.Blocks.{args_in, args_of}
use Rattle.sil_ast.specs.declared.function.Block.{Block}
use Rattle.sil_ast.specs.declared.function.BlockArg.{BlockArg}
use Rattle.sil_ast.specs.declared.function.Function.{Function}
use Rattle.sil_ast.specs.declared.place.ValueId.{ValueId}
use Rattle.numbered_form.specs.Lists.{Each}
use Rattle.numbered_form.specs.Numbering.{AreCountedFrom, value_of, values_of}
use Rattle.ownership_kinds_chains.specs.OwnershipChains.Chains.{operands_at}
use Rattle.ownership_kinds_chains.specs.declared.ownership_chains.definition.Definition.{Definition}
use Rattle.ownership_kinds.specs.ownership_kinds_origins.Renamings.{arg_renaming, arg_renamings, default_operand, renamed, renamings_of, result_renamings}
use Rattle.ownership_kinds.specs.ownership_kinds_origins.Switched.{switch_to}
use Rattle.sil_types_declarations.specs.TypeDefinitions.Declarations.{Declarations}
use Rattle.holder_model_typing.specs.sil_types.Typing.FormRules.{is_annotated}
use Rattle.holder_model_typing.specs.sil_types.Typing.Values.{arg_type}
use Rattle.ownership_lowering_model.specs.LoweredBlocks.{args_become, blocks_become, has_own_name, lowered_blocks, without_annotation}
use Rattle.ownership_lowering_model.specs.LoweredModules.{lowered_body}
use Rattle.ownership_lowering_model.specs.Names.{renamed_from}
use Rattle.ownership_lowering_model.specs.Numbers.{new_number, numbering_of, renumbered, renumbered_arg}
use Rattle.holder_model_typing.proofs.RunTypingLaws.ListFacts.{map_twice}
use Rattle.holder_model_typing.proofs.RunTypingLaws.Rows.Tables.{row_at, told_of_args}
use Rattle.numbered_form.proofs.Lists.{each_weaker}
use Rattle.ownership_lowering_laws.proofs.LoweredTypingLaws.Told.{each_of_maps}

-- where each argument passes or fails

all_stay : (test : BlockArg → Bool) (args : List BlockArg) → Each (λ a. test a ≡ true) args → filter test args ≡ args
all_stay test [] h = refl
all_stay test (a ∷ args) h = ap (λ b. cond b (a ∷ filter test args) (filter test args)) h.0 ∙ ap (λ xs. a ∷ xs) (all_stay test args h.1)

all_go : (test : BlockArg → Bool) (args : List BlockArg) → Each (λ a. test a ≡ false) args → filter test args ≡ []
all_go test [] h = refl
all_go test (a ∷ args) h = ap (λ b. cond b (a ∷ filter test args) (filter test args)) h.0 ∙ all_go test args h.1

row_operands : (defs : List Definition) (v : ValueId) → operands_at defs v ≡ (row_at (renamed []) defs v).operands
row_operands defs v = at defs v.0
  where
    at : (defs : List Definition) (k : ℕ)
        → unwrap_or (slice_get (map (λ (x : Definition). x.operands) defs) k) [] ≡ (unwrap_or (slice_get defs k) (renamed [])).operands
    at [] k = refl
    at (x ∷ defs) zero = refl
    at (x ∷ defs) (suc k) = at defs k

module _ (f : Function) (counted : AreCountedFrom 0 (values_of f.blocks)) where
  -- an argument is another name just where a default goes to its block
  arg_names : (k : ℕ) (b : Block) → slice_get f.blocks k ≡ Some b
      → Each (λ a. renamed_from (renamings_of f) a.value ≡ slice_get (default_operand (switch_to f k)) 0) b.args
  arg_names k b is =
      let told =
      told_of_args (arg_renamings f) result_renamings (λ n xs. length-map xs (arg_renaming (switch_to f n))) (λ i. length-replicate (length i.results) _)
      (renamed []) f counted k b is in
      let each =
      each_of_maps (λ a. row_at (renamed []) (renamings_of f) a.value) (arg_renaming (switch_to f k)) b.args
      (sym (map_twice (row_at (renamed []) (renamings_of f)) value_of b.args) ∙ told) in
      each_weaker (λ a. row_at (renamed []) (renamings_of f) a.value ≡ arg_renaming (switch_to f k) a)
      (λ a. renamed_from (renamings_of f) a.value ≡ slice_get (default_operand (switch_to f k)) 0)
      (λ a e. ap (λ l. slice_get l 0) (row_operands (renamings_of f) a.value ∙ ap (λ x. x.operands) e)) b.args each

  pub args_stay : (k : ℕ) → default_operand (switch_to f k) ≡ [] → args_become (renamings_of f) (args_of f k) ≡ map without_annotation (args_of f k)
  args_stay k none = at (slice_get f.blocks k) refl
    where
      at : (o : Option Block) → slice_get f.blocks k ≡ o → args_become (renamings_of f) (args_in o) ≡ map without_annotation (args_in o)
      at None is = refl
      at (Some b) is =
          ap (map without_annotation)
          (all_stay (has_own_name (renamings_of f)) b.args
          (each_weaker (λ a. renamed_from (renamings_of f) a.value ≡ slice_get (default_operand (switch_to f k)) 0)
          (λ a. has_own_name (renamings_of f) a ≡ true)
          (λ a e. ap (λ o. not (is_some o)) (e ∙ ap (λ l. slice_get l 0) none)) b.args (arg_names k b is)))

  pub args_go : (k : ℕ) (v : ValueId) → default_operand (switch_to f k) ≡ v ∷ [] → args_become (renamings_of f) (args_of f k) ≡ []
  args_go k v some = at (slice_get f.blocks k) refl
    where
      at : (o : Option Block) → slice_get f.blocks k ≡ o → args_become (renamings_of f) (args_in o) ≡ []
      at None is = refl
      at (Some b) is =
          ap (map without_annotation)
          (all_go (has_own_name (renamings_of f)) b.args
          (each_weaker (λ a. renamed_from (renamings_of f) a.value ≡ slice_get (default_operand (switch_to f k)) 0)
          (λ a. has_own_name (renamings_of f) a ≡ false)
          (λ a e. ap (λ o. not (is_some o)) (e ∙ ap (λ l. slice_get l 0) some)) b.args (arg_names k b is)))

-- ---- the arguments of a lowered block

module _ (d : Declarations) (f : Function) where
  abbrev num : ValueId → ValueId
  num = new_number (numbering_of d f)

  become_args : (s : ℕ) (bs : List Block) (k : ℕ)
      → args_in (slice_get (blocks_become d (renamings_of f) s bs) k) ≡ args_become (renamings_of f) (args_in (slice_get bs k))
  become_args s [] k = refl
  become_args s (b ∷ bs) zero = refl
  become_args s (b ∷ bs) (suc k) = become_args (s + length b.insts) bs k

  number_args : (bs : List Block) (k : ℕ) → args_in (slice_get (renumbered num bs) k) ≡ map (renumbered_arg num) (args_in (slice_get bs k))
  number_args [] k = refl
  number_args (b ∷ bs) zero = refl
  number_args (b ∷ bs) (suc k) = number_args bs k

  pub lowered_args : (k : ℕ) → args_of (lowered_body d f) k ≡ map (renumbered_arg num) (args_become (renamings_of f) (args_of f k))
  lowered_args k = number_args (lowered_blocks d f) k ∙ ap (map (renumbered_arg num)) (become_args (length (values_of f.blocks)) f.blocks k)

  stays_typed : (args : List BlockArg) → map arg_type (map (renumbered_arg num) (map without_annotation args)) ≡ map arg_type args
  stays_typed [] = refl
  stays_typed (a ∷ args) = ap (λ ts. a.ty ∷ ts) (stays_typed args)

  none_annotated : (args : List BlockArg) → list_any is_annotated (map (renumbered_arg num) (map without_annotation args)) ≡ false
  none_annotated [] = refl
  none_annotated (a ∷ args) = none_annotated args

  pub not_annotated : (k : ℕ) → list_any is_annotated (args_of (lowered_body d f) k) ≡ false
  not_annotated k = ap (list_any is_annotated) (lowered_args k) ∙ none_annotated (filter (has_own_name (renamings_of f)) (args_of f k))

  module _ (counted : AreCountedFrom 0 (values_of f.blocks)) where
    pub types_stay : (k : ℕ) → default_operand (switch_to f k) ≡ [] → map arg_type (args_of (lowered_body d f) k) ≡ map arg_type (args_of f k)
    types_stay k none =
        ap (map arg_type) (lowered_args k ∙ ap (map (renumbered_arg num)) (args_stay f counted k none)) ∙ stays_typed (args_of f k)

    pub default_gone : (k : ℕ) (v : ValueId) → default_operand (switch_to f k) ≡ v ∷ [] → args_of (lowered_body d f) k ≡ []
    default_gone k v some = lowered_args k ∙ ap (map (renumbered_arg num)) (args_go f counted k v some)
