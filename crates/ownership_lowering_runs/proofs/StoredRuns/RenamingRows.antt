-- What the renamings of a function tell of the results of its instructions and of the arguments of its blocks.
use Rattle.std.proofs.Common.{◌≡◌, ℕ, zero, suc, List, [], ◌∷◌, length, map, replicate, refl, ap, ◌∙◌, Option, Some, None}
use Rattle.std.specs.Prelude.{slice_get, unwrap_or}
use Rattle.std.proofs.lemmas.List.{length-map, length-replicate}
use Rattle.numbered_form.specs.Lists.{Each}
use Rattle.numbered_form.specs.Numbering.{AreCountedFrom, value_of, values_of}
use Rattle.ownership_kinds_chains.specs.OwnershipChains.Chains.{operands_at}
use Rattle.ownership_kinds_chains.specs.declared.ownership_chains.definition.Definition.{Definition}
use Rattle.numbered_form.specs.PointChecks.Points.{IsAt}
use Rattle.sil_ast.specs.Blocks.{args_in, args_of}
use Rattle.sil_ast.specs.declared.function.Block.{Block}
use Rattle.sil_ast.specs.declared.function.BlockArg.{BlockArg}
use Rattle.sil_ast.specs.declared.function.Function.{Function}
use Rattle.sil_ast.specs.declared.inst.Inst.{Inst}
use Rattle.sil_ast.specs.declared.place.ValueId.{ValueId}
use Rattle.sil_verifier_runs.specs.ownership_kinds_origins.Renamings.{arg_renaming, arg_renamings, default_operand, renamed, renamings_of, result_renamings}
use Rattle.sil_verifier_runs.specs.ownership_kinds_origins.Switched.{switch_to}
use Rattle.ownership_lowering_laws.specs.ownership_lowering_model.Names.{renamed_from}
use Rattle.ownership_lowering_laws.proofs.LoweringLaws.Known.{names_in}
use Rattle.numbered_form.proofs.Lists.{each_weaker}
use Rattle.ownership_lowering_laws.proofs.holder_model_typing.RunTypingLaws.Rows.Tables.{row_at, told_of_args, told_of_results}

row_operands : (defs : List Definition) (v : ValueId) → operands_at defs v ≡ (row_at (renamed []) defs v).operands
row_operands defs v = at defs v.0
  where
    at : (defs : List Definition) (k : ℕ)
        → unwrap_or (slice_get (map (λ (x : Definition). x.operands) defs) k) [] ≡ (unwrap_or (slice_get defs k) (renamed [])).operands
    at [] k = refl
    at (x ∷ defs) zero = refl
    at (x ∷ defs) (suc k) = at defs k

each_told : (g : ValueId → Definition) (x : Definition) (vs : List ValueId) (rows : List Definition) → map g vs ≡ rows → Each (λ r. r ≡ x) rows
    → Each (λ v. g v ≡ x) vs
each_told g x [] rows e h = tt
each_told g x (v ∷ vs) [] e h = absurd (cc)
each_told g x (v ∷ vs) (r ∷ rows) e h = (let same : g v ≡ r = cc in same ∙ h.0, each_told g x vs rows (cc) h.1)

all_copies : (x : Definition) (n : ℕ) → Each (λ r. r ≡ x) (replicate n x)
all_copies x zero = tt
all_copies x (suc n) = (refl, all_copies x n)

module _ (f : Function) (counted : AreCountedFrom 0 (values_of f.blocks)) where
  -- the value is another name for the first of these, if there is one
  abbrev pub IsNamedBy : List ValueId → ValueId → Type 0
  IsNamedBy names v = renamed_from (renamings_of f) v ≡ slice_get names 0

  of_rows : (names vs : List ValueId) → Each (λ v. row_at (renamed []) (renamings_of f) v ≡ renamed names) vs → Each (IsNamedBy names) vs
  of_rows names vs h =
      each_weaker (λ v. row_at (renamed []) (renamings_of f) v ≡ renamed names) (IsNamedBy names)
      (λ v e. ap (λ ws. slice_get ws 0) (row_operands (renamings_of f) v ∙ ap (λ (x : Definition). x.operands) e)) vs h

  args_level : (n : ℕ) (xs : List BlockArg) → length (arg_renamings f n xs) ≡ length xs
  args_level n xs = length-map xs (arg_renaming (switch_to f n))

  results_level : (i : Inst) → length (result_renamings i) ≡ length i.results
  results_level i = length-replicate (length i.results) (renamed (names_in i))

  pub results_named : (b k : ℕ) (i : Inst) → IsAt f b k i → Each (IsNamedBy (names_in i)) i.results
  results_named b k i here =
      of_rows (names_in i) i.results
      (each_told (row_at (renamed []) (renamings_of f)) (renamed (names_in i)) i.results (result_renamings i)
      (told_of_results (arg_renamings f) result_renamings args_level results_level (renamed []) f counted b k i here)
      (all_copies (renamed (names_in i)) (length i.results)))

  pub args_named : (b : ℕ) → Each (IsNamedBy (default_operand (switch_to f b))) (map value_of (args_of f b))
  args_named b = at (slice_get f.blocks b) refl
    where
      rows : (xs : List BlockArg) → Each (λ r. r ≡ renamed (default_operand (switch_to f b))) (map (arg_renaming (switch_to f b)) xs)
      rows [] = tt
      rows (x ∷ xs) = (refl, rows xs)

      at : (o : Option Block) → slice_get f.blocks b ≡ o → Each (IsNamedBy (default_operand (switch_to f b))) (map value_of (args_in o))
      at None e = tt
      at (Some block) e =
          of_rows (default_operand (switch_to f b)) (map value_of block.args)
          (each_told (row_at (renamed []) (renamings_of f)) (renamed (default_operand (switch_to f b))) (map value_of block.args) (arg_renamings f b block.args)
          (told_of_args (arg_renamings f) result_renamings args_level results_level (renamed []) f counted b block e) (rows block.args))
