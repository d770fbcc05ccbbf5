-- The kinds, bases, renamings and borrows of values are the same without the copy. The copy is Owned, and isn't what it copies.
use Rattle.std.proofs.Common.{◌≡◌, ◌≢◌, ℕ, zero, suc, ◌<◌, List, [], ◌∷◌, length, map, refl, sym, ap, ap₂, ◌∙◌, subst, true, cond, Option, Some, None, inr, arith}
use Rattle.std.specs.Prelude.{Contains, is_some, option_map, replicate, unwrap_or}
use Rattle.std.specs.List.{list_all, range_with_len, slice_get}
use Rattle.std.proofs.lemmas.Bool.{lt-ltb}
use Rattle.std.proofs.lemmas.List.{length-map, length-replicate}
use Rattle.std.proofs.lemmas.List.FromFn.{length-map-range_with_len}
use Rattle.std.proofs.lemmas.Option.{slice_get-map, slice_get_within}
use Rattle.instruction_table.specs.Forms.{result_kind_of}
use Rattle.sil_ast.specs.declared.function.Function.{Function}
use Rattle.sil_ast.specs.declared.module.Module.{Module}
use Rattle.sil_ast.specs.declared.place.PointId.{PointId}
use Rattle.sil_ast.specs.declared.place.ValueId.{ValueId}
use Rattle.sil_rules.specs.declared.rule.Rule.TheVariants as rule
use Rattle.numbered_form.specs.Numbering.{values_of}
use Rattle.sil_types_declarations.specs.TypeDefinitions.Declarations.{Declarations, declarations_of}
use Rattle.sil_types_declarations.specs.declared.type_definitions.kind.Kind.TheVariants as kind
use Rattle.sil_types.specs.Typing.RowTypes.{row_types}
use Rattle.numbered_form.specs.ValueTables.Borrows.{arg_borrows, borrow_by, borrows_of, result_borrows}
use Rattle.numbered_form.specs.ValueTables.FirstValue.{value_of}
use Rattle.ownership_kinds_chains.specs.OwnershipChains.Chains.{operands_at}
use Rattle.ownership_kinds_chains.specs.OwnershipChains.Chains.Chain.{one}
use Rattle.ownership_kinds_chains.specs.OwnershipChains.Facts.{facts_with, is_known, known_or, origin_at, told_by}
use Rattle.ownership_kinds_chains.specs.OwnershipChains.Steps.{told_from, told_in}
use Rattle.ownership_kinds_chains.specs.declared.ownership_chains.definition.Definition.{Definition}
use Rattle.ownership_kinds_chains.specs.declared.ownership_chains.definition.Origin.{Origin}
use Rattle.ownership_kinds_chains.specs.declared.ownership_chains.definition.Origin.TheVariants as origin
use Rattle.ownership_kinds_chains.specs.declared.ownership_chains.facts.Facts.{Facts}
use Rattle.copy_pairing_model.specs.ownership_kinds_origins.Origins.{arg_definition, arg_definitions, defined, definitions_of, is_zero, result_definition, result_definitions}
use Rattle.copy_pairing_model.specs.ownership_kinds_origins.Renamings.{arg_renaming, arg_renamings, renamed, renames, renamings_of, result_renamings}
use Rattle.copy_pairing_model.specs.ownership_kinds_origins.Switched.{switch_to, switches_from}
use Rattle.copy_pairing_model.specs.ownership_kinds_origins.Facts.{facts_by, facts_in}
use Rattle.sil_verifier_trails.specs.ownership_kinds.Statics.IsBroken.{on_ring}
use Rattle.sil_verifier_trails.specs.ownership_kinds.Statics.IsDefinedAt.{result}
use Rattle.sil_verifier_trails.specs.sil_verifier_accepted.AcceptedModules.Shown.IsShownIn.{kind}
use Rattle.sil_verifier_trails.specs.sil_verifier_accepted.AcceptedModules.inner.Checked.{IsVerified}
use Rattle.copy_pairing_model.specs.Rewritten.{moved_block}
use Rattle.copy_pairing_acceptance.proofs.MovedFunctions.InModule.{clean, count_kept, counted, row_kept}
use Rattle.copy_pairing_acceptance.proofs.MovedFunctions.Lists.{told_alike}
use Rattle.copy_pairing_acceptance.proofs.MovedFunctions.Places.{after}
use Rattle.copy_pairing_acceptance.proofs.MovedFunctions.Split.{IsSplit}
use Rattle.copy_pairing_acceptance.proofs.MovedFunctions.TheCopy.{borrows_told, copy_at, copy_definition, copy_renaming, definitions_told, destroy_at, no_results, renamings_told}
use Rattle.copy_pairing_acceptance.proofs.MovedFunctions.ValueRows.{row_of_result, rows_same, values_same}

-- ---- what begins as Owned

module _ (defs : List Definition) (w : ValueId) (o : Origin) (operands : List ValueId) (row : slice_get defs w.0 ≡ Some (defined o operands)) where
  pub operands_by_row : operands_at defs w ≡ operands
  operands_by_row = ap (λ x. unwrap_or x []) (slice_get-map (λ (d : Definition). d.operands) defs w.0 ∙ ap (option_map (λ (d : Definition). d.operands)) row)

  origin_by_row : origin_at defs w ≡ o
  origin_by_row = ap (λ x. unwrap_or x origin.Plain) (slice_get-map (λ (d : Definition). d.origin) defs w.0 ∙ ap (option_map (λ (d : Definition). d.origin)) row)

told_owned : (defs : List Definition) (w : ValueId) → slice_get defs w.0 ≡ Some (defined origin.Owned []) → facts_by defs w ≡ Some (facts_with kind.Owned (w ∷ []))
told_owned defs w row =
    let lt : w.0 < length defs = slice_get_within defs w.0 (defined origin.Owned []) row in
    ap (λ b. cond b (told_in defs (length defs) w) None) (lt-ltb w.0 (length defs) lt) ∙ within (length defs) (w.0) lt
  where
    step : (known : ValueId → Option Facts) → told_from defs known w ≡ Some (facts_with kind.Owned (w ∷ []))
    step known =
        ap₂ (λ (ops : List ValueId) (o : Origin). cond (list_all (is_known known) ops) (Some (told_by (length defs) w (known_or known) ops o)) None)
        (operands_by_row defs w origin.Owned [] row) (origin_by_row defs w origin.Owned [] row)

    within : (n k : ℕ) → k < n → told_in defs n w ≡ Some (facts_with kind.Owned (w ∷ []))
    within zero k lt = absurd (omega arith)
    within (suc n) k lt = step (told_in defs n)

module _ (m : Module) (n : ℕ) (f : Function) (verified : IsVerified m) (in_module : slice_get m.functions n ≡ Some f) {p : PointId} {last : ℕ} {c v : ValueId} (s : IsSplit f p last c v) where
  abbrev d : Declarations
  d = declarations_of m

  copy_kept : is_some (row_types d s.copy) ≡ true
  copy_kept = row_kept m n f verified in_module p.block.0 p.index s.copy (copy_at s)

  pub destroy_makes_none : s.destroy.results ≡ []
  destroy_makes_none = no_results s d (count_kept m n f verified in_module p.block.0 last s.destroy (destroy_at s))

  -- ---- the same tables

  pub values_are : values_of (after s).blocks ≡ values_of f.blocks
  values_are = values_same s destroy_makes_none

  pub switch_same : (k : ℕ) → switch_to (after s) k ≡ switch_to f k
  switch_same k = ap (λ xs. slice_get xs 0) (told_alike (moved_block p.index last) (switches_from k) p.block.0 f.blocks s.block s.there refl)

  pub definitions_are : definitions_of d (after s) ≡ definitions_of d f
  definitions_are =
      rows_same s (arg_definitions d f) (arg_definitions d (after s)) (result_definitions d)
      (λ k xs. ap (λ o. map (arg_definition d (is_zero k) o) xs) (switch_same k)) (definitions_told s d copy_kept)
      (ap (λ (rs : List ValueId). map (result_definition d s.destroy) (range_with_len 0 (length rs))) destroy_makes_none)

  pub renamings_are : renamings_of (after s) ≡ renamings_of f
  renamings_are =
      rows_same s (arg_renamings f) (arg_renamings (after s)) result_renamings
      (λ k xs. ap (λ o. map (arg_renaming o) xs) (switch_same k)) (renamings_told s)
      (ap (λ (rs : List ValueId). replicate (length rs) (renamed (cond (renames s.destroy.op) (map value_of s.destroy.operands) []))) destroy_makes_none)

  pub borrows_are : borrows_of (after s) ≡ borrows_of f
  borrows_are =
      rows_same s arg_borrows arg_borrows result_borrows (λ k xs. refl) (borrows_told s)
      (ap (λ (rs : List ValueId). replicate (length rs) (borrow_by (result_kind_of s.destroy.op) s.destroy)) destroy_makes_none)

  pub facts_are : facts_in d (after s) ≡ facts_in d f
  facts_are = ap (λ defs w. facts_by defs w) definitions_are

  -- ---- the copy

  definition_row : slice_get (definitions_of d f) c.0 ≡ Some (defined origin.Owned [])
  definition_row =
      row_of_result (arg_definitions d f) (result_definitions d) (λ k xs. length-map xs (arg_definition d (is_zero k) (switch_to f k)))
      (λ i. length-map-range_with_len (result_definition d i) 0 (length i.results)) f (counted m n f verified in_module) p.block.0 p.index 0 s.copy c
      (defined origin.Owned []) (copy_at s) (ap (λ (rs : List ValueId). slice_get rs 0) s.copies.result) (copy_definition s d copy_kept)

  renaming_row : slice_get (renamings_of f) c.0 ≡ Some (renamed (v ∷ []))
  renaming_row =
      row_of_result (arg_renamings f) result_renamings (λ k xs. length-map xs (arg_renaming (switch_to f k)))
      (λ i. length-replicate (length i.results) _) f (counted m n f verified in_module) p.block.0 p.index 0 s.copy c
      (renamed (v ∷ [])) (copy_at s) (ap (λ (rs : List ValueId). slice_get rs 0) s.copies.result) (copy_renaming s)

  -- it is Owned, and its own base
  pub copy_owned : facts_in d f c ≡ Some (facts_with kind.Owned (c ∷ []))
  copy_owned = told_owned (definitions_of d f) c definition_row

  -- else it were on a ring of renamings
  pub copy_apart : c.0 ≢ v.0
  copy_apart e = clean m n f verified in_module p.block.0 s.block s.there
      (record { rule = rule.CyclicForwarding; subject = c; other = None; point = p; walk = [] })
      (kind refl refl (on_ring c p.block.0 p.index (inr (one c c itself)) (result p.block.0 p.index s.copy (copy_at s) made)))
    where
      same : v ≡ c
      same = ap (λ n. let w : ValueId = record { 0 = n } in w) (sym e)

      itself : Contains (operands_at (renamings_of f) c) c
      itself = subst (λ ops. Contains ops c) (sym (operands_by_row (renamings_of f) c origin.Plain (v ∷ []) renaming_row)) (0, omega arith, same)

      made : Contains s.copy.results c
      made = subst (λ (rs : List ValueId). Contains rs c) (sym s.copies.result) (0, omega arith, refl)
