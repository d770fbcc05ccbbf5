-- What the values are to memory where a copy is lent: the same, but for the copy, which borrows what it copied.
use Rattle.std.proofs.Common.{◌≡◌, ◌⊎◌, inl, inr, ℕ, zero, suc, ◌<◌, ◌≤◌, List, [], ◌∷◌, length, map, sym, ap, ◌∙◌, arith, Some}
use Rattle.std.specs.Prelude.{option_map, replicate, slice_get, unwrap_or}
use Rattle.std.proofs.lemmas.Bool.{cases_lt}
use Rattle.std.proofs.lemmas.List.{length-replicate}
use Rattle.std.proofs.lemmas.List.FromFn.{length-map-range_with_len}
use Rattle.std.proofs.lemmas.Option.{slice_get_past}
use Rattle.argument_conventions.specs.Arguments.{arguments_of}
use Rattle.instruction_table.specs.declared.op.Op.{Op}
use Rattle.instruction_table.specs.declared.op.Op.TheVariants as op
use Rattle.sil_verifier_trails.specs.memory_rules_accesses.Operations.{access_kind_of}
use Rattle.sil_verifier_trails.specs.memory_rules_accesses.Sources.{arg_sources, argument_source_or, borrow_source, result_source, result_sources, source_at, source_by, sources_of}
use Rattle.sil_verifier_trails.specs.memory_rules_accesses.declared.source.Source.TheVariants.{Borrow, Other}
use Rattle.numbered_form.specs.Numbering.{values_of}
use Rattle.sil_verifier_trails.proofs.holder_model_typing.RunTypingLaws.Rows.Tables.{row_at, told_of_results}
use Rattle.sil_ast.specs.declared.function.BlockArg.{BlockArg}
use Rattle.sil_ast.specs.declared.function.Function.{Function}
use Rattle.sil_ast.specs.declared.inst.Inst.{Inst}
use Rattle.sil_ast.specs.declared.place.PointId.{PointId}
use Rattle.sil_ast.specs.declared.place.ValueId.{ValueId}
use Rattle.sil_types_declarations.specs.TypeDefinitions.Declarations.{Declarations}
use Rattle.numbered_form.proofs.ValueTables.Rows.{rows_count}
use Rattle.numbered_form.specs.ValueTables.FirstValue.{first_value, value_of}
use Rattle.copy_pairing_model.specs.Rewritten.{lent, with_op}
use Rattle.copy_pairing_acceptance.proofs.LentFunctions.Parts.{values_lent}
use Rattle.copy_pairing_acceptance.proofs.LentFunctions.Ready.{Ready}
use Rattle.copy_pairing_acceptance.proofs.LentFunctions.ValueRows.{borrow_at_copy, counted_lent, row_kept}

module _ (d : Declarations) (f : Function) (p : PointId) (c v : ValueId) (r : Ready d f p c v) where
  args_long : (b : ℕ) (xs : List BlockArg) → length (arg_sources d f.signature b xs) ≡ length xs
  args_long zero xs = length-map-range_with_len (λ k. argument_source_or d (slice_get (arguments_of f.signature) k)) 0 (length xs)
  args_long (suc b) xs = length-replicate (length xs) Other

  results_long : (i : Inst) → length (result_sources d i) ≡ length i.results
  results_long i = length-replicate (length i.results) (result_source d i)

  as_many : length (sources_of d f) ≡ length (values_of f.blocks)
  as_many = rows_count (arg_sources d f.signature) (result_sources d) args_long results_long 0 f.blocks

  as_many_lent : length (sources_of d (lent c f)) ≡ length (values_of f.blocks)
  as_many_lent = rows_count (arg_sources d f.signature) (result_sources d) args_long results_long 0 (lent c f).blocks ∙ ap length (values_lent c f)

  pub as_many_sources : length (sources_of d (lent c f)) ≡ length (sources_of d f)
  as_many_sources = as_many_lent ∙ sym as_many

  -- a destroy makes nothing that is anything to memory
  ended : (i : Inst) → i.op ≡ op.DestroyValue → result_sources d (with_op op.EndBorrow i) ≡ result_sources d i
  ended i is = sym (ap (λ (o : Op). replicate (length i.results) (source_by (access_kind_of o) d i)) is)

  pub other_sources : (w : ValueId) → (w.0 ≡ c.0 → ⊥) → source_at (sources_of d (lent c f)) w ≡ source_at (sources_of d f) w
  other_sources w other = at (cases_lt w.0 (length (values_of f.blocks)))
    where
      at : (w.0 < length (values_of f.blocks)) ⊎ (length (values_of f.blocks) ≤ w.0) → source_at (sources_of d (lent c f)) w ≡ source_at (sources_of d f) w
      at (inl lt) = row_kept c f r.formed Other (arg_sources d f.signature) (result_sources d) args_long results_long ended w lt other
      at (inr le) =
          let many : length (sources_of d f) ≡ length (values_of f.blocks) = as_many in
          let many_lent : length (sources_of d (lent c f)) ≡ length (values_of f.blocks) = as_many_lent in
          ap (λ o. unwrap_or o Other) (slice_get_past (sources_of d (lent c f)) w.0 (omega arith))
          ∙ sym (ap (λ o. unwrap_or o Other) (slice_get_past (sources_of d f) w.0 (omega arith)))

  -- the copy borrows what it copied
  pub source_borrowed : source_at (sources_of d (lent c f)) c ≡ Borrow v
  source_borrowed =
      let i : Inst = r.copy.inst in
      let rows = told_of_results (arg_sources d f.signature) (result_sources d) args_long results_long Other (lent c f) (counted_lent c f r.formed) p.block.0 p.index
      (with_op op.BeginBorrow i) (borrow_at_copy d f p c v r) in
      let one : row_at Other (sources_of d (lent c f)) c ∷ [] ≡ borrow_source (first_value i) ∷ [] =
      sym (ap (map (row_at Other (sources_of d (lent c f)))) r.copy.copies.result) ∙ rows
      ∙ ap (λ (ws : List ValueId). replicate (length ws) (borrow_source (first_value i))) r.copy.copies.result in
      let first : row_at Other (sources_of d (lent c f)) c ≡ borrow_source (first_value i) = cc in
      let copied : first_value i ≡ Some v = ap (λ os. option_map value_of (slice_get os 0)) r.copy.copies.operands ∙ ap (λ w. Some w) r.copy.copies.copied in
      first ∙ ap borrow_source copied
