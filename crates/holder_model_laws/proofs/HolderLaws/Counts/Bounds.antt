-- Entries hold no more behind results than before, and what the results name.
use Rattle.std.proofs.Common.{◌≡◌, ℕ, ◌+◌, ◌≤◌, List, [], ◌∷◌, set, ap, ◌∙◌, Option, Ok, arith}
use Rattle.memory_rules_parts.specs.ownership_kinds_chains.OwnershipChains.Facts.{known_or}
use Rattle.memory_rules_parts.specs.ownership_kinds_chains.declared.ownership_chains.facts.Facts.{Facts}
use Rattle.sil_ast.specs.declared.place.ObjectId.{ObjectId}
use Rattle.sil_ast.specs.declared.place.ValueId.{ValueId}
use Rattle.sil_types_declarations.specs.declared.type_definitions.kind.Kind.{Kind}
use Rattle.sil_types_declarations.specs.declared.type_definitions.kind.Kind.TheVariants as kind
use Rattle.holder_model.specs.Data.{Datum}
use Rattle.holder_model.specs.Faults.{OverwritesHeld}
use Rattle.holder_model.specs.Frames.{Entry, Gone, entry_at, is_held, made_entry, put_entry, result_put, results_put}
use Rattle.holder_model.specs.HolderStates.{in_entry}
use Rattle.holder_model.specs.Holders.{of_references}
use Rattle.holder_model_laws.specs.HolderLaws.inner.Counts.Naming.{in_data, in_datum}
use Rattle.holder_model_laws.specs.HolderLaws.inner.Counts.Taking.{in_entries, owned_references}
use Rattle.holder_model_laws.proofs.HolderLaws.Counts.Entries.{chosen_ok, made_total, ok_through}
use Rattle.holder_model_laws.proofs.HolderLaws.Counts.Most.{set_most}
use Rattle.holder_model_laws.proofs.HolderLaws.Counts.Sums.{total_cons}

module _ (weight : ObjectId → ℕ) (facts : ValueId → Option Facts) where
  owned_most : (k : Kind) (x : Datum) → of_references weight (owned_references k x) ≤ in_datum weight x
  owned_most kind.Owned x = omega arith
  owned_most kind.Guaranteed x = omega arith
  owned_most kind.Plain x = omega arith

  set_entry_most : (entries : List Entry) (v : ValueId) (e : Entry) → in_entries weight (set entries v.0 e) ≤ in_entries weight entries + in_entry weight e
  set_entry_most entries v e = set_most (in_entry weight) entries v.0 e Gone (in_entry weight e) (omega arith)

  result_most : (v : ValueId) (x : Datum) (entries behind : List Entry) → result_put facts v x entries ≡ Ok behind → in_entries weight behind ≤ in_entries weight entries + in_datum weight x
  result_most v x entries behind h =
      let made = ok_through (put_entry entries v) (made_entry (known_or facts v).kind x) behind h in
      let put = chosen_ok (is_held (entry_at entries v)) OverwritesHeld (Ok (set entries v.0 made.0)) behind made.2 in
      let same : set entries v.0 made.0 ≡ behind = let e = put.1 in cc in
      let set_there = set_entry_most entries v made.0 in
      let one : in_entry weight made.0 ≡ of_references weight (owned_references (known_or facts v).kind x) = made_total weight facts (known_or facts v).kind x made.0 made.1 in
      let owned = owned_most (known_or facts v).kind x in
      let held : in_entries weight (set entries v.0 made.0) ≡ in_entries weight behind = ap (in_entries weight) same in
      omega (arith, set_there, one, owned, held)

  pub results_most : (vs : List ValueId) (xs : List Datum) (entries behind : List Entry) → results_put facts vs xs entries ≡ Ok behind
      → in_entries weight behind ≤ in_entries weight entries + in_data weight xs
  results_most [] [] entries behind h = let same : entries ≡ behind = cc in let held : in_entries weight entries ≡ in_entries weight behind = ap (in_entries weight) same in omega (arith, held)
  results_most [] (x ∷ xs) entries behind h = cc
  results_most (v ∷ vs) [] entries behind h = cc
  results_most (v ∷ vs) (x ∷ xs) entries behind h =
      let middle = ok_through (results_put facts vs xs) (result_put facts v x entries) behind h in
      let first = result_most v x entries middle.0 middle.1 in
      let rest : in_entries weight behind ≤ in_entries weight middle.0 + in_data weight xs = results_most vs xs middle.0 behind middle.2 in
      let whole : in_data weight (x ∷ xs) ≡ in_datum weight x + in_data weight xs = total_cons (in_datum weight) x xs in
      omega (arith, first, rest, whole)
