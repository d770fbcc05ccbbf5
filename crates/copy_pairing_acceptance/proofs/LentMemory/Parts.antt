-- The parts of memory are the same where a copy is lent.
use Rattle.std.proofs.Common.{◌≡◌, ◌⊎◌, inl, inr, ℕ, List, [], ◌∷◌, ◌++◌, length, refl, sym, ap, ap₂, ◌∙◌, Bool, true, false, cond, Option, Some, None}
use Rattle.std.specs.Prelude.{◌==◌, ◌||◌, flat_map}
use Rattle.std.specs.List.{range_with_len}
use Rattle.std.proofs.lemmas.Bool.{cases_eq, eqb-false, false≢true}
use Rattle.sil_ast.specs.declared.place.ValueId.{ValueId}
use Rattle.sil_verifier_trails.specs.memory_rules_accesses.Locations.{location_of}
use Rattle.sil_verifier_trails.specs.memory_rules_accesses.Sources.{source_at}
use Rattle.sil_verifier_trails.specs.memory_rules_accesses.declared.location.Location.{Location}
use Rattle.sil_verifier_trails.specs.memory_rules_accesses.declared.source.Source.{Source}
use Rattle.sil_verifier_trails.specs.memory_rules_accesses.declared.source.Source.TheVariants.{Slot, Argument, Object, Borrow, Upcast, Loan, Field, Part, Other}
use Rattle.sil_verifier_trails.specs.memory_rules_parts.Parts.{address_parts, is_scope_source, parts_at, parts_by, parts_of, scope_parts, slot_part, slot_part_at, whole_cell}
use Rattle.sil_verifier_trails.specs.memory_rules_parts.declared.part.Part as part
use Rattle.sil_verifier_trails.specs.memory_rules_parts.declared.part.Part.TheVariants.{Allocation, Contents, InScope}
use Rattle.ownership_kinds_chains.specs.OwnershipChains.Facts.{has, value_of}
use Rattle.ownership_kinds_chains.specs.declared.ownership_chains.facts.Facts.{Facts}
use Rattle.copy_pairing_acceptance.proofs.LentMemory.Means.{AreLentFacts, lacks}
use Rattle.copy_pairing_acceptance.proofs.LentMemory.Sources.{AreLentSources, location_alike, same_value, told_alike}

module _ (S T : List Source) (F G : ValueId → Facts) (c v : ValueId) (h : AreLentSources S T c v) (k : AreLentFacts F G c) where
  scopes_alike : (address : ValueId) (bs : List ValueId) → has bs c.0 ≡ false → scope_parts T address bs ≡ scope_parts S address bs
  scopes_alike address [] e = refl
  scopes_alike address (b ∷ bs) e = at (b.0 == c.0) refl e (scopes_alike address bs)
    where
      at : (x : Bool) → (b.0 == c.0) ≡ x → (x || has bs c.0) ≡ false → (has bs c.0 ≡ false → scope_parts T address bs ≡ scope_parts S address bs)
          → scope_parts T address (b ∷ bs) ≡ scope_parts S address (b ∷ bs)
      at true is e more = absurd (false≢true (sym e))
      at false is e more =
          ap₂ (λ x (ps : List part.Part). cond x (InScope address b ∷ []) [] ++ ps) (ap is_scope_source (h.others b (eqb-false b.0 c.0 is))) (more e)

  slot_at_alike : (address : ValueId) (l : Option Location) → slot_part_at T address l ≡ slot_part_at S address l
  slot_at_alike address None = refl
  slot_at_alike address (Some l) = told_alike S T c v h (slot_part address l.root) refl l.root

  address_alike : (w : ValueId) → (w.0 ≡ c.0 → ⊥) → address_parts T (F w) w ≡ address_parts S (F w) w
  address_alike w other =
      ap₂ (λ (xs ys : List part.Part). xs ++ ys) (scopes_alike w (F w).bases (lacks F G c k w other))
      (ap (slot_part_at T w) (location_alike S T c v h w) ∙ slot_at_alike w (location_of S w))

  by_alike : (w : ValueId) → (w.0 ≡ c.0 → ⊥) → (s : Source) → parts_by T (F w) w s ≡ parts_by S (F w) w s
  by_alike w other (Slot trivial) = ap (λ (ps : List part.Part). Contents (whole_cell w) trivial None ∷ (Allocation w ∷ ps)) (address_alike w other)
  by_alike w other (Argument row trivial) = refl
  by_alike w other (Object fields) = refl
  by_alike w other (Borrow of) = refl
  by_alike w other (Upcast of) = refl
  by_alike w other (Loan of) = refl
  by_alike w other (Field of n trivial) = address_alike w other
  by_alike w other (Part of n) = address_alike w other
  by_alike w other Other = refl

  of_value : (w : ValueId) → parts_by T (G w) w (source_at T w) ≡ parts_by S (F w) w (source_at S w)
  of_value w = at (cases_eq w.0 c.0)
    where
      at : (w.0 ≡ c.0) ⊎ (w.0 ≡ c.0 → ⊥) → parts_by T (G w) w (source_at T w) ≡ parts_by S (F w) w (source_at S w)
      at (inl is) =
          let same : w ≡ c = same_value w c is in
          ap (λ x. parts_by T (G w) w (source_at T x)) same ∙ ap (parts_by T (G w) w) h.borrowed
          ∙ sym (ap (λ x. parts_by S (F w) w (source_at S x)) same ∙ ap (parts_by S (F w) w) h.copied)
      at (inr other) =
          ap₂ (λ f s. parts_by T f w s) (k.others w other) (h.others w other) ∙ by_alike w other (source_at S w)

  pub parts_alike : parts_of T G ≡ parts_of S F
  parts_alike =
      ap (λ n. flat_map (parts_at T G) (range_with_len 0 n)) h.size
      ∙ ap (λ (p : ℕ → List part.Part). flat_map p (range_with_len 0 (length S))) (λ i n. of_value (value_of n) i)
