-- The values of lowered blocks stand for themselves, their places are their new numbers, and each old value stands for one of them.
use Rattle.std.proofs.Common.{◌≡◌, ℕ, ◌+◌, ◌<◌, ◌≤◌, List, length, map, refl, sym, ap, ◌∙◌, subst, arith, true, ◌⊎◌, inl, inr}
use Rattle.std.proofs.Common.{Option, Some, None}
use Rattle.std.specs.Prelude.{is_some, not, slice_get}
use Rattle.std.proofs.lemmas.Option.{slice_get-map}
use Rattle.sil_ast.specs.declared.function.Function.{Function}
use Rattle.sil_ast.specs.declared.place.ValueId.{ValueId}
use Rattle.ownership_lowering_model.specs.LoweredBlocks.{lowered_blocks, value_with}
use Rattle.ownership_lowering_model.specs.LoweredModules.{lowered_body}
use Rattle.ownership_lowering_model.specs.Names.{renamed_from, stands_for}
use Rattle.ownership_lowering_model.specs.Numbers.{new_number, numbering_of, place_among}
use Rattle.numbered_form.specs.Numbering.{AreCountedFrom, values_of}
use Rattle.ownership_kinds_chains.specs.declared.ownership_chains.definition.Definition.{Definition}
use Rattle.holder_model_typing.proofs.ownership_kinds_origins.Counts.{are_of_values}
use Rattle.ownership_kinds.specs.ownership_kinds_origins.Renamings.{renamings_of}
use Rattle.sil_types_declarations.specs.TypeDefinitions.Declarations.{Declarations}
use Rattle.ownership_lowering_laws.specs.LoweringLaws.inner.Lowerable.{IsLowerable}
use Rattle.ownership_lowering_laws.specs.LoweringLaws.inner.Laws.{AreDefinedPlaced, AreNewCounted, AreOldPlaced, defined_by}
use Rattle.ownership_lowering_laws.proofs.LoweringLaws.Covered.{blocks_cover, blocks_rise}
use Rattle.ownership_lowering_laws.proofs.LoweringLaws.Ends.{names_end, stands_itself}
use Rattle.ownership_lowering_laws.proofs.LoweringLaws.Known.{has_name, known_blocks}
use Rattle.numbered_form.proofs.Counted.{any_counted, counted_from, stands_somewhere}
use Rattle.ownership_lowering_laws.proofs.LoweringLaws.Renumbered.{renumbered_values}
use Rattle.ownership_lowering_laws.proofs.LoweringLaws.Rising.{AreApart, AreRising, all_own, place_found, rising_apart}
use Rattle.holder_model_typing.proofs.RunTypingLaws.Rows.Finding.{each_at}
use Rattle.numbered_form.proofs.Lists.{mapped_from}
use Rattle.ownership_kinds_chains.proofs.OwnershipChains.NoRings.{no_operands}

no_name : (o : Option ValueId) → not (is_some o) ≡ true → o ≡ None
no_name None e = refl
no_name (Some v) e = absurd (cc)

-- a value beyond the function is another name of none
beyond : (defs : List Definition) (v : ValueId) → length defs ≤ v.0 → renamed_from defs v ≡ None
beyond defs v le = ap (λ vs. slice_get vs 0) (no_operands defs v le)

module _ (functions : ℕ) (d : Declarations) (f : Function) (l : IsLowerable functions d f) where
  abbrev bound : ℕ
  bound = length (values_of f.blocks)

  pub rising : AreRising bound (has_name (renamings_of f)) 0 bound (defined_by d f)
  rising = blocks_rise d f bound 0 bound f.blocks (known_blocks functions d f l) l.numbered.values (omega arith)

  pub apart : AreApart (defined_by d f)
  apart = rising_apart bound (has_name (renamings_of f)) 0 bound (defined_by d f) (omega arith) rising

  abbrev HasName : ValueId → Type 0
  HasName v = (has_name (renamings_of f) v ≡ true) ⊎ (bound ≤ v.0)

  named : (v : ValueId) → HasName v → renamed_from (renamings_of f) v ≡ None
  named v (inl own) = no_name (renamed_from (renamings_of f) v) own
  named v (inr le) = let count : length (renamings_of f) ≡ length (values_of f.blocks) = (are_of_values d f).1 in beyond (renamings_of f) v (omega arith)

  own_name : (k : ℕ) (v : ValueId) → slice_get (defined_by d f) k ≡ Some v → renamed_from (renamings_of f) v ≡ None
  own_name k v e =
      named v (each_at HasName (defined_by d f) k v (all_own bound (has_name (renamings_of f)) 0 bound (defined_by d f) (omega arith) rising) e)

  placed : (k : ℕ) (v : ValueId) → slice_get (defined_by d f) k ≡ Some v
      → (stands_for (renamings_of f) v ≡ v) × (new_number (numbering_of d f) v ≡ value_with k)
  placed k v e =
      let itself = stands_itself (renamings_of f) v (own_name k v e) in
      (itself, ap (place_among (defined_by d f)) itself ∙ place_found (defined_by d f) k v apart e)

  old_placed : (v : ValueId) → v.0 < bound
      → (k : ℕ) × (slice_get (defined_by d f) k ≡ Some (stands_for (renamings_of f) v)) × (new_number (numbering_of d f) v ≡ value_with k)
  old_placed v lt =
      let count : length (renamings_of f) ≡ length (values_of f.blocks) = (are_of_values d f).1 in
      let w : ValueId = stands_for (renamings_of f) v in
      let end = names_end f v l.ends (omega arith) in
      let inside : w.0 < length (renamings_of f) = end.0 in
      let there = stands_somewhere (defined_by d f) w
      (blocks_cover d f bound f.blocks (known_blocks functions d f l) w (ap (λ o. not (is_some o)) end.1)
      (any_counted 0 (values_of f.blocks) w l.numbered.values (omega arith) (omega arith))) in
      (there.0, there.1, place_found (defined_by d f) there.0 w apart there.1)

  counted : AreCountedFrom 0 (values_of (lowered_body d f).blocks)
  counted =
      subst (AreCountedFrom 0) (sym (renumbered_values (new_number (numbering_of d f)) (lowered_blocks d f)))
      (counted_from 0 (map (new_number (numbering_of d f)) (defined_by d f)) at)
    where
      at : (k : ℕ) (u : ValueId) → slice_get (map (new_number (numbering_of d f)) (defined_by d f)) k ≡ Some u → u.0 ≡ 0 + k
      at k u e =
          let from = mapped_from (new_number (numbering_of d f)) (slice_get (defined_by d f) k) u
          (sym (slice_get-map (new_number (numbering_of d f)) (defined_by d f) k) ∙ e) in
          let number : u.0 ≡ k = ap (λ v. v.0) (sym from.2 ∙ (placed k from.0 from.1).1) in
          omega arith

pub defined_are_placed : AreDefinedPlaced
defined_are_placed functions d f k v l e = placed functions d f l k v e

pub old_are_placed : AreOldPlaced
old_are_placed functions d f v l lt = old_placed functions d f l v lt

pub new_values_are_counted : AreNewCounted
new_values_are_counted functions d f l = counted functions d f l
