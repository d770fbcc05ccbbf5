-- The names and numbers of a function that can be lowered, in the words of runs.
use Rattle.std.proofs.Common.{◌≡◌, ℕ, zero, suc, ◌<◌, ◌≤◌, List, length, refl, sym, ap, ◌∙◌, arith, ◌⊎◌, inl, inr, Option, Some, None}
use Rattle.std.specs.Prelude.{slice_get}
use Rattle.std.proofs.lemmas.Bool.{cases_lt}
use Rattle.std.proofs.lemmas.List.{length-map}
use Rattle.std.proofs.lemmas.Option.{none-some, same_Some, slice_get_within}
use Rattle.numbered_form.specs.Numbering.{values_of}
use Rattle.ownership_kinds_chains.specs.declared.ownership_chains.definition.Definition.{Definition}
use Rattle.sil_ast.specs.declared.function.Function.{Function}
use Rattle.sil_ast.specs.declared.place.ValueId.{ValueId}
use Rattle.sil_types_declarations.specs.TypeDefinitions.Declarations.{Declarations}
use Rattle.ownership_lowering_laws.specs.LoweringLaws.inner.Laws.{defined_by}
use Rattle.ownership_lowering_laws.specs.LoweringLaws.inner.Lowerable.{IsLowerable}
use Rattle.sil_verifier_runs.specs.ownership_kinds_origins.Renamings.{renamings_of}
use Rattle.ownership_lowering_laws.specs.ownership_lowering_model.LoweredBlocks.{lowered_blocks}
use Rattle.ownership_lowering_laws.specs.ownership_lowering_model.Names.{renamed_from, stands_for, stands_within, unless_renamed}
use Rattle.ownership_lowering_laws.specs.ownership_lowering_model.Numbers.{new_number, numbering_of, place_among}
use Rattle.ownership_lowering_laws.proofs.LoweringLaws.Ends.{names_end, stands_itself}
use Rattle.ownership_lowering_laws.proofs.LoweringLaws.Placed.{old_are_placed}
use Rattle.ownership_kinds_chains.proofs.OwnershipChains.NoRings.{no_operands}
use Rattle.ownership_lowering_laws.proofs.LoweringLaws.Renumbered.{renumbered_values}
use Rattle.sil_verifier_runs.proofs.ownership_kinds_origins.Counts.{are_of_values}
use Rattle.ownership_lowering_runs.specs.StoredRuns.inner.Names.{AreNamed, IsOld, lowered_count, lowered_number}

-- ---- what a value stands for, through more names

module _ (names : List Definition) where
  -- where names have ended, one more makes no difference
  one_more_name : (n : ℕ) (v : ValueId) → renamed_from names (stands_within names n v) ≡ None → stands_within names (suc n) v ≡ stands_within names n v
  one_more_name zero v e = ap (unless_renamed (stands_within names zero) v) e
  one_more_name (suc n) v e = at (renamed_from names v) e (one_more_name n)
    where
      at : (o : Option ValueId) → renamed_from names (unless_renamed (stands_within names n) v o) ≡ None
          → ((w : ValueId) → renamed_from names (stands_within names n w) ≡ None → stands_within names (suc n) w ≡ stands_within names n w)
          → unless_renamed (stands_within names (suc n)) v o ≡ unless_renamed (stands_within names n) v o
      at None g more = refl
      at (Some w) g more = more w g

  -- another name stands for what the named value stands for, where names end
  pub same_end : (v w : ValueId) → renamed_from names v ≡ Some w → renamed_from names (stands_for names v) ≡ None → stands_for names v ≡ stands_for names w
  same_end v w e ends = at (length names) ends
    where
      none : (n : ℕ) → stands_within names n v ≡ v → renamed_from names (stands_within names n v) ≡ None → ⊥
      none n is g = none-some w (sym g ∙ ap (renamed_from names) is ∙ e)

      at : (n : ℕ) → renamed_from names (stands_within names n v) ≡ None → stands_within names n v ≡ stands_within names n w
      at zero g = absurd (none zero refl g)
      at (suc n) g =
          let through : stands_within names (suc n) v ≡ stands_within names n w = ap (unless_renamed (stands_within names n) v) e in
          through ∙ sym (one_more_name n w (ap (renamed_from names) (sym through) ∙ g))

module _ (functions : ℕ) (d : Declarations) (f : Function) (l : IsLowerable functions d f) where
  abbrev names : List Definition
  names = renamings_of f

  as_many : length names ≡ length (values_of f.blocks)
  as_many = (are_of_values d f).1

  old_or_beyond : (v : ValueId) → IsOld f v ⊎ (length names ≤ v.0)
  old_or_beyond v = at (cases_lt v.0 (length names))
    where
      at : (v.0 < length names) ⊎ (length names ≤ v.0) → IsOld f v ⊎ (length names ≤ v.0)
      at (inl lt) = let many = as_many in inl (omega arith)
      at (inr le) = inr le

  pub own_name : (v : ValueId) → IsOld f v → renamed_from names (stands_for names v) ≡ None
  own_name v lt = let many = as_many in (names_end f v l.ends (omega arith)).1

  few : (v : ValueId) → IsOld f v → (lowered_number d f v).0 < lowered_count d f
  few v lt =
      let at = old_are_placed functions d f v l lt in
      let inside = slice_get_within (defined_by d f) at.0 (stands_for names v) at.1 in
      let number : (lowered_number d f v).0 ≡ at.0 = ap (λ (u : ValueId). u.0) at.2 in
      let size : lowered_count d f ≡ length (defined_by d f) =
      ap length (renumbered_values (new_number (numbering_of d f)) (lowered_blocks d f)) ∙ length-map (defined_by d f) (new_number (numbering_of d f)) in
      omega arith

  through : (v : ValueId) → lowered_number d f v ≡ lowered_number d f (stands_for names v)
  through v = at (old_or_beyond v)
    where
      at : IsOld f v ⊎ (length names ≤ v.0) → lowered_number d f v ≡ lowered_number d f (stands_for names v)
      at (inl lt) = ap (place_among (defined_by d f)) (sym (stands_itself names (stands_for names v) (own_name v lt)))
      at (inr le) = ap (lowered_number d f) (sym (stands_itself names v (ap (λ vs. slice_get vs 0) (no_operands names v le))))

  apart : (v w : ValueId) → IsOld f v → IsOld f w → lowered_number d f v ≡ lowered_number d f w → stands_for names v ≡ stands_for names w
  apart v w small lt e =
      let a = old_are_placed functions d f v l small in
      let b = old_are_placed functions d f w l lt in
      let same : a.0 ≡ b.0 = ap (λ (u : ValueId). u.0) (sym a.2 ∙ e ∙ b.2) in
      same_Some (stands_for names v) (stands_for names w) (sym a.1 ∙ ap (slice_get (defined_by d f)) same ∙ b.1)

  pub are_named : AreNamed d f
  are_named = record { few = few; through = through; own = own_name; apart = apart }
