-- Names end where no name leads back to itself; so a name stands for what the next one does.
use Rattle.std.proofs.Common.{◌≡◌, ℕ, zero, suc, ◌<◌, ◌≤◌, List, length, refl, sym, ap, ◌∙◌, subst, arith, inl, inr, ◌⊎◌, Option, Some, None}
use Rattle.std.specs.Prelude.{slice_get}
use Rattle.std.proofs.lemmas.Bool.{cases_lt}
use Rattle.std.proofs.lemmas.Option.{none-some}
use Rattle.sil_ast.specs.declared.place.ValueId.{ValueId}
use Rattle.ownership_kinds_chains.specs.OwnershipChains.Chains.{HasNoRing, IsInRange}
use Rattle.ownership_kinds_chains.specs.declared.ownership_chains.definition.Definition.{Definition}
use Rattle.ownership_lowering_model.specs.Names.{renamed_from, stands_for, stands_within, unless_renamed}
use Rattle.ownership_lowering_laws.proofs.LoweringLaws.Ends.{ends_at}
use Rattle.ownership_kinds_chains.proofs.OwnershipChains.NoRings.{no_operands}

module _ (renamings : List Definition) where
  -- one step
  abbrev step : ValueId → ValueId
  step v = stands_within renamings 1 v

  stays : (n : ℕ) (v : ValueId) → renamed_from renamings v ≡ None → stands_within renamings n v ≡ v
  stays zero v e = refl
  stays (suc n) v e = ap (unless_renamed (stands_within renamings n) v) e

  pub along : (n : ℕ) (v w : ValueId) → renamed_from renamings v ≡ Some w → stands_within renamings (suc n) v ≡ stands_within renamings n w
  along n v w e = ap (unless_renamed (stands_within renamings n) v) e

  -- one step more at the end
  one_more : (n : ℕ) (v : ValueId) → stands_within renamings (suc n) v ≡ step (stands_within renamings n v)
  one_more zero v = refl
  one_more (suc n) v = at (λ w. one_more n w) (renamed_from renamings v) refl
    where
      at : ((w : ValueId) → stands_within renamings (suc n) w ≡ step (stands_within renamings n w)) → (o : Option ValueId) → renamed_from renamings v ≡ o
          → stands_within renamings (suc (suc n)) v ≡ step (stands_within renamings (suc n) v)
      at next None e = stays (suc (suc n)) v e ∙ sym (stays 1 v e) ∙ sym (ap step (stays (suc n) v e))
      at next (Some w) e = along (suc n) v w e ∙ next w ∙ sym (ap step (along n v w e))

  beyond : (v : ValueId) → length renamings ≤ v.0 → renamed_from renamings v ≡ None
  beyond v le = ap (λ vs. slice_get vs 0) (no_operands renamings v le)

  pub named_inside : (v w : ValueId) → renamed_from renamings v ≡ Some w → v.0 < length renamings
  named_inside v w e = at (cases_lt v.0 (length renamings))
    where
      at : (v.0 < length renamings) ⊎ (length renamings ≤ v.0) → v.0 < length renamings
      at (inl lt) = lt
      at (inr le) = absurd (none-some w (sym (beyond v le) ∙ e))

  -- a name stands for what the value stands for from which it is renamed
  pub same_end : IsInRange renamings → HasNoRing renamings → (v w : ValueId) → renamed_from renamings v ≡ Some w → stands_for renamings v ≡ stands_for renamings w
  same_end range none v w e = at (length renamings) refl
    where
      inside : v.0 < length renamings
      inside = named_inside v w e

      at : (n : ℕ) → length renamings ≡ n → stands_within renamings n v ≡ stands_within renamings n w
      at zero is = let lt : v.0 < length renamings = inside in absurd (omega arith)
      at (suc n) is =
          let own : renamed_from renamings (stands_for renamings v) ≡ None = (ends_at renamings range none v inside).1 in
          let ended : renamed_from renamings (stands_within renamings n w) ≡ None =
          sym (ap (renamed_from renamings) (along n v w e)) ∙ subst (λ k. renamed_from renamings (stands_within renamings k v) ≡ None) is own in
          along n v w e ∙ sym (stays 1 (stands_within renamings n w) ended) ∙ sym (one_more n w)
