-- What a value stands for has a name of its own: where no name leads back to itself, names end.
use Rattle.std.proofs.Common.{◌≡◌, ℕ, zero, suc, ◌<◌, List, [], ◌∷◌, length, refl, sym, ap, ◌∙◌, subst, Bool, true, false, cond, Option, Some, None}
use Rattle.std.specs.Prelude.{All, is_some, slice_get}
use Rattle.std.specs.List.{list_all}
use Rattle.std.proofs.lemmas.Bool.{and_parts, false≢true}
use Rattle.std.proofs.lemmas.List.Elements.{All-head}
use Rattle.std.proofs.lemmas.Option.{none-some}
use Rattle.sil_ast.specs.declared.place.ValueId.{ValueId}
use Rattle.ownership_kinds_chains.proofs.OwnershipChains.NoRings.{facts_of}
use Rattle.ownership_kinds_chains.specs.OwnershipChains.Chains.{HasNoRing, IsInRange, operands_at}
use Rattle.ownership_kinds_chains.specs.OwnershipChains.Facts.{is_known, known_or, origin_at, told_by}
use Rattle.ownership_kinds_chains.specs.OwnershipChains.Steps.{told_in}
use Rattle.ownership_kinds_chains.specs.declared.ownership_chains.definition.Definition.{Definition}
use Rattle.ownership_kinds_chains.specs.declared.ownership_chains.facts.Facts.{Facts}
use Rattle.ownership_lowering_model.specs.Names.{renamed_from, stands_for, stands_within, unless_renamed}
use Rattle.ownership_lowering_laws.specs.LoweringLaws.inner.Laws.{NamesEnd}

-- ---- one of several operands

first_known : (known : ValueId → Option Facts) (ops : List ValueId) (w : ValueId) → list_all (is_known known) ops ≡ true → slice_get ops 0 ≡ Some w
    → (f : Facts) × (known w ≡ Some f)
first_known known [] w h e = absurd (cc)
first_known known (x ∷ ops) w h e = at (known x) refl
  where
    same : x ≡ w
    same = cc

    at : (o : Option Facts) → known x ≡ o → (f : Facts) × (known w ≡ Some f)
    at None is = absurd (false≢true (sym (ap is_some is) ∙ (and_parts (is_known known x) (list_all (is_known known) ops) h).0))
    at (Some f) is = (f, ap known (sym same) ∙ is)

first_within : (P : ValueId → Type 0) (ops : List ValueId) (w : ValueId) → All P ops → slice_get ops 0 ≡ Some w → P w
first_within P [] w h e = absurd (cc)
first_within P (x ∷ ops) w h e = let same : x ≡ w = cc in subst P same (All-head P x ops h)

-- ---- names end

module _ (defs : List Definition) (range : IsInRange defs) (none : HasNoRing defs) where
  all_known : (n : ℕ) (v : ValueId) (f : Facts) → told_in defs (suc n) v ≡ Some f → list_all (is_known (told_in defs n)) (operands_at defs v) ≡ true
  all_known n v f e = at (list_all (is_known (told_in defs n)) (operands_at defs v)) refl
    where
      it : Option Facts
      it = Some (told_by (length defs) v (known_or (told_in defs n)) (operands_at defs v) (origin_at defs v))

      at : (b : Bool) → list_all (is_known (told_in defs n)) (operands_at defs v) ≡ b → list_all (is_known (told_in defs n)) (operands_at defs v) ≡ true
      at true is = is
      at false is = absurd (none-some f (sym (ap (λ b. cond b it None) is) ∙ e))

  own_within : (n : ℕ) (v : ValueId) (f : Facts) → told_in defs n v ≡ Some f → renamed_from defs (stands_within defs n v) ≡ None
  own_within zero v f e = absurd (none-some f e)
  own_within (suc n) v f e =
      at (renamed_from defs v) refl (λ w is. let g = first_known (told_in defs n) (operands_at defs v) w (all_known n v f e) is in own_within n w g.0 g.1)
    where
      at : (o : Option ValueId) → renamed_from defs v ≡ o → ((w : ValueId) → renamed_from defs v ≡ Some w → renamed_from defs (stands_within defs n w) ≡ None)
          → renamed_from defs (stands_within defs (suc n) v) ≡ None
      at None is rest = ap (λ o. renamed_from defs (unless_renamed (stands_within defs n) v o)) is ∙ is
      at (Some w) is rest = ap (λ o. renamed_from defs (unless_renamed (stands_within defs n) v o)) is ∙ rest w is

  inside_within : (n : ℕ) (v : ValueId) → v.0 < length defs → (stands_within defs n v).0 < length defs
  inside_within zero v lt = lt
  inside_within (suc n) v lt = at (renamed_from defs v) refl (λ w less. inside_within n w less)
    where
      at : (o : Option ValueId) → renamed_from defs v ≡ o → ((w : ValueId) → w.0 < length defs → (stands_within defs n w).0 < length defs)
          → (stands_within defs (suc n) v).0 < length defs
      at None is rest = subst (λ o. (unless_renamed (stands_within defs n) v o).0 < length defs) (sym is) lt
      at (Some w) is rest =
          subst (λ o. (unless_renamed (stands_within defs n) v o).0 < length defs) (sym is)
          (rest w (first_within (λ x. x.0 < length defs) (operands_at defs v) w (range.inside v lt) is))

  pub ends_at : (v : ValueId) → v.0 < length defs → ((stands_for defs v).0 < length defs) × (renamed_from defs (stands_for defs v) ≡ None)
  ends_at v lt = let f = facts_of defs range none v lt in (inside_within (length defs) v lt, own_within (length defs) v f.0 f.1)

-- a value with a name of its own stands for itself
pub stands_itself : (defs : List Definition) (v : ValueId) → renamed_from defs v ≡ None → stands_for defs v ≡ v
stands_itself defs v own = at (length defs)
  where
    at : (n : ℕ) → stands_within defs n v ≡ v
    at zero = refl
    at (suc n) = ap (unless_renamed (stands_within defs n) v) own

pub names_end : NamesEnd
names_end f v ends lt = ends_at _ ends.range ends.none v lt
