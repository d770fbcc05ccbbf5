-- Spare values of lowered code have numbers of their own.
use Rattle.std.proofs.Common.{◌≡◌, ℕ, zero, suc, ◌<◌, ◌≤◌, List, [], ◌∷◌, ◌++◌, length, map, refl, sym, ap, ◌∙◌, arith, ◌⊎◌, inl, inr, Bool, true, false, ◌||◌, Some}
use Rattle.std.specs.Prelude.{◌==◌, slice_get}
use Rattle.std.specs.List.{flat_map, list_any}
use Rattle.std.proofs.lemmas.Bool.{cases_Bool, eqb-true}
use Rattle.std.proofs.lemmas.List.{length-map}
use Rattle.std.proofs.lemmas.Option.{none-some, same_Some, slice_get_within}
use Rattle.numbered_form.specs.Insts.{insts_of}
use Rattle.numbered_form.specs.Numbering.{defined_in, is_value, results_of, value_of, values_of}
use Rattle.sil_ast.specs.declared.function.Block.{Block}
use Rattle.sil_ast.specs.declared.function.Function.{Function}
use Rattle.sil_ast.specs.declared.inst.Inst.{Inst}
use Rattle.sil_ast.specs.declared.place.ValueId.{ValueId}
use Rattle.sil_types_declarations.specs.TypeDefinitions.Declarations.{Declarations}
use Rattle.ownership_lowering_laws.specs.LoweringLaws.inner.Laws.{defined_by}
use Rattle.ownership_lowering_laws.specs.LoweringLaws.inner.Lowerable.{IsLowerable}
use Rattle.sil_verifier_runs.specs.ownership_kinds_origins.Renamings.{renamings_of}
use Rattle.ownership_lowering_laws.specs.ownership_lowering_model.LoweredBlocks.{lowered_blocks}
use Rattle.ownership_lowering_laws.specs.ownership_lowering_model.Names.{stands_for}
use Rattle.ownership_lowering_laws.specs.ownership_lowering_model.Numbers.{new_number, numbering_of}
use Rattle.ownership_lowering_laws.proofs.LoweringLaws.Ends.{names_end}
use Rattle.ownership_lowering_laws.proofs.LoweringLaws.Placed.{defined_are_placed, old_are_placed}
use Rattle.ownership_lowering_laws.proofs.LoweringLaws.Renumbered.{renumbered_values}
use Rattle.sil_verifier_runs.proofs.ownership_kinds_origins.Counts.{are_of_values}
use Rattle.ownership_lowering_runs.specs.StoredRuns.inner.Names.{IsOld, IsSpare, lowered_count, lowered_number}
use Rattle.ownership_lowering_runs.specs.StoredRuns.inner.Spares.{AreAcceptedSparesApart, AreSparesApart}
use Rattle.ownership_lowering_runs.proofs.StoredRuns.Lowered.LoweredSo.{lowerable}

-- ---- what an instruction among lowered blocks defines is defined

some_there : (vs : List ValueId) (v : ValueId) → list_any (is_value v) vs ≡ true → (k : ℕ) × (slice_get vs k ≡ Some v)
some_there [] v e = absurd (cc)
some_there (w ∷ vs) v e = at (is_value v w) refl e (some_there vs v)
  where
    at : (b : Bool) → is_value v w ≡ b → (b || list_any (is_value v) vs) ≡ true → (list_any (is_value v) vs ≡ true → (k : ℕ) × (slice_get vs k ≡ Some v))
        → (k : ℕ) × (slice_get (w ∷ vs) k ≡ Some v)
    at true is h more = (zero, ap (λ n. Some (record { 0 = n })) (sym (eqb-true v.0 w.0 is)))
    at false other h more = let rest = more h in (suc rest.0, rest.1)

module _ {A : Type 0} (p : A → Bool) where
  any_left : (xs ys : List A) → list_any p xs ≡ true → list_any p (xs ++ ys) ≡ true
  any_left [] ys e = absurd (cc)
  any_left (x ∷ xs) ys e = at (p x) (any_left xs ys) e
    where
      at : (b : Bool) → (list_any p xs ≡ true → list_any p (xs ++ ys) ≡ true) → (b || list_any p xs) ≡ true → (b || list_any p (xs ++ ys)) ≡ true
      at true more h = refl
      at false more h = more h

  any_right : (xs ys : List A) → list_any p ys ≡ true → list_any p (xs ++ ys) ≡ true
  any_right [] ys e = e
  any_right (x ∷ xs) ys e = at (p x) (any_right xs ys e)
    where
      at : (b : Bool) → list_any p (xs ++ ys) ≡ true → (b || list_any p (xs ++ ys)) ≡ true
      at true h = refl
      at false h = h

  any_in_flat : {B : Type 0} (g : B → List A) (xs : List B) (k : ℕ) (x : B) → slice_get xs k ≡ Some x → list_any p (g x) ≡ true → list_any p (flat_map g xs) ≡ true
  any_in_flat g [] k x e h = absurd (none-some x e)
  any_in_flat g (y ∷ xs) zero x e h = any_left (g y) (flat_map g xs) (ap (λ z. list_any p (g z)) (same_Some y x e) ∙ h)
  any_in_flat g (y ∷ xs) (suc k) x e h = any_right (g y) (flat_map g xs) (any_in_flat g xs k x e h)

front_there : {A : Type 0} (xs ys : List A) (k : ℕ) (x : A) → slice_get xs k ≡ Some x → slice_get (xs ++ ys) k ≡ Some x
front_there [] ys k x e = absurd (none-some x e)
front_there (y ∷ xs) ys zero x e = e
front_there (y ∷ xs) ys (suc k) x e = front_there xs ys k x e

pub defined_there : (d : Declarations) (f : Function) (k n : ℕ) (b : Block) (j : Inst) (v : ValueId) → slice_get (lowered_blocks d f) k ≡ Some b → slice_get b.insts n ≡ Some j
    → list_any (is_value v) j.results ≡ true → list_any (is_value v) (defined_by d f) ≡ true
defined_there d f k n b j v there here defines =
    any_in_flat (is_value v) defined_in (lowered_blocks d f) k b there
    (any_right (is_value v) (map value_of b.args) (flat_map results_of (insts_of b))
    (any_in_flat (is_value v) results_of (insts_of b) n j (front_there b.insts (b.terminator ∷ []) n j here) defines))

-- ---- numbers

module _ (functions : ℕ) (d : Declarations) (f : Function) (l : IsLowerable functions d f) where
  pub spares_apart : AreSparesApart d f
  spares_apart = record { few = few; apart = apart }
    where
      few : (v : ValueId) → IsSpare f v → list_any (is_value v) (defined_by d f) ≡ true → (lowered_number d f v).0 < lowered_count d f
      few v spare defined =
          let at = some_there (defined_by d f) v defined in
          let inside = slice_get_within (defined_by d f) at.0 v at.1 in
          let number : (lowered_number d f v).0 ≡ at.0 = ap (λ (u : ValueId). u.0) (defined_are_placed functions d f at.0 v l at.1).1 in
          let size : lowered_count d f ≡ length (defined_by d f) =
          ap length (renumbered_values (new_number (numbering_of d f)) (lowered_blocks d f)) ∙ length-map (defined_by d f) (new_number (numbering_of d f)) in
          omega arith

      apart : (v u : ValueId) → IsSpare f v → list_any (is_value v) (defined_by d f) ≡ true → IsOld f u → ((lowered_number d f u).0 == (lowered_number d f v).0) ≡ false
      apart v u spare defined old = by (cases_Bool ((lowered_number d f u).0 == (lowered_number d f v).0))
        where
          by : (((lowered_number d f u).0 == (lowered_number d f v).0) ≡ true) ⊎ (((lowered_number d f u).0 == (lowered_number d f v).0) ≡ false)
              → ((lowered_number d f u).0 == (lowered_number d f v).0) ≡ false
          by (inr other) = other
          by (inl same) =
              let a = some_there (defined_by d f) v defined in
              let b = old_are_placed functions d f u l old in
              let number : (lowered_number d f v).0 ≡ a.0 = ap (λ (w : ValueId). w.0) (defined_are_placed functions d f a.0 v l a.1).1 in
              let index : b.0 ≡ a.0 = ap (λ (w : ValueId). w.0) (sym b.2) ∙ eqb-true (lowered_number d f u).0 (lowered_number d f v).0 same ∙ number in
              let is : stands_for (renamings_of f) u ≡ v = same_Some (stands_for (renamings_of f) u) v (sym b.1 ∙ ap (slice_get (defined_by d f)) index ∙ a.1) in
              let count : length (renamings_of f) ≡ length (values_of f.blocks) = (are_of_values d f).1 in
              let inside : (stands_for (renamings_of f) u).0 < length (renamings_of f) = (names_end f u l.ends (omega arith)).0 in
              let number_is : (stands_for (renamings_of f) u).0 ≡ v.0 = ap (λ (w : ValueId). w.0) is in
              let far : length (values_of f.blocks) ≤ v.0 = spare in
              absurd (omega arith)

pub accepted_spares_apart : AreAcceptedSparesApart
accepted_spares_apart m g f a = spares_apart (length m.functions) _ f (lowerable m g f a)
