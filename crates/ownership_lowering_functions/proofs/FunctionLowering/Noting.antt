-- One note more.
use Rattle.std.proofs.Common.{◌≡◌, ◌≢◌, ◌<◌, List, length, get_or, set, refl, sym, ap, ◌∙◌, subst, inl, inr, ◌⊎◌, Option, Some, None}
use Rattle.std.specs.Prelude.{IsSome}
use Rattle.std.proofs.lemmas.Bool.{cases_eq}
use Rattle.std.proofs.lemmas.List.{get_or-set_other, get_or-set_same}
use Rattle.std.proofs.lemmas.Option.{same_Some}
use Rattle.sil_ast.specs.declared.place.ValueId.{ValueId}
use Rattle.ownership_kinds_chains.specs.declared.ownership_chains.definition.Definition.{Definition}
use Rattle.ownership_lowering_model.specs.Names.{stands_for}
use Rattle.ownership_lowering_functions.specs.FunctionLowering.inner.Standing.{AreRight, IsNoted, noted_at}

module _ (noted : List (Option ValueId)) (at end : ValueId) (room : at.0 < length noted) where
  abbrev pub with_note : List (Option ValueId)
  with_note = set noted at.0 (Some end)

  here : (v : ValueId) → v.0 ≡ at.0 → noted_at with_note v ≡ Some end
  here v same = ap (λ n. get_or with_note n None) same ∙ get_or-set_same noted at.0 (Some end) None room

  elsewhere : (v : ValueId) → v.0 ≢ at.0 → noted_at with_note v ≡ noted_at noted v
  elsewhere v other = get_or-set_other noted at.0 v.0 (Some end) None other

  pub noted_here : IsNoted with_note at
  noted_here = subst IsSome (sym (here at refl)) refl

  pub still_noted : (v : ValueId) → IsNoted noted v → IsNoted with_note v
  still_noted v h = by (cases_eq v.0 at.0)
    where
      by : (v.0 ≡ at.0) ⊎ (v.0 ≢ at.0) → IsNoted with_note v
      by (inl same) = subst IsSome (sym (here v same)) refl
      by (inr other) = subst IsSome (sym (elsewhere v other)) h

  pub right_after : (renamings : List Definition) → stands_for renamings at ≡ end → AreRight renamings noted → AreRight renamings with_note
  right_after renamings is right v e h = by (cases_eq v.0 at.0)
    where
      by : (v.0 ≡ at.0) ⊎ (v.0 ≢ at.0) → e ≡ stands_for renamings v
      by (inl same) =
          sym (same_Some end e (sym (here v same) ∙ h)) ∙ sym is ∙ ap (λ n. stands_for renamings (let x : ValueId = record { 0 = n } in x)) (sym same)
      by (inr other) = right v e (sym (elsewhere v other) ∙ h)
