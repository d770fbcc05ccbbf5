-- To which group a shown rule belongs, and the order of what is shown: by group, and within one by its own key.
use Rattle.std.proofs.Common.{◌≡◌, ◌<◌, ◌∷◌, length, sym, ap, ◌∙◌, subst, arith, inl, inr}
use Rattle.numbered_form.specs.Numbering.{values_of}
use Rattle.sil_ast.specs.declared.function.Function.{Function}
use Rattle.sil_cfg.specs.declared.item.Item.{Item}
use Rattle.sil_rules.specs.Order.{NotAfter, stage_of}
use Rattle.sil_rules.specs.Rules.{group_number, group_of, number_of}
use Rattle.sil_rules.specs.declared.group.Group.{Group}
use Rattle.sil_rules.specs.declared.group.Group.TheVariants as group
use Rattle.sil_rules.specs.declared.rule_faults.fault.RuleFault.{RuleFault}
use Rattle.ownership_kinds.specs.sil_types_declarations.TypeDefinitions.Declarations.{Declarations}
use Rattle.value_availability.specs.reach_engine_marks.PathChecks.First as paths
use Rattle.value_availability.proofs.RulesOf.{on_definitions}
use Rattle.value_availability.specs.Accesses.{accesses_of}
use Rattle.lifetime_worklist.proofs.RulesOf.{on_lifetimes}
use Rattle.borrow_scopes.proofs.RulesOf.{on_scopes}
use Rattle.ownership_kinds.proofs.RulesOf.{on_kinds}
use Rattle.ownership_kinds.specs.ownership_kinds_origins.Facts.{facts_in}
use Rattle.ownership_kinds.specs.Statics as kinds
use Rattle.memory_rules.specs.memory_rules_accesses.Sources.{sources_of}
use Rattle.memory_rules.proofs.RulesOf.{on_memory}
use Rattle.memory_rules.specs.Broken as breaks
use Rattle.sil_verifier_accepted.specs.AcceptedModules.Shown.{IsShownIn, inner_key, last_key, lives_in, scopes_in}
use Rattle.sil_verifier_accepted.specs.AcceptedModules.Shown.IsShownIn.{undefined, kind, life, scope, memory}

-- the rule of what is shown is of this group
abbrev pub IsOf : Group → RuleFault → Type 0
IsOf g s = group_of s.rule ≡ g

module _ (d : Declarations) (f : Function) (s : RuleFault) where
  pub of_definitions : paths.IsShown f (accesses_of f) s.subject.0 s.rule s.walk s.point → IsOf group.Definitions s
  of_definitions there = on_definitions f s.subject.0 s.rule s.walk s.point there

  pub of_kinds : kinds.IsBroken d f s.rule s.subject s.point.block.0 s.point.index → IsOf group.Kinds s
  of_kinds broken = on_kinds d f s.rule s.subject s.point.block.0 s.point.index broken

  pub of_lifetimes : paths.IsShown f (lives_in d f) s.subject.0 s.rule s.walk s.point → IsOf group.Lifetimes s
  of_lifetimes there = on_lifetimes (length (values_of f.blocks)) (facts_in d f) f s.subject.0 s.rule s.walk s.point there

  pub of_scopes : (item : Item) → paths.IsShownAt f (scopes_in d f) s.subject.0 s.rule s.walk s.point item → IsOf group.Scopes s
  of_scopes item there =
      on_scopes (length (values_of f.blocks)) (facts_in d f) f s.subject.0 s.rule s.walk s.point (record { item = item; at = there })

  pub of_memory : breaks.IsBroken (sources_of d f) (facts_in d f) f s → IsOf group.Memory s
  of_memory broken = on_memory (sources_of d f) (facts_in d f) f s broken

  -- a shown rule is one that is looked for function by function
  pub stage_told : IsShownIn d f s → stage_of (group_of s.rule) ≡ 6
  stage_told (undefined o there) = ap stage_of (of_definitions there)
  stage_told (kind o e b) = ap stage_of (of_kinds b)
  stage_told (life o there) = ap stage_of (of_lifetimes there)
  stage_told (scope item o there) = ap stage_of (of_scopes item there)
  stage_told (memory b) = ap stage_of (of_memory b)

module _ (s t : RuleFault) where
  -- what is of a later group comes behind
  pub by_group : (g h : Group) → IsOf g s → IsOf h t → group_number g < group_number h → NotAfter (inner_key s) (inner_key t)
  by_group g h one other less =
      let here : group_number (group_of s.rule) ≡ group_number g = ap group_number one in
      let there : group_number (group_of t.rule) ≡ group_number h = ap group_number other in
      inl (omega (arith, here, there, less))

  -- within a group the order is that of value, rule and what the group adds
  pub within_group : (g : Group) → IsOf g s → IsOf g t →
      NotAfter (s.subject.0 ∷ number_of s.rule ∷ last_key g s) (t.subject.0 ∷ number_of t.rule ∷ last_key g t) → NotAfter (inner_key s) (inner_key t)
  within_group g one other order =
      inr (
        ap group_number one ∙ sym (ap group_number other),
        subst (λ x. NotAfter (s.subject.0 ∷ number_of s.rule ∷ last_key x s) (t.subject.0 ∷ number_of t.rule ∷ last_key (group_of t.rule) t)) (sym one)
            (subst (λ x. NotAfter (s.subject.0 ∷ number_of s.rule ∷ last_key g s) (t.subject.0 ∷ number_of t.rule ∷ last_key x t)) (sym other) order),
      )
