-- An address lies in a scope, and memory is lent, just while the scope is open: the same marks turn all of them.
use Rattle.std.proofs.Common.{◌≡◌, List, refl, sym, ◌∙◌, Bool, true, false, Some, None}
use Rattle.std.specs.Prelude.{cond, length, option_and_then}
use Rattle.sil_verifier_values.specs.memory_rules_accesses.Sources.{sources_of}
use Rattle.sil_verifier_values.specs.memory_rules_accesses.declared.access.Access.TheVariants.{Deallocates, Does}
use Rattle.sil_verifier_values.specs.memory_rules_parts.Loans.{disturbs}
use Rattle.sil_verifier_values.specs.memory_rules_parts.Shown.{part_marks}
use Rattle.sil_verifier_values.specs.memory_rules_parts.Switches.{is_same, when}
use Rattle.sil_verifier_values.specs.memory_rules_parts.declared.part.Part.{Part}
use Rattle.sil_verifier_values.specs.memory_rules_parts.declared.part.Part.TheVariants.{InScope, Lent}
use Rattle.numbered_form.specs.Numbering.{values_of}
use Rattle.sil_verifier_values.specs.ownership_kinds_origins.Facts.{facts_in}
use Rattle.sil_verifier_values.specs.reach_engine_marks.PathChecks.Entries.{marks_for}
use Rattle.sil_verifier_values.specs.reach_engine_marks.declared.path_patterns.mark.Mark.{Mark}
use Rattle.sil_ast.specs.declared.function.Function.{Function}
use Rattle.sil_ast.specs.declared.place.ValueId.{ValueId}
use Rattle.sil_cfg.specs.declared.item.Item.{Item}
use Rattle.sil_verifier_values.specs.sil_verifier_accepted.AcceptedModules.Shown.{scopes_in}
use Rattle.sil_verifier_values.specs.sil_types_declarations.TypeDefinitions.Declarations.{Declarations}
use Rattle.sil_verifier_trails.specs.RunTrails.inner.RunTrails.{IsRunTrail}
use Rattle.sil_verifier_trails.specs.AcceptedTrails.inner.Accepted.{IsAcceptedIn}
use Rattle.sil_verifier_trails.specs.AcceptedTrails.inner.Lives.{IsScopeIn, is_open}
use Rattle.sil_verifier_trails.proofs.AcceptedTrails.Unbroken.{scopes_unbroken}
use Rattle.sil_verifier_trails.proofs.RunTrails.SwitchedTrails.{are_followed}
use Rattle.sil_verifier_trails.specs.AcceptedMemory.inner.Companions.{AreInScopes, AreLentInScopes}
use Rattle.sil_verifier_trails.specs.AcceptedMemory.inner.PartTrails.{IsPartOf, is_on}
use Rattle.sil_verifier_trails.proofs.AcceptedMemory.InSlots.{when_quiet}
use Rattle.sil_verifier_trails.proofs.AcceptedMemory.PartsFollowed.{parts_followed}
use Rattle.sil_verifier_trails.proofs.AcceptedMemory.PartsTurned.{IsUnturned, on_together, turn_by, turned_by_accesses}
use Rattle.sil_verifier_trails.proofs.AcceptedMemory.ScopesTurned as scopes
use Rattle.sil_verifier_trails.proofs.AcceptedMemory.ScopesTurned.{GoesByScope}

-- a mark that turns the switch where it comes
when_turns : (b : Bool) (m : Mark) (on : Bool) → m.turns ≡ Some on → option_and_then (λ m. m.turns) (when b m) ≡ cond b (Some on) None
when_turns true m on e = e
when_turns false m on e = refl

address_goes : (d : Declarations) (f : Function) (address scope : ValueId) → GoesByScope scope (turn_by d f (InScope address scope))
address_goes d f address scope = record {
  ends = λ v. when_turns (is_same v scope) _ false refl;
  begins = λ v. when_turns (is_same v scope) _ true refl;
  allocates = λ v. refl;
  deallocates = λ v. refl;
  given = λ v c. refl;
  does = λ x. refl;
  mentions = λ v a. when_quiet (is_same v address) _ refl;
}

loan_goes : (d : Declarations) (f : Function) (scope address : ValueId) → GoesByScope scope (turn_by d f (Lent scope address))
loan_goes d f scope address = record {
  ends = λ v. when_turns (is_same v scope) _ false refl;
  begins = λ v. when_turns (is_same v scope) _ true refl;
  allocates = λ v. refl;
  deallocates = λ v. when_quiet (disturbs (sources_of d f) address (Deallocates v)) _ refl;
  given = λ v c. refl;
  does = λ x. when_quiet (disturbs (sources_of d f) address (Does x)) _ refl;
  mentions = λ v a. refl;
}

-- a part that goes by a scope is on while the scope is open
on_by_scope : (d : Declarations) (f : Function) → IsAcceptedIn d f → (p : Part) → IsPartOf d f p → IsUnturned p → (s : ValueId) → IsScopeIn d f s
    → GoesByScope s (turn_by d f p) → (t : List Item) → IsRunTrail f t → is_on d f p t ≡ is_open d f s t
on_by_scope d f accepted p there unturned s scope by t h =
    on_together f (part_marks (sources_of d f) (facts_in d f) f p) (marks_for s.0 (scopes_in d f))
    (parts_followed d f accepted p there)
    (are_followed f accepted.once (marks_for s.0 (scopes_in d f)) (scopes_unbroken d f accepted.clean s))
    (λ i on. turned_by_accesses d f p unturned i on
    ∙ scopes.turned_by_accesses s (turn_by d f p) by (sources_of d f) (facts_in d f) f i on
    ∙ sym (scopes.turned_by_table s f (facts_in d f) (length (values_of f.blocks)) scope.scope i on)) t h

pub in_scopes : AreInScopes
in_scopes d f accepted address scope there is t h = on_by_scope d f accepted (InScope address scope) there refl scope is (address_goes d f address scope) t h

pub lent_in_scopes : AreLentInScopes
lent_in_scopes d f accepted scope address there is t h = on_by_scope d f accepted (Lent scope address) there refl scope is (loan_goes d f scope address) t h
