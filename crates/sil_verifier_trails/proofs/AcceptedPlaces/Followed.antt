-- How the items of a trail, and the accesses of the next one, leave a part of memory: as they turn it.
use Rattle.std.proofs.Common.{◌≡◌, List, ◌∷◌, ◌++◌, refl, sym, ap, ◌∙◌, subst, Bool, true, Option, Some, None}
use Rattle.std.specs.Prelude.{flat_map, option_and_then, option_to_list, unwrap_or}
use Rattle.std.proofs.lemmas.Option.{same_Some}
use Rattle.sil_verifier_values.specs.memory_rules_accesses.Sources.{sources_of}
use Rattle.sil_verifier_values.specs.memory_rules_accesses.declared.access.Access.{Access}
use Rattle.sil_verifier_values.specs.memory_rules_parts.Shown.{marks_of_access, part_marks}
use Rattle.sil_verifier_values.specs.memory_rules_parts.declared.part.Part.{Part}
use Rattle.sil_verifier_values.specs.ownership_kinds_origins.Facts.{facts_in}
use Rattle.sil_verifier_trails.specs.AcceptedTrails.inner.Accepted.{IsAcceptedIn}
use Rattle.sil_verifier_trails.specs.RunTrails.inner.RunTrails.{IsRunTrail}
use Rattle.sil_verifier_trails.specs.RunTrails.inner.Switched.{finds, switched, switched_over}
use Rattle.sil_verifier_trails.specs.AcceptedMemory.inner.PartTrails.{IsPartOf, accesses_in, is_on, meant, on_behind}
use Rattle.sil_verifier_trails.proofs.AcceptedMemory.AccessesRight.{accesses_right}
use Rattle.sil_verifier_trails.proofs.AcceptedMemory.PartsFollowed.{parts_followed}
use Rattle.sil_verifier_trails.proofs.AcceptedMemory.PartsTurned.{IsUnturned, turn_by, turned_by_accesses}
use Rattle.sil_verifier_trails.proofs.AcceptedMemory.Switching.{and_then_some, left_as_turned}
use Rattle.sil_verifier_trails.proofs.AcceptedMemory.Turning.{each_flat, over_as_each, turned_each}
use Rattle.sil_verifier_values.specs.reach_engine_marks.declared.path_patterns.mark.Mark.{Mark}
use Rattle.sil_ast.specs.declared.function.Function.{Function}
use Rattle.sil_cfg.specs.declared.item.Item.{Item}
use Rattle.sil_verifier_values.specs.sil_types_declarations.TypeDefinitions.Declarations.{Declarations}

listed_turn : (o : Option Mark) (on : Bool) → turned_each (λ m. m.turns) (option_to_list o) on ≡ unwrap_or (option_and_then (λ m. m.turns) o) on
listed_turn None on = refl
listed_turn (Some m) on = refl

module _ (d : Declarations) (f : Function) (accepted : IsAcceptedIn d f) (p : Part) (there : IsPartOf d f p) where
  -- an item leaves it as its accesses turn it
  pub item_leaves : IsUnturned p → (t : List Item) (i : Item) → IsRunTrail f (i ∷ t) → (on : Bool) → is_on d f p t ≡ Some on
      → is_on d f p (i ∷ t) ≡ Some (turned_each (turn_by d f p) (accesses_in d f i) on)
  item_leaves unturned t i h on was =
      let marks : Item → List Mark = part_marks (sources_of d f) (facts_in d f) f p in
      let whole = parts_followed d f accepted p there (i ∷ t) h in
      let before = and_then_some (switched_over (marks i)) (switched marks t) whole.0 whole.1 in
      let same : before.0 ≡ on = same_Some before.0 on (sym before.1 ∙ was) in
      whole.1 ∙ ap Some (left_as_turned (marks i) before.0 whole.0 before.2 ∙ turned_by_accesses d f p unturned i before.0
      ∙ ap (turned_each (turn_by d f p) (accesses_in d f i)) same)

  -- accesses leave it as they turn it
  pub accesses_leave : (accesses : List Access) (on then : Bool) → on_behind d f p accesses on ≡ Some then
      → then ≡ turned_each (turn_by d f p) accesses on
  accesses_leave accesses on then left =
      let each : Access → List Mark = marks_of_access (sources_of d f) (facts_in d f) f p in
      left_as_turned (flat_map each accesses) on then left ∙ over_as_each (flat_map each accesses) on
      ∙ each_flat (λ m. m.turns) (turn_by d f p) each (λ a on. listed_turn (meant d f p a) on) accesses on

  -- an access finds it as those before it turned it
  pub access_finds : (t : List Item) (i : Item) → IsRunTrail f (i ∷ t) → (front rest : List Access) (a : Access) (mark : Mark)
      → accesses_in d f i ≡ front ++ a ∷ rest → meant d f p a ≡ Some mark → (on : Bool) → is_on d f p t ≡ Some on
      → finds mark.needs (turned_each (turn_by d f p) front on) ≡ true
  access_finds t i h front rest a mark parts means on was =
      let r = accesses_right d f accepted p there t i h front rest a mark parts means in
      let same : r.on ≡ on = same_Some r.on on (sym r.was ∙ was) in
      subst (λ b. finds mark.needs b ≡ true) (accesses_leave front r.on r.then r.left ∙ ap (turned_each (turn_by d f p) front) same) r.found
