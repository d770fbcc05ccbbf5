-- Each access of the next item, and a `return`, finds each part of memory as it needs it.
use Rattle.std.proofs.Common.{◌≡◌, List, [], ◌∷◌, ◌++◌, refl, sym, ap, ◌∙◌, Bool, Some}
use Rattle.std.specs.Prelude.{cond, flat_map, option_and_then, option_to_list}
use Rattle.std.proofs.lemmas.Grind.{flat_map-append}
use Rattle.std.proofs.lemmas.List.{append_assoc}
use Rattle.sil_verifier_values.specs.memory_rules_accesses.Sources.{sources_of}
use Rattle.sil_verifier_values.specs.memory_rules_accesses.declared.access.Access.{Access}
use Rattle.sil_verifier_values.specs.memory_rules_parts.Parts.{at_return}
use Rattle.sil_verifier_values.specs.memory_rules_parts.Shown.{marks_of_access, part_marks}
use Rattle.sil_verifier_values.specs.memory_rules_parts.declared.part.Part.{Part}
use Rattle.sil_verifier_values.specs.ownership_kinds_origins.Facts.{facts_in}
use Rattle.sil_verifier_values.specs.reach_engine_marks.declared.path_patterns.mark.Mark.{Mark}
use Rattle.sil_ast.specs.declared.function.Function.{Function}
use Rattle.sil_cfg.specs.Returns.{is_return}
use Rattle.sil_cfg.specs.declared.item.Item.{Item}
use Rattle.sil_verifier_values.specs.sil_types_declarations.TypeDefinitions.Declarations.{Declarations}
use Rattle.sil_verifier_trails.specs.RunTrails.inner.RunTrails.{IsRunTrail}
use Rattle.sil_verifier_trails.specs.RunTrails.inner.Switched.{switched, switched_by, switched_over}
use Rattle.sil_verifier_trails.specs.AcceptedTrails.inner.Accepted.{IsAcceptedIn}
use Rattle.sil_verifier_trails.specs.AcceptedMemory.inner.PartTrails.{AreAccessesRight, AreReturnsRight, IsFoundBy, IsPartOf, accesses_in, is_on}
use Rattle.sil_verifier_trails.proofs.AcceptedMemory.PartsFollowed.{parts_followed}
use Rattle.sil_verifier_trails.proofs.AcceptedMemory.Switching.{and_then_some, mark_found, over_append}

module _ (d : Declarations) (f : Function) (accepted : IsAcceptedIn d f) (p : Part) (there : IsPartOf d f p) (t : List Item) (i : Item) (h : IsRunTrail f (i ∷ t)) where
  abbrev marks : Item → List Mark
  marks = part_marks (sources_of d f) (facts_in d f) f p

  -- the marks of an item, some of them, then one, and then others
  found_in : (front rest : List Mark) (mark : Mark) → marks i ≡ front ++ mark ∷ rest
      → (on then : Bool) × (is_on d f p t ≡ Some on) × (switched_over front on ≡ Some then) × (switched_by mark then ≡ switched_by mark then)
      × (behind : Bool) × (switched_by mark then ≡ Some behind)
  found_in front rest mark parts =
      let whole = parts_followed d f accepted p there (i ∷ t) h in
      let was = and_then_some (switched_over (marks i)) (switched marks t) whole.0 whole.1 in
      let over : option_and_then (switched_over (mark ∷ rest)) (switched_over front was.0) ≡ Some whole.0 =
      sym (over_append front (mark ∷ rest) was.0) ∙ ap (λ ms. switched_over ms was.0) (sym parts) ∙ was.2 in
      let first = and_then_some (switched_over (mark ∷ rest)) (switched_over front was.0) whole.0 over in
      let next = and_then_some (switched_over rest) (switched_by mark first.0) whole.0 first.2 in
      (was.0, first.0, was.1, first.1, refl, next.0, next.1)

  found_by : (accesses : List Access) (front rest : List Mark) (mark : Mark) → marks i ≡ front ++ mark ∷ rest
      → front ≡ flat_map (marks_of_access (sources_of d f) (facts_in d f) f p) accesses → IsFoundBy d f p t accesses mark
  found_by accesses front rest mark parts is =
      let it = found_in front rest mark parts in
      record {
        on = it.0;
        was = it.2;
        then = it.1;
        left = ap (λ ms. switched_over ms it.0) (sym is) ∙ it.3;
        found = mark_found mark it.1 it.5 it.6;
      }

pub accesses_right : AreAccessesRight
accesses_right d f accepted p there t i h front rest a mark parts means =
    let each : Access → List Mark = marks_of_access (sources_of d f) (facts_in d f) f p in
    let last : List Mark = cond (is_return f i) (option_to_list (at_return p)) [] in
    let one : each a ≡ mark ∷ [] = ap option_to_list means in
    found_by d f accepted p there t i h front (flat_map each front) (flat_map each rest ++ last) mark
    (ap (λ xs. flat_map each xs ++ last) parts
    ∙ ap (λ ms. ms ++ last) (flat_map-append each front (a ∷ rest) ∙ ap (λ ms. flat_map each front ++ (ms ++ flat_map each rest)) one)
    ∙ append_assoc (flat_map each front) (mark ∷ flat_map each rest) last) refl

pub returns_right : AreReturnsRight
returns_right d f accepted p there t i h mark returns needs =
    let each : Access → List Mark = marks_of_access (sources_of d f) (facts_in d f) f p in
    found_by d f accepted p there t i h (accesses_in d f i) (flat_map each (accesses_in d f i)) [] mark
    (ap (λ ms. flat_map each (accesses_in d f i) ++ ms)
    (ap (λ b. cond b (option_to_list (at_return p)) []) returns ∙ ap option_to_list needs)) refl
