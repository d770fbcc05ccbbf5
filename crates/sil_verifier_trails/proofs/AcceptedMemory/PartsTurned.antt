-- Parts of memory that the same accesses turn in the same way are on together.
use Rattle.std.proofs.Common.{◌≡◌, List, [], ◌∷◌, ◌++◌, refl, sym, ap, ◌∙◌, Bool, true, false, Option, Some, None}
use Rattle.std.specs.Prelude.{cond, flat_map, option_and_then, option_to_list, unwrap_or}
use Rattle.sil_verifier_values.specs.memory_rules_accesses.Sources.{sources_of}
use Rattle.sil_verifier_values.specs.memory_rules_accesses.declared.access.Access.{Access}
use Rattle.sil_verifier_values.specs.memory_rules_parts.Parts.{at_return}
use Rattle.sil_verifier_values.specs.memory_rules_parts.Shown.{marks_of_access, part_marks}
use Rattle.sil_verifier_values.specs.memory_rules_parts.declared.part.Part.{Part}
use Rattle.sil_verifier_values.specs.ownership_kinds_origins.Facts.{facts_in}
use Rattle.sil_verifier_values.specs.reach_engine_marks.declared.path_patterns.mark.Mark.{Mark}
use Rattle.sil_ast.specs.declared.function.Function.{Function}
use Rattle.sil_cfg.specs.Returns.{is_return}
use Rattle.sil_cfg.specs.declared.item.Item.{Item}
use Rattle.sil_verifier_values.specs.sil_types_declarations.TypeDefinitions.Declarations.{Declarations}
use Rattle.sil_verifier_trails.specs.RunTrails.inner.RunTrails.{IsRunTrail}
use Rattle.sil_verifier_trails.specs.RunTrails.inner.Switched.{IsFollowed, switched, switched_over}
use Rattle.sil_verifier_trails.specs.AcceptedMemory.inner.PartTrails.{accesses_in, meant}
use Rattle.sil_verifier_trails.proofs.AcceptedMemory.Switching.{and_then_some, left_as_turned, turned_over}
use Rattle.sil_verifier_trails.proofs.AcceptedMemory.Turning.{each_append, each_flat, over_as_each, turned_each}

-- followed switches that items turn alike are on together
pub on_together : (f : Function) (one other : Item → List Mark)
    → ((t : List Item) → IsRunTrail f t → IsFollowed one t) → ((t : List Item) → IsRunTrail f t → IsFollowed other t)
    → ((i : Item) (on : Bool) → turned_over (one i) on ≡ turned_over (other i) on)
    → (t : List Item) → IsRunTrail f t → switched one t ≡ switched other t
on_together f one other follows also same [] h = refl
on_together f one other follows also same (i ∷ t) h =
    let a = follows (i ∷ t) h in
    let b = also (i ∷ t) h in
    let was = and_then_some (switched_over (one i)) (switched one t) a.0 a.1 in
    let too = and_then_some (switched_over (other i)) (switched other t) b.0 b.1 in
    let before : was.0 ≡ too.0 = some_same (sym was.1 ∙ on_together f one other follows also same t h.1 ∙ too.1) in
    let behind : a.0 ≡ b.0 =
    left_as_turned (one i) was.0 a.0 was.2 ∙ same i was.0 ∙ ap (turned_over (other i)) before ∙ sym (left_as_turned (other i) too.0 b.0 too.2) in
    a.1 ∙ ap Some behind ∙ sym b.1
  where
    some_same : {x y : Bool} → Some x ≡ Some y → x ≡ y
    some_same e = cc

-- the turn that an access gives a part
abbrev pub turn_by : Declarations → Function → Part → Access → Option Bool
turn_by d f p a = option_and_then (λ m. m.turns) (meant d f p a)

-- a `return` turns no part
abbrev pub IsUnturned : Part → Type 0
IsUnturned p = option_and_then (λ (m : Mark). m.turns) (at_return p) ≡ None

listed_turn : (o : Option Mark) (on : Bool) → turned_each (λ m. m.turns) (option_to_list o) on ≡ unwrap_or (option_and_then (λ m. m.turns) o) on
listed_turn None on = refl
listed_turn (Some m) on = refl

module _ (d : Declarations) (f : Function) (p : Part) (unturned : IsUnturned p) where
  last_quiet : (b : Bool) (on : Bool) → turned_each (λ m. m.turns) (cond b (option_to_list (at_return p)) []) on ≡ on
  last_quiet true on = listed_turn (at_return p) on ∙ ap (λ o. unwrap_or o on) unturned
  last_quiet false on = refl

  -- an item turns a part by its accesses
  pub turned_by_accesses : (i : Item) (on : Bool) → turned_over (part_marks (sources_of d f) (facts_in d f) f p i) on ≡ turned_each (turn_by d f p) (accesses_in d f i) on
  turned_by_accesses i on =
      let each : Access → List Mark = marks_of_access (sources_of d f) (facts_in d f) f p in
      let last : List Mark = cond (is_return f i) (option_to_list (at_return p)) [] in
      over_as_each (flat_map each (accesses_in d f i) ++ last) on
      ∙ each_append (λ m. m.turns) (flat_map each (accesses_in d f i)) last on
      ∙ last_quiet (is_return f i) (turned_each (λ m. m.turns) (flat_map each (accesses_in d f i)) on)
      ∙ each_flat (λ m. m.turns) (turn_by d f p) each (λ a on. listed_turn (meant d f p a) on) (accesses_in d f i) on
